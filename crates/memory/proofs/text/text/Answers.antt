use native.Mathlib.Omega.{arith}
use mathlib.Core.Path.{ap}
use lib.ListN.{length}
use Rattle.memory.proofs.Words.{text_slice}
use Rattle.memory.proofs.Writing.{text-length}
use Rattle.memory.proofs.text.text.Goals as goal

pub returns : goal.returns
returns c =
    let is = text_slice _ _ _ _ c.size.ensures.0 (omega arith) in
    (is, omega (arith, ap length is, text-length c.args.u.bytes c.args.work.now c.args.a c.args.u.fits.0))
