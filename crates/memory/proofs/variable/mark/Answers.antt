use native.Mathlib.Omega.{arith}
use Rattle.memory.proofs.Variables.{is-marked}
use Rattle.memory.proofs.variable.mark.Goals as goal

pub returns : goal.returns
returns c =
    let e = c.times.ensures.0 in
    rw e (is-marked _ _ _ _ c.requires.level.unit c.requires.level.above c.requires.x_bound (omega arith))
