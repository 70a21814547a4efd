use native.Mathlib.Omega.{arith}
use Rattle.memory.proofs.Parts.{part_length}
use Rattle.memory.proofs.Texts.{added, counted-text}
use Rattle.memory.proofs.list.add_field.Goals as goal

pub returns : goal.returns
returns c = added _ _ _ _ (counted-text _ _ _ _ (rw c.times.ensures.0 at c.put_text.ensures)) (omega (arith, part_length c.args.work.now c.args.from c.args.n))
