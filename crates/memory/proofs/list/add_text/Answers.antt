use native.Mathlib.Omega.{arith}
use Rattle.memory.proofs.Texts.{added}
use Rattle.memory.proofs.list.add_text.Goals as goal

pub returns : goal.returns
returns c = added _ _ _ _ (rw c.times.ensures.0 at c.text_in.ensures) (omega arith)
