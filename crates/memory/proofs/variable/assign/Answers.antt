use native.Mathlib.Omega.{arith}
use Rattle.memory.proofs.Variables.{assigned-by}
use Rattle.memory.proofs.variable.assign.Goals as goal

pub returns : goal.returns
returns c = assigned-by _ _ _ _ _ (rw c.times.ensures.0 at c.put_text.ensures) (omega arith) (omega arith) (omega arith) (omega arith) (omega (arith, c.times.ensures)) (omega (arith, c.times.ensures))
