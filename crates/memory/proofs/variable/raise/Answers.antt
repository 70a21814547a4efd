use native.Mathlib.Omega.{arith}
use Rattle.memory.proofs.Variables.{is-raised}
use Rattle.memory.proofs.variable.raise.Goals as goal

pub returns : goal.returns
returns c = is-raised _ _ c.copy_within.ensures (omega arith) (omega arith)
