use native.Mathlib.Omega.{arith}
use Rattle.memory.proofs.Writing.{field_put}
use Rattle.memory.proofs.text.put_field.Goals as goal

pub returns : goal.returns
returns c = field_put _ _ _ _ _ c.copy_within.ensures c.size-n.ensures.0 (omega arith)
