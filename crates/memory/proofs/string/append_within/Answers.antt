use native.Mathlib.Omega.{arith}
use Rattle.memory.proofs.Texts.{appended_part}
use Rattle.memory.proofs.string.append_within.Goals as goal

pub returns : goal.returns
returns c = appended_part _ _ _ _ _ _ c.copy_within.ensures (omega arith) c.min-k.ensures
