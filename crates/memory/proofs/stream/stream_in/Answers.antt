use native.Mathlib.Omega.{arith}
use Rattle.memory.proofs.Texts.{longer}
use Rattle.memory.proofs.stream.stream_in.Goals as goal

pub returns : goal.returns
returns c = longer _ _ _ c.copy_in.ensures (omega arith)
