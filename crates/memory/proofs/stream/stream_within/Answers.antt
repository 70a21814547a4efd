use native.Mathlib.Omega.{arith}
use mathlib.Core.Path.{refl}
use Rattle.memory.proofs.Parts.{part_length}
use Rattle.memory.proofs.Texts.{longer-part}
use Rattle.memory.proofs.stream.stream_within.Goals as goal

pub returns-then-m-n : goal.returns-then-m-n
returns-then-m-n c = record { over = rw part_length (omega arith); size = refl; kept = refl }

pub returns : goal.returns
returns c = longer-part _ _ _ _ c.copy_within.ensures (omega arith)
