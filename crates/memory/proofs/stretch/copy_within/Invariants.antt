use lib.ListN.{length}
use mathlib.Core.Path.{◌≡◌}
use Rattle.memory.specs.Layout.{part, Put}
use Rattle.memory.proofs.stretch.copy_within.Given as goal

abbrev pub invariant-loop-i : goal.invariant-loop-i
invariant-loop-i l = (length l.work ≡ length l.initial.work) × Put l.to (part l.initial.work l.from l.i) l.initial.work l.work
