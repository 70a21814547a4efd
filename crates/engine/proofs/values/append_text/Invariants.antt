use Prim.Native.Nat.{◌+◌}
use mathlib.Core.Path.{◌≡◌}
use lib.ListN.{length, take}
use Rattle.memory.specs.Layout.{part, Put}
use Rattle.engine.proofs.values.append_text.Given as goal

abbrev pub invariant-loop-i : goal.invariant-loop-i
invariant-loop-i l = (length l.work ≡ length l.initial.work) × Put (l.a + l.n) (take l.i (part l.sheet l.at l.m)) l.initial.work l.work
