use Prim.Native.Nat.{◌≤◌}
use mathlib.Core.Path.{◌≡◌}
use Rattle.rules.specs.Words.{embedded_value}
use Rattle.memory.specs.Layout.{part}
use Rattle.memory.proofs.stream.value_length.Given as goal

abbrev pub decreases-loop-m : goal.decreases-loop-m
decreases-loop-m l = l.m

abbrev pub invariant-loop-m : goal.invariant-loop-m
invariant-loop-m l = (l.m ≤ l.n) × (embedded_value (part l.work l.a l.n) ≡ embedded_value (part l.work l.a l.m))
