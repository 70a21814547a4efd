use Prim.Native.Nat.{◌*◌}
use lib.ListN.{take, drop}
use mathlib.Core.Path.{◌≡◌}
use mathlib.Core.List.{◌++◌}
use Rattle.hexlines.specs.Hex.{encoded}
use Rattle.hexlines.proofs.encode.Given as goal

abbrev pub invariant-loop-n : goal.invariant-loop-n
invariant-loop-n l = l.out ≡ take (2 * l.n) (encoded l.bytes) ++ drop (2 * l.n) l.initial.out
