use lib.ListN.{take, drop}
use mathlib.Core.Path.{◌≡◌}
use mathlib.Core.List.{◌++◌}
use Rattle.hexlines.specs.Hex.{decoded}
use Rattle.hexlines.proofs.decode.Given as goal

abbrev pub invariant-loop-n : goal.invariant-loop-n
invariant-loop-n l = l.out ≡ take l.n (decoded l.hex) ++ drop l.n l.initial.out
