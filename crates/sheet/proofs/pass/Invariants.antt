use Prim.Native.Nat.{◌-◌}
use lib.ListN.{length}
use Rattle.sheet.proofs.Going.{Going}
use Rattle.sheet.proofs.pass.Given as goal

abbrev pub decreases-loop-c : goal.decreases-loop-c
decreases-loop-c l = length l.sheet - l.c.at

abbrev pub invariant-loop-c : goal.invariant-loop-c
invariant-loop-c l = Going l.sheet l.initial.table l.table l.slots l.c l.c.records
