use Prim.Native.Nat.{◌≤◌, ◌+◌, ◌-◌, ◌<◌}
use mathlib.Core.Path.{◌≡◌}
use mathlib.Core.Bool.{false}
use lib.ListN.{length, get_or}
use Rattle.rules.specs.Words.{stretches, is_blank}
use Rattle.memory.specs.Layout.{part}
use Rattle.memory.proofs.list.count_stretches.Given as goal

abbrev pub decreases-loop-start : goal.decreases-loop-start
decreases-loop-start l = l.all - l.start

abbrev pub invariant-loop-start : goal.invariant-loop-start
invariant-loop-start l = (l.start ≤ l.all) × (l.n ≤ l.start) × (l.start < l.all → is_blank (get_or l.s l.start 0) ≡ false)
    × (l.n + length (stretches (part l.s l.start (l.all - l.start))) ≡ length (stretches (part l.s 0 (l.all - 0))))
