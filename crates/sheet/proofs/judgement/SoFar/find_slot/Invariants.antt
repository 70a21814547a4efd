use Prim.Native.Nat.{◌+◌}
use mathlib.Core.Path.{◌≡◌}
use mathlib.Core.List.{map}
use lib.ListN.{drop, take}
use Rattle.sheet.specs.Format.{place}
use Rattle.sheet.specs.Ready.{span}
use Rattle.sheet.proofs.judgement.SoFar.find_slot.Given as goal

abbrev pub invariant-loop-i : goal.invariant-loop-i
invariant-loop-i l =
    place l.name (map (span l.self.sheet.now) (take l.self.counts.slots l.self.slots))
    ≡ l.i + place l.name (drop l.i (map (span l.self.sheet.now) (take l.self.counts.slots l.self.slots)))
