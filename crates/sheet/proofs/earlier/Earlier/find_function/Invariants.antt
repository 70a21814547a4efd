use Prim.Native.Nat.{◌+◌}
use mathlib.Core.Path.{◌≡◌}
use lib.ListN.{drop}
use Rattle.sheet.specs.Format.{place}
use Rattle.sheet.specs.Check.{known, function_names}
use Rattle.sheet.proofs.earlier.Earlier.find_function.Given as goal

abbrev pub invariant-loop-i : goal.invariant-loop-i
invariant-loop-i l = place l.name (function_names (known l.self.sheet.now l.self.records)) ≡ l.i + place l.name (drop l.i (function_names (known l.self.sheet.now l.self.records)))
