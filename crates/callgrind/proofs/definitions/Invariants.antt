use Prim.Native.Nat.{◌*◌}
use mathlib.Core.List.{map}
use lib.ListN.{take}
use Rattle.rules.specs.Graph.{name_of}
use Rattle.text.specs.Names.{functions_of}
use Rattle.text.specs.Put.{Fitted}
use Rattle.callgrind.specs.File.{definitions, ended}
use Rattle.callgrind.proofs.definitions.Given as goal

abbrev pub invariant-loop-f : goal.invariant-loop-f
invariant-loop-f l = Fitted (80 * l.f) (ended (definitions 2 (take l.f (map name_of (functions_of l.names.sheet.now))))) l.initial.page l.page
