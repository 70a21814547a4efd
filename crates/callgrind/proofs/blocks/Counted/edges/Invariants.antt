use Prim.Native.Nat.{◌*◌}
use Rattle.rules.specs.Graph.{edges_from}
use Rattle.text.specs.Put.{Fitted}
use Rattle.callgrind.specs.File.{edges_lines, ended}
use Rattle.callgrind.specs.Ended.{figures_in}
use Rattle.callgrind.proofs.blocks.Counted.edges.Given as goal

abbrev pub invariant-loop-b : goal.invariant-loop-b
invariant-loop-b l = Fitted (49 * l.b) (ended (edges_lines (edges_from (figures_in l.self.work.now) l.a 1 l.b))) l.initial.page l.page
