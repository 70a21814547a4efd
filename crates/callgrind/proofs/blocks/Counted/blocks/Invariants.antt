use Prim.Native.Nat.{◌*◌}
use Rattle.rules.specs.Graph.{blocks_from}
use Rattle.text.specs.Put.{Fitted}
use Rattle.callgrind.specs.File.{blocks_lines, ended}
use Rattle.callgrind.specs.Ended.{figures_in}
use Rattle.callgrind.proofs.blocks.Counted.blocks.Given as goal

abbrev pub invariant-loop-f : goal.invariant-loop-f
invariant-loop-f l = Fitted (1598 * l.f) (ended (blocks_lines 1 (blocks_from (figures_in l.self.work.now) l.self.functions 0 l.f))) l.initial.page l.page
