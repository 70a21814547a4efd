use mathlib.Core.Path.{sym, ◌∙◌}
use Rattle.callgrind.specs.Ended.{figures_in}
use Rattle.callgrind.proofs.Pieces.{edge_none, edge-some}
use Rattle.callgrind.proofs.blocks.Counted.edge.Goals as goal

pub returns-then-calls-eq0 : goal.returns-then-calls-eq0
returns-then-calls-eq0 c = edge_none (figures_in c.args.self.now.work.now) _ _ _ (sym c.number-calls.ensures.0 ∙ c.if-calls-eq0.true)

pub returns : goal.returns
returns c =
    edge-some (figures_in c.args.self.now.work.now) _ _ c.number-calls.ensures.0 c.if-calls-eq0.false c.number.ensures.0 c.between.ensures
    c.between-2.ensures c.between-3.ensures
