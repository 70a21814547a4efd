use native.Mathlib.Omega.{arith}
use Rattle.text.proofs.Ends.{fitted, fitted_end}
use Rattle.callgrind.proofs.Lines.{edges_none, edges_more}
use Rattle.callgrind.proofs.blocks.Counted.edges.Goals as goal

pub loop-b-init : goal.loop-b-init
loop-b-init c = fitted (edges_none _ _ _) (omega arith)

pub loop-b-preserved : goal.loop-b-preserved
loop-b-preserved c =
    fitted (edges_more _ _ _ c.loop-b.invariant.wrote c.edge.ensures.wrote) (omega (arith, fitted_end c.loop-b.invariant, fitted_end c.edge.ensures))
