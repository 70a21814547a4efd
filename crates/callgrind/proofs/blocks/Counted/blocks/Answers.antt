use native.Mathlib.Omega.{arith}
use Rattle.text.proofs.Ends.{fitted, fitted_end}
use Rattle.callgrind.proofs.Lines.{blocks-none, blocks_more}
use Rattle.callgrind.proofs.blocks.Counted.blocks.Goals as goal

pub loop-f-init : goal.loop-f-init
loop-f-init c = fitted (blocks-none _ _ _) (omega arith)

pub loop-f-preserved : goal.loop-f-preserved
loop-f-preserved c =
    fitted (blocks_more _ _ _ c.loop-f.invariant.wrote c.block.ensures.wrote) (omega (arith, fitted_end c.loop-f.invariant, fitted_end c.block.ensures))
