use Rattle.callgrind.specs.Ended.{figures_in}
use Rattle.callgrind.proofs.Pieces.{block_whole}
use Rattle.callgrind.proofs.blocks.Counted.block.Goals as goal

pub returns : goal.returns
returns c = block_whole (figures_in c.args.self.now.work.now) _ _ _ c.number-own.ensures.0 c.between.ensures c.between-2.ensures c.edges.ensures
