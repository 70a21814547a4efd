use native.Mathlib.Omega.{arith}
use Rattle.hexlines.proofs.Filling.{decoded-more}
use Rattle.hexlines.proofs.decode.Goals as goal

pub loop-n-preserved : goal.loop-n-preserved
loop-n-preserved c = decoded-more _ _ _ _ _ _ (omega arith) (omega arith) c.nibble-high.ensures.0 c.nibble-low.ensures.0 c.loop-n.invariant
