use native.Mathlib.Omega.{arith}
use Rattle.hexlines.proofs.Filling.{encoded-more}
use Rattle.hexlines.proofs.encode.Goals as goal

pub loop-n-preserved : goal.loop-n-preserved
loop-n-preserved c = encoded-more _ _ _ _ _ _ (omega arith) (omega arith) c.digit.ensures c.digit-in-loop-n.ensures c.loop-n.invariant
