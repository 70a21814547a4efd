use native.Mathlib.Omega.{arith}
use Rattle.memory.proofs.Stretches.{adding-none, adding-more}
use Rattle.memory.proofs.list.add_stretches.Goals as goal

pub loop-k-init : goal.loop-k-init
loop-k-init c = adding-none _ _ _ _ _ _ c.requires.within.0

pub loop-k-preserved : goal.loop-k-preserved
loop-k-preserved c =
    adding-more c.loop-k.invariant c.run_end-start.ensures c.run_end-end.ensures c.requires.within.3 (omega (arith, c.requires.count)) c.add_field.ensures (omega (arith, c.requires.count))
