use native.Mathlib.Omega.{arith}
use mathlib.Core.Path.{refl}
use lib.ListN.{length-set}
use mathlib.Core.Logic.{⊎_elim, inl, inr}
use Rattle.memory.proofs.Parts.{put-nothing, part-put}
use Rattle.memory.proofs.stretch.copy_within.Goals as goal

pub loop-i-init : goal.loop-i-init
loop-i-init c = (refl, put-nothing _ _ _)

pub loop-i-preserved : goal.loop-i-preserved
loop-i-preserved c = (
  simp length-set (omega arith),
  part-put _ _ c.loop-i.invariant.1 (⊎_elim (λ p. inl (omega arith)) (λ p. inr (omega arith)) c.requires.apart) (omega arith),
)
