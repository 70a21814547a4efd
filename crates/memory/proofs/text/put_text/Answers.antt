use native.Mathlib.Omega.{arith}
use mathlib.Core.Logic.{⊎_elim, inl, inr}
use Rattle.memory.proofs.Texts.{texted}
use Rattle.memory.proofs.text.put_text.Goals as goal

pub returns : goal.returns
returns c = texted _ _ _ c.copy_within.ensures (⊎_elim (λ p. inl p) (λ p. inr (omega arith)) c.requires.3) (omega arith)
