use native.Mathlib.Omega.{arith}
use Rattle.memory.proofs.Strings.{texted_in}
use Rattle.memory.proofs.text.text_in.Goals as goal

pub returns : goal.returns
returns c = texted_in _ _ c.copy_in.ensures (omega arith)
