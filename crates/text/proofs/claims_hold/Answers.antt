use mathlib.Core.Path.{refl}
use Rattle.text.proofs.Theorems.{proved}
use Rattle.text.proofs.claims_hold.Goals as goal

pub returns : goal.returns
returns c = (refl, proved)
