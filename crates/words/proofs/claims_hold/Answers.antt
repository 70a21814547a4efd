use mathlib.Core.Path.{refl}
use Rattle.words.proofs.Theorems.{proved}
use Rattle.words.proofs.claims_hold.Goals as goal

pub returns : goal.returns
returns c = (refl, proved)
