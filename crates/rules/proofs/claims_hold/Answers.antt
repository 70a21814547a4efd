use mathlib.Core.Path.{refl}
use Rattle.rules.proofs.Theorems.{proved}
use Rattle.rules.proofs.claims_hold.Goals as goal

pub returns : goal.returns
returns c = (refl, proved)
