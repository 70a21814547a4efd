use mathlib.Core.Path.{refl}
use Rattle.bundle.proofs.Theorems.{proved}
use Rattle.bundle.proofs.claims_hold.Goals as goal

pub returns : goal.returns
returns c = (refl, proved)
