use mathlib.Core.Path.{refl}
use Rattle.gateway.proofs.Theorems.{proved}
use Rattle.gateway.proofs.claims_hold.Goals as goal

pub returns : goal.returns
returns c = (refl, proved)
