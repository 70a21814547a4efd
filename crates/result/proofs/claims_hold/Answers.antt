use mathlib.Core.Path.{refl}
use Rattle.result.proofs.Theorems.{proved}
use Rattle.result.proofs.claims_hold.Goals as goal

pub returns : goal.returns
returns c = (refl, proved)
