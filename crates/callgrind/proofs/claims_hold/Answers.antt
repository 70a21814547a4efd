use mathlib.Core.Path.{refl}
use Rattle.callgrind.proofs.Theorems.{proved}
use Rattle.callgrind.proofs.claims_hold.Goals as goal

pub returns : goal.returns
returns c = (refl, proved)
