use mathlib.Core.Path.{refl}
use Rattle.hexlines.proofs.Theorems.{proved}
use Rattle.hexlines.proofs.claims_hold.Goals as goal

pub returns : goal.returns
returns c = (refl, proved)
