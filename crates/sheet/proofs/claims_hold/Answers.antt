use mathlib.Core.Path.{refl}
use Rattle.sheet.proofs.Theorems.{proved}
use Rattle.sheet.proofs.claims_hold.Goals as goal

pub returns : goal.returns
returns c = (refl, proved)
