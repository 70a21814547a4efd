use mathlib.Core.Path.{refl}
use Rattle.engine.proofs.Theorems.{proved}
use Rattle.engine.proofs.claims_hold.Goals as goal

pub returns : goal.returns
returns c = (refl, proved)
