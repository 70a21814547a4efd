use Rattle.std.proofs.Common.{refl}
use Rattle.profile.proofs.Theorems.{proved}
use Rattle.profile.proofs.claims_hold.Goals as goal

pub returns : goal.returns
returns c = (refl, proved)
