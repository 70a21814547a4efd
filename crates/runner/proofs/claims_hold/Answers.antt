use Rattle.std.proofs.Common.{refl}
use Rattle.runner.proofs.Theorems.{proved}
use Rattle.runner.proofs.claims_hold.Goals as goal

pub returns : goal.returns
returns c = (refl, proved)
