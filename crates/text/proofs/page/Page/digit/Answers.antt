use mathlib.Core.Path.{refl}
use native.Mathlib.Omega.{arith}
use Rattle.memory.proofs.Parts.{put_one}
use Rattle.text.proofs.page.Page.digit.Goals as goal

pub returns : goal.returns
returns c = record { memory = refl; written = record { put = put_one _ _ _ (omega arith); end = refl } }
