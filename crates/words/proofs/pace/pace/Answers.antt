use Rattle.words.proofs.Digits.{as_bit, pace-made}
use Rattle.words.proofs.pace.pace.Goals as goal

pub returns : goal.returns
returns c = let f = as_bit _ c.from.ensures in pace-made _ _ _ _ c.requires.0 c.requires.1 f.0 f.1
