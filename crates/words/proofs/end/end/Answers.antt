use Rattle.words.proofs.Digits.{as_bit, end-made}
use Rattle.words.proofs.end.end.Goals as goal

pub returns : goal.returns
returns c = let f = as_bit _ c.from.ensures in end-made _ _ _ _ _ _ c.requires.0 f.0 f.1 c.requires.1 c.requires.2
