use Rattle.words.proofs.Digits.{feed_made}
use Rattle.words.proofs.feed.feed.Goals as goal

pub returns : goal.returns
returns c = feed_made _ _ _ _ c.requires.0 c.requires.1 c.requires.2 c.requires.3
