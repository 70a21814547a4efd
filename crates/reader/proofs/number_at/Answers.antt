use borrow.Author.Rules.{rules}
use Rattle.reader.specs.Records.{number}
use Rattle.reader.proofs.number_at.Goals as goal

pub returns : goal.returns
unfolding number
returns c = search rules
