use borrow.Author.Rules.{rules}
use Rattle.sheet.specs.Format.{long_number}
use Rattle.bundle.proofs.wide_number.Goals as goal

pub returns : goal.returns
unfolding long_number
returns c = search rules
