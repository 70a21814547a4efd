use borrow.Author.Rules.{rules}
use Rattle.memory.specs.Layout.{number_at}
use Rattle.memory.proofs.counter.number.Goals as goal

pub returns : goal.returns
unfolding number_at
returns c = search rules
