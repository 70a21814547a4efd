use Rattle.memory.proofs.Counters.{shut}
use borrow.Author.Rules.{rules}
use Rattle.memory.proofs.counter.shut.Goals as goal

pub returns-then-outermost : goal.returns-then-outermost
returns-then-outermost c = let e = c.if-outermost.true in rw e (shut _ _ _ c.add.ensures (search rules))
