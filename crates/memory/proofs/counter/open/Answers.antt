use Rattle.memory.proofs.Counters.{begun_first}
use borrow.Author.Rules.{rules}
use Rattle.memory.proofs.counter.open.Goals as goal

pub returns-then-work-c-eq0 : goal.returns-then-work-c-eq0
returns-then-work-c-eq0 c = begun_first _ _ c.add.ensures (search rules) (search rules)
