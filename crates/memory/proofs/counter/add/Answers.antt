use Rattle.memory.proofs.Counters.{counted}
use Rattle.memory.proofs.counter.add.Goals as goal

pub returns : goal.returns
returns c = counted _ _ _ c.store.ensures c.number.ensures.0
