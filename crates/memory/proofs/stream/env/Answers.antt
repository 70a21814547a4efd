use Rattle.memory.proofs.Writing.{streamed}
use Rattle.memory.proofs.stream.env.Goals as goal

pub returns : goal.returns
returns c = rw c.judged.ensures (streamed _ _ _ _ c.env_write-e.ensures)
