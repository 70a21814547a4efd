use Rattle.memory.proofs.Writing.{streamed}
use Rattle.memory.proofs.stream.echo.Goals as goal

pub returns : goal.returns
returns c = rw c.judged.ensures (streamed _ _ _ _ c.echo_write-e.ensures)
