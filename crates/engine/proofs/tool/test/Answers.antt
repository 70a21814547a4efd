use Rattle.engine.proofs.Acting.{acted_test}
use Rattle.engine.proofs.tool.test.Goals as goal

pub returns : goal.returns
returns c = rw c.settled.ensures (acted_test c.requires c.test.result c.list_place-a.ensures.0 c.test.ensures)
