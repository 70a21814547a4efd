use Rattle.engine.proofs.Saying.{value_says}
use Rattle.engine.proofs.ends.value.Goals as goal

pub returns : goal.returns
returns c = value_says _ _ c.end.ensures.parts
