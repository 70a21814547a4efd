use Rattle.engine.proofs.Saying.{error_says}
use Rattle.engine.proofs.ends.error.Goals as goal

pub returns : goal.returns
returns c = error_says _ _ c.end.ensures.parts
