use Rattle.engine.proofs.Saying.{refused_says}
use Rattle.engine.proofs.ends.refused.Goals as goal

pub returns : goal.returns
returns c = refused_says _ c.args.why c.from-number.ensures c.end.ensures.parts
