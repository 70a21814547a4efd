use Rattle.text.proofs.Ends.{wrote_then}
use Rattle.result.proofs.header.Goals as goal

pub returns : goal.returns
returns c = wrote_then c.two.ensures c.two-2.ensures
