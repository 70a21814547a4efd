use Rattle.text.proofs.Ends.{wrote_then}
use Rattle.text.proofs.page.Page.field.Goals as goal

pub returns : goal.returns
returns c = wrote_then c.number.ensures c.word.ensures
