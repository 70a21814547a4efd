use borrow.Author.Rules.{rules}
use Rattle.result.proofs.Records.{end-written}
use Rattle.result.proofs.end_record.Goals as goal

pub returns : goal.returns
returns c = end-written _ _ _ _ _ c.header.ensures c.word.ensures c.four.ensures (search rules) (search rules)
