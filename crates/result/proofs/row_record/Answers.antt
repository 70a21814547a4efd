use Rattle.result.proofs.Records.{row_written}
use Rattle.result.proofs.row_record.Goals as goal

pub returns : goal.returns
returns c = row_written _ _ _ _ _ c.header.ensures c.two.ensures c.four.ensures c.four-2.ensures c.four-3.ensures c.number-entered.ensures.0 c.number-own.ensures.0 c.number-inclusive.ensures.0
