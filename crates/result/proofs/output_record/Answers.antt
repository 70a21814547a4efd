use Rattle.result.proofs.Records.{output-written}
use Rattle.result.proofs.output_record.Goals as goal

pub returns : goal.returns
returns c = output-written _ c.header.ensures c.word.ensures
