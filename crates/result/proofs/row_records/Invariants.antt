use Rattle.text.specs.Put.{Wrote}
use Rattle.result.specs.Encoding.{row_records}
use Rattle.result.specs.Ended.{rows_in}
use Rattle.result.proofs.row_records.Given as goal

abbrev pub invariant-loop-f : goal.invariant-loop-f
invariant-loop-f l = Wrote (row_records (rows_in l.work 0 l.f)) l.initial.page l.page
