use native.Mathlib.Omega.{arith}
use Rattle.result.proofs.Records.{rows_none, rows_more}
use Rattle.result.proofs.Sizes.{rows_end}
use Rattle.result.proofs.row_records.Goals as goal

pub loop-f-init : goal.loop-f-init
loop-f-init c = rows_none _ _

pub row_record-requires : goal.row_record-requires
row_record-requires c = (omega arith, omega arith, omega (arith, rows_end _ _ _ c.loop-f.invariant))

pub loop-f-preserved : goal.loop-f-preserved
loop-f-preserved c = rows_more _ _ c.loop-f.invariant c.row_record.ensures
