use Prim.Native.Nat.{◌+◌}
use native.Mathlib.Omega.{arith}
use Rattle.memory.proofs.Texts.{step}
use Rattle.result.proofs.Records.{variables-none, variables-more}
use Rattle.result.proofs.Sizes.{variables-end}
use Rattle.result.proofs.variable_records.Goals as goal

pub loop-x-init : goal.loop-x-init
loop-x-init c = variables-none _ _ _ _

pub variable_record-requires : goal.variable_record-requires
variable_record-requires c = (
  omega arith,
  omega (arith, step (c.args.u.bytes + 2) c.loop-x.x 16 (omega arith)),
  omega (arith, variables-end _ _ _ _ c.loop-x.invariant (omega arith) (omega arith)),
)

pub loop-x-preserved : goal.loop-x-preserved
loop-x-preserved c = variables-more _ _ _ _ c.loop-x.invariant c.variable_record.ensures
