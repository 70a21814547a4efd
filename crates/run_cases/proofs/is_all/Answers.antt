use Rattle.std.proofs.Common.{◌∙◌, arith}
use Rattle.run_cases.proofs.Alike.{all_on, all_off, all_end}
use Rattle.run_cases.proofs.is_all.Goals as goal

pub returns-then-b-byte : goal.returns-then-b-byte
returns-then-b-byte c = all_off c.args.byte c.args.memory.now c.loop-b.b-index (omega arith) c.if-b-byte.true ∙ c.loop-b.invariant

pub loop-b-preserved : goal.loop-b-preserved
loop-b-preserved c = all_on c.args.byte c.args.memory.now c.loop-b.b-index (omega arith) c.if-b-byte.false ∙ c.loop-b.invariant

pub returns : goal.returns
returns c = all_end c.args.byte c.args.memory.now c.loop-b.b-index (omega arith) ∙ c.loop-b.invariant
