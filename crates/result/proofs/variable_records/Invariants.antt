use Rattle.rules.specs.Ruling.{shown}
use Rattle.memory.specs.Layout.{variables_at}
use Rattle.text.specs.Put.{Wrote}
use Rattle.result.specs.Encoding.{variable_records}
use Rattle.result.proofs.variable_records.Given as goal

abbrev pub invariant-loop-x : goal.invariant-loop-x
invariant-loop-x l = Wrote (variable_records (shown (variables_at l.u.bytes l.work l.a l.x))) l.initial.page l.page
