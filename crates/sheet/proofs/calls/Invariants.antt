use Rattle.sheet.proofs.Marks.{Calling}
use Rattle.sheet.proofs.calls.Given as goal

abbrev pub invariant-loop-r : goal.invariant-loop-r
invariant-loop-r l = Calling l.sheet l.initial.table l.table l.n l.count l.r
