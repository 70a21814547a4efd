use Rattle.engine.proofs.Taking.{Taking}
use Rattle.engine.proofs.start.take_arguments.Given as goal

abbrev pub invariant-loop-k : goal.invariant-loop-k
invariant-loop-k l = Taking l.arguments l.u.bytes l.n l.initial.work l.work l.at l.k
