use Rattle.memory.proofs.Stretches.{Adding}
use Rattle.memory.proofs.list.add_stretches.Given as goal

abbrev pub invariant-loop-k : goal.invariant-loop-k
invariant-loop-k l = Adding l.u.bytes l.initial.work l.a l.m l.i l.e l.work l.k l.end
