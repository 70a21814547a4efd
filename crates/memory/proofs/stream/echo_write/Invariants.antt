use Prim.Native.Nat.{◌≤◌, ◌+◌, ◌*◌}
use Rattle.memory.specs.Layout.{fields_at}
use Rattle.memory.specs.Posts.{Written}
use Rattle.memory.proofs.Writing.{tailed}
use Rattle.memory.proofs.stream.echo_write.Given as goal

abbrev pub invariant-loop-k : goal.invariant-loop-k
invariant-loop-k l = record {
  bound : l.e ≤ l.to + l.u.bytes * l.k;
  written : Written l.to (tailed (fields_at l.u.bytes l.initial.work l.a l.k)) l.initial.work l.work l.e;
}
