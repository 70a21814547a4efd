use Prim.Native.Nat.{◌≤◌, ◌+◌, ◌*◌}
use Rattle.rules.specs.Words.{env_lines}
use Rattle.memory.specs.Layout.{variables_at}
use Rattle.memory.specs.Posts.{Written}
use Rattle.memory.proofs.stream.env_write.Given as goal

abbrev pub invariant-loop-x : goal.invariant-loop-x
invariant-loop-x l = record {
  bound : l.e ≤ l.to + (64 + l.u.bytes) * l.x;
  written : Written l.to (env_lines (variables_at l.u.bytes l.initial.work l.a l.x)) l.initial.work l.work l.e;
}
