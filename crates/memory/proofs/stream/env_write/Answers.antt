use Prim.Native.Nat.{◌+◌, ◌*◌}
use native.Mathlib.Omega.{arith}
use Rattle.memory.proofs.Writing.{env-start, env-more, line-length}
use Rattle.memory.proofs.Texts.{mul_more}
use Rattle.memory.proofs.stream.env_write.Goals as goal

pub loop-x-init : goal.loop-x-init
loop-x-init c = record { bound = omega arith; written = env-start _ _ _ _ }

pub loop-x-preserved : goal.loop-x-preserved
loop-x-preserved c =
    let q = rw c.times.ensures.0 at c.env_line-e.ensures in let i = c.loop-x.invariant in
    let u = c.args.u.bytes in let x = c.loop-x.x in
    record {
      bound = omega (arith, line-length u c.loop-x.work (64 * x) (c.args.a + (u + 2) * x) c.requires.level.unit, q.end, i.bound, mul_more (64 + u) x);
      written = env-more _ _ _ _ i.written q (omega arith) c.requires.level.above c.requires.level.unit (omega (arith, c.times.ensures, c.requires.n_bound));
    }
