use Prim.Native.Nat.{◌-◌, ◌+◌}
use native.Mathlib.Omega.{arith}
use mathlib.Core.Path.{◌≡◌, refl}
use Rattle.memory.proofs.Texts.{mul_more}
use Rattle.memory.proofs.Writing.{echo_start, echo_more, echo_end, echo_empty, field_bound}
use Rattle.memory.proofs.stream.echo_write.Goals as goal

pub returns-then-m-eq0 : goal.returns-then-m-eq0
returns-then-m-eq0 c = echo_empty _ _ _ _ _ c.if-m-eq0.true (omega arith)

pub loop-k-init : goal.loop-k-init
loop-k-init c = record { bound = omega arith; written = echo_start _ _ _ _ }

pub loop-k-preserved : goal.loop-k-preserved
loop-k-preserved c =
    let q = rw c.times.ensures.0 at c.put_field-e.ensures in let i = c.loop-k.invariant in
    record {
      bound = omega (arith, field_bound _ _ _ _ q c.args.u.fits.0, i.bound, mul_more c.args.u.bytes c.loop-k.k);
      written = echo_more _ _ _ _ _ i.written q c.args.u.fits.0 (omega (arith, c.times.ensures)) refl;
    }

pub returns : goal.returns
returns c =
    let m = c.args.m in
    let e : c.loop-k.k ≡ m - 1 = omega arith in
    let d : m - 1 + 1 ≡ m = omega arith in
    rw d at (echo_end _ _ _ _ _ (rw e at c.loop-k.invariant.written) (rw c.times-2.ensures.0 at c.put_field.ensures) c.args.u.fits.0 (omega (arith, c.times-2.ensures)) refl)
