use native.Mathlib.Omega.{arith}
use mathlib.Core.Path.{◌≡◌, sym, ◌∙◌}
use Rattle.memory.proofs.Values.{value_none, value_shorter, value-whole}
use Rattle.memory.proofs.stream.value_length.Goals as goal

pub loop-m-preserved : goal.loop-m-preserved
loop-m-preserved c = (omega arith, c.loop-m.invariant.1 ∙ value_shorter _ _ _ (omega arith) c.if-work-a-eq10.true)

pub returns-else-work-a-eq10 : goal.returns-else-work-a-eq10
returns-else-work-a-eq10 c = record { value = sym (c.loop-m.invariant.1 ∙ value-whole _ _ _ (omega arith) c.if-work-a-eq10.false); fits = omega arith }

pub returns-after-loop-m : goal.returns-after-loop-m
returns-after-loop-m c =
    let e : c.loop-m.m ≡ 0 = omega arith in
    rw e (record { value = sym (rw e at c.loop-m.invariant.1 ∙ value_none _ _); fits = omega arith })
