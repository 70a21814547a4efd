use mathlib.Core.Path.{refl}
use native.Mathlib.Omega.{arith}
use Rattle.sheet.specs.Check.{known, judge}
use Rattle.sheet.proofs.Going.{going_start, going_ready, going_again, further, stop_512, stop_main, stop_judged, stop_good, stop_no_main, told-fine}
use Rattle.sheet.proofs.pass.Goals as goal

pub loop-c-init : goal.loop-c-init
loop-c-init c = going_start c.args.sheet.now c.args.table.now _ refl

pub returns-then-place-eq-RECORDS : goal.returns-then-place-eq-RECORDS
returns-then-place-eq-RECORDS c =
    let h = stop_512 c.loop-c.invariant c.loop-c-test.true c.if-place-eq-RECORDS.true in
    record { value = rw c.at.ensures h.0; table_after = h.1 }

pub returns-then-c-eq-MAIN : goal.returns-then-c-eq-MAIN
returns-then-c-eq-MAIN c =
    let h = stop_main c.loop-c.invariant c.loop-c-test.true c.if-place-eq-RECORDS.false c.if-c-eq-MAIN.true in
    record { value = rw c.at-then-c-eq-MAIN.ensures h.0; table_after = h.1 }

pub invariant_of-so_far : goal.invariant_of-so_far
invariant_of-so_far c = record { ready = going_ready c.loop-c.invariant c.requires.0 c.requires.1 }

pub loop-c-smaller : goal.loop-c-smaller
loop-c-smaller c = omega (arith, further c.loop-c.invariant (c.enter-c.ensures.value))

pub loop-c-preserved : goal.loop-c-preserved
loop-c-preserved c =
    going_again c.loop-c.invariant (let f = c.loop-c.invariant.few in omega arith) c.loop-c-test.true c.if-c-eq-MAIN.false
    (told-fine (judge c.args.sheet.now (known c.args.sheet.now c.loop-c.c.records)) _ _ c.in-Ok.ensures).0
    c.enter-c.ensures.value c.enter-c.ensures.table_after c.enter-c.ensures.slots_after

pub returns-in-Err : goal.returns-in-Err
returns-in-Err c =
    let h = stop_judged c.loop-c.invariant c.loop-c-test.true c.if-place-eq-RECORDS.false c.in-Err.why _ c.if-c-eq-MAIN.false c.in-Err.ensures in
    record { value = rw c.at-in-Err.ensures h.0; table_after = h.1 }

pub returns-then-c-eq-MAIN-2 : goal.returns-then-c-eq-MAIN-2
returns-then-c-eq-MAIN-2 c =
    let h = stop_good c.loop-c.invariant c.loop-c-test.false c.if-c-eq-MAIN-2.true in
    record { value = h.0; table_after = h.1 }

pub returns-else-c-eq-MAIN-2 : goal.returns-else-c-eq-MAIN-2
returns-else-c-eq-MAIN-2 c =
    let h = stop_no_main c.loop-c.invariant c.loop-c-test.false c.if-c-eq-MAIN-2.false in
    record { value = rw c.at-else-c-eq-MAIN-2.ensures h.0; table_after = h.1 }
