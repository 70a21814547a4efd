use Prim.Native.Nat.{◌+◌}
use native.Mathlib.Omega.{arith}
use Rattle.engine.proofs.Taking.{count-few, first_short, first-whole, next-short, next-whole, cut-length, taking_first, taking_next, taken}
use Rattle.engine.proofs.start.take_arguments.Goals as goal

pub number_at-first-requires : goal.number_at-first-requires
number_at-first-requires c = omega (arith, first-whole c.requires)

pub overflow_add-first : goal.overflow_add-first
overflow_add-first c = omega (arith, c.number_at-first.ensures.1)

pub slice_bounds-text_in-count : goal.slice_bounds-text_in-count
slice_bounds-text_in-count c = omega arith

pub slice_bounds-text_in-end : goal.slice_bounds-text_in-end
slice_bounds-text_in-end c = let h = first-whole c.requires in let e = c.number_at-first.ensures.0 in omega arith

pub text_in-requires : goal.text_in-requires
text_in-requires c =
    let h = first-whole c.requires in
    let e = c.number_at-first.ensures.0 in
    let l = cut-length c.args.arguments.now 4 c.number_at-first.result (omega arith) in
    (omega (arith, l, first_short c.requires), omega (arith, l, first_short c.requires, c.requires.room))

pub list_place-list-requires : goal.list_place-list-requires
list_place-list-requires c = omega arith

pub overflow_add-at : goal.overflow_add-at
overflow_add-at c = omega (arith, c.number_at-first.ensures.1)

pub loop-k-init : goal.loop-k-init
loop-k-init c = taking_first c.requires c.number_at-first.ensures.0 c.text_in.ensures

pub number_at-size-requires : goal.number_at-size-requires
number_at-size-requires c = omega (arith, next-whole c.requires c.loop-k.invariant c.loop-k-test.true)

pub overflow_sub-k : goal.overflow_sub-k
overflow_sub-k c = c.loop-k.invariant.low

pub overflow_add-at-in-loop-k : goal.overflow_add-at-in-loop-k
overflow_add-at-in-loop-k c = omega (arith, c.loop-k.invariant.near, c.loop-k.invariant.high, count-few c.requires)

pub overflow_add-at-in-loop-k-2 : goal.overflow_add-at-in-loop-k-2
overflow_add-at-in-loop-k-2 c = omega (arith, c.loop-k.invariant.near, c.loop-k.invariant.high, count-few c.requires)

pub overflow_add-at-in-loop-k-3 : goal.overflow_add-at-in-loop-k-3
overflow_add-at-in-loop-k-3 c = omega (arith, c.loop-k.invariant.near, c.loop-k.invariant.high, count-few c.requires, c.number_at-size.ensures.1)

pub slice_bounds-add_text-count : goal.slice_bounds-add_text-count
slice_bounds-add_text-count c = omega arith

pub slice_bounds-add_text-end : goal.slice_bounds-add_text-end
slice_bounds-add_text-end c = let h = next-whole c.requires c.loop-k.invariant c.loop-k-test.true in let e = c.number_at-size.ensures.0 in omega arith

pub add_text-requires : goal.add_text-requires
add_text-requires c =
    let h = next-whole c.requires c.loop-k.invariant c.loop-k-test.true in
    let e = c.number_at-size.ensures.0 in
    let l = cut-length c.args.arguments.now (c.loop-k.at + 4) c.number_at-size.result (omega arith) in
    let u = c.requires.small in
    let p = c.list_place-list.ensures.0 in
    (omega (arith, count-few c.requires, c.loop-k-test.true), omega (arith, l, next-short c.requires c.loop-k.invariant c.loop-k-test.true, c.requires.unit), omega (arith, p, u, c.loop-k.invariant.size, c.text_in.ensures.only.size, c.requires.room))

pub overflow_add-at-in-loop-k-4 : goal.overflow_add-at-in-loop-k-4
overflow_add-at-in-loop-k-4 c = omega (arith, c.loop-k.invariant.near, c.loop-k.invariant.high, count-few c.requires)

pub overflow_add-at-in-loop-k-5 : goal.overflow_add-at-in-loop-k-5
overflow_add-at-in-loop-k-5 c = omega (arith, c.loop-k.invariant.near, c.loop-k.invariant.high, count-few c.requires, c.number_at-size.ensures.1)

pub loop-k-preserved : goal.loop-k-preserved
loop-k-preserved c = taking_next c.requires c.loop-k.invariant c.loop-k-test.true _ _ c.number_at-size.ensures.0 c.list_place-list.ensures.0 c.add_text.ensures

pub returns : goal.returns
returns c = taken c.requires c.number_at-first.ensures.0 c.text_in.ensures c.loop-k.invariant c.loop-k-test.false
