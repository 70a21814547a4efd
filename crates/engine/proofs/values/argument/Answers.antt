use native.Mathlib.Omega.{arith}
use mathlib.Core.Logic.{inl}
use Rattle.sheet.proofs.Reading.{argument_law}
use Rattle.engine.proofs.Follows.{can_read}
use Rattle.engine.proofs.Looking.{argument-room, string-room, zero-ruled, none-ruled, argument-ruled}
use Rattle.engine.proofs.Saying.{says_value}
use Rattle.engine.proofs.values.argument.Goals as goal

pub part-k-requires : goal.part-k-requires
part-k-requires c =
    let ready = c.requires.ready in
    let kind = c.requires.of_kind.0 in
    let both = can_read _ 4 ready kind.known (omega arith) (omega (arith, (argument_law ready.loaded _ kind.known kind.kind).1)) in
    record { r_bound = both.0; d_bound = both.1 }

pub argument_zero-size-requires : goal.argument_zero-size-requires
argument_zero-size-requires c =
    let ready = c.requires.ready in
    record {
      loaded = ready.loaded;
      function = rw c.function.ensures.0 ready.function;
      unit = ready.roomy.unit;
      small = ready.roomy.small;
      low = omega (arith, c.string_place-a.ensures);
      room = omega (arith, c.string_place-a.ensures, string-room ready);
      first = c.requires.of_kind.1;
    }

pub value-requires : goal.value-requires
value-requires c =
    let pre = c.requires in
    let flag = c.args.flag in
    let ruled = zero-ruled pre.ready flag pre.of_kind.0 c.part-k.ensures (omega arith)
    c.string_place-a.ensures.0
    (rw c.function.ensures.0 at c.argument_zero-size.ensures) in
    (omega (arith, ruled.by.short, pre.ready.roomy.small), c.rest.ensures.1)

pub returns-then-k-eq0 : goal.returns-then-k-eq0
returns-then-k-eq0 c =
    let pre = c.requires in
    let args = c.args in
    rw (← says_value _ args.feed args.pace c.value.ensures c.rest.ensures.0)
    (zero-ruled pre.ready _ pre.of_kind.0 c.part-k.ensures (omega arith)
    c.string_place-a.ensures.0
    (rw c.function.ensures.0 at c.argument_zero-size.ensures))

pub returns-then-k-count : goal.returns-then-k-count
returns-then-k-count c =
    let pre = c.requires in
    let args = c.args in
    rw (← says_value _ args.feed args.pace c.value-then-k-count.ensures c.rest-then-k-count.ensures.0)
    (none-ruled pre.ready _ pre.of_kind.0 c.part-k.ensures (omega arith) pre.of_kind.1)

pub overflow_mul-from : goal.overflow_mul-from
overflow_mul-from c =
    let ready = c.requires.ready in
    omega (arith, argument-room c.part-k.result ready (omega arith) (omega arith), string-room ready)

pub overflow_add-from : goal.overflow_add-from
overflow_add-from c =
    let ready = c.requires.ready in
    omega (arith, argument-room c.part-k.result ready (omega arith) (omega arith), string-room ready)

pub size-m-requires : goal.size-m-requires
size-m-requires c =
    let ready = c.requires.ready in
    let room = argument-room c.part-k.result ready (omega arith) (omega arith) in
    (omega (arith, room, string-room ready, ready.roomy.unit), ready.roomy.unit)

pub overflow_add-from-2 : goal.overflow_add-from-2
overflow_add-from-2 c =
    let ready = c.requires.ready in
    omega (arith, argument-room c.part-k.result ready (omega arith) (omega arith), string-room ready)

pub append_within-requires : goal.append_within-requires
append_within-requires c =
    let pre = c.requires in
    let place = c.string_place-a.ensures in
    let room = argument-room c.part-k.result pre.ready (omega arith) (omega arith) in
    let end = string-room pre.ready in
    (pre.of_kind.1, omega (arith, place, end), omega (arith, c.size-m.ensures, room, end), inl (omega (arith, c.size-m.ensures, place, room)))

pub value-requires-2 : goal.value-requires-2
value-requires-2 c =
    let ready = c.requires.ready in
    (omega (arith, c.size-m.ensures, ready.roomy.small), c.rest-2.ensures.1)

pub returns : goal.returns
returns c =
    let pre = c.requires in
    let from = c.arguments.ensures.0 in
    let args = c.args in
    rw (← says_value _ args.feed args.pace c.value-2.ensures c.rest-2.ensures.0)
    (argument-ruled pre.ready _ pre.of_kind.0
    c.part-k.ensures (omega arith) (omega arith) pre.of_kind.1
    c.string_place-a.ensures.0
    (rw from at c.size-m.ensures.0) (rw from at c.append_within.ensures))
