use native.Mathlib.Omega.{arith}
use mathlib.Core.Logic.{inl}
use Rattle.sheet.proofs.Located.{few-records}
use Rattle.engine.proofs.Looking.{slot-room, slot-below, string-room, variable-ruled}
use Rattle.engine.proofs.Saying.{says_value}
use Rattle.engine.proofs.values.variable.Goals as goal

pub mark-x-requires : goal.mark-x-requires
mark-x-requires c =
    let ready = c.requires.ready in
    (omega (arith, few-records ready.loaded, c.requires.of_kind.0.known), omega (arith, ready.roomy.room))

pub overflow_mul-slot : goal.overflow_mul-slot
overflow_mul-slot c =
    let pre = c.requires in
    omega (arith, slot-room pre.ready pre.of_kind.0 c.mark-x.ensures, pre.ready.roomy.small)

pub overflow_add-slot-2 : goal.overflow_add-slot-2
overflow_add-slot-2 c =
    let pre = c.requires in
    omega (arith, slot-room pre.ready pre.of_kind.0 c.mark-x.ensures, pre.ready.roomy.small)

pub variable_size-size-requires : goal.variable_size-size-requires
variable_size-size-requires c =
    let pre = c.requires in
    let below = slot-below pre.ready pre.of_kind.0 c.mark-x.ensures _ c.variables_place.ensures.1 in
    omega (arith, below, string-room pre.ready)

pub overflow_add-slot-3 : goal.overflow_add-slot-3
overflow_add-slot-3 c =
    let pre = c.requires in
    omega (arith, slot-room pre.ready pre.of_kind.0 c.mark-x.ensures, pre.ready.roomy.small)

pub append_within-requires : goal.append_within-requires
append_within-requires c =
    let pre = c.requires in
    let place = c.string_place-a.ensures.0 in
    let size = c.variable_size-size.ensures.1 in
    let below = slot-below pre.ready pre.of_kind.0 c.mark-x.ensures _ c.variables_place.ensures.1 in
    (pre.of_kind.1, omega (arith, place, string-room pre.ready), omega (arith, size, below, string-room pre.ready), inl (omega (arith, size, place, below)))

pub value-requires : goal.value-requires
value-requires c =
    let ready = c.requires.ready in
    (omega (arith, c.variable_size-size.ensures.1, ready.roomy.small), c.rest.ensures.1)

pub returns : goal.returns
returns c =
    let pre = c.requires in
    let args = c.args in
    rw (← says_value _ args.feed args.pace c.value.ensures c.rest.ensures.0)
    (variable-ruled pre.ready _ pre.of_kind.0 c.mark-x.ensures
    c.variables_place.ensures.0 pre.of_kind.1
    c.string_place-a.ensures.0
    c.variable_size-size.ensures c.append_within.ensures)
