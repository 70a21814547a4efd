use native.Mathlib.Omega.{arith}
use Rattle.engine.proofs.Looking.{is-text, text_reads, text-is, text-ruled, string-room}
use Rattle.engine.proofs.Saying.{says_value}
use Rattle.engine.proofs.values.text.Goals as goal

pub part-m-requires : goal.part-m-requires
part-m-requires c =
    let pre = c.requires in
    let both = text_reads pre.ready.loaded (is-text pre.ready.loaded pre.of_kind.0) (omega (arith, pre.ready.roomy.room)) in
    record { r_bound = both.0; d_bound = both.1 }

pub start-at-requires : goal.start-at-requires
start-at-requires c =
    let pre = c.requires in
    (text_reads pre.ready.loaded (is-text pre.ready.loaded pre.of_kind.0) (omega (arith, pre.ready.roomy.room))).0

pub append_text-requires : goal.append_text-requires
append_text-requires c =
    let pre = c.requires in
    let is = text-is pre.ready.loaded (is-text pre.ready.loaded pre.of_kind.0)
    c.part-m.ensures c.start-at.ensures.0 in
    let place = c.string_place-a.ensures in
    (is.0, pre.of_kind.1, omega arith, omega (arith, place, string-room pre.ready))

pub value-requires : goal.value-requires
value-requires c =
    let pre = c.requires in
    let is = text-is pre.ready.loaded (is-text pre.ready.loaded pre.of_kind.0)
    c.part-m.ensures c.start-at.ensures.0 in
    (omega (arith, is.1), c.rest.ensures.1)

pub returns : goal.returns
returns c =
    let pre = c.requires in
    let args = c.args in
    rw (← says_value _ args.feed args.pace c.value.ensures c.rest.ensures.0)
    (text-ruled pre.ready _ pre.of_kind.0 c.part-m.ensures
    c.start-at.ensures.0 c.string_place-a.ensures.0
    c.append_text.ensures)
