-- What the evaluators leave to show, member by member: made of tools/cycle/answers by tools/cycle/generate.py.
use Prim.Native.Nat.{◌<◌}
use Rattle.engine.proofs.+evaluators.Goals.{branch-else-result, branch-then-result}
use Rattle.engine.proofs.Assigns.{assign-error, assign-refused, assign_can, assign_done}
use Rattle.engine.proofs.Calls.{call-error, call-full, call-ran, call-refused, call-unknown, call_enters, call_none, enter_ran, enter_refused, ready_after as ready_called, ready_call, ready_within}
use Rattle.engine.proofs.Carried.{paced, stack-small}
use Rattle.engine.proofs.Embeds.{embedded-error, embedded-made, embedded-none, embedded-refused, ready_back, stream-short}
use Rattle.engine.proofs.Evaluators.{can_read_kind, list-begun, list_used_up, ready_stepped, string-begun, string_used_up}
use Rattle.engine.proofs.Fields.{empty-ruled, field-grown, field-many, field-starts, fields-many, fields-more, ready_added, split-grown, split-many, split-starts, string-error, string-refused}
use Rattle.engine.proofs.Flow.{if-other, if-refused, if-run, not-other, not-refused, not-run, ready_after, ready_tested, sequence-other, sequence-refused, sequence-run}
use Rattle.engine.proofs.Follows.{can_read, exits, in_sheet, normal_end}
use Rattle.engine.proofs.Going.{grew, has_ended, has_fields, has_value, ready_kept, was_refused}
use Rattle.engine.proofs.Inner.{ready_apart, ready_caught, ready_fed, ready_silent}
use Rattle.engine.proofs.Instructions.{fewer, instr_done, instr_used_up, step-used, step_room, this_kind}
use Rattle.engine.proofs.Joins.{join-made, join_left_error, join_left_refused, join_right_error, join_right_refused}
use Rattle.engine.proofs.Loops.{body_stopped, some_left, turn_over, turn_stopped, turned_more, turned_none, turned_ready}
use Rattle.engine.proofs.Pipes.{into_ran, into_refused, pipe-between, pipe-failed, pipe-none, pipe-ran, pipe-refused, pipe_into}
use Rattle.engine.proofs.Saying.{reads, says_back_error, says_back_value, says_value, worded_after}
use Rattle.engine.proofs.Shells.{nooutput-none, nooutput-ran, nooutput-refused, subshell-none, subshell-ran, subshell-refused}
use Rattle.engine.proofs.Walks.{acts_after, field_end, for-error, for-full, for-refused, for-run, for_asks, for_ready, listed_grew, name-known, name-read, name-room, name-short, round_ready, round_room, utility-error, utility-refused, utility-run, walk-starts, walk_again, walk_done, walk_stopped}
use Rattle.engine.specs.Ends.{as_listing}
use Rattle.engine.specs.Lending.{given}
use Rattle.memory.proofs.Places.{string_up}
use Rattle.rules.specs.Words.{utility_of}
use Rattle.sheet.proofs.Callees.{body_law}
use Rattle.sheet.proofs.Located.{few-functions, few-records}
use Rattle.sheet.proofs.Reading.{assign_law, call_law, embedded_law, field_law, for_law, if_law, instruction-kinds, join_law, list-kinds, nooutput_law, not_law, pipe_law, sequence_law, split_law, string-kinds, subshell_law, utility_law, while_law}
use Rattle.std.specs.declared.result.Result.TheVariants.{Ok}
use Rattle.words.proofs.Reached.{below, reached}
use Rattle.words.specs.Words.{Pace, course_of, feed_of, pace_of, scope_of}
use mathlib.Core.Bool.{false, true}
use mathlib.Core.Logic.{inl, inr}
use mathlib.Core.Path.{ap, refl, sym, ◌∙◌, ◌≡◌}
use native.Mathlib.Omega.{arith}
use Rattle.engine.proofs.+evaluators.Goals as goal

-- assign

pub assign-mark-x-requires : goal.assign-mark-x-requires
assign-mark-x-requires t c = (omega (arith, few-records c.requires.ready.loaded, c.requires.of_kind.known), omega (arith, c.requires.ready.roomy.room))

pub assign-part-v-requires : goal.assign-part-v-requires
assign-part-v-requires t c =
    let law = assign_law c.requires.ready.loaded _ c.requires.of_kind.known c.requires.of_kind.kind in
    let both = can_read _ 6 c.requires.ready c.requires.of_kind.known (omega arith) (omega (arith, law.3)) in
    record { r_bound = both.0; d_bound = both.1 }

pub assign-string-value-requires : goal.assign-string-value-requires
assign-string-value-requires t c =
    let law = assign_law c.requires.ready.loaded _ c.requires.of_kind.known c.requires.of_kind.kind in
    (omega arith, (c.requires.ready, (rw c.part-v.ensures law.2.1, omega arith)))

pub assign-variables_place-a-requires : goal.assign-variables_place-a-requires
assign-variables_place-a-requires t c = omega (arith, c.requires.ready.placed.level, c.requires.ready.placed.holds)

pub assign-assign-requires : goal.assign-assign-requires
assign-assign-requires t c =
    let both = assign_can c.requires.ready c.requires.of_kind c.mark-x.ensures c.part-v.ensures c.string-value.ensures (reads c.string-value.result c.args.feed c.in_ok-n.ensures (ap Ok c.in-Value.is)) c.string_place-from.ensures.0 c.variables_place-a.ensures.0 in
    record { level = both.0; x_bound = both.1 }

pub assign-returns-in-Value : goal.assign-returns-in-Value
assign-returns-in-Value t c = assign_done c.requires.ready c.requires.of_kind c.mark-x.ensures c.part-v.ensures c.string-value.ensures (reads c.string-value.result c.args.feed c.in_ok-n.ensures (ap Ok c.in-Value.is)) c.string_place-from.ensures.0 c.variables_place-a.ensures.0 c.assign.ensures c.settled.ensures

pub assign-returns-in-Error : goal.assign-returns-in-Error
assign-returns-in-Error t c = rw c.ended.ensures (assign-error c.requires.ready c.requires.of_kind c.mark-x.ensures c.part-v.ensures c.string-value.ensures (reads c.string-value.result c.args.feed c.in_ok-n.ensures (ap Ok c.in-Error.is)))

pub assign-returns-in_err-n : goal.assign-returns-in_err-n
assign-returns-in_err-n t c = rw (exits _ c.from_residual.ensures.1) (assign-refused c.requires.ready c.requires.of_kind c.mark-x.ensures c.part-v.ensures c.string-value.ensures (sym c.in_err-n.ensures))

-- branch

pub branch-part-a-requires : goal.branch-part-a-requires
branch-part-a-requires t c =
    let law = if_law c.requires.ready.loaded _ c.requires.of_kind.known c.requires.of_kind.kind in
    let both = can_read _ 4 c.requires.ready c.requires.of_kind.known (omega arith) (omega (arith, law.4)) in
    record { r_bound = both.0; d_bound = both.1 }

pub branch-part-yes-requires : goal.branch-part-yes-requires
branch-part-yes-requires t c =
    let law = if_law c.requires.ready.loaded _ c.requires.of_kind.known c.requires.of_kind.kind in
    let both = can_read _ 6 c.requires.ready c.requires.of_kind.known (omega arith) (omega (arith, law.4)) in
    record { r_bound = both.0; d_bound = both.1 }

pub branch-part-no-requires : goal.branch-part-no-requires
branch-part-no-requires t c =
    let law = if_law c.requires.ready.loaded _ c.requires.of_kind.known c.requires.of_kind.kind in
    let both = can_read _ 8 c.requires.ready c.requires.of_kind.known (omega arith) (omega (arith, law.4)) in
    record { r_bound = both.0; d_bound = both.1 }

pub branch-instr-requires : goal.branch-instr-requires
branch-instr-requires t c =
    let law = if_law c.requires.ready.loaded _ c.requires.of_kind.known c.requires.of_kind.kind in
    (omega arith, (rw c.tested.ensures.parts (ready_tested c.requires.ready), rw c.part-a.ensures law.1.1))

pub branch-returns-then-not-is_normal : goal.branch-returns-then-not-is_normal
branch-returns-then-not-is_normal t c = if-other c.requires.ready c.requires.of_kind c.part-a.ensures c.part-yes.ensures c.part-no.ensures c.tested.ensures.parts c.in_ok-test.ensures refl (sym c.is_normal.ensures ∙ c.if-not-is_normal.true)

pub branch-instr-requires-2 : goal.branch-instr-requires-2
branch-instr-requires-2 t c =
    let law = if_law c.requires.ready.loaded _ c.requires.of_kind.known c.requires.of_kind.kind in
    let up = grew c.in_ok-test.ensures refl in
    (omega (arith, up, c.decreases), (ready_after c.requires.ready c.in_ok-test.ensures refl, elim c.if-result.branch [ branch-then-result w ↦ rw (w.taken-is, c.part-yes.ensures) law.2.1 | branch-else-result w ↦ rw (w.taken-is, c.part-no.ensures) law.3.1 ]))

pub branch-returns : goal.branch-returns
branch-returns t c = elim c.if-result.branch [ branch-then-result w ↦ if-run c.requires.ready c.requires.of_kind c.part-a.ensures c.part-yes.ensures c.part-no.ensures c.tested.ensures.parts c.in_ok-test.ensures true _ refl (sym c.is_normal.ensures ∙ c.if-not-is_normal.false) (sym c.result.ensures ∙ w.if-result.true) (rw w.taken-is at c.instr-2.ensures) | branch-else-result w ↦ if-run c.requires.ready c.requires.of_kind c.part-a.ensures c.part-yes.ensures c.part-no.ensures c.tested.ensures.parts c.in_ok-test.ensures false _ refl (sym c.is_normal.ensures ∙ c.if-not-is_normal.false) (sym c.result.ensures ∙ w.if-result.false) (rw w.taken-is at c.instr-2.ensures) ]

pub branch-returns-in_err-test : goal.branch-returns-in_err-test
branch-returns-in_err-test t c = rw (exits _ c.from_residual.ensures.1) (if-refused c.requires.ready c.requires.of_kind c.part-a.ensures c.part-yes.ensures c.part-no.ensures c.tested.ensures.parts c.in_err-test.ensures refl)

-- ctx::call

pub ctx::call-part-l-requires : goal.ctx::call-part-l-requires
ctx::call-part-l-requires t c =
    let law = call_law c.requires.ready.loaded _ c.requires.of_kind.known c.requires.of_kind.kind in
    let both = can_read _ 6 c.requires.ready c.requires.of_kind.known (omega arith) (omega (arith, law.3)) in
    record { r_bound = both.0; d_bound = both.1 }

pub ctx::call-mark-f-requires : goal.ctx::call-mark-f-requires
ctx::call-mark-f-requires t c = (omega (arith, c.requires.of_kind.known, few-records c.requires.ready.loaded), omega (arith, c.requires.ready.roomy.room))

pub ctx::call-list-fields-requires : goal.ctx::call-list-fields-requires
ctx::call-list-fields-requires t c =
    let law = call_law c.requires.ready.loaded _ c.requires.of_kind.known c.requires.of_kind.kind in
    (omega arith, (c.requires.ready, (rw c.part-l.ensures law.2.1, omega arith)))

pub ctx::call-returns-then-f-eq0 : goal.ctx::call-returns-then-f-eq0
ctx::call-returns-then-f-eq0 t c = rw c.settled.ensures (call-unknown c.requires.ready c.requires.of_kind c.part-l.ensures c.mark-f.ensures c.list-fields.ensures (ap as_listing (reads c.list-fields.result c.args.feed c.in_ok-m.ensures (ap Ok c.in-Value.is))) c.if-f-eq0.true)

pub ctx::call-returns-then-no_call : goal.ctx::call-returns-then-no_call
ctx::call-returns-then-no_call t c = rw c.ended.ensures (call-full c.requires.ready c.requires.of_kind c.part-l.ensures c.mark-f.ensures c.list-fields.ensures (ap as_listing (reads c.list-fields.result c.args.feed c.in_ok-m.ensures (ap Ok c.in-Value.is))) c.if-f-eq0.false (reached c.no_call.ensures c.if-no_call.true))

pub ctx::call-returns-then-no_hold : goal.ctx::call-returns-then-no_hold
ctx::call-returns-then-no_hold t c = rw c.halted.ensures (call_none c.requires.ready c.requires.of_kind c.part-l.ensures c.mark-f.ensures c.list-fields.ensures (ap as_listing (reads c.list-fields.result c.args.feed c.in_ok-m.ensures (ap Ok c.in-Value.is))) c.if-f-eq0.false (below c.no_call.ensures c.if-no_call.false) (reached c.no_hold.ensures c.if-no_hold.true))

pub ctx::call-enter-requires : goal.ctx::call-enter-requires
ctx::call-enter-requires t c =
    let ready = ready_call c.requires.ready c.requires.of_kind c.part-l.ensures c.mark-f.ensures c.list-fields.ensures (ap as_listing (reads c.list-fields.result c.args.feed c.in_ok-m.ensures (ap Ok c.in-Value.is))) in
    let up = (has_fields c.list-fields.ensures (ap as_listing (reads c.list-fields.result c.args.feed c.in_ok-m.ensures (ap Ok c.in-Value.is)))).came.onward.used in
    (omega (arith, up, c.decreases), (ready, call_enters c.requires.ready c.requires.of_kind c.part-l.ensures c.mark-f.ensures c.list-fields.ensures (ap as_listing (reads c.list-fields.result c.args.feed c.in_ok-m.ensures (ap Ok c.in-Value.is))) c.if-f-eq0.false (below c.no_call.ensures c.if-no_call.false) (below c.no_hold.ensures c.if-no_hold.false)))

pub ctx::call-returns-else-no_hold : goal.ctx::call-returns-else-no_hold
ctx::call-returns-else-no_hold t c = call-ran c.requires.ready c.requires.of_kind c.part-l.ensures c.mark-f.ensures c.list-fields.ensures (ap as_listing (reads c.list-fields.result c.args.feed c.in_ok-m.ensures (ap Ok c.in-Value.is))) c.if-f-eq0.false _ (below c.no_call.ensures c.if-no_call.false) c.enter.ensures

pub ctx::call-returns-in-Error : goal.ctx::call-returns-in-Error
ctx::call-returns-in-Error t c = rw c.ended-in-Error.ensures (call-error c.requires.ready c.requires.of_kind c.part-l.ensures c.mark-f.ensures c.list-fields.ensures (ap as_listing (reads c.list-fields.result c.args.feed c.in_ok-m.ensures (ap Ok c.in-Error.is))))

pub ctx::call-returns-in_err-m : goal.ctx::call-returns-in_err-m
ctx::call-returns-in_err-m t c = rw (exits _ c.from_residual.ensures.1) (call-refused c.requires.ready c.requires.of_kind c.part-l.ensures c.mark-f.ensures c.list-fields.ensures (ap as_listing (sym c.in_err-m.ensures)))

-- ctx::each

pub ctx::each-loop-i-init : goal.ctx::each-loop-i-init
ctx::each-loop-i-init t c = walk-starts c.requires.ready c.requires.iterates

pub ctx::each-overflow_mul-lent : goal.ctx::each-overflow_mul-lent
ctx::each-overflow_mul-lent t c = omega (arith, field_end c.requires.ready c.requires.iterates c.loop-i.invariant c.loop-i-test.true, c.requires.ready.roomy.small)

pub ctx::each-overflow_add-a : goal.ctx::each-overflow_add-a
ctx::each-overflow_add-a t c = omega (arith, field_end c.requires.ready c.requires.iterates c.loop-i.invariant c.loop-i-test.true, c.list_place-a.ensures.2, c.requires.ready.roomy.small)

pub ctx::each-assign_text-requires : goal.ctx::each-assign_text-requires
ctx::each-assign_text-requires t c =
    let both = round_room c.requires.ready c.requires.iterates c.loop-i.invariant c.loop-i-test.true c.variables_place-level.ensures.0 c.variables_place-level.ensures.1 c.list_place-a.ensures.1 c.list_place-a.ensures.2 in
    record { level = both.0; x_bound = both.1 }

pub ctx::each-instr-requires : goal.ctx::each-instr-requires
ctx::each-instr-requires t c =
    let up = c.loop-i.invariant.onward.used in
    (omega (arith, up, c.decreases), (rw c.held.ensures.parts (round_ready c.requires.ready c.requires.iterates c.loop-i.invariant c.loop-i-test.true c.variables_place-level.ensures.0 c.list_place-a.ensures.0 c.assign_text.ensures), c.requires.iterates.body))

pub ctx::each-returns-then-not-is_normal : goal.ctx::each-returns-then-not-is_normal
ctx::each-returns-then-not-is_normal t c = walk_stopped c.requires.ready c.requires.iterates c.loop-i.invariant c.loop-i-test.true c.variables_place-level.ensures.0 c.list_place-a.ensures.0 c.assign_text.ensures c.held.ensures.parts c.in_ok-turn.ensures (sym c.is_normal.ensures ∙ c.if-not-is_normal.true)

pub ctx::each-loop-i-preserved : goal.ctx::each-loop-i-preserved
ctx::each-loop-i-preserved t c = rw c.result-flag.ensures (walk_again c.requires.ready c.requires.iterates c.loop-i.invariant c.loop-i-test.true c.variables_place-level.ensures.0 c.list_place-a.ensures.0 c.assign_text.ensures c.held.ensures.parts c.in_ok-turn.ensures (normal_end _ (sym c.is_normal.ensures ∙ c.if-not-is_normal.false)))

pub ctx::each-returns : goal.ctx::each-returns
ctx::each-returns t c = rw (c.ended.ensures, c.with_result.ensures.parts) (walk_done c.requires.ready c.requires.iterates c.loop-i.invariant c.loop-i-test.false)

pub ctx::each-returns-in_err-turn : goal.ctx::each-returns-in_err-turn
ctx::each-returns-in_err-turn t c = rw (exits _ c.from_residual.ensures.1) (walk_stopped c.requires.ready c.requires.iterates c.loop-i.invariant c.loop-i-test.true c.variables_place-level.ensures.0 c.list_place-a.ensures.0 c.assign_text.ensures c.held.ensures.parts c.in_err-turn.ensures refl)

-- ctx::enter

pub ctx::enter-body-b-requires : goal.ctx::enter-body-b-requires
ctx::enter-body-b-requires t c = (omega (arith, c.requires.enters.function, few-functions c.requires.ready.loaded), omega (arith, c.requires.ready.roomy.room))

pub ctx::enter-begin_call-counted-requires : goal.ctx::enter-begin_call-counted-requires
ctx::enter-begin_call-counted-requires t c = (c.requires.ready.placed.function, c.requires.enters.positive, omega (arith, c.requires.enters.function, few-functions c.requires.ready.loaded), omega (arith, c.requires.ready.roomy.room))

pub ctx::enter-with_arguments-own-requires : goal.ctx::enter-with_arguments-own-requires
ctx::enter-with_arguments-own-requires t c = (omega (arith, c.list_place-a.ensures, c.requires.ready.roomy.small), omega (arith, c.requires.enters.few))

pub ctx::enter-within-inside-requires : goal.ctx::enter-within-inside-requires
ctx::enter-within-inside-requires t c = (c.requires.enters.hold, omega (arith, c.requires.enters.stack, stack-small c.args.lent.now.limits), omega (arith, c.requires.enters.function, few-functions c.requires.ready.loaded))

pub ctx::enter-instr-requires : goal.ctx::enter-instr-requires
ctx::enter-instr-requires t c = (omega (arith, c.decreases), (rw (c.within-inside.ensures.parts, c.with_arguments-own.ensures.parts, c.list_place-a.ensures.0) (ready_within c.requires.ready c.requires.enters c.begin_call-counted.ensures), rw c.body-b.ensures (body_law c.requires.ready.loaded _ c.requires.enters.function)))

pub ctx::enter-overflow_sub-used : goal.ctx::enter-overflow_sub-used
ctx::enter-overflow_sub-used t c = omega (arith, grew (rw (c.within-inside.ensures.parts, c.with_arguments-own.ensures.parts, c.list_place-a.ensures.0) at c.in_ok-inner.ensures) refl, c.used.ensures, c.used-2.ensures)

pub ctx::enter-end_call-requires : goal.ctx::enter-end_call-requires
ctx::enter-end_call-requires t c =
    let ran = rw (c.within-inside.ensures.parts, c.with_arguments-own.ensures.parts, c.list_place-a.ensures.0) at c.in_ok-inner.ensures in
    (c.requires.ready.placed.function, c.requires.enters.positive, omega (arith, c.requires.enters.function, few-functions c.requires.ready.loaded), omega (arith, (ready_called c.requires.ready c.requires.enters c.begin_call-counted.ensures c.body-b.ensures ran refl).roomy.room))

pub ctx::enter-returns : goal.ctx::enter-returns
ctx::enter-returns t c =
    let ran = rw (c.within-inside.ensures.parts, c.with_arguments-own.ensures.parts, c.list_place-a.ensures.0) at c.in_ok-inner.ensures in
    rw (c.ended.ensures, c.returned.ensures, c.kept_arguments-back.ensures.parts) (enter_ran c.requires.ready c.requires.enters c.begin_call-counted.ensures c.body-b.ensures ran refl _ (rw (c.used.ensures.0, c.used-2.ensures.0) at c.end_call.ensures) _)

pub ctx::enter-returns-in_err-inner : goal.ctx::enter-returns-in_err-inner
ctx::enter-returns-in_err-inner t c =
    let ran = rw (c.within-inside.ensures.parts, c.with_arguments-own.ensures.parts, c.list_place-a.ensures.0) at c.in_err-inner.ensures in
    rw (exits _ c.from_residual.ensures.1) (enter_refused c.requires.ready c.requires.enters c.begin_call-counted.ensures c.body-b.ensures ran _ refl)

-- ctx::into

pub ctx::into-raise-requires : goal.ctx::into-raise-requires
ctx::into-raise-requires t c =
    let ready = c.requires.ready in
    (omega (arith, ready.placed.level, ready.placed.holds), omega (arith, ready.roomy.room))

pub ctx::into-fed_by-piped-requires : goal.ctx::into-fed_by-piped-requires
ctx::into-fed_by-piped-requires t c = (omega (arith, c.next_stream_place-from.ensures, c.requires.ready.roomy.small), omega (arith, c.requires.into.short))

pub ctx::into-instr-requires : goal.ctx::into-instr-requires
ctx::into-instr-requires t c =
    let raised = c.raise.ensures in
    (omega (arith, c.decreases), (rw (c.fed.ensures.parts, c.fed_by-piped.ensures.parts, c.next_stream_place-from.ensures.0) (ready_fed c.requires.ready c.requires.into.hold raised _ c.requires.into.short), c.requires.into.second))

pub ctx::into-returns : goal.ctx::into-returns
ctx::into-returns t c =
    let raised = c.raise.ensures in
    rw c.unless_failed.ensures (into_ran c.requires.ready c.requires.into raised (rw (c.fed.ensures.parts, c.fed_by-piped.ensures.parts, c.next_stream_place-from.ensures.0) at c.in_ok-second.ensures) refl)

pub ctx::into-returns-in_err-second : goal.ctx::into-returns-in_err-second
ctx::into-returns-in_err-second t c =
    let raised = c.raise.ensures in
    rw (exits _ c.from_residual.ensures.1) (into_refused c.requires.ready c.requires.into raised (rw (c.fed.ensures.parts, c.fed_by-piped.ensures.parts, c.next_stream_place-from.ensures.0) at c.in_err-second.ensures) refl)

-- ctx::nooutput

pub ctx::nooutput-returns-then-no_hold : goal.ctx::nooutput-returns-then-no_hold
ctx::nooutput-returns-then-no_hold t c = rw c.halted.ensures (nooutput-none c.requires.ready c.requires.of_kind (reached c.no_hold.ensures c.if-no_hold.true))

pub ctx::nooutput-part-a-requires : goal.ctx::nooutput-part-a-requires
ctx::nooutput-part-a-requires t c =
    let law = nooutput_law c.requires.ready.loaded _ c.requires.of_kind.known c.requires.of_kind.kind in
    let both = can_read _ 4 c.requires.ready c.requires.of_kind.known (omega arith) (omega (arith, law.2)) in
    record { r_bound = both.0; d_bound = both.1 }

pub ctx::nooutput-silent-requires : goal.ctx::nooutput-silent-requires
ctx::nooutput-silent-requires t c = below c.no_hold.ensures c.if-no_hold.false

pub ctx::nooutput-instr-requires : goal.ctx::nooutput-instr-requires
ctx::nooutput-instr-requires t c =
    let law = nooutput_law c.requires.ready.loaded _ c.requires.of_kind.known c.requires.of_kind.kind in
    (omega arith, (rw c.silent.ensures.parts (ready_silent c.requires.ready (below c.no_hold.ensures c.if-no_hold.false)), rw c.part-a.ensures law.1.1))

pub ctx::nooutput-with_length-quiet-requires : goal.ctx::nooutput-with_length-quiet-requires
ctx::nooutput-with_length-quiet-requires t c = omega (arith, c.written.ensures)

pub ctx::nooutput-returns : goal.ctx::nooutput-returns
ctx::nooutput-returns t c = rw (c.ended.ensures, c.with_length-quiet.ensures.parts, c.written.ensures.0) (nooutput-ran c.requires.ready c.requires.of_kind c.part-a.ensures (below c.no_hold.ensures c.if-no_hold.false) (rw c.silent.ensures.parts at c.in_ok-inner.ensures) refl)

pub ctx::nooutput-returns-in_err-inner : goal.ctx::nooutput-returns-in_err-inner
ctx::nooutput-returns-in_err-inner t c = rw (exits _ c.from_residual.ensures.1) (nooutput-refused c.requires.ready c.requires.of_kind c.part-a.ensures (below c.no_hold.ensures c.if-no_hold.false) (rw c.silent.ensures.parts at c.in_err-inner.ensures) refl)

-- ctx::pipe

pub ctx::pipe-returns-then-no_hold : goal.ctx::pipe-returns-then-no_hold
ctx::pipe-returns-then-no_hold t c = rw c.halted.ensures (pipe-none c.requires.ready c.requires.of_kind (reached c.no_hold.ensures c.if-no_hold.true))

pub ctx::pipe-part-a-requires : goal.ctx::pipe-part-a-requires
ctx::pipe-part-a-requires t c =
    let law = pipe_law c.requires.ready.loaded _ c.requires.of_kind.known c.requires.of_kind.kind in
    let both = can_read _ 4 c.requires.ready c.requires.of_kind.known (omega arith) (omega (arith, law.3)) in
    record { r_bound = both.0; d_bound = both.1 }

pub ctx::pipe-part-b-requires : goal.ctx::pipe-part-b-requires
ctx::pipe-part-b-requires t c =
    let law = pipe_law c.requires.ready.loaded _ c.requires.of_kind.known c.requires.of_kind.kind in
    let both = can_read _ 6 c.requires.ready c.requires.of_kind.known (omega arith) (omega (arith, law.3)) in
    record { r_bound = both.0; d_bound = both.1 }

pub ctx::pipe-raise-requires : goal.ctx::pipe-raise-requires
ctx::pipe-raise-requires t c =
    let ready = c.requires.ready in
    (omega (arith, ready.placed.level, ready.placed.holds), omega (arith, ready.roomy.room))

pub ctx::pipe-caught-requires : goal.ctx::pipe-caught-requires
ctx::pipe-caught-requires t c =
    let placed = c.requires.ready.placed in
    (below c.no_hold.ensures c.if-no_hold.false, omega (arith, placed.level, placed.holds), omega (arith, placed.streams, placed.holds))

pub ctx::pipe-instr-requires : goal.ctx::pipe-instr-requires
ctx::pipe-instr-requires t c =
    let law = pipe_law c.requires.ready.loaded _ c.requires.of_kind.known c.requires.of_kind.kind in
    let raised = c.raise.ensures in
    (rw c.with_length-fresh.ensures.parts (omega (arith, c.decreases)), (rw (c.caught.ensures.parts, c.with_length-fresh.ensures.parts) (ready_caught c.requires.ready (below c.no_hold.ensures c.if-no_hold.false) raised), rw c.part-a.ensures law.1.1))

pub ctx::pipe-returns-then-is_failure : goal.ctx::pipe-returns-then-is_failure
ctx::pipe-returns-then-is_failure t c =
    let raised = c.raise.ensures in
    rw (c.ended.ensures, c.resumed-late.ensures.parts, c.kept_arguments-back.ensures.parts) (pipe-failed c.requires.ready c.requires.of_kind c.part-a.ensures c.part-b.ensures (below c.no_hold.ensures c.if-no_hold.false) raised (rw (c.caught.ensures.parts, c.with_length-fresh.ensures.parts) at c.in_ok-first.ensures) refl (sym c.is_failure.ensures ∙ c.if-is_failure.true))

pub ctx::pipe-into-requires : goal.ctx::pipe-into-requires
ctx::pipe-into-requires t c =
    let law = pipe_law c.requires.ready.loaded _ c.requires.of_kind.known c.requires.of_kind.kind in
    let raised = c.raise.ensures in
    let ran = rw (c.caught.ensures.parts, c.with_length-fresh.ensures.parts) at c.in_ok-first.ensures in
    let up = grew ran refl in
    (rw c.resumed-late.ensures.parts (omega (arith, up, c.decreases)), (rw (c.resumed-late.ensures.parts, c.kept_arguments-back.ensures.parts) (pipe-between c.requires.ready c.requires.of_kind c.part-a.ensures c.part-b.ensures (below c.no_hold.ensures c.if-no_hold.false) raised ran refl), rw c.written-n.ensures.0 (pipe_into c.requires.ready c.requires.of_kind c.part-a.ensures c.part-b.ensures (below c.no_hold.ensures c.if-no_hold.false) raised ran refl law.2.1)))

pub ctx::pipe-returns : goal.ctx::pipe-returns
ctx::pipe-returns t c =
    let raised = c.raise.ensures in
    pipe-ran c.requires.ready c.requires.of_kind c.part-a.ensures c.part-b.ensures (below c.no_hold.ensures c.if-no_hold.false) raised (rw (c.caught.ensures.parts, c.with_length-fresh.ensures.parts) at c.in_ok-first.ensures) refl _ (sym c.is_failure.ensures ∙ c.if-is_failure.false) (rw (c.resumed-late.ensures.parts, c.kept_arguments-back.ensures.parts, c.written-n.ensures.0) at c.into.ensures)

pub ctx::pipe-returns-in_err-first : goal.ctx::pipe-returns-in_err-first
ctx::pipe-returns-in_err-first t c =
    let raised = c.raise.ensures in
    rw (exits _ c.from_residual.ensures.1) (pipe-refused c.requires.ready c.requires.of_kind c.part-a.ensures c.part-b.ensures (below c.no_hold.ensures c.if-no_hold.false) raised (rw (c.caught.ensures.parts, c.with_length-fresh.ensures.parts) at c.in_err-first.ensures) refl)

-- ctx::subshell

pub ctx::subshell-returns-then-no_hold : goal.ctx::subshell-returns-then-no_hold
ctx::subshell-returns-then-no_hold t c = rw c.halted.ensures (subshell-none c.requires.ready c.requires.of_kind (reached c.no_hold.ensures c.if-no_hold.true))

pub ctx::subshell-part-a-requires : goal.ctx::subshell-part-a-requires
ctx::subshell-part-a-requires t c =
    let law = subshell_law c.requires.ready.loaded _ c.requires.of_kind.known c.requires.of_kind.kind in
    let both = can_read _ 4 c.requires.ready c.requires.of_kind.known (omega arith) (omega (arith, law.2)) in
    record { r_bound = both.0; d_bound = both.1 }

pub ctx::subshell-raise-requires : goal.ctx::subshell-raise-requires
ctx::subshell-raise-requires t c =
    let ready = c.requires.ready in
    (omega (arith, ready.placed.level, ready.placed.holds), omega (arith, ready.roomy.room))

pub ctx::subshell-apart-requires : goal.ctx::subshell-apart-requires
ctx::subshell-apart-requires t c =
    let placed = c.requires.ready.placed in
    (below c.no_hold.ensures c.if-no_hold.false, omega (arith, placed.level, placed.holds))

pub ctx::subshell-instr-requires : goal.ctx::subshell-instr-requires
ctx::subshell-instr-requires t c =
    let law = subshell_law c.requires.ready.loaded _ c.requires.of_kind.known c.requires.of_kind.kind in
    let raised = c.raise.ensures in
    (omega arith, (rw c.apart.ensures.parts (ready_apart c.requires.ready (below c.no_hold.ensures c.if-no_hold.false) raised), rw c.part-a.ensures law.1.1))

pub ctx::subshell-returns : goal.ctx::subshell-returns
ctx::subshell-returns t c =
    let raised = c.raise.ensures in
    rw (c.unless_failed.ensures, c.kept_arguments-back.ensures.parts) (subshell-ran c.requires.ready c.requires.of_kind c.part-a.ensures (below c.no_hold.ensures c.if-no_hold.false) raised (rw c.apart.ensures.parts at c.in_ok-inner.ensures) refl)

pub ctx::subshell-returns-in_err-inner : goal.ctx::subshell-returns-in_err-inner
ctx::subshell-returns-in_err-inner t c =
    let raised = c.raise.ensures in
    rw (exits _ c.from_residual.ensures.1) (subshell-refused c.requires.ready c.requires.of_kind c.part-a.ensures (below c.no_hold.ensures c.if-no_hold.false) raised (rw c.apart.ensures.parts at c.in_err-inner.ensures) refl)

-- ctx::walk

pub ctx::walk-mark-x-requires : goal.ctx::walk-mark-x-requires
ctx::walk-mark-x-requires t c =
    let law = for_law c.requires.ready.loaded _ c.requires.of_kind.known c.requires.of_kind.kind in
    (can_read _ 6 c.requires.ready c.requires.of_kind.known (omega arith) (omega (arith, law.4))).0

pub ctx::walk-part-l-requires : goal.ctx::walk-part-l-requires
ctx::walk-part-l-requires t c =
    let law = for_law c.requires.ready.loaded _ c.requires.of_kind.known c.requires.of_kind.kind in
    let both = can_read _ 6 c.requires.ready c.requires.of_kind.known (omega arith) (omega (arith, law.4)) in
    record { r_bound = both.0; d_bound = both.1 }

pub ctx::walk-part-b-requires : goal.ctx::walk-part-b-requires
ctx::walk-part-b-requires t c =
    let law = for_law c.requires.ready.loaded _ c.requires.of_kind.known c.requires.of_kind.kind in
    let both = can_read _ 8 c.requires.ready c.requires.of_kind.known (omega arith) (omega (arith, law.4)) in
    record { r_bound = both.0; d_bound = both.1 }

pub ctx::walk-list-fields-requires : goal.ctx::walk-list-fields-requires
ctx::walk-list-fields-requires t c =
    let law = for_law c.requires.ready.loaded _ c.requires.of_kind.known c.requires.of_kind.kind in
    (omega arith, (c.requires.ready, (rw c.part-l.ensures law.2.1, omega arith)))

pub ctx::walk-returns-then-no_hold : goal.ctx::walk-returns-then-no_hold
ctx::walk-returns-then-no_hold t c = rw c.halted.ensures (for-full c.requires.ready c.requires.of_kind c.mark-x.ensures c.part-l.ensures c.part-b.ensures c.list-fields.ensures (ap as_listing (reads c.list-fields.result c.args.feed c.in_ok-m.ensures (ap Ok c.in-Value.is))) (reached c.no_hold.ensures c.if-no_hold.true))

pub ctx::walk-each-requires : goal.ctx::walk-each-requires
ctx::walk-each-requires t c =
    let up = listed_grew c.list-fields.ensures (ap as_listing (reads c.list-fields.result c.args.feed c.in_ok-m.ensures (ap Ok c.in-Value.is))) in
    (omega (arith, up, c.decreases), (for_ready c.requires.ready c.requires.of_kind c.mark-x.ensures c.part-l.ensures c.part-b.ensures c.list-fields.ensures (ap as_listing (reads c.list-fields.result c.args.feed c.in_ok-m.ensures (ap Ok c.in-Value.is))), for_asks c.requires.ready c.requires.of_kind c.mark-x.ensures c.part-l.ensures c.part-b.ensures c.list-fields.ensures (ap as_listing (reads c.list-fields.result c.args.feed c.in_ok-m.ensures (ap Ok c.in-Value.is))) (below c.no_hold.ensures c.if-no_hold.false)))

pub ctx::walk-returns-else-no_hold : goal.ctx::walk-returns-else-no_hold
ctx::walk-returns-else-no_hold t c = for-run c.requires.ready c.requires.of_kind c.mark-x.ensures c.part-l.ensures c.part-b.ensures c.list-fields.ensures _ (ap as_listing (reads c.list-fields.result c.args.feed c.in_ok-m.ensures (ap Ok c.in-Value.is))) (below c.no_hold.ensures c.if-no_hold.false) c.each.ensures

pub ctx::walk-returns-in-Error : goal.ctx::walk-returns-in-Error
ctx::walk-returns-in-Error t c = rw c.ended.ensures (for-error c.requires.ready c.requires.of_kind c.mark-x.ensures c.part-l.ensures c.part-b.ensures c.list-fields.ensures (ap as_listing (reads c.list-fields.result c.args.feed c.in_ok-m.ensures (ap Ok c.in-Error.is))))

pub ctx::walk-returns-in_err-m : goal.ctx::walk-returns-in_err-m
ctx::walk-returns-in_err-m t c = rw (exits _ c.from_residual.ensures.1) (for-refused c.requires.ready c.requires.of_kind c.mark-x.ensures c.part-l.ensures c.part-b.ensures c.list-fields.ensures (ap as_listing (sym c.in_err-m.ensures)))

-- instr

pub instr-returns-then-spent : goal.instr-returns-then-spent
instr-returns-then-spent t c = rw c.halted.ensures (instr_used_up c.requires.ready c.requires.instruction (reached c.spent.ensures c.if-spent.true))

pub instr-stepped-p-requires : goal.instr-stepped-p-requires
instr-stepped-p-requires t c = step_room c.args.lent.now.limits (below c.spent.ensures c.if-spent.false)

pub instr-kind-k-requires : goal.instr-kind-k-requires
instr-kind-k-requires t c =
    let both = can_read_kind _ (ready_stepped c.requires.ready c.charge.ensures (below c.spent.ensures c.if-spent.false) (paced (feed_of c.args.feed) c.stepped-p.ensures.parts)) c.requires.instruction.0 in
    record { r_bound = both.0; r_in_bounds = both.1 }

pub instr-assign-requires : goal.instr-assign-requires
instr-assign-requires t c = (fewer _ _ _ _ c.decreases (step-used (course_of c.args.pace c.args.feed) (paced (feed_of c.args.feed) c.stepped-p.ensures.parts)) (below c.spent.ensures c.if-spent.false), ((ready_stepped c.requires.ready c.charge.ensures (below c.spent.ensures c.if-spent.false) (paced (feed_of c.args.feed) c.stepped-p.ensures.parts)), this_kind 16 c.requires.instruction c.kind-k.ensures c.in-16.is))

pub instr-export-requires : goal.instr-export-requires
instr-export-requires t c = record { ready = (ready_stepped c.requires.ready c.charge.ensures (below c.spent.ensures c.if-spent.false) (paced (feed_of c.args.feed) c.stepped-p.ensures.parts)); of_kind = this_kind 17 c.requires.instruction c.kind-k.ensures c.in-17.is }

pub instr-sequence-requires : goal.instr-sequence-requires
instr-sequence-requires t c = (fewer _ _ _ _ c.decreases (step-used (course_of c.args.pace c.args.feed) (paced (feed_of c.args.feed) c.stepped-p.ensures.parts)) (below c.spent.ensures c.if-spent.false), ((ready_stepped c.requires.ready c.charge.ensures (below c.spent.ensures c.if-spent.false) (paced (feed_of c.args.feed) c.stepped-p.ensures.parts)), this_kind 18 c.requires.instruction c.kind-k.ensures c.in-18.is))

pub instr-subshell-requires : goal.instr-subshell-requires
instr-subshell-requires t c = (fewer _ _ _ _ c.decreases (step-used (course_of c.args.pace c.args.feed) (paced (feed_of c.args.feed) c.stepped-p.ensures.parts)) (below c.spent.ensures c.if-spent.false), ((ready_stepped c.requires.ready c.charge.ensures (below c.spent.ensures c.if-spent.false) (paced (feed_of c.args.feed) c.stepped-p.ensures.parts)), this_kind 19 c.requires.instruction c.kind-k.ensures c.in-19.is))

pub instr-negate-requires : goal.instr-negate-requires
instr-negate-requires t c = (fewer _ _ _ _ c.decreases (step-used (course_of c.args.pace c.args.feed) (paced (feed_of c.args.feed) c.stepped-p.ensures.parts)) (below c.spent.ensures c.if-spent.false), ((ready_stepped c.requires.ready c.charge.ensures (below c.spent.ensures c.if-spent.false) (paced (feed_of c.args.feed) c.stepped-p.ensures.parts)), this_kind 20 c.requires.instruction c.kind-k.ensures c.in-20.is))

pub instr-branch-lent-requires : goal.instr-branch-lent-requires
instr-branch-lent-requires t c = (fewer _ _ _ _ c.decreases (step-used (course_of c.args.pace c.args.feed) (paced (feed_of c.args.feed) c.stepped-p.ensures.parts)) (below c.spent.ensures c.if-spent.false), ((ready_stepped c.requires.ready c.charge.ensures (below c.spent.ensures c.if-spent.false) (paced (feed_of c.args.feed) c.stepped-p.ensures.parts)), this_kind 21 c.requires.instruction c.kind-k.ensures c.in-21.is))

pub instr-nooutput-requires : goal.instr-nooutput-requires
instr-nooutput-requires t c = (fewer _ _ _ _ c.decreases (step-used (course_of c.args.pace c.args.feed) (paced (feed_of c.args.feed) c.stepped-p.ensures.parts)) (below c.spent.ensures c.if-spent.false), ((ready_stepped c.requires.ready c.charge.ensures (below c.spent.ensures c.if-spent.false) (paced (feed_of c.args.feed) c.stepped-p.ensures.parts)), this_kind 22 c.requires.instruction c.kind-k.ensures c.in-22.is))

pub instr-pipe-requires : goal.instr-pipe-requires
instr-pipe-requires t c = (fewer _ _ _ _ c.decreases (step-used (course_of c.args.pace c.args.feed) (paced (feed_of c.args.feed) c.stepped-p.ensures.parts)) (below c.spent.ensures c.if-spent.false), ((ready_stepped c.requires.ready c.charge.ensures (below c.spent.ensures c.if-spent.false) (paced (feed_of c.args.feed) c.stepped-p.ensures.parts)), this_kind 23 c.requires.instruction c.kind-k.ensures c.in-23.is))

pub instr-utility-requires : goal.instr-utility-requires
instr-utility-requires t c = (fewer _ _ _ _ c.decreases (step-used (course_of c.args.pace c.args.feed) (paced (feed_of c.args.feed) c.stepped-p.ensures.parts)) (below c.spent.ensures c.if-spent.false), ((ready_stepped c.requires.ready c.charge.ensures (below c.spent.ensures c.if-spent.false) (paced (feed_of c.args.feed) c.stepped-p.ensures.parts)), this_kind 24 c.requires.instruction c.kind-k.ensures c.in-24.is))

pub instr-call-requires : goal.instr-call-requires
instr-call-requires t c = (fewer _ _ _ _ c.decreases (step-used (course_of c.args.pace c.args.feed) (paced (feed_of c.args.feed) c.stepped-p.ensures.parts)) (below c.spent.ensures c.if-spent.false), ((ready_stepped c.requires.ready c.charge.ensures (below c.spent.ensures c.if-spent.false) (paced (feed_of c.args.feed) c.stepped-p.ensures.parts)), this_kind 25 c.requires.instruction c.kind-k.ensures c.in-25.is))

pub instr-walk-requires : goal.instr-walk-requires
instr-walk-requires t c = (fewer _ _ _ _ c.decreases (step-used (course_of c.args.pace c.args.feed) (paced (feed_of c.args.feed) c.stepped-p.ensures.parts)) (below c.spent.ensures c.if-spent.false), ((ready_stepped c.requires.ready c.charge.ensures (below c.spent.ensures c.if-spent.false) (paced (feed_of c.args.feed) c.stepped-p.ensures.parts)), this_kind 26 c.requires.instruction c.kind-k.ensures c.in-26.is))

pub instr-repeat-requires : goal.instr-repeat-requires
instr-repeat-requires t c = (fewer _ _ _ _ c.decreases (step-used (course_of c.args.pace c.args.feed) (paced (feed_of c.args.feed) c.stepped-p.ensures.parts)) (below c.spent.ensures c.if-spent.false), ((ready_stepped c.requires.ready c.charge.ensures (below c.spent.ensures c.if-spent.false) (paced (feed_of c.args.feed) c.stepped-p.ensures.parts)), this_kind 27 c.requires.instruction c.kind-k.ensures c.in-27.is))

pub instr-leave-requires : goal.instr-leave-requires
instr-leave-requires t c = record { ready = (ready_stepped c.requires.ready c.charge.ensures (below c.spent.ensures c.if-spent.false) (paced (feed_of c.args.feed) c.stepped-p.ensures.parts)); leaves = inl (this_kind 28 c.requires.instruction c.kind-k.ensures c.in-28.is, refl) }

pub instr-leave-requires-in-29 : goal.instr-leave-requires-in-29
instr-leave-requires-in-29 t c = record { ready = (ready_stepped c.requires.ready c.charge.ensures (below c.spent.ensures c.if-spent.false) (paced (feed_of c.args.feed) c.stepped-p.ensures.parts)); leaves = inr (this_kind 29 c.requires.instruction c.kind-k.ensures c.in-29.is, refl) }

pub instr-shift-requires : goal.instr-shift-requires
instr-shift-requires t c = record { ready = (ready_stepped c.requires.ready c.charge.ensures (below c.spent.ensures c.if-spent.false) (paced (feed_of c.args.feed) c.stepped-p.ensures.parts)); of_kind = this_kind 30 c.requires.instruction c.kind-k.ensures c.in-30.is }

pub instr-returns-in-16 : goal.instr-returns-in-16
instr-returns-in-16 t c = instr_done c.requires.ready c.requires.instruction _ c.charge.ensures (below c.spent.ensures c.if-spent.false) (paced (feed_of c.args.feed) c.stepped-p.ensures.parts) c.assign.ensures

pub instr-returns-in-17 : goal.instr-returns-in-17
instr-returns-in-17 t c = instr_done c.requires.ready c.requires.instruction _ c.charge.ensures (below c.spent.ensures c.if-spent.false) (paced (feed_of c.args.feed) c.stepped-p.ensures.parts) c.export.ensures

pub instr-returns-in-18 : goal.instr-returns-in-18
instr-returns-in-18 t c = instr_done c.requires.ready c.requires.instruction _ c.charge.ensures (below c.spent.ensures c.if-spent.false) (paced (feed_of c.args.feed) c.stepped-p.ensures.parts) c.sequence.ensures

pub instr-returns-in-19 : goal.instr-returns-in-19
instr-returns-in-19 t c = instr_done c.requires.ready c.requires.instruction _ c.charge.ensures (below c.spent.ensures c.if-spent.false) (paced (feed_of c.args.feed) c.stepped-p.ensures.parts) c.subshell.ensures

pub instr-returns-in-20 : goal.instr-returns-in-20
instr-returns-in-20 t c = instr_done c.requires.ready c.requires.instruction _ c.charge.ensures (below c.spent.ensures c.if-spent.false) (paced (feed_of c.args.feed) c.stepped-p.ensures.parts) c.negate.ensures

pub instr-returns-in-21 : goal.instr-returns-in-21
instr-returns-in-21 t c = instr_done c.requires.ready c.requires.instruction _ c.charge.ensures (below c.spent.ensures c.if-spent.false) (paced (feed_of c.args.feed) c.stepped-p.ensures.parts) c.branch-lent.ensures

pub instr-returns-in-22 : goal.instr-returns-in-22
instr-returns-in-22 t c = instr_done c.requires.ready c.requires.instruction _ c.charge.ensures (below c.spent.ensures c.if-spent.false) (paced (feed_of c.args.feed) c.stepped-p.ensures.parts) c.nooutput.ensures

pub instr-returns-in-23 : goal.instr-returns-in-23
instr-returns-in-23 t c = instr_done c.requires.ready c.requires.instruction _ c.charge.ensures (below c.spent.ensures c.if-spent.false) (paced (feed_of c.args.feed) c.stepped-p.ensures.parts) c.pipe.ensures

pub instr-returns-in-24 : goal.instr-returns-in-24
instr-returns-in-24 t c = instr_done c.requires.ready c.requires.instruction _ c.charge.ensures (below c.spent.ensures c.if-spent.false) (paced (feed_of c.args.feed) c.stepped-p.ensures.parts) c.utility.ensures

pub instr-returns-in-25 : goal.instr-returns-in-25
instr-returns-in-25 t c = instr_done c.requires.ready c.requires.instruction _ c.charge.ensures (below c.spent.ensures c.if-spent.false) (paced (feed_of c.args.feed) c.stepped-p.ensures.parts) c.call.ensures

pub instr-returns-in-26 : goal.instr-returns-in-26
instr-returns-in-26 t c = instr_done c.requires.ready c.requires.instruction _ c.charge.ensures (below c.spent.ensures c.if-spent.false) (paced (feed_of c.args.feed) c.stepped-p.ensures.parts) c.walk.ensures

pub instr-returns-in-27 : goal.instr-returns-in-27
instr-returns-in-27 t c = instr_done c.requires.ready c.requires.instruction _ c.charge.ensures (below c.spent.ensures c.if-spent.false) (paced (feed_of c.args.feed) c.stepped-p.ensures.parts) c.repeat.ensures

pub instr-returns-in-28 : goal.instr-returns-in-28
instr-returns-in-28 t c = instr_done c.requires.ready c.requires.instruction _ c.charge.ensures (below c.spent.ensures c.if-spent.false) (paced (feed_of c.args.feed) c.stepped-p.ensures.parts) c.leave.ensures

pub instr-returns-in-29 : goal.instr-returns-in-29
instr-returns-in-29 t c = instr_done c.requires.ready c.requires.instruction _ c.charge.ensures (below c.spent.ensures c.if-spent.false) (paced (feed_of c.args.feed) c.stepped-p.ensures.parts) c.leave-in-29.ensures

pub instr-returns-in-30 : goal.instr-returns-in-30
instr-returns-in-30 t c = instr_done c.requires.ready c.requires.instruction _ c.charge.ensures (below c.spent.ensures c.if-spent.false) (paced (feed_of c.args.feed) c.stepped-p.ensures.parts) c.shift.ensures

pub instr-returns-in_default : goal.instr-returns-in_default
instr-returns-in_default t c =
    let kinds = instruction-kinds (ready_stepped c.requires.ready c.charge.ensures (below c.spent.ensures c.if-spent.false) (paced (feed_of c.args.feed) c.stepped-p.ensures.parts)).loaded _ c.requires.instruction in
    absurd (omega (arith, c.kind-k.ensures, kinds))

-- lst::field

pub lst::field-part-s-requires : goal.lst::field-part-s-requires
lst::field-part-s-requires t c =
    let law = field_law c.requires.ready.loaded _ c.requires.of_kind.0.known c.requires.of_kind.0.kind in
    let both = can_read _ 4 c.requires.ready c.requires.of_kind.0.known (omega arith) (omega (arith, law.3)) in
    record { r_bound = both.0; d_bound = both.1 }

pub lst::field-part-next-requires : goal.lst::field-part-next-requires
lst::field-part-next-requires t c =
    let law = field_law c.requires.ready.loaded _ c.requires.of_kind.0.known c.requires.of_kind.0.kind in
    let both = can_read _ 6 c.requires.ready c.requires.of_kind.0.known (omega arith) (omega (arith, law.3)) in
    record { r_bound = both.0; d_bound = both.1 }

pub lst::field-string-text-requires : goal.lst::field-string-text-requires
lst::field-string-text-requires t c =
    let law = field_law c.requires.ready.loaded _ c.requires.of_kind.0.known c.requires.of_kind.0.kind in
    (omega arith, (c.requires.ready, (rw c.part-s.ensures law.1.1, omega arith)))

pub lst::field-list_place-a-requires : goal.lst::field-list_place-a-requires
lst::field-list_place-a-requires t c = omega (arith, c.requires.ready.placed.holds)

pub lst::field-string_place-from-requires : goal.lst::field-string_place-from-requires
lst::field-string_place-from-requires t c = c.requires.ready.placed.holds

pub lst::field-field-requires : goal.lst::field-field-requires
lst::field-field-requires t c =
    let one = has_value c.string-text.ensures (reads c.string-text.result c.args.feed (c.in-Ok.ensures) (ap Ok c.in-Value.is)) in
    let size = one.came.kept.size in
    let up = string_up c.args.lent.now.unit.bytes {h = 0} {h' = (scope_of c.args.scope).holds} (omega arith) in
    (c.requires.of_kind.1, one.short, omega (arith, up, c.list_place-a.ensures, c.string_place-from.ensures), omega (arith, one.short, c.string_place-from.ensures, size, c.requires.ready.roomy.room))

pub lst::field-list-requires : goal.lst::field-list-requires
lst::field-list-requires t c =
    let law = field_law c.requires.ready.loaded _ c.requires.of_kind.0.known c.requires.of_kind.0.kind in
    let starts = field-starts c.requires.ready c.part-s.ensures c.part-next.ensures c.requires.of_kind.0 in
    let grown = field-grown (given c.args.lent.now) (scope_of c.args.scope) _ c.requires.ready.placed.holds c.list_place-a.ensures.0 c.string_place-from.ensures.0 c.in-Some.is c.field.ensures in
    let up = (has_value c.string-text.ensures (reads c.string-text.result c.args.feed (c.in-Ok.ensures) (ap Ok c.in-Value.is))).came.onward.used in
    (omega (arith, up, c.decreases), (ready_added _ _ _ _ starts c.requires.ready c.string-text.ensures (reads c.string-text.result c.args.feed (c.in-Ok.ensures) (ap Ok c.in-Value.is)) c.requires.of_kind.1 grown, (rw c.part-next.ensures law.2.1, grown.few)))

pub lst::field-refused-requires : goal.lst::field-refused-requires
lst::field-refused-requires t c = omega (arith, in_sheet c.requires.ready c.requires.of_kind.0.known)

pub lst::field-returns-in-Some : goal.lst::field-returns-in-Some
lst::field-returns-in-Some t c =
    let starts = field-starts c.requires.ready c.part-s.ensures c.part-next.ensures c.requires.of_kind.0 in
    let grown = field-grown (given c.args.lent.now) (scope_of c.args.scope) _ c.requires.ready.placed.holds c.list_place-a.ensures.0 c.string_place-from.ensures.0 c.in-Some.is c.field.ensures in
    rw (sym (worded_after c.string-text.result c.list.result c.args.feed c.in-Value.q (reads c.string-text.result c.args.feed (c.in-Ok.ensures) (ap Ok c.in-Value.is)))) (fields-more _ _ _ _ starts c.requires.ready c.string-text.ensures (reads c.string-text.result c.args.feed (c.in-Ok.ensures) (ap Ok c.in-Value.is)) c.requires.of_kind.1 grown _ c.list.ensures)

pub lst::field-returns-in-None : goal.lst::field-returns-in-None
lst::field-returns-in-None t c =
    let starts = field-starts c.requires.ready c.part-s.ensures c.part-next.ensures c.requires.of_kind.0 in
    let many = field-many (given c.args.lent.now) (scope_of c.args.scope) _ c.requires.ready.placed.holds c.list_place-a.ensures.0 c.string_place-from.ensures.0 c.in-None.is c.field.ensures in
    rw (sym (c.refused.ensures (feed_of c.args.feed))) (fields-many _ _ _ _ starts c.requires.ready c.string-text.ensures (reads c.string-text.result c.args.feed (c.in-Ok.ensures) (ap Ok c.in-Value.is)) c.requires.of_kind.0.known c.requires.of_kind.1 many)

pub lst::field-returns-in_default : goal.lst::field-returns-in_default
lst::field-returns-in_default t c =
    let z = reads c.string-text.result c.args.feed c.opened.ensures c.in_default.is in
    rw z (string-refused _ _ _ _ (field-starts c.requires.ready c.part-s.ensures c.part-next.ensures c.requires.of_kind.0) c.requires.ready c.string-text.ensures _ z)

pub lst::field-returns-in_default-made : goal.lst::field-returns-in_default-made
lst::field-returns-in_default-made t c =
    let z = reads c.string-text.result c.args.feed c.in-Ok.ensures (ap Ok c.in_default-made.is) in
    rw z (string-error _ _ _ _ (field-starts c.requires.ready c.part-s.ensures c.part-next.ensures c.requires.of_kind.0) c.requires.ready c.string-text.ensures _ z)

-- lst::list

pub lst::list-refused-requires : goal.lst::list-refused-requires
lst::list-refused-requires t c = omega (arith, in_sheet c.requires.ready c.requires.list_of.0.0)

pub lst::list-returns-then-spent : goal.lst::list-returns-then-spent
lst::list-returns-then-spent t c = rw (sym (c.refused.ensures (feed_of c.args.feed))) (list_used_up c.requires.ready _ _ (c.requires.list_of.0) (reached c.spent.ensures c.if-spent.true))

pub lst::list-stepped-p-requires : goal.lst::list-stepped-p-requires
lst::list-stepped-p-requires t c = step_room c.args.lent.now.limits (below c.spent.ensures c.if-spent.false)

pub lst::list-kind-k-requires : goal.lst::list-kind-k-requires
lst::list-kind-k-requires t c =
    let both = can_read_kind _ (ready_stepped c.requires.ready c.charge.ensures (below c.spent.ensures c.if-spent.false) (paced (feed_of c.args.feed) c.stepped-p.ensures.parts)) c.requires.list_of.0.0 in
    record { r_bound = both.0; r_in_bounds = both.1 }

pub lst::list-value-requires : goal.lst::list-value-requires
lst::list-value-requires t c = (omega (arith, c.requires.list_of.1), c.rest.ensures.1)

pub lst::list-field-requires : goal.lst::list-field-requires
lst::list-field-requires t c =
    let ready = (ready_stepped c.requires.ready c.charge.ensures (below c.spent.ensures c.if-spent.false) (paced (feed_of c.args.feed) c.stepped-p.ensures.parts)) in
    (fewer _ _ _ _ c.decreases (step-used (course_of c.args.pace c.args.feed) (paced (feed_of c.args.feed) c.stepped-p.ensures.parts)) (below c.spent.ensures c.if-spent.false), (ready, (record { known = c.requires.list_of.0.0; kind = omega (arith, c.kind-k.ensures, c.in-7.is) }, c.requires.list_of.1)))

pub lst::list-split-requires : goal.lst::list-split-requires
lst::list-split-requires t c =
    let ready = (ready_stepped c.requires.ready c.charge.ensures (below c.spent.ensures c.if-spent.false) (paced (feed_of c.args.feed) c.stepped-p.ensures.parts)) in
    (fewer _ _ _ _ c.decreases (step-used (course_of c.args.pace c.args.feed) (paced (feed_of c.args.feed) c.stepped-p.ensures.parts)) (below c.spent.ensures c.if-spent.false), (ready, (record { known = c.requires.list_of.0.0; kind = omega (arith, c.kind-k.ensures, c.in-8.is) }, c.requires.list_of.1)))

pub lst::list-refused-requires-in_default : goal.lst::list-refused-requires-in_default
lst::list-refused-requires-in_default t c = omega (arith, in_sheet c.requires.ready c.requires.list_of.0.0)

pub lst::list-returns-in-6 : goal.lst::list-returns-in-6
lst::list-returns-in-6 t c =
    let ready = (ready_stepped c.requires.ready c.charge.ensures (below c.spent.ensures c.if-spent.false) (paced (feed_of c.args.feed) c.stepped-p.ensures.parts)) in
    rw (sym (says_value c.value.result c.args.feed c.stepped-p.result c.value.ensures c.rest.ensures.0)) (list-begun c.requires.ready c.charge.ensures (below c.spent.ensures c.if-spent.false) (paced (feed_of c.args.feed) c.stepped-p.ensures.parts) _ _ _ c.requires.list_of.0 (empty-ruled ready (record { known = c.requires.list_of.0.0; kind = omega (arith, c.kind-k.ensures, c.in-6.is) }) c.requires.list_of.1))

pub lst::list-returns-in-7 : goal.lst::list-returns-in-7
lst::list-returns-in-7 t c = list-begun c.requires.ready c.charge.ensures (below c.spent.ensures c.if-spent.false) (paced (feed_of c.args.feed) c.stepped-p.ensures.parts) _ _ _ c.requires.list_of.0 c.field.ensures

pub lst::list-returns-in-8 : goal.lst::list-returns-in-8
lst::list-returns-in-8 t c = list-begun c.requires.ready c.charge.ensures (below c.spent.ensures c.if-spent.false) (paced (feed_of c.args.feed) c.stepped-p.ensures.parts) _ _ _ c.requires.list_of.0 c.split.ensures

pub lst::list-returns-in_default : goal.lst::list-returns-in_default
lst::list-returns-in_default t c =
    let kinds = list-kinds (ready_stepped c.requires.ready c.charge.ensures (below c.spent.ensures c.if-spent.false) (paced (feed_of c.args.feed) c.stepped-p.ensures.parts)).loaded _ c.requires.list_of.0 in
    absurd (omega (arith, c.kind-k.ensures, kinds))

-- lst::split

pub lst::split-part-s-requires : goal.lst::split-part-s-requires
lst::split-part-s-requires t c =
    let law = split_law c.requires.ready.loaded _ c.requires.of_kind.0.known c.requires.of_kind.0.kind in
    let both = can_read _ 4 c.requires.ready c.requires.of_kind.0.known (omega arith) (omega (arith, law.3)) in
    record { r_bound = both.0; d_bound = both.1 }

pub lst::split-part-next-requires : goal.lst::split-part-next-requires
lst::split-part-next-requires t c =
    let law = split_law c.requires.ready.loaded _ c.requires.of_kind.0.known c.requires.of_kind.0.kind in
    let both = can_read _ 6 c.requires.ready c.requires.of_kind.0.known (omega arith) (omega (arith, law.3)) in
    record { r_bound = both.0; d_bound = both.1 }

pub lst::split-string-text-requires : goal.lst::split-string-text-requires
lst::split-string-text-requires t c =
    let law = split_law c.requires.ready.loaded _ c.requires.of_kind.0.known c.requires.of_kind.0.kind in
    (omega arith, (c.requires.ready, (rw c.part-s.ensures law.1.1, omega arith)))

pub lst::split-list_place-a-requires : goal.lst::split-list_place-a-requires
lst::split-list_place-a-requires t c = omega (arith, c.requires.ready.placed.holds)

pub lst::split-string_place-from-requires : goal.lst::split-string_place-from-requires
lst::split-string_place-from-requires t c = c.requires.ready.placed.holds

pub lst::split-overflow_add-from : goal.lst::split-overflow_add-from
lst::split-overflow_add-from t c =
    let one = has_value c.string-text.ensures (reads c.string-text.result c.args.feed (c.in-Ok.ensures) (ap Ok c.in-Value.is)) in
    omega (arith, one.short, c.string_place-from.ensures, one.came.kept.size, c.requires.ready.roomy.room, c.requires.ready.roomy.small)

pub lst::split-split-requires : goal.lst::split-split-requires
lst::split-split-requires t c =
    let one = has_value c.string-text.ensures (reads c.string-text.result c.args.feed (c.in-Ok.ensures) (ap Ok c.in-Value.is)) in
    let size = one.came.kept.size in
    let up = string_up c.args.lent.now.unit.bytes {h = 0} {h' = (scope_of c.args.scope).holds} (omega arith) in
    (omega arith, omega (arith, one.short), omega (arith, one.short, c.string_place-from.ensures, size, c.requires.ready.roomy.room), omega (arith, up, c.list_place-a.ensures, c.string_place-from.ensures), c.requires.of_kind.1)

pub lst::split-list-requires : goal.lst::split-list-requires
lst::split-list-requires t c =
    let law = split_law c.requires.ready.loaded _ c.requires.of_kind.0.known c.requires.of_kind.0.kind in
    let starts = split-starts c.requires.ready c.part-s.ensures c.part-next.ensures c.requires.of_kind.0 in
    let grown = split-grown (given c.args.lent.now) (scope_of c.args.scope) _ c.requires.ready.placed.holds c.list_place-a.ensures.0 c.string_place-from.ensures.0 c.in-Some.is c.split.ensures in
    let up = (has_value c.string-text.ensures (reads c.string-text.result c.args.feed (c.in-Ok.ensures) (ap Ok c.in-Value.is))).came.onward.used in
    (omega (arith, up, c.decreases), (ready_added _ _ _ _ starts c.requires.ready c.string-text.ensures (reads c.string-text.result c.args.feed (c.in-Ok.ensures) (ap Ok c.in-Value.is)) c.requires.of_kind.1 grown, (rw c.part-next.ensures law.2.1, grown.few)))

pub lst::split-refused-requires : goal.lst::split-refused-requires
lst::split-refused-requires t c = omega (arith, in_sheet c.requires.ready c.requires.of_kind.0.known)

pub lst::split-returns-in-Some : goal.lst::split-returns-in-Some
lst::split-returns-in-Some t c =
    let starts = split-starts c.requires.ready c.part-s.ensures c.part-next.ensures c.requires.of_kind.0 in
    let grown = split-grown (given c.args.lent.now) (scope_of c.args.scope) _ c.requires.ready.placed.holds c.list_place-a.ensures.0 c.string_place-from.ensures.0 c.in-Some.is c.split.ensures in
    rw (sym (worded_after c.string-text.result c.list.result c.args.feed c.in-Value.q (reads c.string-text.result c.args.feed (c.in-Ok.ensures) (ap Ok c.in-Value.is)))) (fields-more _ _ _ _ starts c.requires.ready c.string-text.ensures (reads c.string-text.result c.args.feed (c.in-Ok.ensures) (ap Ok c.in-Value.is)) c.requires.of_kind.1 grown _ c.list.ensures)

pub lst::split-returns-in-None : goal.lst::split-returns-in-None
lst::split-returns-in-None t c =
    let starts = split-starts c.requires.ready c.part-s.ensures c.part-next.ensures c.requires.of_kind.0 in
    let many = split-many (given c.args.lent.now) (scope_of c.args.scope) _ c.requires.ready.placed.holds c.list_place-a.ensures.0 c.string_place-from.ensures.0 c.in-None.is c.split.ensures in
    rw (sym (c.refused.ensures (feed_of c.args.feed))) (fields-many _ _ _ _ starts c.requires.ready c.string-text.ensures (reads c.string-text.result c.args.feed (c.in-Ok.ensures) (ap Ok c.in-Value.is)) c.requires.of_kind.0.known c.requires.of_kind.1 many)

pub lst::split-returns-in_default : goal.lst::split-returns-in_default
lst::split-returns-in_default t c =
    let z = reads c.string-text.result c.args.feed c.opened.ensures c.in_default.is in
    rw z (string-refused _ _ _ _ (split-starts c.requires.ready c.part-s.ensures c.part-next.ensures c.requires.of_kind.0) c.requires.ready c.string-text.ensures _ z)

pub lst::split-returns-in_default-made : goal.lst::split-returns-in_default-made
lst::split-returns-in_default-made t c =
    let z = reads c.string-text.result c.args.feed c.in-Ok.ensures (ap Ok c.in_default-made.is) in
    rw z (string-error _ _ _ _ (split-starts c.requires.ready c.part-s.ensures c.part-next.ensures c.requires.of_kind.0) c.requires.ready c.string-text.ensures _ z)

-- negate

pub negate-part-a-requires : goal.negate-part-a-requires
negate-part-a-requires t c =
    let law = not_law c.requires.ready.loaded _ c.requires.of_kind.known c.requires.of_kind.kind in
    let both = can_read _ 4 c.requires.ready c.requires.of_kind.known (omega arith) (omega (arith, law.2)) in
    record { r_bound = both.0; d_bound = both.1 }

pub negate-instr-requires : goal.negate-instr-requires
negate-instr-requires t c =
    let law = not_law c.requires.ready.loaded _ c.requires.of_kind.known c.requires.of_kind.kind in
    (omega arith, (rw c.tested.ensures.parts (ready_tested c.requires.ready), rw c.part-a.ensures law.1.1))

pub negate-returns : goal.negate-returns
negate-returns t c = rw (c.ended.ensures, c.with_result-turned.ensures.parts, c.result.ensures) (not-run c.requires.ready c.requires.of_kind c.part-a.ensures c.tested.ensures.parts c.in_ok-body.ensures refl (sym c.is_normal.ensures ∙ c.if-not-is_normal.false) refl)

pub negate-returns-then-not-is_normal : goal.negate-returns-then-not-is_normal
negate-returns-then-not-is_normal t c = not-other c.requires.ready c.requires.of_kind c.part-a.ensures c.tested.ensures.parts c.in_ok-body.ensures refl (sym c.is_normal.ensures ∙ c.if-not-is_normal.true)

pub negate-returns-in_err-body : goal.negate-returns-in_err-body
negate-returns-in_err-body t c = rw (exits _ c.from_residual.ensures.1) (not-refused c.requires.ready c.requires.of_kind c.part-a.ensures c.tested.ensures.parts c.in_err-body.ensures refl)

-- repeat

pub repeat-part-a-requires : goal.repeat-part-a-requires
repeat-part-a-requires t c =
    let law = while_law c.requires.ready.loaded _ c.requires.of_kind.known c.requires.of_kind.kind in
    let both = can_read _ 4 c.requires.ready c.requires.of_kind.known (omega arith) (omega (arith, law.3)) in
    record { r_bound = both.0; d_bound = both.1 }

pub repeat-part-b-requires : goal.repeat-part-b-requires
repeat-part-b-requires t c =
    let law = while_law c.requires.ready.loaded _ c.requires.of_kind.known c.requires.of_kind.kind in
    let both = can_read _ 6 c.requires.ready c.requires.of_kind.known (omega arith) (omega (arith, law.3)) in
    record { r_bound = both.0; d_bound = both.1 }

pub repeat-loop-test-init : goal.repeat-loop-test-init
repeat-loop-test-init t c = turned_none c.requires.ready c.requires.of_kind c.part-a.ensures c.part-b.ensures c.loops-left.ensures.0

pub repeat-instr-requires : goal.repeat-instr-requires
repeat-instr-requires t c =
    let law = while_law c.requires.ready.loaded _ c.requires.of_kind.known c.requires.of_kind.kind in
    (omega (arith, c.decreases, c.loop-test.invariant.onward.used), (rw c.tested.ensures.parts (ready_tested (turned_ready c.requires.ready c.loop-test.invariant)), rw c.part-a.ensures law.1.1))

pub repeat-returns-then-not-is_normal : goal.repeat-returns-then-not-is_normal
repeat-returns-then-not-is_normal t c = turn_stopped c.requires.ready c.loop-test.invariant c.tested.ensures.parts c.in_ok-test.ensures (sym c.is_normal.ensures ∙ c.if-not-is_normal.true)

pub repeat-loop_over-requires : goal.repeat-loop_over-requires
repeat-loop_over-requires t c = tt

pub repeat-returns-then-not-runs_body : goal.repeat-returns-then-not-runs_body
repeat-returns-then-not-runs_body t c = rw c.loop_over.ensures (turn_over c.requires.ready c.loop-test.invariant c.tested.ensures.parts c.in_ok-test.ensures (normal_end _ (sym c.is_normal.ensures ∙ c.if-not-is_normal.false)) (sym c.runs_body.ensures ∙ c.if-not-runs_body.true))

pub repeat-instr-requires-in-loop-test : goal.repeat-instr-requires-in-loop-test
repeat-instr-requires-in-loop-test t c =
    let law = while_law c.requires.ready.loaded _ c.requires.of_kind.known c.requires.of_kind.kind in
    let up = grew c.in_ok-test.ensures refl in
    (omega (arith, up, c.decreases, c.loop-test.invariant.onward.used), (ready_after (turned_ready c.requires.ready c.loop-test.invariant) c.in_ok-test.ensures (normal_end _ (sym c.is_normal.ensures ∙ c.if-not-is_normal.false)), rw c.part-b.ensures law.2.1))

pub repeat-returns-then-not-is_normal-2 : goal.repeat-returns-then-not-is_normal-2
repeat-returns-then-not-is_normal-2 t c = body_stopped c.requires.ready c.loop-test.invariant c.tested.ensures.parts c.in_ok-test.ensures (normal_end _ (sym c.is_normal.ensures ∙ c.if-not-is_normal.false)) (sym c.runs_body.ensures ∙ c.if-not-runs_body.false) c.in_ok-body.ensures (sym c.is_normal-in-loop-test.ensures ∙ c.if-not-is_normal-2.true)

pub repeat-overflow_sub-left : goal.repeat-overflow_sub-left
repeat-overflow_sub-left t c = omega (arith, some_left (pace_of c.in_ok-test.test.pace).result c.loop-test.left (sym c.runs_body.ensures ∙ c.if-not-runs_body.false))

pub repeat-loop-test-smaller : goal.repeat-loop-test-smaller
repeat-loop-test-smaller t c = omega (arith, some_left (pace_of c.in_ok-test.test.pace).result c.loop-test.left (sym c.runs_body.ensures ∙ c.if-not-runs_body.false))

pub repeat-loop-test-preserved : goal.repeat-loop-test-preserved
repeat-loop-test-preserved t c = rw c.result-flag.ensures (turned_more c.requires.ready c.loop-test.invariant c.tested.ensures.parts c.in_ok-test.ensures (normal_end _ (sym c.is_normal.ensures ∙ c.if-not-is_normal.false)) (sym c.runs_body.ensures ∙ c.if-not-runs_body.false) c.in_ok-body.ensures (normal_end _ (sym c.is_normal-in-loop-test.ensures ∙ c.if-not-is_normal-2.false)))

pub repeat-returns-in_err-test : goal.repeat-returns-in_err-test
repeat-returns-in_err-test t c = rw (exits _ c.from_residual.ensures.1) (turn_stopped c.requires.ready c.loop-test.invariant c.tested.ensures.parts c.in_err-test.ensures refl)

pub repeat-returns-in_err-body : goal.repeat-returns-in_err-body
repeat-returns-in_err-body t c = rw (exits _ c.from_residual-in_err-body.ensures.1) (body_stopped c.requires.ready c.loop-test.invariant c.tested.ensures.parts c.in_ok-test.ensures (normal_end _ (sym c.is_normal.ensures ∙ c.if-not-is_normal.false)) (sym c.runs_body.ensures ∙ c.if-not-runs_body.false) c.in_err-body.ensures refl)

-- sequence

pub sequence-part-a-requires : goal.sequence-part-a-requires
sequence-part-a-requires t c =
    let law = sequence_law c.requires.ready.loaded _ c.requires.of_kind.known c.requires.of_kind.kind in
    let both = can_read _ 4 c.requires.ready c.requires.of_kind.known (omega arith) (omega (arith, law.3)) in
    record { r_bound = both.0; d_bound = both.1 }

pub sequence-part-b-requires : goal.sequence-part-b-requires
sequence-part-b-requires t c =
    let law = sequence_law c.requires.ready.loaded _ c.requires.of_kind.known c.requires.of_kind.kind in
    let both = can_read _ 6 c.requires.ready c.requires.of_kind.known (omega arith) (omega (arith, law.3)) in
    record { r_bound = both.0; d_bound = both.1 }

pub sequence-instr-requires : goal.sequence-instr-requires
sequence-instr-requires t c =
    let law = sequence_law c.requires.ready.loaded _ c.requires.of_kind.known c.requires.of_kind.kind in
    (omega arith, (c.requires.ready, rw c.part-a.ensures law.1.1))

pub sequence-instr-requires-2 : goal.sequence-instr-requires-2
sequence-instr-requires-2 t c =
    let law = sequence_law c.requires.ready.loaded _ c.requires.of_kind.known c.requires.of_kind.kind in
    let up = grew c.in_ok-first.ensures refl in
    (omega (arith, up, c.decreases), (ready_after c.requires.ready c.in_ok-first.ensures refl, rw c.part-b.ensures law.2.1))

pub sequence-returns : goal.sequence-returns
sequence-returns t c = sequence-run c.requires.ready c.requires.of_kind c.part-a.ensures c.part-b.ensures c.in_ok-first.ensures _ refl (sym c.is_normal.ensures ∙ c.if-not-is_normal.false) c.instr-2.ensures

pub sequence-returns-then-not-is_normal : goal.sequence-returns-then-not-is_normal
sequence-returns-then-not-is_normal t c = sequence-other c.requires.ready c.requires.of_kind c.part-a.ensures c.part-b.ensures c.in_ok-first.ensures refl (sym c.is_normal.ensures ∙ c.if-not-is_normal.true)

pub sequence-returns-in_err-first : goal.sequence-returns-in_err-first
sequence-returns-in_err-first t c = rw (exits _ c.from_residual.ensures.1) (sequence-refused c.requires.ready c.requires.of_kind c.part-a.ensures c.part-b.ensures c.in_err-first.ensures refl)

-- tool::utility

pub tool::utility-part-name-requires : goal.tool::utility-part-name-requires
tool::utility-part-name-requires t c =
    let law = utility_law c.requires.ready.loaded _ c.requires.of_kind.known c.requires.of_kind.kind in
    let both = can_read _ 4 c.requires.ready c.requires.of_kind.known (omega arith) (omega (arith, law.3)) in
    record { r_bound = both.0; d_bound = both.1 }

pub tool::utility-part-l-requires : goal.tool::utility-part-l-requires
tool::utility-part-l-requires t c =
    let law = utility_law c.requires.ready.loaded _ c.requires.of_kind.known c.requires.of_kind.kind in
    let both = can_read _ 6 c.requires.ready c.requires.of_kind.known (omega arith) (omega (arith, law.3)) in
    record { r_bound = both.0; d_bound = both.1 }

pub tool::utility-start-at-requires : goal.tool::utility-start-at-requires
tool::utility-start-at-requires t c = (can_read c.part-name.result 0 c.requires.ready (name-known c.requires.ready c.requires.of_kind c.part-name.ensures c.part-l.ensures) (omega arith) (omega (arith, name-room c.requires.ready c.requires.of_kind c.part-name.ensures c.part-l.ensures refl refl))).0

pub tool::utility-part-requires : goal.tool::utility-part-requires
tool::utility-part-requires t c =
    let both = can_read c.part-name.result 0 c.requires.ready (name-known c.requires.ready c.requires.of_kind c.part-name.ensures c.part-l.ensures) (omega arith) (omega (arith, name-room c.requires.ready c.requires.of_kind c.part-name.ensures c.part-l.ensures refl refl)) in
    record { r_bound = both.0; d_bound = both.1 }

pub tool::utility-overflow_add-end : goal.tool::utility-overflow_add-end
tool::utility-overflow_add-end t c = omega (arith, name-short c.requires.ready c.requires.of_kind c.part-name.ensures c.part-l.ensures c.part.ensures, c.start-at.ensures)

pub tool::utility-slice_bounds-which-end : goal.tool::utility-slice_bounds-which-end
tool::utility-slice_bounds-which-end t c = omega (arith, name-room c.requires.ready c.requires.of_kind c.part-name.ensures c.part-l.ensures c.start-at.ensures.0 c.part.ensures)

pub tool::utility-list-fields-requires : goal.tool::utility-list-fields-requires
tool::utility-list-fields-requires t c =
    let law = utility_law c.requires.ready.loaded _ c.requires.of_kind.known c.requires.of_kind.kind in
    (omega arith, (c.requires.ready, (rw c.part-l.ensures law.2.1, omega arith)))

pub tool::utility-act-requires : goal.tool::utility-act-requires
tool::utility-act-requires t c = acts_after c.requires.ready c.requires.of_kind c.part-name.ensures c.part-l.ensures c.list-fields.ensures (ap as_listing (reads c.list-fields.result c.args.feed c.in_ok-m.ensures (ap Ok c.in-Value.is)))

pub tool::utility-returns-in-Value : goal.tool::utility-returns-in-Value
tool::utility-returns-in-Value t c =
    let named = c.which-tool.ensures ∙ ap utility_of (name-read _ _ _ c.start-at.ensures.0 c.part.ensures) in
    utility-run c.requires.ready c.requires.of_kind c.part-name.ensures c.part-l.ensures c.list-fields.ensures c.which-tool.result _ (ap as_listing (reads c.list-fields.result c.args.feed c.in_ok-m.ensures (ap Ok c.in-Value.is))) named c.act.ensures

pub tool::utility-returns-in-Error : goal.tool::utility-returns-in-Error
tool::utility-returns-in-Error t c = rw c.ended.ensures (utility-error c.requires.ready c.requires.of_kind c.part-name.ensures c.part-l.ensures c.list-fields.ensures (ap as_listing (reads c.list-fields.result c.args.feed c.in_ok-m.ensures (ap Ok c.in-Error.is))))

pub tool::utility-returns-in_err-m : goal.tool::utility-returns-in_err-m
tool::utility-returns-in_err-m t c = rw (exits _ c.from_residual.ensures.1) (utility-refused c.requires.ready c.requires.of_kind c.part-name.ensures c.part-l.ensures c.list-fields.ensures (ap as_listing (sym c.in_err-m.ensures)))

-- txt::embed

pub txt::embed-refused-requires : goal.txt::embed-refused-requires
txt::embed-refused-requires t c = omega (arith, in_sheet c.requires.ready c.requires.of_kind.0.known)

pub txt::embed-returns-then-no_hold : goal.txt::embed-returns-then-no_hold
txt::embed-returns-then-no_hold t c = rw (sym (c.refused.ensures (feed_of c.args.feed))) (embedded-none _ c.requires.ready c.requires.of_kind.0 _ (reached c.no_hold.ensures c.if-no_hold.true))

pub txt::embed-part-b-requires : goal.txt::embed-part-b-requires
txt::embed-part-b-requires t c =
    let law = embedded_law c.requires.ready.loaded _ c.requires.of_kind.0.known c.requires.of_kind.0.kind in
    let both = can_read _ 4 c.requires.ready c.requires.of_kind.0.known (omega arith) (omega (arith, law.2)) in
    record { r_bound = both.0; d_bound = both.1 }

pub txt::embed-raise-requires : goal.txt::embed-raise-requires
txt::embed-raise-requires t c =
    let ready = c.requires.ready in
    (omega (arith, ready.placed.level, ready.placed.holds), omega (arith, ready.roomy.room))

pub txt::embed-caught-requires : goal.txt::embed-caught-requires
txt::embed-caught-requires t c =
    let placed = c.requires.ready.placed in
    (below c.no_hold.ensures c.if-no_hold.false, omega (arith, placed.level, placed.holds), omega (arith, placed.streams, placed.holds))

pub txt::embed-instr-requires : goal.txt::embed-instr-requires
txt::embed-instr-requires t c =
    let law = embedded_law c.requires.ready.loaded _ c.requires.of_kind.0.known c.requires.of_kind.0.kind in
    let raised = c.raise.ensures in
    let ready = ready_caught c.requires.ready (below c.no_hold.ensures c.if-no_hold.false) raised in
    let up : (pace_of c.with_length-fresh.result).used ≡ (pace_of c.args.pace).used = ap (λ (k : Pace). k.used) c.with_length-fresh.ensures.parts in
    (omega (arith, up, c.decreases), (rw (c.caught.ensures.parts, c.with_length-fresh.ensures.parts) ready, rw c.part-b.ensures law.1.1))

pub txt::embed-error-requires : goal.txt::embed-error-requires
txt::embed-error-requires t c = c.rest-left.ensures.1

pub txt::embed-returns-then-is_failure : goal.txt::embed-returns-then-is_failure
txt::embed-returns-then-is_failure t c =
    let raised = c.raise.ensures in
    let from = (has_ended c.in-Ok.ensures refl).onward.from in
    rw (sym (says_back_error c.error.result c.args.feed c.args.pace _ _ c.resumed-late.result c.resumed-late.ensures.parts c.rest-left.ensures.0 from c.error.ensures))
    (embedded-error _ c.requires.ready c.requires.of_kind.0 c.part-b.ensures (below c.no_hold.ensures c.if-no_hold.false) raised (rw (c.caught.ensures.parts, c.with_length-fresh.ensures.parts) at c.in-Ok.ensures) refl _ c.requires.of_kind.1 (sym c.is_failure.ensures ∙ c.if-is_failure.true))

pub txt::embed-caught_length-m-requires : goal.txt::embed-caught_length-m-requires
txt::embed-caught_length-m-requires t c =
    let raised = c.raise.ensures in
    let ran = rw (c.caught.ensures.parts, c.with_length-fresh.ensures.parts) at c.in-Ok.ensures in
    let ready = ready_back c.args.flag c.requires.ready c.requires.of_kind.0 c.part-b.ensures (below c.no_hold.ensures c.if-no_hold.false) raised ran refl in
    let short = stream-short c.args.flag c.requires.ready c.requires.of_kind.0 c.part-b.ensures (below c.no_hold.ensures c.if-no_hold.false) raised ran refl in
    let free : (scope_of c.args.scope).holds < 10 = below c.no_hold.ensures c.if-no_hold.false in
    (omega (arith, free, c.requires.ready.placed.streams), omega (arith, c.written-all.ensures, short), omega (arith, ready.roomy.room))

pub txt::embed-append_caught-requires : goal.txt::embed-append_caught-requires
txt::embed-append_caught-requires t c =
    let raised = c.raise.ensures in
    let ran = rw (c.caught.ensures.parts, c.with_length-fresh.ensures.parts) at c.in-Ok.ensures in
    let ready = ready_back c.args.flag c.requires.ready c.requires.of_kind.0 c.part-b.ensures (below c.no_hold.ensures c.if-no_hold.false) raised ran refl in
    let short = stream-short c.args.flag c.requires.ready c.requires.of_kind.0 c.part-b.ensures (below c.no_hold.ensures c.if-no_hold.false) raised ran refl in
    let free : (scope_of c.args.scope).holds < 10 = below c.no_hold.ensures c.if-no_hold.false in
    record { u_nonzero = (c.requires.ready.placed.holds, omega (arith, free, c.requires.ready.placed.streams)); n_le_u = (c.requires.of_kind.1, omega (arith, c.caught_length-m.ensures.fits, c.written-all.ensures, short), omega (arith, ready.roomy.room)) }

pub txt::embed-made_string-requires : goal.txt::embed-made_string-requires
txt::embed-made_string-requires t c = (in_sheet c.requires.ready c.requires.of_kind.0.known, c.rest-left.ensures.1)

pub txt::embed-refused-requires-in-Err : goal.txt::embed-refused-requires-in-Err
txt::embed-refused-requires-in-Err t c = omega (arith, (was_refused c.in-Err.ensures refl).known)

pub txt::embed-returns : goal.txt::embed-returns
txt::embed-returns t c =
    let raised = c.raise.ensures in
    let from = (has_ended c.in-Ok.ensures refl).onward.from in
    embedded-made _ c.requires.ready c.requires.of_kind.0 c.part-b.ensures (below c.no_hold.ensures c.if-no_hold.false) raised (rw (c.caught.ensures.parts, c.with_length-fresh.ensures.parts) at c.in-Ok.ensures) refl (rw c.written-all.ensures.0 at c.caught_length-m.ensures) c.requires.of_kind.1 (sym c.is_failure.ensures ∙ c.if-is_failure.false) refl refl c.append_caught.ensures
    (λ h. says_back_value c.made_string.result c.args.feed c.args.pace _ _ c.resumed-late.result c.resumed-late.ensures.parts c.rest-left.ensures.0 from (c.made_string.ensures.0 h) c.result.ensures)
    (λ h. c.made_string.ensures.1 h (feed_of c.args.feed))

pub txt::embed-returns-in-Err : goal.txt::embed-returns-in-Err
txt::embed-returns-in-Err t c =
    let raised = c.raise.ensures in
    rw (sym (c.refused-in-Err.ensures (feed_of c.args.feed))) (embedded-refused _ c.requires.ready c.requires.of_kind.0 c.part-b.ensures (below c.no_hold.ensures c.if-no_hold.false) raised (rw (c.caught.ensures.parts, c.with_length-fresh.ensures.parts) at c.in-Err.ensures) _ refl)

-- txt::join

pub txt::join-part-a-requires : goal.txt::join-part-a-requires
txt::join-part-a-requires t c =
    let law = join_law c.requires.ready.loaded _ c.requires.of_kind.0.known c.requires.of_kind.0.kind in
    let both = can_read _ 4 c.requires.ready c.requires.of_kind.0.known (omega arith) (omega (arith, law.3)) in
    record { r_bound = both.0; d_bound = both.1 }

pub txt::join-part-b-requires : goal.txt::join-part-b-requires
txt::join-part-b-requires t c =
    let law = join_law c.requires.ready.loaded _ c.requires.of_kind.0.known c.requires.of_kind.0.kind in
    let both = can_read _ 6 c.requires.ready c.requires.of_kind.0.known (omega arith) (omega (arith, law.3)) in
    record { r_bound = both.0; d_bound = both.1 }

pub txt::join-string-left-requires : goal.txt::join-string-left-requires
txt::join-string-left-requires t c =
    let law = join_law c.requires.ready.loaded _ c.requires.of_kind.0.known c.requires.of_kind.0.kind in
    (omega arith, (c.requires.ready, (rw c.part-a.ensures law.1.1, c.requires.of_kind.1)))

pub txt::join-string-right-requires : goal.txt::join-string-right-requires
txt::join-string-right-requires t c =
    let law = join_law c.requires.ready.loaded _ c.requires.of_kind.0.known c.requires.of_kind.0.kind in
    let m = has_value c.string-left.ensures (reads c.string-left.result c.args.feed c.in-Ok.ensures (ap Ok c.in-Value.is)) in
    let up = m.came.onward.used in
    (omega (arith, up, c.decreases), (ready_kept c.requires.ready m.came.kept.tables m.came.kept.size m.came.onward, (rw c.part-b.ensures law.2.1, omega (arith, c.min-k.ensures))))

pub txt::join-overflow_add-l : goal.txt::join-overflow_add-l
txt::join-overflow_add-l t c =
    let m = has_value c.string-left.ensures (reads c.string-left.result c.args.feed c.in-Ok.ensures (ap Ok c.in-Value.is)) in
    let k = has_value c.string-right.ensures (reads c.string-right.result c.in-Value.q c.in-Ok-opened.ensures (ap Ok c.in-Value-second.is)) in
    omega (arith, m.short, k.short, c.requires.ready.roomy.small)

pub txt::join-made_string-requires : goal.txt::join-made_string-requires
txt::join-made_string-requires t c =
    let m = has_value c.string-left.ensures (reads c.string-left.result c.args.feed c.in-Ok.ensures (ap Ok c.in-Value.is)) in
    let ready = ready_kept c.requires.ready m.came.kept.tables m.came.kept.size m.came.onward in
    (in_sheet c.requires.ready c.requires.of_kind.0.known, c.rest.ensures.1)

pub txt::join-returns : goal.txt::join-returns
txt::join-returns t c = join-made _ c.requires.ready c.requires.of_kind.0 c.part-a.ensures c.part-b.ensures c.string-left.ensures (reads c.string-left.result c.args.feed c.in-Ok.ensures (ap Ok c.in-Value.is)) c.min-k.ensures c.string-right.ensures (reads c.string-right.result c.in-Value.q c.in-Ok-opened.ensures (ap Ok c.in-Value-second.is)) (λ h. says_value c.made_string.result c.in-Value-second.f c.in-Value-second.s (c.made_string.ensures.0 h) c.rest.ensures.0 ∙ worded_after c.string-right.result c.made_string.result c.in-Value.q c.in-Value-second.f (reads c.string-right.result c.in-Value.q c.in-Ok-opened.ensures (ap Ok c.in-Value-second.is)) ∙ worded_after c.string-left.result c.made_string.result c.args.feed c.in-Value.q (reads c.string-left.result c.args.feed c.in-Ok.ensures (ap Ok c.in-Value.is))) (λ h. c.made_string.ensures.1 h (feed_of c.args.feed))

pub txt::join-returns-in_default : goal.txt::join-returns-in_default
txt::join-returns-in_default t c = join_left_refused _ c.requires.ready c.requires.of_kind.0 c.part-a.ensures c.part-b.ensures c.string-left.ensures (reads c.string-left.result c.args.feed c.opened.ensures c.in_default.is)

pub txt::join-returns-in_default-opened : goal.txt::join-returns-in_default-opened
txt::join-returns-in_default-opened t c = rw (sym (worded_after c.string-left.result c.string-right.result c.args.feed c.in-Value.q (reads c.string-left.result c.args.feed c.in-Ok.ensures (ap Ok c.in-Value.is)))) (join_right_refused _ c.requires.ready c.requires.of_kind.0 c.part-a.ensures c.part-b.ensures c.string-left.ensures (reads c.string-left.result c.args.feed c.in-Ok.ensures (ap Ok c.in-Value.is)) c.min-k.ensures c.string-right.ensures (reads c.string-right.result c.in-Value.q c.opened-2.ensures c.in_default-opened.is))

pub txt::join-returns-in_default-first : goal.txt::join-returns-in_default-first
txt::join-returns-in_default-first t c = join_left_error _ c.requires.ready c.requires.of_kind.0 c.part-a.ensures c.part-b.ensures c.string-left.ensures (reads c.string-left.result c.args.feed c.in-Ok.ensures (ap Ok c.in_default-first.is))

pub txt::join-returns-in_default-second : goal.txt::join-returns-in_default-second
txt::join-returns-in_default-second t c = rw (sym (worded_after c.string-left.result c.string-right.result c.args.feed c.in-Value.q (reads c.string-left.result c.args.feed c.in-Ok.ensures (ap Ok c.in-Value.is)))) (join_right_error _ c.requires.ready c.requires.of_kind.0 c.part-a.ensures c.part-b.ensures c.string-left.ensures (reads c.string-left.result c.args.feed c.in-Ok.ensures (ap Ok c.in-Value.is)) c.min-k.ensures c.string-right.ensures (reads c.string-right.result c.in-Value.q c.in-Ok-opened.ensures (ap Ok c.in_default-second.is)))

-- txt::string

pub txt::string-refused-requires : goal.txt::string-refused-requires
txt::string-refused-requires t c = omega (arith, in_sheet c.requires.ready c.requires.string.0.0)

pub txt::string-returns-then-spent : goal.txt::string-returns-then-spent
txt::string-returns-then-spent t c = rw (sym (c.refused.ensures (feed_of c.args.feed))) (string_used_up c.requires.ready _ _ _ (c.requires.string.0) (reached c.spent.ensures c.if-spent.true))

pub txt::string-stepped-p-requires : goal.txt::string-stepped-p-requires
txt::string-stepped-p-requires t c = step_room c.args.lent.now.limits (below c.spent.ensures c.if-spent.false)

pub txt::string-kind-k-requires : goal.txt::string-kind-k-requires
txt::string-kind-k-requires t c =
    let both = can_read_kind _ (ready_stepped c.requires.ready c.charge.ensures (below c.spent.ensures c.if-spent.false) (paced (feed_of c.args.feed) c.stepped-p.ensures.parts)) c.requires.string.0.0 in
    record { r_bound = both.0; r_in_bounds = both.1 }

pub txt::string-text-requires : goal.txt::string-text-requires
txt::string-text-requires t c = record { ready = (ready_stepped c.requires.ready c.charge.ensures (below c.spent.ensures c.if-spent.false) (paced (feed_of c.args.feed) c.stepped-p.ensures.parts)); of_kind = (record { known = c.requires.string.0.0; kind = omega (arith, c.kind-k.ensures, c.in-1.is) }, c.requires.string.1) }

pub txt::string-variable-requires : goal.txt::string-variable-requires
txt::string-variable-requires t c = record { ready = (ready_stepped c.requires.ready c.charge.ensures (below c.spent.ensures c.if-spent.false) (paced (feed_of c.args.feed) c.stepped-p.ensures.parts)); of_kind = (record { known = c.requires.string.0.0; kind = omega (arith, c.kind-k.ensures, c.in-2.is) }, c.requires.string.1) }

pub txt::string-argument-requires : goal.txt::string-argument-requires
txt::string-argument-requires t c = record { ready = (ready_stepped c.requires.ready c.charge.ensures (below c.spent.ensures c.if-spent.false) (paced (feed_of c.args.feed) c.stepped-p.ensures.parts)); of_kind = (record { known = c.requires.string.0.0; kind = omega (arith, c.kind-k.ensures, c.in-3.is) }, c.requires.string.1) }

pub txt::string-embed-requires : goal.txt::string-embed-requires
txt::string-embed-requires t c =
    let ready = (ready_stepped c.requires.ready c.charge.ensures (below c.spent.ensures c.if-spent.false) (paced (feed_of c.args.feed) c.stepped-p.ensures.parts)) in
    (fewer _ _ _ _ c.decreases (step-used (course_of c.args.pace c.args.feed) (paced (feed_of c.args.feed) c.stepped-p.ensures.parts)) (below c.spent.ensures c.if-spent.false), (ready, (record { known = c.requires.string.0.0; kind = omega (arith, c.kind-k.ensures, c.in-4.is) }, c.requires.string.1)))

pub txt::string-join-requires : goal.txt::string-join-requires
txt::string-join-requires t c =
    let ready = (ready_stepped c.requires.ready c.charge.ensures (below c.spent.ensures c.if-spent.false) (paced (feed_of c.args.feed) c.stepped-p.ensures.parts)) in
    (fewer _ _ _ _ c.decreases (step-used (course_of c.args.pace c.args.feed) (paced (feed_of c.args.feed) c.stepped-p.ensures.parts)) (below c.spent.ensures c.if-spent.false), (ready, (record { known = c.requires.string.0.0; kind = omega (arith, c.kind-k.ensures, c.in-5.is) }, c.requires.string.1)))

pub txt::string-refused-requires-in_default : goal.txt::string-refused-requires-in_default
txt::string-refused-requires-in_default t c = omega (arith, in_sheet c.requires.ready c.requires.string.0.0)

pub txt::string-returns-in-1 : goal.txt::string-returns-in-1
txt::string-returns-in-1 t c = string-begun c.requires.ready c.charge.ensures (below c.spent.ensures c.if-spent.false) (paced (feed_of c.args.feed) c.stepped-p.ensures.parts) _ _ _ _ c.requires.string.0 c.text.ensures

pub txt::string-returns-in-2 : goal.txt::string-returns-in-2
txt::string-returns-in-2 t c = string-begun c.requires.ready c.charge.ensures (below c.spent.ensures c.if-spent.false) (paced (feed_of c.args.feed) c.stepped-p.ensures.parts) _ _ _ _ c.requires.string.0 c.variable.ensures

pub txt::string-returns-in-3 : goal.txt::string-returns-in-3
txt::string-returns-in-3 t c = string-begun c.requires.ready c.charge.ensures (below c.spent.ensures c.if-spent.false) (paced (feed_of c.args.feed) c.stepped-p.ensures.parts) _ _ _ _ c.requires.string.0 c.argument.ensures

pub txt::string-returns-in-4 : goal.txt::string-returns-in-4
txt::string-returns-in-4 t c = string-begun c.requires.ready c.charge.ensures (below c.spent.ensures c.if-spent.false) (paced (feed_of c.args.feed) c.stepped-p.ensures.parts) _ _ _ _ c.requires.string.0 c.embed.ensures

pub txt::string-returns-in-5 : goal.txt::string-returns-in-5
txt::string-returns-in-5 t c = string-begun c.requires.ready c.charge.ensures (below c.spent.ensures c.if-spent.false) (paced (feed_of c.args.feed) c.stepped-p.ensures.parts) _ _ _ _ c.requires.string.0 c.join.ensures

pub txt::string-returns-in_default : goal.txt::string-returns-in_default
txt::string-returns-in_default t c =
    let kinds = string-kinds (ready_stepped c.requires.ready c.charge.ensures (below c.spent.ensures c.if-spent.false) (paced (feed_of c.args.feed) c.stepped-p.ensures.parts)).loaded _ c.requires.string.0 in
    absurd (omega (arith, c.kind-k.ensures, kinds))
