use mathlib.Core.Path.{refl}
use native.Mathlib.Omega.{arith}
use Rattle.std.proofs.lemmas.Result.{err_from_is_err_and}
use Rattle.sheet.proofs.Callees.{body_law}
use Rattle.engine.proofs.Starts.{main_ready, main-refused, ready_ended, main-ended}
use Rattle.engine.proofs.start.evaluate.Goals as goal

pub body-b-requires : goal.body-b-requires
body-b-requires c = (omega arith, omega (arith, c.requires.roomy.room))

pub begin_call-outermost-requires : goal.begin_call-outermost-requires
begin_call-outermost-requires c = (omega arith, omega (arith, c.requires.roomy.room))

pub limits-requires : goal.limits-requires
limits-requires c = (c.requires.loops, c.requires.stack, c.requires.budget, omega (arith, c.requires.roomy.slots))

pub instr-requires : goal.instr-requires
instr-requires c = record { ready = rw (c.limits.ensures.0, c.limits.ensures.1, c.limits.ensures.2, c.limits.ensures.3, c.start_scope.ensures.parts, c.start_pace.ensures.parts, c.start_feed-feed.ensures.parts) (main_ready c.requires c.begin_call-outermost.ensures); instruction = rw c.body-b.ensures (body_law c.requires.loaded 0 (omega arith)) }

pub end_call-requires : goal.end_call-requires
end_call-requires c =
    let ran = rw (c.limits.ensures.0, c.limits.ensures.1, c.limits.ensures.2, c.limits.ensures.3, c.start_scope.ensures.parts, c.start_pace.ensures.parts, c.start_feed-feed.ensures.parts) at c.in_ok-end.ensures in
    (omega arith, omega (arith, (ready_ended c.requires c.begin_call-outermost.ensures c.body-b.ensures ran refl).roomy.room))

pub returns : goal.returns
returns c =
    let ran = rw (c.limits.ensures.0, c.limits.ensures.1, c.limits.ensures.2, c.limits.ensures.3, c.start_scope.ensures.parts, c.start_pace.ensures.parts, c.start_feed-feed.ensures.parts) at c.in_ok-end.ensures in
    rw c.course.ensures (main-ended c.requires c.begin_call-outermost.ensures c.body-b.ensures ran refl _ (rw c.used.ensures.0 at c.end_call.ensures))

pub returns-in_err-end : goal.returns-in_err-end
returns-in_err-end c =
    let p = err_from_is_err_and c.from_residual.result c.from_residual.ensures.1 in
    let ran = rw (c.limits.ensures.0, c.limits.ensures.1, c.limits.ensures.2, c.limits.ensures.3, c.start_scope.ensures.parts, c.start_pace.ensures.parts, c.start_feed-feed.ensures.parts) at c.in_err-end.ensures in
    rw (p.1, p.2) (main-refused c.requires c.begin_call-outermost.ensures c.body-b.ensures ran refl)
