use mathlib.Core.Path.{ap}
use native.Mathlib.Omega.{arith}
use Rattle.sheet.proofs.Reading.{shift_law}
use Rattle.words.specs.Words.{Feed, course, pace_of}
use Rattle.engine.proofs.Follows.{can_read}
use Rattle.engine.proofs.LeafRules.{shift_none, shift-some, shift-room}
use Rattle.engine.proofs.leaves.shift.Goals as goal

pub part-n-requires : goal.part-n-requires
part-n-requires c =
    let law = shift_law c.requires.ready.loaded _ c.requires.of_kind.known c.requires.of_kind.kind in
    let both = can_read _ 4 c.requires.ready c.requires.of_kind.known (omega arith) (omega (arith, law.1)) in
    record { r_bound = both.0; d_bound = both.1 }

pub returns-then-n-had : goal.returns-then-n-had
returns-then-n-had c = shift_none c.requires.ready c.requires.of_kind c.part-n.ensures (omega arith) c.settled.ensures

pub overflow_mul-lent : goal.overflow_mul-lent
overflow_mul-lent c = omega (arith, shift-room c.requires.ready c.part-n.result (omega arith))

pub overflow_add-arguments : goal.overflow_add-arguments
overflow_add-arguments c = omega (arith, shift-room c.requires.ready c.part-n.result (omega arith))

pub with_arguments-further-requires : goal.with_arguments-further-requires
with_arguments-further-requires c = (omega (arith, shift-room c.requires.ready c.part-n.result (omega arith)), omega arith)

pub returns : goal.returns
returns c = shift-some c.requires.ready c.requires.of_kind c.part-n.ensures (omega arith) (ap (λ (f : Feed). course (pace_of c.args.pace) f) (rw (c.arguments.ensures.0, c.count-had.ensures.0) at c.with_arguments-further.ensures.parts)) c.settled-2.ensures
