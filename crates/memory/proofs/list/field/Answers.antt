use native.Mathlib.Omega.{arith}
use Rattle.memory.proofs.Stretches.{one-grown}
use Rattle.memory.proofs.list.field.Goals as goal

pub returns : goal.returns
returns c =
    let room = c.requires.0 in
    let other = c.if-i-eq-LIST_FIELDS.false in
    (one-grown (omega (arith, room, other)) c.add_field.ensures, omega (arith, room, other))
