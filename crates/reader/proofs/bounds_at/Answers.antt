use native.Mathlib.Omega.{arith}
use mathlib.Core.Path.{◌∙◌}
use Rattle.reader.proofs.Whole.{no_header, no_payload, all_there}
use Rattle.reader.proofs.bounds_at.Goals as goal

pub returns-in_err-left : goal.returns-in_err-left
returns-in_err-left c = c.from_residual.ensures ∙ no_header _ _ (omega (arith, c.in_err-left.ensures))

pub returns-in_err-room : goal.returns-in_err-room
returns-in_err-room c = c.from_residual-in_err-room.ensures ∙ no_header _ _ (omega (arith, c.in_err-room.ensures, c.in_ok-left.ensures))

pub returns-then-room-size : goal.returns-then-room-size
returns-then-room-size c = no_payload _ _ (omega (arith, c.in_ok-left.ensures, c.in_ok-room.ensures)) (omega (arith, c.in_ok-left.ensures, c.in_ok-room.ensures, c.number_at-size.ensures.0))

pub returns : goal.returns
returns c = all_there _ _ (omega (arith, c.in_ok-left.ensures, c.in_ok-room.ensures)) _ _ c.number_at.ensures.0 c.number_at-size.ensures.0 (omega (arith, c.in_ok-left.ensures, c.in_ok-room.ensures))
