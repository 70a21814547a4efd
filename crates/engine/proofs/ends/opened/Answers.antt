use native.Mathlib.Omega.{arith}
use mathlib.Core.Path.{ap, ◌∙◌}
use Rattle.engine.specs.Ends.{refusal_of}
use Rattle.engine.proofs.Saying.{opens_value, opens_error, opens_refused}
use Rattle.engine.proofs.ends.opened.Goals as goal

pub returns-then-k-ge2 : goal.returns-then-k-ge2
returns-then-k-ge2 c = opens_refused _ c.args.feed (omega (arith, c.kind-k.ensures)) (c.refusal.ensures ∙ ap refusal_of c.size.ensures.0) c.rest.ensures.0

pub returns-then-k-eq1 : goal.returns-then-k-eq1
returns-then-k-eq1 c = opens_error _ _ _ _ (omega (arith, c.kind-k.ensures, c.if-k-eq1.true)) c.pace.ensures.parts c.with_rest-left.ensures.parts c.rest-2.ensures.0

pub returns : goal.returns
returns c = opens_value _ _ _ _ (omega (arith, c.if-k-ge2.false, c.if-k-eq1.false, c.kind-k.ensures)) c.size-2.ensures.0 c.flag.ensures c.pace-2.ensures.parts c.with_rest-left.ensures.parts c.rest-2.ensures.0
