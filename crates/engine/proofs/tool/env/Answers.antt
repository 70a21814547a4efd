use mathlib.Core.Path.{sym, ◌∙◌}
use native.Mathlib.Omega.{arith}
use Rattle.engine.proofs.Acting.{env-fields, env-dropped, env-wrote, streamed_measured}
use Rattle.engine.proofs.tool.env.Goals as goal

pub returns-then-m-gt0 : goal.returns-then-m-gt0
returns-then-m-gt0 c = rw c.settled.ensures (env-fields c.requires c.if-m-gt0.true)

pub returns-then-dropped : goal.returns-then-dropped
returns-then-dropped c = rw c.settled-then-dropped.ensures (env-dropped c.requires (omega arith) (sym c.dropped.ensures ∙ c.if-dropped.true))

pub wrote-requires : goal.wrote-requires
wrote-requires c = streamed_measured _ _ _ _ _ _ c.env-made.ensures

pub returns : goal.returns
returns c = rw c.wrote.ensures (env-wrote c.requires c.env-made.result (omega arith) (sym c.dropped.ensures ∙ c.if-dropped.false) c.stream_place-to.ensures.0 c.variables_place-level.ensures.0 (rw (c.written.ensures.0, c.slots-known.ensures.0) at c.env-made.ensures))
