use mathlib.Core.Path.{sym, ◌∙◌}
use Rattle.engine.proofs.Acting.{echo_dropped, echo_wrote, streamed_measured}
use Rattle.engine.proofs.tool.echo.Goals as goal

pub returns-then-dropped : goal.returns-then-dropped
returns-then-dropped c = rw c.settled.ensures (echo_dropped c.requires (sym c.dropped.ensures ∙ c.if-dropped.true))

pub wrote-requires : goal.wrote-requires
wrote-requires c = streamed_measured _ _ _ _ _ _ c.echo-made.ensures

pub returns : goal.returns
returns c = rw c.wrote.ensures (echo_wrote c.requires c.echo-made.result (sym c.dropped.ensures ∙ c.if-dropped.false) (c.stream_place-to.ensures.0) (c.list_place-a.ensures.0) (rw c.written.ensures.0 at c.echo-made.ensures))
