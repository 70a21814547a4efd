use mathlib.Core.Path.{◌≡◌, sym, ◌∙◌}
use native.Mathlib.Omega.{arith}
use Rattle.engine.proofs.Acting.{cat-fields, cat-dropped, cat-piped, cat-stdin, piped-end, piped-apart, copied_measured}
use Rattle.words.specs.Words.{feed_of}
use Prim.Native.Nat.{◌+◌, ◌-◌}
use Rattle.engine.proofs.tool.cat.Goals.{then-piped, else-piped}
use Rattle.engine.proofs.tool.cat.Goals as goal

pub returns-then-m-gt0 : goal.returns-then-m-gt0
returns-then-m-gt0 c = rw c.settled.ensures (cat-fields c.requires c.if-m-gt0.true)

pub returns-then-dropped : goal.returns-then-dropped
returns-then-dropped c = rw (c.settled-then-dropped.ensures, c.emptied-drained.ensures.parts) (cat-dropped c.requires (omega arith) (sym c.dropped.ensures ∙ c.if-dropped.true))

pub stream_within-made-requires : goal.stream_within-made-requires
stream_within-made-requires c = rw (c.written-n.ensures.0, c.from-at.ensures.0, c.rest-size.ensures.0) (c.requires.fits.length, omega (arith, c.stream_place-to.ensures.2, c.requires.roomy.room), piped-end c.requires (sym c.piped.ensures ∙ c.if-piped.true), piped-apart c.requires c.stream_place-to.ensures.0 (sym c.piped.ensures ∙ c.if-piped.true))

pub slice_bounds-stream_in-end : goal.slice_bounds-stream_in-end
slice_bounds-stream_in-end c = omega (arith, c.requires.fits.stdin (sym c.piped.ensures ∙ c.if-piped.false))

pub wrote-requires : goal.wrote-requires
wrote-requires c =
    elim c.if-piped.branch [
      | then-piped w ↦ rw w.made-is (copied_measured _ _ _ _ _ _ w.stream_within-made.ensures)
      | else-piped w ↦ rw w.made-is (copied_measured _ _ _ _ _ _ w.stream_in-made.ensures)
    ]

pub returns : goal.returns
returns c =
    let f = feed_of c.args.feed in
    let rests : (f.from + f.rest) - f.from ≡ f.rest = omega arith in
    rw (c.wrote.ensures, c.emptied-drained.ensures.parts)
    (elim c.if-piped.branch [
      | then-piped w ↦ rw (w.work-is, w.made-is) (cat-piped c.requires w.stream_within-made.result (omega arith) (sym c.dropped.ensures ∙ c.if-dropped.false) c.stream_place-to.ensures.0 (sym c.piped.ensures ∙ w.if-piped.true) (rw (c.written-n.ensures.0, c.from-at.ensures.0, c.rest-size.ensures.0) at w.stream_within-made.ensures))
      | else-piped w ↦ rw (w.work-is, w.made-is) (cat-stdin c.requires w.stream_in-made.result (omega arith) (sym c.dropped.ensures ∙ c.if-dropped.false) c.stream_place-to.ensures.0 (sym c.piped.ensures ∙ w.if-piped.false) rests (rw (c.written-n.ensures.0, c.from-at.ensures.0, c.rest-size.ensures.0) at w.stream_in-made.ensures))
    ])
