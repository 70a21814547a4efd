use native.Mathlib.Omega.{arith}
use Rattle.text.proofs.Ends.{wrote_then, wrote_end, number_ends, fitted}
use Rattle.profile.specs.Lines.{end_line}
use Rattle.profile.specs.Rendered.{end_in}
use Rattle.profile.proofs.lines.end_line.Goals as goal

pub returns : goal.returns
unfolding end_in end_line
returns c =
    rw (← c.number.ensures.0, ← c.behaviour.ensures.word, ← c.truth.ensures.word)
    (fitted
    (wrote_then (wrote_then (wrote_then (wrote_then c.word.ensures c.word-2.ensures) c.word-3.ensures) c.number-2.ensures) c.word-4.ensures)
    (omega (
      arith,
      wrote_end c.word.ensures,
      c.behaviour.ensures.short,
      wrote_end c.word-2.ensures,
      c.truth.ensures.short,
      wrote_end c.word-3.ensures,
      number_ends _ c.number-2.ensures c.number.ensures.1,
      wrote_end c.word-4.ensures,
    )))
