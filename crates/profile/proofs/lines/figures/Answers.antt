use native.Mathlib.Omega.{arith}
use Rattle.text.proofs.Ends.{wrote_then, wrote_end, field_ends, fitted}
use Rattle.profile.specs.Lines.{figures}
use Rattle.profile.proofs.lines.figures.Goals as goal

pub returns : goal.returns
unfolding figures
returns c =
    rw (← c.number.ensures.0, ← c.number-2.ensures.0, ← c.number-3.ensures.0)
    (fitted
    (wrote_then (wrote_then (wrote_then (wrote_then c.word.ensures c.field.ensures) c.field-2.ensures) c.field-3.ensures) c.field-4.ensures)
    (omega (
      arith,
      wrote_end c.word.ensures,
      field_ends _ c.field.ensures (omega arith),
      field_ends _ c.field-2.ensures c.number.ensures.1,
      field_ends _ c.field-3.ensures c.number-2.ensures.1,
      field_ends _ c.field-4.ensures c.number-3.ensures.1,
    )))
