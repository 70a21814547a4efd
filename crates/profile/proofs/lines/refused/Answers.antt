use native.Mathlib.Omega.{arith}
use Rattle.text.proofs.Ends.{wrote_then, wrote_end, number_long, fitted, fitted_end}
use Rattle.profile.specs.Lines.{refused_line}
use Rattle.profile.proofs.lines.refused.Goals as goal

pub returns : goal.returns
unfolding refused_line
returns c =
    rw (← c.number.ensures, ← c.place.ensures)
    (fitted (wrote_then (wrote_then c.between.ensures.wrote c.number-2.ensures) c.word.ensures)
    (omega (arith, fitted_end c.between.ensures, number_long _ c.number-2.ensures (omega arith), wrote_end c.word.ensures)))
