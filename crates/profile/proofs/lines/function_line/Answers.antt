use Prim.Native.Nat.{◌*◌}
use native.Mathlib.Omega.{arith}
use Rattle.std.proofs.lemmas.List.{take_rest}
use Rattle.text.proofs.Ends.{wrote_then, wrote_end, fitted, fitted_end}
use Rattle.profile.specs.Lines.{function_line}
use Rattle.profile.specs.Rendered.{line_in}
use Rattle.profile.proofs.lines.function_line.Goals as goal

pub returns : goal.returns
unfolding line_in function_line
returns c =
    fitted (wrote_then (wrote_then (rw (take_rest c.args.rows.now (18 * c.args.f)) at c.figures.ensures.wrote) c.name.ensures.wrote) c.word.ensures)
    (omega (arith, fitted_end c.figures.ensures, fitted_end c.name.ensures, wrote_end c.word.ensures))
