use native.Mathlib.Omega.{arith}
use Rattle.text.proofs.Ends.{fitted, fitted_end}
use Rattle.profile.proofs.Joined.{lines_none, lines_more}
use Rattle.profile.proofs.lines.function_lines.Goals as goal

pub loop-f-init : goal.loop-f-init
loop-f-init c = fitted (lines_none _ _ _) (omega arith)

pub loop-f-preserved : goal.loop-f-preserved
loop-f-preserved c =
    fitted (lines_more _ _ _ c.loop-f.invariant.wrote c.function_line.ensures.wrote) (omega (arith, fitted_end c.loop-f.invariant, fitted_end c.function_line.ensures))
