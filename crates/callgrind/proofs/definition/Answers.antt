use native.Mathlib.Omega.{arith}
use Rattle.text.proofs.Ends.{wrote_then, wrote_end, fitted, fitted_end}
use Rattle.callgrind.specs.File.{ended}
use Rattle.callgrind.proofs.definition.Goals as goal

pub returns : goal.returns
unfolding ended
returns c =
    fitted (wrote_then (wrote_then c.between.ensures.wrote c.write.ensures.wrote) c.word.ensures)
    (omega (arith, fitted_end c.between.ensures, fitted_end c.write.ensures, wrote_end c.word.ensures))
