use native.Mathlib.Omega.{arith}
use Rattle.text.proofs.Digits.{at_most_ten}
use Rattle.text.proofs.Ends.{wrote_then, wrote_end, fitted}
use Rattle.text.proofs.page.Page.between.Goals as goal

pub returns : goal.returns
returns c =
    fitted (wrote_then (wrote_then c.word.ensures c.number.ensures) c.word-2.ensures)
    (omega (arith, wrote_end c.word.ensures, wrote_end c.number.ensures, at_most_ten c.args.n c.requires.0, wrote_end c.word-2.ensures))
