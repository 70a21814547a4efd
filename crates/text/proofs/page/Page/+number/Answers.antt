use native.Mathlib.Omega.{arith}
use Rattle.text.proofs.Digits.{decimal-last, decimal-large, one-small, one_more_lem}
use Rattle.text.proofs.Ends.{wrote_then, wrote_end}
use Rattle.text.proofs.page.Page.+number.Goals.{then-n-ge10, else-n-ge10}
use Rattle.text.proofs.page.Page.+number.Goals as goal

pub number-requires : goal.number-requires
number-requires t c = (omega arith, omega (arith, one_more_lem c.args.n c.if-n-ge10.true))

pub digit-requires : goal.digit-requires
digit-requires t c =
    elim c.if-n-ge10.branch [
      | then-n-ge10 w ↦ rw w.self-is (omega (arith, one_more_lem c.args.n w.if-n-ge10.true, wrote_end w.number.ensures), omega arith)
      | else-n-ge10 w ↦ rw w.self-is (omega (arith, one-small c.args.n (omega (arith, w.if-n-ge10.false))), omega arith)
    ]

pub returns : goal.returns
returns t c =
    elim c.if-n-ge10.branch [
      | then-n-ge10 w ↦ rw (decimal-large _ w.if-n-ge10.true) (wrote_then w.number.ensures (rw w.self-is at c.digit.ensures))
      | else-n-ge10 w ↦ rw (decimal-last c.args.n (omega (arith, w.if-n-ge10.false))) (rw w.self-is at c.digit.ensures)
    ]
