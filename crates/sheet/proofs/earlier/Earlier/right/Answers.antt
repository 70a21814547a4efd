use native.Mathlib.Omega.{arith}
use Rattle.std.proofs.lemmas.Bool.Decides.{nat_tests}
use Rattle.sheet.proofs.Records.{right_is}
use Rattle.sheet.proofs.earlier.Earlier.right.Goals as goal

pub returns-then-meets-2 : goal.returns-then-meets-2
returns-then-meets-2 c = rw (right_is, ← c.in-Some.ensures) (grind (arith, nat_tests))

pub returns-else-meets-2 : goal.returns-else-meets-2
returns-else-meets-2 c = rw (right_is, ← c.in-Some.ensures) (grind (arith, nat_tests))

pub returns-in-None : goal.returns-in-None
returns-in-None c = rw (right_is, ← c.in-None.ensures)
