use native.Mathlib.Omega.{arith}
use Rattle.memory.proofs.Words.{equal-same, test_two, test_two_off, test_three, test_three_off, test_other}
use Rattle.memory.proofs.list.test.Goals as goal

pub returns-then-eq : goal.returns-then-eq
returns-then-eq c = test_two _ _ _ _ _ _ _ c.in-2.is (equal-same c.eq.ensures c.text.ensures.0 c.as_slice.ensures) c.if-eq.true c.is_empty.ensures c.text-then-eq.ensures.0

pub returns-else-eq : goal.returns-else-eq
returns-else-eq c = rw c.if-eq.false (test_two_off _ _ _ _ _ c.in-2.is (equal-same c.eq.ensures c.text.ensures.0 c.as_slice.ensures) c.if-eq.false)

pub returns-then-eq-2 : goal.returns-then-eq-2
returns-then-eq-2 c =
    test_three _ _ _ _ _ _ c.in-3.is (equal-same c.eq-in-3.ensures c.text-in-3.ensures.0 c.as_slice-in-3.ensures) c.if-eq-2.true
    (equal-same c.eq-then-eq-2.ensures c.text-then-eq-2.ensures.0 c.text-then-eq-2-2.ensures.0)

pub returns-else-eq-2 : goal.returns-else-eq-2
returns-else-eq-2 c = rw c.if-eq-2.false (test_three_off _ _ _ _ _ c.in-3.is (equal-same c.eq-in-3.ensures c.text-in-3.ensures.0 c.as_slice-in-3.ensures) c.if-eq-2.false)

pub returns-in_default : goal.returns-in_default
returns-in_default c = test_other _ _ _ _ (omega arith) (omega arith)
