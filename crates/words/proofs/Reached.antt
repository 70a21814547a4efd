-- What a test of a limit tells: t is whether m is at most n.
use Prim.Native.Nat.{ℕ, ◌≤◌, ◌<◌}
use native.Mathlib.Omega.{arith}
use mathlib.Core.Bool.{Bool, true, false}
use mathlib.Core.Path.{◌≡◌, sym, ◌∙◌}
use lib.Dec.{leb}
use borrow.Author.Tests.{leb-true, leb-false}
use Rattle.words.specs.Words.{budget_of}
use Rattle.words.specs.declared.LimitsNumber.{LimitsNumber}

pub reached : {t : Bool} {m n : ℕ} → t ≡ leb m n → t ≡ true → m ≤ n
reached {m = m} {n = n} told so = leb-true m n (sym told ∙ so)

pub below : {t : Bool} {m n : ℕ} → t ≡ leb m n → t ≡ false → n < m
below {m = m} {n = n} told not = leb-false m n (sym told ∙ not)

-- the budget is a digit
pub budget-small : (limits : LimitsNumber) → budget_of limits < 1048576
unfolding budget_of
budget-small limits = omega arith
