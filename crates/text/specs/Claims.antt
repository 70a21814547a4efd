-- What is proved of numbers as text. The proofs are put together in proofs/Theorems.antt.
use Rattle.std.specs.Prelude.{◌≡◌, [], ◌∷◌, ℕ, ◌+◌, ◌*◌, ◌-◌, ◌<◌, ◌≤◌, get_or}
use Rattle.rules.specs.Lists.{Every}
use Rattle.rules.specs.Syntax.{Bytes}
use Rattle.text.specs.Decimal.{decimal}

-- the number that decimal digits stand for, behind v
unfoldable pub value_behind : (v : ℕ) → Bytes → ℕ
value_behind v [] = v
value_behind v (c ∷ cs) = value_behind (10 * v + (c - 48)) cs

-- A number's text stands for it,
abbrev pub DecimalReadsBack : Type 0
DecimalReadsBack = (n : ℕ) → value_behind 0 (decimal n) ≡ n

-- has digits only,
abbrev pub DecimalIsDigits : Type 0
DecimalIsDigits = (n : ℕ) → Every (λ c. (48 ≤ c) × (c ≤ 57)) (decimal n)

-- and does not begin with 0, but for 0 itself.
abbrev pub NoLeadingZero : Type 0
NoLeadingZero = (n : ℕ) → 0 < n → 48 < get_or (decimal n) 0 0
