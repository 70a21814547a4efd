-- Numbers as text: decimal, without leading zeros.
use Rattle.std.specs.Prelude.{true, false, [], ◌∷◌, ◌++◌, ℕ, zero, suc, ◌+◌, ◌/◌, ◌%◌, ltb}
use Rattle.rules.specs.Syntax.{Bytes}

abbrev pub digit : ℕ → Bytes
digit d = (48 + d) ∷ []

-- the digits of n, the most significant first; at most `left` of them stand before the last
unfoldable pub digits : (left n : ℕ) → Bytes
digits zero n = digit n
digits (suc left) n = elim (ltb n 10) [
  | true ↦ digit n
  | false ↦ digits left (n / 10) ++ digit (n % 10)
]

unfoldable pub decimal : ℕ → Bytes
decimal n = digits n n
