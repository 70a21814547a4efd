-- The words of a line, and numbers in decimal.
use Rattle.std.specs.Prelude.{cond, List, [], ◌∷◌, ℕ, zero, suc, ◌+◌, ◌*◌, ltb, eqb, take, drop}
use Rattle.hexlines.specs.Hex.{value}

-- how many bytes stand before the first b
unfoldable pub ahead : (b : ℕ) → List ℕ → ℕ
ahead b [] = zero
ahead b (x ∷ s) = cond (eqb x b) zero (suc (ahead b s))

-- word k, the first being 0: words are what stands between spaces
unfoldable pub word_of : ℕ → List ℕ → List ℕ
word_of zero s = take (ahead 32 s) s
word_of (suc k) s = word_of k (drop (suc (ahead 32 s)) s)

-- n with the digits of s behind it; a number that has reached 10 to the 17 takes no more
unfoldable pub number_from : ℕ → List ℕ → ℕ
number_from n [] = n
number_from n (c ∷ s) = cond (ltb n 100000000000000000) (number_from (10 * n + value c) s) n
