-- Two digits a byte, the high one first.
use Rattle.std.specs.Prelude.{◌≡◌, cond, ◌&&◌, List, [], ◌∷◌, ◌++◌, ℕ, ◌+◌, ◌*◌, ◌-◌, ◌/◌, ◌%◌, ◌≤◌, leb, ltb, length, take, drop}

-- the value of a digit, 0 to 9 and a to f; 0 for any other byte
unfoldable pub value : (byte : ℕ) → ℕ
value c = cond (leb 48 c && leb c 57) (c - 48) (cond (leb 97 c && leb c 102) (c - 87) 0)

-- the last digit of a number
unfoldable pub digit_of : ℕ → ℕ
digit_of n = cond (ltb (n % 16) 10) (48 + n % 16) (87 + n % 16)

-- an odd digit at the end stands for nothing
unfoldable pub decoded : (hex : List ℕ) → List ℕ
decoded [] = []
decoded (a ∷ []) = []
decoded (a ∷ b ∷ s) = (16 * value a + value b) ∷ decoded s

unfoldable pub encoded : (bytes : List ℕ) → List ℕ
encoded [] = []
encoded (b ∷ s) = digit_of (b / 16) ∷ digit_of b ∷ encoded s

-- the front of what was made stands at the front of out, as much as there is room for, and the rest of out is as before;
-- the last two follow, and are what a caller needs to lend the front
pub record OutFilled (made : List ℕ) (room : ℕ) (out out' : List ℕ) (n : ℕ) : Type 0 where
  pub count : n ≡ room
  pub bytes : out' ≡ take n made ++ drop n out
  pub within : n ≤ length out'
  pub front : n ≡ length (take n out')
