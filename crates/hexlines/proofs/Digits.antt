-- Digits and pairs of them.
use Prim.Native.Nat.{ℕ, zero, suc, ◌+◌, ◌*◌, ◌-◌, ◌/◌, ◌%◌, ◌≤◌, ◌<◌}
use native.Mathlib.Omega.{arith}
use native.Mathlib.Decide.{dec_lt}
use mathlib.Core.Path.{◌≡◌, refl}
use mathlib.Core.Bool.{false, ◌&&◌}
use mathlib.Core.List.{List, [], ◌∷◌}
use lib.Dec.{leb}
use lib.ListN.{length, get_or}
use borrow.Author.Tests.{le-leb, lt-leb, lt-ltb, le-ltb}
use Rattle.hexlines.specs.Hex.{value, digit_of, decoded, encoded}

pub value_figure : (c : ℕ) → 48 ≤ c → c ≤ 57 → c - 48 ≡ value c
unfolding value
value_figure c h k = rw (le-leb 48 c h, le-leb c 57 k)

pub value_letter : (c : ℕ) → 97 ≤ c → c ≤ 102 → c - 87 ≡ value c
unfolding value
value_letter c h k = rw (le-leb 48 c (omega arith), lt-leb c 57 (omega arith), le-leb 97 c h, le-leb c 102 k)

-- a test of a range that fails
out : (a c b : ℕ) → (a ≤ c → c ≤ b → ⊥) → (leb a c && leb c b) ≡ false
out a c b h = go (dec_lt c a) (dec_lt b c)
  where
    go : Dec (c < a) → Dec (b < c) → (leb a c && leb c b) ≡ false
    go (yes p) q = rw (lt-leb a c p)
    go (no p) (yes q) = rw (le-leb a c (omega arith), lt-leb c b q)
    go (no p) (no q) = absurd (h (omega arith) (omega arith))

pub value_none : (c : ℕ) → (48 ≤ c → c ≤ 57 → ⊥) → (97 ≤ c → c ≤ 102 → ⊥) → 0 ≡ value c
unfolding value
value_none c h k = rw (out 48 c 57 h, out 97 c 102 k)

pub digit_figure : (n : ℕ) → n % 16 < 10 → 48 + n % 16 ≡ digit_of n
unfolding digit_of
digit_figure n h = rw (lt-ltb (n % 16) 10 h)

pub digit_letter : (n : ℕ) → 10 ≤ n % 16 → 87 + n % 16 ≡ digit_of n
unfolding digit_of
digit_letter n h = rw (le-ltb (n % 16) 10 h)

pub decoded-length : (s : List ℕ) → length (decoded s) ≡ length s / 2
unfolding decoded
decoded-length [] = refl
decoded-length (a ∷ []) = refl
decoded-length (a ∷ b ∷ s) = omega (arith, decoded-length s)

pub decoded-at : (s : List ℕ) (n : ℕ) → 2 * n + 1 < length s → get_or (decoded s) n 0 ≡ 16 * value (get_or s (2 * n) 0) + value (get_or s (2 * n + 1) 0)
unfolding decoded
decoded-at [] n h = absurd (omega arith)
decoded-at (a ∷ []) n h = absurd (omega arith)
decoded-at (a ∷ b ∷ s) zero h = refl
decoded-at (a ∷ b ∷ s) (suc n) h =
    let e : 2 * suc n ≡ suc (suc (2 * n)) = omega arith in
    let f : 2 * suc n + 1 ≡ suc (suc (2 * n + 1)) = omega arith in
    rw (f, e) (decoded-at s n (omega arith))

pub encoded-length : (s : List ℕ) → length (encoded s) ≡ 2 * length s
unfolding encoded
encoded-length [] = refl
encoded-length (b ∷ s) = omega (arith, encoded-length s)

pub encoded-high : (s : List ℕ) (n : ℕ) → n < length s → get_or (encoded s) (2 * n) 0 ≡ digit_of (get_or s n 0 / 16)
unfolding encoded
encoded-high [] n h = absurd (omega arith)
encoded-high (b ∷ s) zero h = refl
encoded-high (b ∷ s) (suc n) h =
    let e : 2 * suc n ≡ suc (suc (2 * n)) = omega arith in
    rw e (encoded-high s n (omega arith))

pub encoded-low : (s : List ℕ) (n : ℕ) → n < length s → get_or (encoded s) (2 * n + 1) 0 ≡ digit_of (get_or s n 0)
unfolding encoded
encoded-low [] n h = absurd (omega arith)
encoded-low (b ∷ s) zero h = refl
encoded-low (b ∷ s) (suc n) h =
    let e : 2 * suc n + 1 ≡ suc (suc (2 * n + 1)) = omega arith in
    rw e (encoded-low s n (omega arith))
