-- The digits of a number: the last one behind those of its tenth; how many there are.
use Prim.Native.Nat.{ℕ, zero, suc, ◌≤◌, ◌<◌, ◌+◌, ◌/◌, ◌%◌, ◌^◌}
use native.Mathlib.Omega.{arith}
use native.Mathlib.Nat.{pow-suc, div-lt_iff_lt-mul}
use mathlib.Core.Path.{◌≡◌, refl, sym, ap, ◌∙◌}
use mathlib.Core.List.{◌++◌}
use native.Mathlib.Decide.{dec_lt}
use lib.ListN.{length, length-append}
use borrow.Author.Tests.{lt-ltb, le-ltb}
use Rattle.rules.specs.Syntax.{Bytes}
use Rattle.text.specs.Decimal.{digit, digits, decimal}

digits-small : (k n : ℕ) → n < 10 → digits k n ≡ digit n
unfolding digits
digits-small zero n h = refl
digits-small (suc k) n h = rw (lt-ltb n 10 h, digits)

digits-large : (k n : ℕ) → 10 ≤ n → digits (suc k) n ≡ digits k (n / 10) ++ digit (n % 10)
unfolding digits
digits-large k n h = rw (le-ltb n 10 h, digits)

-- any bound that is no less than the number does
enough : (k j n : ℕ) → n ≤ k → n ≤ j → digits k n ≡ digits j n
enough zero j n h l = digits-small zero n (omega arith) ∙ sym (digits-small j n (omega arith))
enough (suc k) zero n h l = digits-small (suc k) n (omega arith) ∙ sym (digits-small zero n (omega arith))
enough (suc k) (suc j) n h l = go (dec_lt n 10) (enough k j (n / 10))
  where
    go : Dec (n < 10) → (n / 10 ≤ k → n / 10 ≤ j → digits k (n / 10) ≡ digits j (n / 10)) → digits (suc k) n ≡ digits (suc j) n
    go (yes m) q = digits-small (suc k) n m ∙ sym (digits-small (suc j) n m)
    go (no m) q =
        digits-large k n (omega arith) ∙ ap (λ (s : Bytes). s ++ digit (n % 10)) (q (omega arith) (omega arith)) ∙ sym (digits-large j n (omega arith))

pub decimal-small : (n : ℕ) → n < 10 → decimal n ≡ digit n
unfolding decimal
decimal-small n h = digits-small n n h

pub decimal-last : (n : ℕ) → n < 10 → decimal n ≡ digit (n % 10)
decimal-last n h = decimal-small n h ∙ ap digit (omega arith)

pub decimal-large : (n : ℕ) → 10 ≤ n → decimal n ≡ decimal (n / 10) ++ digit (n % 10)
unfolding decimal
decimal-large zero h = absurd (omega arith)
decimal-large (suc n) h = digits-large n (suc n) h ∙ ap (λ (s : Bytes). s ++ digit (suc n % 10)) (enough n (suc n / 10) (suc n / 10) (omega arith) (omega arith))

-- HOW MANY

pub one-small : (n : ℕ) → n < 10 → length (decimal n) ≡ 1
one-small n h = ap length (decimal-small n h)

pub one_more_lem : (n : ℕ) → 10 ≤ n → length (decimal n) ≡ length (decimal (n / 10)) + 1
one_more_lem n h = ap length (decimal-large n h) ∙ length-append (decimal (n / 10)) (digit (n % 10))

pub decimal-length : (k n : ℕ) → n < 10 ^ suc k → length (decimal n) ≤ suc k
decimal-length zero n h = omega (arith, one-small n h)
decimal-length (suc k) n h = go (dec_lt n 10) (decimal-length k (n / 10))
  where
    go : Dec (n < 10) → (n / 10 < 10 ^ suc k → length (decimal (n / 10)) ≤ suc k) → length (decimal n) ≤ suc (suc k)
    go (yes m) q = omega (arith, one-small n m)
    go (no m) q = omega (arith, one_more_lem n (omega arith), q ((div-lt_iff_lt-mul (omega arith)).1 (rw (pow-suc 10 (suc k)) at h)))

pub at_most_ten : (n : ℕ) → n < 4294967296 → length (decimal n) ≤ 10
at_most_ten n h = decimal-length 9 n (omega arith)

pub at_most_twenty : (n : ℕ) → n < 18446744073709551616 → length (decimal n) ≤ 20
at_most_twenty n h = decimal-length 19 n (omega arith)
