-- The claims of specs/Claims.antt, proved.
-- Assumes nothing.
use Prim.Native.Nat.{ℕ, zero, suc, ◌≤◌, ◌<◌, ◌+◌, ◌*◌, ◌-◌, ◌/◌, ◌%◌}
use native.Mathlib.Omega.{arith}
use native.Mathlib.Decide.{dec_lt}
use mathlib.Core.Path.{◌≡◌, sym, ap, ◌∙◌, subst}
use mathlib.Core.List.{[], ◌∷◌, ◌++◌}
use lib.ListN.{length, get_or, get_or-append}
use Rattle.rules.specs.Lists.{Every}
use Rattle.rules.specs.Syntax.{Bytes}
use Rattle.text.specs.Decimal.{digit, decimal}
use Rattle.text.specs.Claims.{value_behind, DecimalReadsBack, DecimalIsDigits, NoLeadingZero}
use Rattle.text.specs.Proved.{Proved}
use Rattle.text.proofs.Digits.{decimal-small, decimal-large, one-small, one_more_lem}

-- By tenths: what holds of the digits, and of any number if of its tenth.

by_tenths : (P : ℕ → Type 0) → ((n : ℕ) → n < 10 → P n) → ((n : ℕ) → 10 ≤ n → P (n / 10) → P n) → (n : ℕ) → P n
by_tenths P small large n = go (suc n) n (omega arith)
  where
    go : (k m : ℕ) → m < k → P m
    go zero m h = absurd (omega arith)
    go (suc k) m h = step (dec_lt m 10) (go k (m / 10))
      where
        step : Dec (m < 10) → (m / 10 < k → P (m / 10)) → P m
        step (yes l) q = small m l
        step (no l) q = large m (omega arith) (q (omega arith))

value-more : (v d : ℕ) (s : Bytes) → value_behind v (s ++ digit d) ≡ 10 * value_behind v s + d
unfolding value_behind
value-more v d [] = omega arith
value-more v d (c ∷ s) = value-more (10 * v + (c - 48)) d s

pub decimal_reads_back_lem : DecimalReadsBack
unfolding value_behind
decimal_reads_back_lem =
    by_tenths (λ n. value_behind 0 (decimal n) ≡ n)
    (λ n h. ap (value_behind 0) (decimal-small n h) ∙ omega arith)
    (λ n h q. ap (value_behind 0) (decimal-large n h) ∙ value-more 0 (n % 10) (decimal (n / 10)) ∙ omega arith)

every_more : (P : ℕ → Type 0) (s : Bytes) (c : ℕ) → Every P s → P c → Every P (s ++ c ∷ [])
every_more P [] c a p = (p, tt)
every_more P (x ∷ s) c a p = (a.0, every_more P s c a.1 p)

pub decimal_is_digits_lem : DecimalIsDigits
decimal_is_digits_lem =
    by_tenths (λ n. Every (λ c. (48 ≤ c) × (c ≤ 57)) (decimal n))
    (λ n h. subst (Every (λ c. (48 ≤ c) × (c ≤ 57))) (sym (decimal-small n h)) ((omega arith, omega arith), tt))
    (λ n h q. subst (Every (λ c. (48 ≤ c) × (c ≤ 57))) (sym (decimal-large n h)) (every_more (λ c. (48 ≤ c) × (c ≤ 57)) (decimal (n / 10)) (48 + n % 10) q (omega arith, omega arith)))

pub some-digit : (n : ℕ) → 0 < length (decimal n)
some-digit n = go (dec_lt n 10)
  where
    go : Dec (n < 10) → 0 < length (decimal n)
    go (yes h) = omega (arith, one-small n h)
    go (no h) = omega (arith, one_more_lem n (omega arith))

pub no_leading_zero_lem : NoLeadingZero
no_leading_zero_lem =
    by_tenths (λ n. 0 < n → 48 < get_or (decimal n) 0 0)
    (λ n h l. rw (decimal-small n h) (omega arith))
    (λ n h q l. rw (decimal-large n h, get_or-append (decimal (n / 10)) (digit (n % 10)) 0 0 (some-digit (n / 10))) (q (omega arith)))

-- ALL OF THEM

pub proved : Proved
proved = record {
  decimal_reads_back = decimal_reads_back_lem;
  decimal_is_digits = decimal_is_digits_lem;
  no_leading_zero = no_leading_zero_lem;
}
