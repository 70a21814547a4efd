-- The digits of a number that is made as a sum: each part is what was put in its place.
use Prim.Native.Nat.{ℕ, ◌+◌, ◌*◌, ◌<◌, ◌/◌, ◌%◌}
use native.Mathlib.Omega.{arith}
use mathlib.Core.Path.{◌≡◌, refl}
use mathlib.Core.Bool.{Bool, true, false}
use lib.Dec.{eqb}
use mir.Val.{bool_byte}
use Rattle.words.specs.Words.{Number, bit, scope_in, scope_of, scope_with, scope_number, pace_in, pace_of, pace_with, pace_number, feed_in, feed_of, feed_with, feed_number}
use Rattle.words.specs.Words.{Pace, end_of, end_with, end_number}
use Rattle.words.specs.declared.PaceNumber.{PaceNumber}

-- what a digit says that is a flag's bit
says : (b : Bool) (n : ℕ) → n ≡ bit b → eqb n 1 ≡ b
says true n e = rw e
says false n e = rw e

-- a flag as a number is its bit
pub as_bit : (b : Bool) {n : ℕ} → n ≡ bool_byte b → (n ≡ bit b) × (n < 2)
as_bit true e = (e, omega (arith, e))
as_bit false e = (e, omega (arith, e))

-- FEED ----------------------------------------------------------------------------------------------------------------

feed_by : (n : ℕ) {a c f r : ℕ} → n / 32 % 1048576 ≡ a → n % 32 ≡ c → n / 68719476736 % 1048576 ≡ f → n / 33554432 % 2048 ≡ r → feed_in n ≡ feed_with a c f r
feed_by n e₁ e₂ e₃ e₄ = cc

pub feed_made : (a c f r : ℕ) → a < 1048576 → c < 32 → f < 1048576 → r < 2048 →
    Number feed_of (feed_with a c f r) (feed_number a c f r) (record { number = c + 32 * a + 33554432 * r + 68719476736 * f })
unfolding feed_number feed_of
feed_made a c f r p q s t = record { parts = feed_by _ (omega arith) (omega arith) (omega arith) (omega arith); number = refl }

-- PACE ----------------------------------------------------------------------------------------------------------------

pace-by : (n : ℕ) {u l : ℕ} {b : Bool} → n % 1048576 ≡ u → n / 1048576 % 2 ≡ bit b → n / 2097152 % 2048 ≡ l → pace_in n ≡ pace_with u b l
pace-by n {b = b} e₁ e₂ e₃ = cc (says b (n / 1048576 % 2) e₂)

pub pace-made : (u x l : ℕ) (b : Bool) → u < 1048576 → l < 2048 → x ≡ bit b → x < 2 →
    Number pace_of (pace_with u b l) (pace_number u b l) (record { number = u + 1048576 * x + 2097152 * l })
unfolding pace_number pace_of
pace-made u x l b p q e s = record { parts = pace-by _ (omega arith) (omega arith) (omega arith); number = rw e }

pub pace-stepped :
    (p : PaceNumber) → (pace_of p).used + 1 < 1048576 →
    Number pace_of (pace_with ((pace_of p).used + 1) (pace_of p).result (pace_of p).length) (record { number = p.number + 1 }) (record { number = p.number + 1 })
unfolding pace_of
pace-stepped p h =
    let n = p.number in
    let e₁ : (n + 1) % 1048576 ≡ n % 1048576 + 1 = omega arith in
    let e₂ : (n + 1) / 1048576 ≡ n / 1048576 = omega arith in
    let e₃ : (n + 1) / 2097152 ≡ n / 2097152 = omega arith in
    record { parts = rw (e₁, e₂, e₃); number = refl }

-- SCOPE ---------------------------------------------------------------------------------------------------------------

scope_by :
    (n : ℕ) {c d p : Bool} {h l o m k f : ℕ} → n % 2 ≡ bit c → n / 2 % 2 ≡ bit d → n / 4 % 2 ≡ bit p → n / 8 % 16 ≡ h → n / 128 % 16 ≡ l →
    n / 2048 % 16 ≡ o → n / 32768 % 16 ≡ m → n / 524288 % 32 ≡ k → n / 16777216 % 64 ≡ f → scope_in n ≡ scope_with c d p h l o m k f
scope_by n {c} {d} {p} e₁ e₂ e₃ e₄ e₅ e₆ e₇ e₈ e₉ = cc (says c (n % 2) e₁, says d (n / 2 % 2) e₂, says p (n / 4 % 2) e₃)

pub scope_made :
    (c d p : Bool) (x y z h l o m k f : ℕ) → x ≡ bit c → y ≡ bit d → z ≡ bit p → x < 2 → y < 2 → z < 2 → h < 16 → l < 16 → o < 16 → m < 16 → k < 32 → f < 64 →
    Number scope_of (scope_with c d p h l o m k f) (scope_number c d p h l o m k f)
    (record { number = x + 2 * y + 4 * z + (8 * h + 128 * l + 2048 * o + 32768 * m) + 524288 * k + 16777216 * f })
unfolding scope_number scope_of
scope_made c d p x y z h l o m k f ec ed ep qx qy qz qh ql qo qm qk qf = record {
  parts = scope_by _ (omega arith) (omega arith) (omega arith) (omega arith) (omega arith) (omega arith) (omega arith) (omega arith) (omega arith);
  number = rw (ec, ed, ep);
}

-- THE END OF A STRING -------------------------------------------------------------------------------------------------

bit-low : (a b k : ℕ) → b ≡ a + 4096 * k → a % 2 ≡ b % 2
bit-low a b k e = omega arith

length-low : (a b k : ℕ) → b ≡ a + 2048 * k → a % 2048 ≡ b % 2048
length-low a b k e = omega arith

-- a pace has no digits from 2^32 on
pub pace-low : (n p : ℕ) → n ≡ p % 4294967296 → pace_in n ≡ pace_in p
pace-low n p e =
    let above : p / 1048576 ≡ n / 1048576 + 4096 * (p / 4294967296) = omega arith in
    let higher : p / 2097152 ≡ n / 2097152 + 2048 * (p / 4294967296) = omega arith in
    let e₁ : n % 1048576 ≡ p % 1048576 = omega arith in
    let e₂ : n / 1048576 % 2 ≡ p / 1048576 % 2 = bit-low _ _ _ above in
    let e₃ : n / 2097152 % 2048 ≡ p / 2097152 % 2048 = length-low _ _ _ higher in
    rw (e₁, e₂, e₃)

end_by : (n : ℕ) {k m r : ℕ} {b : Bool} {p : Pace} → n % 4 ≡ k → n / 4 % 2 ≡ bit b → n / 8 % 512 ≡ m → n / 4096 % 2048 ≡ r → pace_in (n / 8388608) ≡ p → end_of n ≡ end_with k b m r p
unfolding end_of
end_by n {b = b} e₁ e₂ e₃ e₄ e₅ = cc (says b (n / 4 % 2) e₂)

pub end-made : (k x m r : ℕ) (p : PaceNumber) (b : Bool) → k < 4 → x ≡ bit b → x < 2 → m < 512 → r < 2048 →
    Number end_of (end_with k b m r (pace_of p)) (end_number k b m r p) (k + 4 * x + (8 * m + 4096 * r) + 8388608 * (p.number % 4294967296))
unfolding end_number pace_of
end-made k x m r p b q e s t u = record {
  parts = end_by _ (omega arith) (omega arith) (omega arith) (omega arith) (pace-low _ p.number (omega arith));
  number = rw e;
}
