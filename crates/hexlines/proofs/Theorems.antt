-- What specs/Claims states, proved.
use Prim.Native.Nat.{ℕ, suc, ◌+◌, ◌*◌, ◌/◌, ◌%◌, ◌<◌}
use native.Mathlib.Omega.{arith}
use native.Mathlib.Decide.{dec_lt}
use mathlib.Core.Path.{◌≡◌, refl}
use mathlib.Core.List.{[], ◌∷◌}
use Rattle.hexlines.specs.Hex.{value, digit_of, decoded, encoded}
use Rattle.hexlines.specs.Claims.{RoundTrip}
use Rattle.hexlines.proofs.Digits.{value_figure, value_letter, digit_figure, digit_letter}
use Rattle.hexlines.specs.Proved.{Proved}

-- the value of a number's last digit
last-digit : (n : ℕ) → value (digit_of n) ≡ n % 16
last-digit n = go (dec_lt (n % 16) 10)
  where
    go : Dec (n % 16 < 10) → value (digit_of n) ≡ n % 16
    go (yes h) = rw (← digit_figure n h, ← value_figure (48 + n % 16) (omega arith) (omega arith)) (omega arith)
    go (no h) = rw (← digit_letter n (omega arith), ← value_letter (87 + n % 16) (omega arith) (omega arith)) (omega arith)

pub round_trip_lem : RoundTrip
unfolding encoded decoded
round_trip_lem [] h = refl
round_trip_lem (b ∷ s) h =
    let k : b < 256 = h 0 (omega arith) in
    let e : 16 * value (digit_of (b / 16)) + value (digit_of b) ≡ b = omega (arith, last-digit (b / 16), last-digit b) in
    rw (e, round_trip_lem s (λ i q. h (suc i) (omega arith)))

-- ALL OF THEM

pub proved : Proved
proved = record {
  round_trip = round_trip_lem;
}
