-- The front of a slice is filled byte by byte.
use Prim.Native.Nat.{ℕ, suc, ◌+◌, ◌*◌, ◌/◌, ◌≤◌, ◌<◌}
use native.Mathlib.Numerals.{add-one}
use native.Mathlib.Omega.{arith}
use mathlib.Core.Path.{◌≡◌, sym, ap, ◌∙◌}
use mathlib.Core.List.{List, ◌++◌}
use lib.ListN.{length, take, drop, get_or, set, length-append, length-take, length-drop}
use lib.Seq.{take-suc, drop-cons, append_snoc, set_at, length-take-le}
use Rattle.hexlines.specs.Hex.{value, digit_of, decoded, encoded, OutFilled}
use Rattle.hexlines.proofs.Digits.{decoded-length, decoded-at, encoded-length, encoded-high, encoded-low}

-- one byte more
pub filled_more : (made out : List ℕ) (n : ℕ) → n < length made → n < length out
    → set (take n made ++ drop n out) n (get_or made n 0) ≡ take (n + 1) made ++ drop (n + 1) out
filled_more made out n h k =
    rw (add-one, drop-cons out n 0, take-suc made n 0)
    (set_at (take n made) (get_or out n 0) (drop (suc n) out) (get_or made n 0) n (length-take-le n made (omega arith)) ∙ sym (append_snoc (take n made) (get_or made n 0) (drop (suc n) out)))

pub filled-length : (made out : List ℕ) (n : ℕ) → n ≤ length made → n ≤ length out → length (take n made ++ drop n out) ≡ length out
filled-length made out n h k = simp (length-append, length-take, length-drop) (omega arith)

pub filled : {made out out' : List ℕ} {room n : ℕ} → n ≡ room → n ≤ length made → n ≤ length out → out' ≡ take n made ++ drop n out → OutFilled made room out out' n
filled {made} {out} {out'} {room} {n} r h k e =
    record {
      count = r;
      bytes = e;
      within = omega (arith, ap length e, filled-length made out n h k);
      front = sym (length-take-le n out' (omega (arith, ap length e, filled-length made out n h k)));
    }

-- one pair of digits more is read
pub decoded-more : (hex out w : List ℕ) (n high low : ℕ) → 2 * n + 1 < length hex → n < length out
    → high ≡ value (get_or hex (2 * n) 0) → low ≡ value (get_or hex (2 * n + 1) 0)
    → w ≡ take n (decoded hex) ++ drop n out → set w n (16 * high + low) ≡ take (n + 1) (decoded hex) ++ drop (n + 1) out
decoded-more hex out w n high low h k a b e =
    rw (e, a, b, ← decoded-at hex n h) (filled_more (decoded hex) out n (omega (arith, decoded-length hex)) k)

-- one pair of digits more is written
pub encoded-more : (bytes out w : List ℕ) (n high low : ℕ) → n < length bytes → 2 * n + 1 < length out
    → high ≡ digit_of (get_or bytes n 0 / 16) → low ≡ digit_of (get_or bytes n 0)
    → w ≡ take (2 * n) (encoded bytes) ++ drop (2 * n) out
    → set (set w (2 * n) high) (2 * n + 1) low ≡ take (2 * (n + 1)) (encoded bytes) ++ drop (2 * (n + 1)) out
encoded-more bytes out w n high low h k a b e =
    let l : length (encoded bytes) ≡ 2 * length bytes = encoded-length bytes in
    let t : 2 * (n + 1) ≡ 2 * n + 1 + 1 = omega arith in
    rw (e, a, b, ← encoded-high bytes n h, ← encoded-low bytes n h, t, filled_more (encoded bytes) out (2 * n) (omega arith) (omega arith))
    (filled_more (encoded bytes) out (2 * n + 1) (omega arith) k)
