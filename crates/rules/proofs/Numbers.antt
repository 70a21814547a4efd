-- A number that was written is read back.
use mathlib.Core.Path.{◌≡◌}
use Prim.Native.Nat.{ℕ}
use native.Mathlib.Omega.{arith}
use Rattle.rules.specs.Numbers.{two_bytes, four_bytes, number, long_number}

pub two-read : (n : ℕ) → number (two_bytes n) 0 ≡ n
unfolding number
two-read n = omega arith

pub four_read : (n : ℕ) → long_number (four_bytes n) 0 ≡ n
unfolding long_number
four_read n = omega arith
