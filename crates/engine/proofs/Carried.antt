-- The course that a pace and a feed come to, where the pace is known as a move of another.
use mathlib.Core.Path.{◌≡◌, ap}
use Prim.Native.Nat.{◌<◌}
use native.Mathlib.Omega.{arith}
use Rattle.words.specs.Words.{Pace, Feed, course, stack_of}
use Rattle.words.specs.declared.LimitsNumber.{LimitsNumber}

pub paced : (f : Feed) {p q : Pace} → p ≡ q → course p f ≡ course q f
paced f h = ap (λ (x : Pace). course x f) h

pub stack-small : (n : LimitsNumber) → stack_of n < 16
unfolding stack_of
stack-small n = omega arith
