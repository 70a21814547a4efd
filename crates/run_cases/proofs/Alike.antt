-- A memory of one byte, looked at from the front.
use Prim.Native.Nat.{ℕ, ◌+◌, ◌≤◌, ◌<◌}
use native.Mathlib.Numerals.{add-one}
use mathlib.Core.Path.{◌≡◌}
use mathlib.Core.Bool.{true, false}
use mathlib.Core.List.{List}
use lib.ListN.{length, get_or, drop, drop_of_length-le}
use lib.Seq.{drop-cons}
use borrow.Author.Tests.{eq-eqb, ne_eqb}
use Rattle.run_cases.specs.All.{all}

pub all_on : (b : ℕ) (s : List ℕ) (i : ℕ) → i < length s → get_or s i 0 ≡ b → all b (drop (i + 1) s) ≡ all b (drop i s)
unfolding all
all_on b s i h e = rw (add-one, drop-cons s i 0, eq-eqb (get_or s i 0) b e)

pub all_off : (b : ℕ) (s : List ℕ) (i : ℕ) → i < length s → (get_or s i 0 ≡ b → ⊥) → false ≡ all b (drop i s)
unfolding all
all_off b s i h e = rw (drop-cons s i 0, ne_eqb (get_or s i 0) b e)

pub all_end : (b : ℕ) (s : List ℕ) (i : ℕ) → length s ≤ i → true ≡ all b (drop i s)
unfolding all
all_end b s i h = rw (drop_of_length-le s h)
