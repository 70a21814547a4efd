-- What holds of every entry of a list holds of the entry at a place, and of every entry of the lists made from it.
-- Assumes nothing.
use mathlib.Core.List.{List, [], ◌∷◌, ◌++◌}
use Prim.Native.Nat.{ℕ, zero, suc}
use lib.ListN.{get_or, set, drop}
use Rattle.rules.specs.Lists.{Every}

module _ {A : Type 0} (P : A → Type 0) where
  pub every_get : (xs : List A) (n : ℕ) (d : A) → P d → Every P xs → P (get_or xs n d)
  every_get [] n d p h = p
  every_get (x ∷ xs) zero d p h = h.0
  every_get (x ∷ xs) (suc n) d p h = every_get xs n d p h.1

  pub every_set : (xs : List A) (n : ℕ) (y : A) → P y → Every P xs → Every P (set xs n y)
  every_set [] n y p h = tt
  every_set (x ∷ xs) zero y p h = (p, h.1)
  every_set (x ∷ xs) (suc n) y p h = (h.0, every_set xs n y p h.1)

  pub every_drop : (n : ℕ) (xs : List A) → Every P xs → Every P (drop n xs)
  every_drop zero xs h = h
  every_drop (suc n) [] h = tt
  every_drop (suc n) (x ∷ xs) h = every_drop n xs h.1

  pub every_append : (xs ys : List A) → Every P xs → Every P ys → Every P (xs ++ ys)
  every_append [] ys h k = k
  every_append (x ∷ xs) ys h k = (h.0, every_append xs ys h.1 k)
