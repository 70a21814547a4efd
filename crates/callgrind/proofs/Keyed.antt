-- What is read of each id, out of a list of everything read.
use Prim.Native.Nat.{ℕ, zero, suc, ◌<◌, ◌+◌}
use native.Mathlib.Omega.{arith}
use native.Mathlib.Nat.{add-zero}
use mathlib.Core.Path.{◌≡◌, refl, sym, ap, ◌∙◌}
use mathlib.Core.Bool.{cond}
use mathlib.Core.List.{List, [], ◌∷◌, ◌++◌, map, append_assoc, append-nil}
use lib.Dec.{eqb}
use lib.ListN.{length, get_or}
use borrow.Author.Tests.{eq-eqb, ne_eqb}
use Rattle.memory.specs.Layout.{row_from}
use Rattle.callgrind.specs.Reading.{those}

module _ {A : Type 0} where
  -- the entries of one id
  abbrev pub tagged : (id : ℕ) → List A → List (ℕ × A)
  tagged id xs = map (λ (x : A). (id, x)) xs

  -- the entries of id, of the next one, ..
  abbrev pub keyed : (id : ℕ) → List (List A) → List (ℕ × A)
  keyed id [] = []
  keyed id (xs ∷ xss) = tagged id xs ++ keyed (suc id) xss

  those-append : (id : ℕ) (xs ys : List (ℕ × A)) → those id (xs ++ ys) ≡ those id xs ++ those id ys
  unfolding those
  those-append id [] ys = refl
  those-append id (x ∷ xs) ys =
      ap (λ (l : List A). cond (eqb x.0 id) (x.1 ∷ []) [] ++ l) (those-append id xs ys)
      ∙ sym (append_assoc (cond (eqb x.0 id) (x.1 ∷ []) []) (those id xs) (those id ys))

  those-same : (id : ℕ) (xs : List A) → those id (tagged id xs) ≡ xs
  unfolding those
  those-same id [] = refl
  those-same id (x ∷ xs) = rw (eq-eqb id id refl) (ap (λ (l : List A). x ∷ l) (those-same id xs))

  those-other : (id k : ℕ) (xs : List A) → (k ≡ id → ⊥) → those id (tagged k xs) ≡ []
  unfolding those
  those-other id k [] h = refl
  those-other id k (x ∷ xs) h = rw (ne_eqb k id h) (those-other id k xs h)

  those-later : (id k : ℕ) (xss : List (List A)) → id < k → those id (keyed k xss) ≡ []
  unfolding those
  those-later id k [] h = refl
  those-later id k (xs ∷ xss) h =
      those-append id (tagged k xs) (keyed (suc k) xss) ∙ (λ i. those-other id k xs (λ e. omega arith) i ++ those-later id (suc k) xss (omega arith) i)

  pub those_keyed : (id i : ℕ) (xss : List (List A)) → those (id + i) (keyed id xss) ≡ get_or xss i []
  unfolding those
  those_keyed id i [] = refl
  those_keyed id zero (xs ∷ xss) =
      rw (add-zero id)
      (those-append id (tagged id xs) (keyed (suc id) xss)
      ∙ (λ i. those-same id xs i ++ those-later id (suc id) xss (omega arith) i)
      ∙ append-nil xs)
  those_keyed id (suc i) (xs ∷ xss) =
      those-append (id + suc i) (tagged id xs) (keyed (suc id) xss)
      ∙ (λ j. those-other (id + suc i) id xs (λ e. omega arith) j ++ those (next j) (keyed (suc id) xss))
      ∙ those_keyed (suc id) i xss
    where
      next : id + suc i ≡ suc id + i
      next = omega arith

  -- one entry an id
  abbrev pub single : A → List A
  single x = x ∷ []

  pub keyed_length : (id : ℕ) (xs : List A) → length (keyed id (map single xs)) ≡ length xs
  keyed_length id [] = refl
  keyed_length id (x ∷ xs) = ap suc (keyed_length (suc id) xs)

  -- a row that has the entries of a list
  pub row_is : (d : A) (xs : List A) (f : ℕ → A) (k : ℕ) → ((i : ℕ) → i < length xs → f (k + i) ≡ get_or xs i d) → row_from (length xs) f k ≡ xs
  unfolding row_from
  row_is d [] f k q = refl
  row_is d (x ∷ xs) f k q =
      (λ i. (ap f (sym (add-zero k)) ∙ q 0 (omega arith)) i ∷ row_is d xs f (suc k) (λ j h. ap f (omega arith) ∙ q (suc j) (omega arith)) i)

-- an entry of a list that is made from another
pub map_at : {A B : Type 0} (g : A → B) (e : B) (d : A) (xs : List A) (i : ℕ) → i < length xs → get_or (map g xs) i e ≡ g (get_or xs i d)
map_at g e d [] i h = absurd (omega arith)
map_at g e d (x ∷ xs) zero h = refl
map_at g e d (x ∷ xs) (suc i) h = map_at g e d xs i (omega arith)
