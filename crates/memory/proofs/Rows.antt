-- Lists that a function of the index makes: one set of laws for fields and variables.
use Prim.Native.Nat.{ℕ, zero, suc, ◌≤◌, ◌<◌, ◌+◌}
use native.Mathlib.Omega.{arith}
use native.Mathlib.Nat.{add-zero}
use native.Mathlib.Decide.{ℕ_discrete}
use mathlib.Core.Path.{◌≡◌, refl, sym, ap, ◌∙◌}
use mathlib.Core.List.{[], ◌∷◌, ◌++◌, map}
use lib.ListN.{length, get_or, set, length-set}
use lib.Seq.{ext_get_or, get_or-set_same, get_or-set_other}
use Rattle.memory.specs.Layout.{row, row_from}

module _ {A : Type 0} where
  from-length : (n : ℕ) (f : ℕ → A) (i : ℕ) → length (row_from n f i) ≡ n
  unfolding row_from
  from-length zero f i = refl
  from-length (suc n) f i = ap suc (from-length n f (suc i))

  from_at : (n : ℕ) (f : ℕ → A) (i k : ℕ) (d : A) → k < n → get_or (row_from n f i) k d ≡ f (i + k)
  unfolding row_from
  from_at zero f i k d h = absurd (omega arith)
  from_at (suc n) f i zero d h = rw add-zero
  from_at (suc n) f i (suc k) d h = from_at n f (suc i) k d (omega arith) ∙ ap f (omega arith)

  from_beyond : (n : ℕ) (f : ℕ → A) (i k : ℕ) (d : A) → n ≤ k → get_or (row_from n f i) k d ≡ d
  unfolding row_from
  from_beyond zero f i k d h = refl
  from_beyond (suc n) f i zero d h = absurd (omega arith)
  from_beyond (suc n) f i (suc k) d h = from_beyond n f (suc i) k d (omega arith)

  from-same : (n : ℕ) (f g : ℕ → A) (i : ℕ) → ((k : ℕ) → i ≤ k → k < i + n → g k ≡ f k) → row_from n g i ≡ row_from n f i
  unfolding row_from
  from-same zero f g i q = refl
  from-same (suc n) f g i q = rw (q i (omega arith) (omega arith)) (ap (λ l. f i ∷ l) (from-same n f g (suc i) (λ k x y. q k (omega arith) (omega arith))))

  from_more : (n : ℕ) (f : ℕ → A) (i : ℕ) → row_from (suc n) f i ≡ row_from n f i ++ f (i + n) ∷ []
  unfolding row_from
  from_more zero f i = rw add-zero
  from_more (suc n) f i = ap (λ l. f i ∷ l) (from_more n f (suc i) ∙ ap (λ k. row_from n f (suc i) ++ f k ∷ []) (omega arith))

  pub row-length : (n : ℕ) (f : ℕ → A) → length (row n f) ≡ n
  unfolding row
  row-length n f = from-length n f 0

  pub row_at : (n : ℕ) (f : ℕ → A) (k : ℕ) (d : A) → k < n → get_or (row n f) k d ≡ f k
  unfolding row
  row_at n f k d h = from_at n f 0 k d h ∙ ap f (omega arith)

  pub row_beyond : (n : ℕ) (f : ℕ → A) (k : ℕ) (d : A) → n ≤ k → get_or (row n f) k d ≡ d
  unfolding row
  row_beyond n f k d h = from_beyond n f 0 k d h

  pub row_same : (n : ℕ) (f g : ℕ → A) → ((k : ℕ) → k < n → g k ≡ f k) → row n g ≡ row n f
  unfolding row
  row_same n f g q = from-same n f g 0 (λ k x y. q k (omega arith))

  pub row-none : (f : ℕ → A) → row 0 f ≡ []
  unfolding row row_from
  row-none f = refl

  pub row_more : (n : ℕ) (f : ℕ → A) → row (n + 1) f ≡ row n f ++ f n ∷ []
  unfolding row
  row_more n f = let e : n + 1 ≡ suc n = omega arith in let d : 0 + n ≡ n = omega arith in rw e (from_more n f 0 ∙ rw d)

  -- one entry is new
  pub row-set : (n : ℕ) (f g : ℕ → A) (x : ℕ) (v : A) → x < n → g x ≡ v → ((k : ℕ) → k < n → (k ≡ x → ⊥) → g k ≡ f k) → row n g ≡ set (row n f) x v
  row-set n f g x v h e q =
      ext_get_or v _ _ (row-length n g ∙ sym (length-set (row n f) x v ∙ row-length n f))
      (λ k p. let l : k < n = omega (arith, row-length n g) in row_at n g k v l ∙ go k l (ℕ_discrete k x))
    where
      go : (k : ℕ) → k < n → Dec (k ≡ x) → g k ≡ get_or (set (row n f) x v) k v
      go k l (yes z) = rw (z, get_or-set_same (row n f) x v v (omega (arith, row-length n f))) e
      go k l (no z) = rw (get_or-set_other (row n f) x k v v z, row_at n f k v l) (q k l z)

from-map : {A B : Type 0} (n : ℕ) (g : A → B) (f : ℕ → A) (i : ℕ) → map g (row_from n f i) ≡ row_from n (λ k. g (f k)) i
unfolding row_from
from-map zero g f i = refl
from-map (suc n) g f i = ap (λ l. g (f i) ∷ l) (from-map n g f (suc i))

pub row-map : {A B : Type 0} (n : ℕ) (g : A → B) (f : ℕ → A) → map g (row n f) ≡ row n (λ k. g (f k))
unfolding row
row-map n g f = from-map n g f 0
