-- The utility test: the fields that pass, as memory has them.
use Prim.Native.Nat.{ℕ, suc, ◌≤◌, ◌+◌, ◌*◌, ◌-◌, ◌%◌}
use native.Mathlib.Omega.{arith}
use native.Mathlib.Nat.{mul-zero, mul-one, mul_comm}
use mathlib.Core.Path.{◌≡◌, refl, sym, ◌∙◌}
use mathlib.Core.Bool.{Bool, true, false, not, ◌&&◌}
use mathlib.Core.List.{List, [], ◌∷◌}
use lib.Dec.{eqb}
use lib.Pointwise.{pointwise}
use lib.ListN.{length, get_or, drop, take}
use borrow.Author.Tests.{ne_eqb}
use Rattle.rules.specs.Words.{same, passes, is_non_empty}
use Rattle.rules.specs.Syntax.{Bytes}
use Rattle.memory.specs.Layout.{text_at, field_at, fields_at, row, row_from}
use Rattle.memory.proofs.Parts.{part_slice}
use Rattle.memory.proofs.Rows.{row-length}

-- what `==` tells of two slices
pub equal-same : {r : Bool} {x y s t : Bytes} → r ≡ pointwise eqb x y → x ≡ s → y ≡ t → r ≡ same s t
equal-same {r} {x} {y} {s} {t} h d e = h ∙ go x y ∙ rw (d, e)
  where
    go : (x y : Bytes) → pointwise eqb x y ≡ same x y
    go [] [] = refl
    go [] (b ∷ y) = refl
    go (a ∷ x) [] = refl
    go (a ∷ x) (b ∷ y) = rw (go x y)

non_empty_lem : (s : Bytes) → not (eqb (length s) 0) ≡ is_non_empty s
non_empty_lem [] = refl
non_empty_lem (c ∷ s) = rw (ne_eqb (suc (length s)) 0 (λ e. omega arith))

passes-other : (fs : List Bytes) → (length fs ≡ 2 → ⊥) → (length fs ≡ 3 → ⊥) → passes fs ≡ false
passes-other [] x y = refl
passes-other (a ∷ []) x y = refl
passes-other (a ∷ b ∷ []) x y = absurd (x refl)
passes-other (a ∷ b ∷ c ∷ []) x y = absurd (y refl)
passes-other (a ∷ b ∷ c ∷ d ∷ more) x y = refl

module _ (L : ℕ) (w : List ℕ) (a : ℕ) where
  passes-two : passes (fields_at L w a 2) ≡ (same (text_at L w a) (45 ∷ 110 ∷ []) && is_non_empty (text_at L w (a + L)))
  unfolding row row_from
  passes-two = let d : a + L * 0 ≡ a = rw (mul-zero L) (omega arith) in let e : L * 1 ≡ L = mul-one L in rw (d, e)

  passes-three : passes (fields_at L w a 3) ≡ (same (text_at L w (a + L)) (61 ∷ []) && same (text_at L w a) (text_at L w (a + 2 * L)))
  unfolding row row_from
  passes-three = let d : a + L * 0 ≡ a = rw (mul-zero L) (omega arith) in let e : L * 1 ≡ L = mul-one L in let g : L * 2 ≡ 2 * L = mul_comm L 2 in rw (d, e, g)

  pub test_two : (n : ℕ) (t b : Bool) (s : Bytes) → n ≡ 2 → t ≡ same (text_at L w a) (45 ∷ 110 ∷ []) → t ≡ true → b ≡ eqb (length s) 0 → s ≡ text_at L w (a + L)
      → not b ≡ passes (fields_at L w a n)
  test_two n t b s e x y z q = rw (e, passes-two, ← x, y, z, q) (non_empty_lem (text_at L w (a + L)))

  pub test_two_off : (n : ℕ) (t : Bool) → n ≡ 2 → t ≡ same (text_at L w a) (45 ∷ 110 ∷ []) → t ≡ false → false ≡ passes (fields_at L w a n)
  test_two_off n t e x y = rw (e, passes-two, ← x, y)

  pub test_three : (n : ℕ) (t r : Bool) → n ≡ 3 → t ≡ same (text_at L w (a + L)) (61 ∷ []) → t ≡ true → r ≡ same (text_at L w a) (text_at L w (a + 2 * L)) → r ≡ passes (fields_at L w a n)
  test_three n t r e x y z = rw (e, passes-three, ← x, y) z

  pub test_three_off : (n : ℕ) (t : Bool) → n ≡ 3 → t ≡ same (text_at L w (a + L)) (61 ∷ []) → t ≡ false → false ≡ passes (fields_at L w a n)
  test_three_off n t e x y = rw (e, passes-three, ← x, y)

  pub test_other : (n : ℕ) → (n ≡ 2 → ⊥) → (n ≡ 3 → ⊥) → false ≡ passes (fields_at L w a n)
  test_other n x y = sym (passes-other (fields_at L w a n) (λ e. x (sym (row-length n (field_at L w a)) ∙ e)) (λ e. y (sym (row-length n (field_at L w a)) ∙ e)))

-- the bytes of a text as code takes them
pub text_slice : (L : ℕ) (w : List ℕ) (a r : ℕ) → r ≡ get_or w a 0 % L → a + 1 + r ≤ length w → take (a + 1 + r - (a + 1)) (drop (a + 1) w) ≡ text_at L w a
text_slice L w a r e h = let d : a + 1 + r - (a + 1) ≡ r = omega arith in rw (d, ← e) (part_slice w (a + 1) r h)
