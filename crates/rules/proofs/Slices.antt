-- Byte slices compared and copied: what the functions of the kit's libraries promise of them, in the words of the specs.
-- Assumes nothing.
use Prim.Native.Nat.{ℕ, ◌≤◌, ◌+◌, ◌-◌}
use native.Mathlib.Omega.{arith}
use mathlib.Core.Path.{◌≡◌, refl, sym, ap, ◌∙◌}
use mathlib.Core.Bool.{Bool, true, false, ◌&&◌}
use mathlib.Core.List.{List, [], ◌∷◌, ◌++◌, append_assoc}
use lib.Dec.{eqb}
use lib.ListN.{length, take, drop}
use lib.Seq.{sets, sets-eq, drop-drop}
use borrow.Author.Tests.{eq-eqb, eqb-true}
use Rattle.rules.specs.Syntax.{Bytes}
use Rattle.rules.specs.Words.{same}

pub same-is : (x y : Bytes) → same x y ≡ true → x ≡ y
same-is [] [] e = refl
same-is [] (b ∷ y) e = let z : ◌≡◌ {A = ℕ} 0 1 = cc in absurd (omega arith)
same-is (a ∷ x) [] e = let z : ◌≡◌ {A = ℕ} 0 1 = cc in absurd (omega arith)
same-is (a ∷ x) (b ∷ y) e = go (eqb a b) refl e (same-is x y)
  where
    go : (t : Bool) → eqb a b ≡ t → (t && same x y) ≡ true → (same x y ≡ true → x ≡ y) → ◌≡◌ {A = Bytes} (a ∷ x) (b ∷ y)
    go true q f more = let p = eqb-true a b q in let r = more f in λ i. p i ∷ r i
    go false q f more = let z : ◌≡◌ {A = ℕ} 0 1 = cc in absurd (omega arith)

pub same_self : (x : Bytes) → same x x ≡ true
same_self [] = refl
same_self (a ∷ x) = rw (eq-eqb a a refl, same_self x)

-- what tells whether x is y tells whether they are the same
pub compared : {r : Bool} {x y : Bytes} → (r ≡ true → x ≡ y) × (x ≡ y → r ≡ true) → r ≡ same x y
compared {r} {x} {y} h = go r (same x y) (λ e. ap (same x) (sym (h.0 e)) ∙ same_self x) (λ e. h.1 (same-is x y e))
  where
    go : (r t : Bool) → (r ≡ true → t ≡ true) → (t ≡ true → r ≡ true) → r ≡ t
    go true t f g = sym (f refl)
    go false true f g = g refl
    go false false f g = refl

-- what stands in a part as long as s is s
pub part_set : (w s : List ℕ) (a : ℕ) → a + length s ≤ length w → take a w ++ (s ++ drop (a + length s - a) (drop a w)) ≡ sets w a s
part_set w s a h =
    let e : a + length s - a ≡ length s = omega arith in
    rw (e, drop-drop (length s) a w) (sym (sets-eq s w a h ∙ append_assoc (take a w) s (drop (a + length s) w)))
