-- The value of an embedded command, from the end of what it wrote.
-- Assumes nothing.
use Prim.Native.Nat.{ℕ}
use mathlib.Core.Path.{◌≡◌, refl, sym, ap, subst, ◌∙◌}
use mathlib.Core.Bool.{Bool, true, false}
use mathlib.Core.List.{[], ◌∷◌, ◌++◌, append-nil, append_assoc}
use lib.Dec.{eqb}
use borrow.Author.Tests.{eqb-true, eqb-false, ne_eqb}
use Rattle.rules.specs.Syntax.{Bytes}
use Rattle.rules.specs.Words.{before_kept, embedded_value}
use Rattle.rules.specs.Claims.{FromTheEnd, CutFromTheEnd, CutOneWay}

pub value-newline : (s : Bytes) → embedded_value (s ++ 10 ∷ []) ≡ embedded_value s
value-newline [] = refl
value-newline (d ∷ s) = ap (before_kept d) (value-newline s)

-- a byte in front of bytes that end with c
before_last : (d c : ℕ) (s : Bytes) → before_kept d (s ++ c ∷ []) ≡ d ∷ s ++ c ∷ []
before_last d c [] = refl
before_last d c (e ∷ s) = refl

pub value-other : (s : Bytes) (c : ℕ) → ¬ (c ≡ 10) → embedded_value (s ++ c ∷ []) ≡ s ++ c ∷ []
value-other [] c h = rw (ne_eqb c 10 h)
value-other (d ∷ s) c h = ap (before_kept d) (value-other s c h) ∙ before_last d c s

-- bytes, from their end
data Ended : Bytes → Type 0 where
  none : Ended []
  last : (s : Bytes) (c : ℕ) → Ended s → Ended (s ++ c ∷ [])

ended-behind : (s t : Bytes) → Ended s → Ended (s ++ t)
ended-behind s [] e = subst Ended (sym (append-nil s)) e
ended-behind s (c ∷ t) e = subst Ended (append_assoc s (c ∷ []) t) (ended-behind (s ++ c ∷ []) t (last s c e))

module _ (value : Bytes → Bytes) (told : FromTheEnd value) where
  one_more_lem : (s : Bytes) (c : ℕ) → value s ≡ embedded_value s → (b : Bool) → eqb c 10 ≡ b → value (s ++ c ∷ []) ≡ embedded_value (s ++ c ∷ [])
  one_more_lem s c e true h = rw (eqb-true c 10 h) (told.newline s ∙ e ∙ sym (value-newline s))
  one_more_lem s c e false h = told.other s c (eqb-false c 10 h) ∙ sym (value-other s c (eqb-false c 10 h))

  one_way : (s : Bytes) → Ended s → value s ≡ embedded_value s
  one_way _ none = told.nothing
  one_way _ (last s c e) = one_more_lem s c (one_way s e) (eqb c 10) refl

pub cut_one_way_lem : CutOneWay
cut_one_way_lem value told s = one_way value told s (ended-behind [] s none)

pub cut_from_the_end_lem : CutFromTheEnd
cut_from_the_end_lem = record { nothing = refl; newline = value-newline; other = value-other }
