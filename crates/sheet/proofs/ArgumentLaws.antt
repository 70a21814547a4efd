-- Laws on the argument sheet.
use mathlib.Core.Path.{◌≡◌, refl, sym, ap, ◌∙◌, subst}
use mathlib.Core.Bool.{Bool, true, false}
use mathlib.Core.List.{[], ◌∷◌}
use Prim.Native.Nat.{ℕ, suc, ◌+◌, ◌*◌, ◌-◌, ◌<◌, ◌≤◌}
use native.Mathlib.Numerals.{add-one}
use native.Mathlib.Omega.{arith}
use lib.Dec.{leb}
use lib.ListN.{length, length-append, length-map}
use borrow.Author.Tests.{eq-eqb, ne_eqb, lt-ltb, le-ltb, leb-true}
use Rattle.std.specs.Prelude.{Some, None}
use Rattle.std.proofs.lemmas.Bool.{and_parts}
use Rattle.rules.specs.Syntax.{Bytes}
use Rattle.reader.specs.declared.Bounds.{Bounds}
use Rattle.reader.specs.Records.{size, behind, stands, next_at}
use Rattle.reader.proofs.Whole.{Whole, whole_is, cut_stands, whole-stands, stands-inside}
use Rattle.sheet.specs.declared.texts.Front.{Front}
use Rattle.sheet.specs.Format.{number}
use Rattle.sheet.specs.Arguments as argument
use Rattle.sheet.specs.Arguments.{is_text, texts_from, texts, arguments, given_of, counted_of, texts_known, text_at}

module _ (s : Bytes) (at : ℕ) where
  pub text-cut : None ≡ next_at s at → is_text s at ≡ false
  unfolding is_text
  text-cut f = rw (cut_stands s at 1 f)

  module _ {b : Bounds} (f : Some b ≡ next_at s at) where
    whole : Whole s at b
    whole = whole_is s at f

    pub text-begins : b.from ≤ b.to
    text-begins = whole.begins

    pub text-kind : (b.kind ≡ 1 → ⊥) → is_text s at ≡ false
    unfolding is_text
    text-kind n = rw (whole-stands s at 1 f, ne_eqb b.kind 1 n)

    pub text-is : b.kind ≡ 1 → is_text s at ≡ leb (b.to - b.from) 63
    unfolding is_text
    text-is k = rw (whole-stands s at 1 f, eq-eqb b.kind 1 k, whole.long)

  pub text-short : is_text s at ≡ true → number s at ≤ 63
  unfolding is_text
  text-short e = leb-true (number s at) 63 (and_parts (stands s 1 at) _ e).1

  pub text-stands : is_text s at ≡ true → stands s 1 at ≡ true
  unfolding is_text
  text-stands e = (and_parts (stands s 1 at) (leb (size s at) 63) e).0

  pub text-inside : is_text s at ≡ true → behind s at ≤ length s
  text-inside e = stands-inside s at 1 (text-stands e)

pub record Reading (s : Bytes) (n at : ℕ) : Type 0 where
  pub at_is : at ≡ (texts_known s n).end
  pub near : at ≤ 67 * n
  pub counted : length (texts_known s n).starts ≡ n
  pub walked : texts s ≡ texts_from s (17 - n) (texts_known s n)

pub reading-start : (s : Bytes) → Reading s 0 0
unfolding texts_known texts
reading-start s = record { at_is = refl; near = omega arith; counted = refl; walked = refl }

module _ {s : Bytes} {n at : ℕ} (h : Reading s n at) where
  here : (b : Bool) → is_text s at ≡ b → is_text s (texts_known s n).end ≡ b
  here b e = ap (is_text s) (sym h.at_is) ∙ e

  -- the fields, with the definitions open
  reading_step : (size : ℕ) → n < 17 → is_text s at ≡ true → size ≡ number s at → 17 - n ≡ suc (17 - suc n) → Reading s (suc n) (at + 4 + size)
  unfolding texts_known texts_from
  reading_step size l e z left = record {
    at_is = ap (λ (k : ℕ). at + 4 + k) z ∙ ap (λ (a : ℕ). a + 4 + number s a) h.at_is;
    near = let a = text-short s at e in let b = h.near in omega arith;
    counted = length-append (texts_known s n).starts ((texts_known s n).end ∷ []) ∙ ap (λ (k : ℕ). k + 1) h.counted ∙ add-one n;
    walked = h.walked ∙ ap (λ (k : ℕ). texts_from s k (texts_known s n)) left ∙ rw (here true e);
  }

  pub reading-next : (size : ℕ) → n < 17 → is_text s at ≡ true → size ≡ number s at → Reading s (n + 1) (at + 4 + size)
  reading-next size l e z = subst (λ (k : ℕ). Reading s k (at + 4 + size)) (sym (add-one n)) (reading_step size l e z (omega arith))

  reading-counts : texts s ≡ texts_known s n → ◌≡◌ {A = Front} (record { count = n; end = at }) (counted_of (texts s))
  reading-counts w = rw w (λ i. record { count = sym h.counted i; end = h.at_is i })

  pub reading_stop : n < 17 → is_text s at ≡ false → ◌≡◌ {A = Front} (record { count = n; end = at }) (counted_of (texts s))
  unfolding texts_from
  reading_stop l e =
      let left : 17 - n ≡ suc (17 - suc n) = omega arith in
      reading-counts (h.walked ∙ ap (λ (k : ℕ). texts_from s k (texts_known s n)) left ∙ rw (here false e))

  pub reading-end : n ≡ 17 → ◌≡◌ {A = Front} (record { count = 17; end = at }) (counted_of (texts s))
  unfolding texts_from
  reading-end l =
      let left : 17 - n ≡ 0 = omega arith in
      ap (λ (k : ℕ). record { count = k; end = at }) (sym l) ∙ reading-counts (h.walked ∙ ap (λ (k : ℕ). texts_from s k (texts_known s n)) left)

module _ (s : Bytes) (c : Front) (e : c ≡ counted_of (texts s)) where
  counts : c.count ≡ length (texts s).starts
  counts = ap (λ (x : Front). x.count) e

  ends : c.end ≡ (texts s).end
  ends = ap (λ (x : Front). x.end) e

  pub given-none : c.count ≡ 0 → None ≡ given_of (arguments s)
  unfolding arguments
  given-none z = rw (le-ltb 0 (length (texts s).starts) (let a = counts in omega arith))

  -- what is refused has the number 5, and no place
  pub five-none : c.count ≡ 0 → arguments s ≡ argument.refused 5 0
  unfolding arguments
  five-none z = rw (le-ltb 0 (length (texts s).starts) (let a = counts in omega arith))

  module _ (some : (c.count ≡ 0 → ⊥)) where
    pub given-more : (c.end ≡ length s → ⊥) → None ≡ given_of (arguments s)
    unfolding arguments
    given-more h = rw (lt-ltb 0 (length (texts s).starts) (let a = counts in omega arith), ne_eqb (texts s).end (length s) (λ q. h (ends ∙ q)))

    pub five-more : (c.end ≡ length s → ⊥) → arguments s ≡ argument.refused 5 0
    unfolding arguments
    five-more h = rw (lt-ltb 0 (length (texts s).starts) (let a = counts in omega arith), ne_eqb (texts s).end (length s) (λ q. h (ends ∙ q)))

    pub given_is : c.end ≡ length s → Some c.count ≡ given_of (arguments s)
    unfolding arguments
    given_is h =
        rw (lt-ltb 0 (length (texts s).starts) (let a = counts in omega arith), eq-eqb (texts s).end (length s) (sym ends ∙ h))
        (ap Some (counts ∙ sym (length-map (texts s).starts (text_at s))))
