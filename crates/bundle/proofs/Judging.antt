-- The tests of a bundle one after the other, as the code makes them.
use mathlib.Core.Path.{◌≡◌, refl, sym, ap, ◌∙◌}
use mathlib.Core.Bool.{Bool, true, false, cond}
use Prim.Native.Nat.{ℕ, ◌+◌, ◌<◌, ◌≤◌}
use native.Mathlib.Omega.{arith}
use lib.Dec.{leb, eqb}
use lib.ListN.{length}
use borrow.Author.Tests.{le-leb, leb-true, eq-eqb, eqb-true}
use Rattle.std.specs.Prelude.{Some, None}
use Rattle.std.proofs.lemmas.Bool.{and_parts, false≢true}
use Rattle.rules.specs.Syntax.{Bytes}
use Rattle.sheet.specs.Format.{number}
use Rattle.rules.specs.declared.limits.Limits.{Limits}
use Rattle.reader.specs.declared.Bounds.{Bounds}
use Rattle.bundle.specs.Contents.{holds, bundled, is_bundle, contents, behind, stands, sheet_at, arguments_at, input_at, end_at}
use Rattle.bundle.specs.Promise.{Slice, part, limits_of, parts_of, answer_to, Read, found}
use Rattle.bundle.proofs.Standing.{Whole, missing, stands-whole}

-- a bundle meets every test
pub record Good (b : Bytes) : Type 0 where
  pub size : length b ≤ 16384
  pub limits : stands b 80 0 ≡ true
  pub ten : number b 0 ≡ 10
  pub sheet : stands b 81 (sheet_at b) ≡ true
  pub arguments : stands b 82 (arguments_at b) ≡ true
  pub input : stands b 83 (input_at b) ≡ true
  pub end : end_at b ≡ length b

pub good : (b : Bytes) → is_bundle b ≡ true → Good b
unfolding is_bundle
good b e =
    let size = and_parts (leb (length b) 16384) _ e in
    let limits = and_parts (stands b 80 0) _ size.1 in
    let ten = and_parts (eqb (number b 0) 10) _ limits.1 in
    let sheet = and_parts (stands b 81 (sheet_at b)) _ ten.1 in
    let arguments = and_parts (stands b 82 (arguments_at b)) _ sheet.1 in
    let input = and_parts (stands b 83 (input_at b)) _ arguments.1 in
    record {
      size = leb-true (length b) 16384 size.0;
      limits = limits.0;
      ten = eqb-true (number b 0) 10 ten.0;
      sheet = sheet.0;
      arguments = arguments.0;
      input = input.0;
      end = eqb-true (end_at b) (length b) input.1;
    }

pub good_true : (b : Bytes) → Good b → is_bundle b ≡ true
unfolding is_bundle
good_true b g =
    rw (le-leb (length b) 16384 g.size, g.limits, eq-eqb (number b 0) 10 g.ten, g.sheet, g.arguments, g.input, eq-eqb (end_at b) (length b) g.end)

pub good-is : (b : Bytes) → Good b → bundled b ≡ holds (contents b)
unfolding bundled
good-is b g = rw (good_true b g)

refuted : (s : Slice) → (Good s.now → ⊥) → Read s None
unfolding answer_to
refuted s n = go (is_bundle s.now) refl
  where
    go : (t : Bool) → is_bundle s.now ≡ t → None ≡ cond t (Some (parts_of s)) None
    go true e = absurd (n (good s.now e))
    go false e = refl

-- THE WAYS OUT

module _ (s : Slice) where
  abbrev b : Bytes
  b = s.now

  pub over : 16384 < length b → Read s None
  over h = refuted s (λ g. let z = g.size in omega arith)

  pub no_limits : None ≡ found b 80 0 → Read s None
  no_limits f = refuted s (λ g. false≢true (sym (missing b 80 0 f) ∙ g.limits))

  -- the first record
  module _ {l : Bounds} (f₀ : Some l ≡ found b 80 0) where
    whole₀ : Whole b 80 0 l
    whole₀ = stands-whole b 80 0 f₀

    at₁ : sheet_at b ≡ l.to
    at₁ = sym (ap (λ (h : Bounds). h.to) whole₀.is)

    pub odd_limits_lem : (l.to ≡ 14 → ⊥) → Read s None
    odd_limits_lem n = refuted s (λ g. n (omega (arith, g.ten, at₁)))

    pub no_sheet : None ≡ found b 81 l.to → Read s None
    no_sheet f = refuted s (λ g. false≢true (sym (ap (stands b 81) at₁ ∙ missing b 81 l.to f) ∙ g.sheet))

    -- the second
    module _ {h : Bounds} (f₁ : Some h ≡ found b 81 l.to) where
      whole₁ : Whole b 81 l.to h
      whole₁ = stands-whole b 81 l.to f₁

      at₂ : arguments_at b ≡ h.to
      at₂ = ap (behind b) at₁ ∙ sym (ap (λ (k : Bounds). k.to) whole₁.is)

      pub no_arguments : None ≡ found b 82 h.to → Read s None
      no_arguments f = refuted s (λ g. false≢true (sym (ap (stands b 82) at₂ ∙ missing b 82 h.to f) ∙ g.arguments))

      -- the third
      module _ {a : Bounds} (f₂ : Some a ≡ found b 82 h.to) where
        whole₂ : Whole b 82 h.to a
        whole₂ = stands-whole b 82 h.to f₂

        at₃ : input_at b ≡ a.to
        at₃ = ap (behind b) at₂ ∙ sym (ap (λ (k : Bounds). k.to) whole₂.is)

        pub no_input : None ≡ found b 83 a.to → Read s None
        no_input f = refuted s (λ g. false≢true (sym (ap (stands b 83) at₃ ∙ missing b 83 a.to f) ∙ g.input))

        -- the last
        module _ {i : Bounds} (f₃ : Some i ≡ found b 83 a.to) where
          whole₃ : Whole b 83 a.to i
          whole₃ = stands-whole b 83 a.to f₃

          at₄ : end_at b ≡ i.to
          at₄ = ap (behind b) at₃ ∙ sym (ap (λ (k : Bounds). k.to) whole₃.is)

          pub more : (i.to ≡ length b → ⊥) → Read s None
          more n = refuted s (λ g. n (sym at₄ ∙ g.end))

          -- all in order
          module _ (small : length b ≤ 16384) (ten : l.to ≡ 14) (e : i.to ≡ length b) where
            in_order : Good b
            in_order = record {
              size = small;
              limits = whole₀.stands;
              ten = omega (arith, at₁);
              sheet = ap (stands b 81) at₁ ∙ whole₁.stands;
              arguments = ap (stands b 82) at₂ ∙ whole₂.stands;
              input = ap (stands b 83) at₃ ∙ whole₃.stands;
              end = at₄ ∙ e;
            }

            pub all : {limits : Limits} → limits ≡ limits_of b
                → Read s (Some (record { limits = limits; sheet = part s h.from h.to; arguments = part s a.from a.to; input = part s i.from i.to }))
            unfolding answer_to parts_of
            all p =
                let from₁ : h.from ≡ sheet_at b + 4 = ap (λ (k : Bounds). k.from) whole₁.is ∙ ap (λ (n : ℕ). n + 4) (sym at₁) in
                let from₂ : a.from ≡ arguments_at b + 4 = ap (λ (k : Bounds). k.from) whole₂.is ∙ ap (λ (n : ℕ). n + 4) (sym at₂) in
                let from₃ : i.from ≡ input_at b + 4 = ap (λ (k : Bounds). k.from) whole₃.is ∙ ap (λ (n : ℕ). n + 4) (sym at₃) in
                rw (good_true b in_order)
                (λ j. Some (record {
                  limits = p j;
                  sheet = part s (from₁ j) (sym at₂ j);
                  arguments = part s (from₂ j) (sym at₃ j);
                  input = part s (from₃ j) (sym at₄ j);
                }))
