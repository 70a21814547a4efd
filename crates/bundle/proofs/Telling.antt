-- What an answer tells: for callers, who have it by cases.
use mathlib.Core.Path.{◌≡◌, refl, sym, ap, ◌∙◌, subst}
use mathlib.Core.Bool.{Bool, true, false, cond}
use Prim.Native.Nat.{ℕ, ◌+◌, ◌-◌}
use native.Mathlib.Omega.{arith}
use lib.ListN.{take, drop}
use Rattle.std.specs.Prelude.{Option, Some, None, option_map}
use Rattle.rules.specs.Syntax.{Bytes}
use Rattle.sheet.specs.Format.{number, long_number}
use Rattle.bundle.specs.Contents.{wrong, holds, bundled, is_bundle, contents, behind, payload, sheet_at, arguments_at, input_at, end_at}
use Rattle.bundle.specs.declared.Parts.{Parts}
use Rattle.bundle.specs.Promise.{Slice, part, limits_of, contents_at, parts_of, answer_to, Read, Located, Placed}
use Rattle.bundle.specs.Claims.{told, parts_moved}
use Rattle.bundle.proofs.Judging.{good}

-- the payload, by where it begins and ends
payload-part : (s : Slice) (at : ℕ) → payload s.now at ≡ (part s (at + 4) (behind s.now at)).now
payload-part s at =
    let n : number s.now at ≡ behind s.now at - (at + 4) = omega arith in ap (λ (k : ℕ). take k (drop (at + 4) s.now)) n

module _ (s : Slice) where
  abbrev b : Bytes
  b = s.now

  contents-are : contents_at (parts_of s) ≡ contents b
  unfolding contents parts_of
  contents-are = λ j. record {
    loop = long_number b 4;
    stack = number b 8;
    budget = long_number b 10;
    sheet = sym (payload-part s (sheet_at b)) j;
    arguments = sym (payload-part s (arguments_at b)) j;
    input = sym (payload-part s (input_at b)) j;
  }

  answer-told : told (answer_to s) ≡ bundled b
  unfolding answer_to bundled
  answer-told = go (is_bundle b)
    where
      go : (t : Bool) → told (cond t (Some (parts_of s)) None) ≡ cond t (holds (contents b)) wrong
      go true = ap holds contents-are
      go false = refl

  pub told_is : (a : Option Parts) → Read s a → told a ≡ bundled b
  told_is a r = ap told r ∙ answer-told

  pub none-told : {a : Option Parts} → a ≡ None → Read s a → bundled b ≡ wrong
  none-told {a} e r = sym (told_is a r) ∙ ap told e

  placed : is_bundle b ≡ true → Placed s (parts_of s)
  unfolding parts_of
  placed t = record {
    sheet = refl;
    arguments = refl;
    input = refl;
    sheet-ends = omega arith;
    arguments-end = omega arith;
    input-ends = omega arith;
    inside = omega (arith, (good b t).end);
  }

  pub parts_located_lem : (p : Parts) → Read s (Some p) → Located b p × Placed s p
  unfolding answer_to
  parts_located_lem p r = (record { contents = sym (told_is (Some p) r) }, go (is_bundle b) refl r)
    where
      go : (t : Bool) → is_bundle b ≡ t → Some p ≡ cond t (Some (parts_of s)) None → Placed s p
      go true e q = let same : parts_of s ≡ p = cc in subst (Placed s) same (placed e)
      go false e q = absurd (let z : ◌≡◌ {A = ℕ} 0 1 = cc in omega arith)

  pub parts-told : {a : Option Parts} {p : Parts} → a ≡ Some p → Read s a → Located b p
  parts-told {a} {p} e r = (parts_located_lem p (sym e ∙ r)).0

-- ELSEWHERE

module _ (s t : Slice) (e : s.now ≡ t.now) where
  parts-same : parts_of t ≡ parts_moved s t (parts_of s)
  unfolding parts_of
  parts-same =
      let at : (from : ℕ) → from + t.ref_ptr.1 ≡ from + s.ref_ptr.1 - s.ref_ptr.1 + t.ref_ptr.1 = λ from. omega arith in
      rw (← e)
      (λ j. record {
        limits = limits_of s.now;
        sheet = record { ref_ptr = (t.ref_ptr.0, at (sheet_at s.now + 4) j); now = (part s (sheet_at s.now + 4) (arguments_at s.now)).now };
        arguments = record { ref_ptr = (t.ref_ptr.0, at (arguments_at s.now + 4) j); now = (part s (arguments_at s.now + 4) (input_at s.now)).now };
        input = record { ref_ptr = (t.ref_ptr.0, at (input_at s.now + 4) j); now = (part s (input_at s.now + 4) (end_at s.now)).now };
      })

  pub answer-same : answer_to t ≡ option_map (parts_moved s t) (answer_to s)
  unfolding answer_to
  answer-same = ap (λ (c : Bytes). cond (is_bundle c) (Some (parts_of t)) None) (sym e) ∙ go (is_bundle s.now)
    where
      go : (c : Bool) → cond c (Some (parts_of t)) None ≡ option_map (parts_moved s t) (cond c (Some (parts_of s)) None)
      go true = ap Some parts-same
      go false = refl
