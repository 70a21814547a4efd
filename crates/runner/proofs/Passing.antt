-- An ended run passed every row of the order: what that says of its inputs.
use mathlib.Core.Path.{◌≡◌, refl, sym, ap, ◌∙◌}
use mathlib.Core.Bool.{Bool, true, false, cond, ◌&&◌}
use mathlib.Core.List.{List, [], ◌∷◌, ◌++◌, map}
use Prim.Native.Nat.{ℕ, zero, suc, ◌+◌, ◌≤◌}
use native.Mathlib.Omega.{arith}
use lib.Dec.{ltb, eqb}
use lib.ListN.{length, drop, length-map, length-take}
use borrow.Author.Tests.{ltb-false}
use Rattle.std.proofs.lemmas.Bool.{or_parts}
use Rattle.rules.specs.Lists.{Every}
use Rattle.rules.specs.Syntax.{Bytes}
use Rattle.rules.specs.Ruling.{Ruling, Sheet, refusal, sheet}
use Rattle.rules.proofs.Lists.{every_append}
use Rattle.sheet.specs.Format.{number}
use Rattle.sheet.specs.Check.{Checked, check}
use Rattle.sheet.specs.Check as C
use Rattle.sheet.specs.Arguments.{Arguments, Texts, is_text, texts_from, texts, text_at, next_text, no_texts, arguments}
use Rattle.sheet.specs.Arguments as A
use Rattle.sheet.specs.Order.{Inputs, Ruled, wrong_sizes, is_short, wrong_limits, rows, first_of, whenever, is_wrong}
use Rattle.sheet.specs.Order as O
use Rattle.sheet.proofs.ArgumentLaws.{text-short}
use Rattle.sheet.proofs.Ordered.{sizes_first, file-next, limits-next, sheet-next}
use Rattle.sheet.specs.Check.{known_of, known_in}
use Rattle.runner.specs.Verdict.{refused, ended, verdict, ruled, decided, from_rules, arguments_in}
use Rattle.runner.proofs.Preparing.{few-texts}

-- THE ROWS

-- a sheet was accepted, and the rules answered with a result sheet
record Passed (c : Checked) (a : Ruling) (s : Sheet) : Type 0 where
  accepts : c ≡ C.accepted (known_in c)
  answers : a ≡ sheet s

never : {A : Type 0} {n p : ℕ} {s : Sheet} → refused n p ≡ ended s → A
never e = absurd (let z : ◌≡◌ {A = ℕ} 0 1 = cc in omega arith)

answered : (a : Ruling) (s : Sheet) → from_rules a ≡ ended s → a ≡ sheet s
answered (refusal n p) s e = never e
answered (sheet s') s e = cc

last-rows : (c : Checked) (x : Arguments) (a : Ruling) (s : Sheet)
    → decided (O.and_then (O.ruled c) (first_of (whenever 5 (is_wrong x) ∷ []))) a ≡ ended s → Passed c a s
last-rows (C.refused n p) x a s e = never e
last-rows (C.accepted K) (A.refused n p) a s e = never e
last-rows (C.accepted K) (A.given ts) a s e = record { accepts = refl; answers = answered a s e }

module _ (i : Inputs) (s : Sheet) (e : verdict i ≡ ended s) where
  decides : (x : Ruled) → first_of (rows i) ≡ x → decided x (ruled i) ≡ ended s
  unfolding verdict
  decides x q = ap (λ (y : Ruled). decided y (ruled i)) (sym q) ∙ e

  right_sizes : wrong_sizes i ≡ false
  right_sizes = go (wrong_sizes i) refl
    where
      go : (b : Bool) → wrong_sizes i ≡ b → b ≡ false
      go true q = never (decides (O.refused 1 0) (sizes_first i q))
      go false q = refl

  right-file : is_short i.file ≡ false
  right-file = go (is_short i.file) refl
    where
      go : (b : Bool) → is_short i.file ≡ b → b ≡ false
      go true q = never (decides (O.refused 14 0) (file-next i right_sizes q))
      go false q = refl

  right-limits : wrong_limits i ≡ false
  right-limits = go (wrong_limits i) refl
    where
      go : (b : Bool) → wrong_limits i ≡ b → b ≡ false
      go true q = never (decides (O.refused 2 0) (limits-next i right_sizes right-file q))
      go false q = refl

  passed : Passed (check i.sheet) (ruled i) s
  passed = last-rows (check i.sheet) (arguments i.arguments) (ruled i) s (decides _ (sheet-next i right_sizes right-file right-limits))

  pub ended-accepts : check i.sheet ≡ C.accepted (known_of i.sheet)
  unfolding known_of
  ended-accepts = passed.accepts

  pub ended_answers : ruled i ≡ sheet s
  ended_answers = passed.answers

  after-budget : (ltb 1000000 i.budget ≡ false) × (ltb 1024 (length i.input) ≡ false)
  after-budget =
      or_parts (ltb 1000000 i.budget) _
      (or_parts (eqb i.budget 0) _ (or_parts (ltb 10 i.stack) _ (or_parts (ltb 65535 i.loop) _ right-limits).1).1).1

  pub ended-budget : i.budget ≤ 1000000
  ended-budget = ltb-false 1000000 i.budget after-budget.0

  pub ended-input : length i.input ≤ 1024
  ended-input = ltb-false 1024 (length i.input) after-budget.1

-- THE ARGUMENTS

module _ (s : Bytes) where
  -- a text that begins at such a place is no longer than 63 bytes
  abbrev ShortAt : ℕ → Type 0
  ShortAt at = number s at ≤ 63

  starts-short : (left : ℕ) (t : Texts) → Every ShortAt t.starts → Every ShortAt (texts_from s left t).starts
  unfolding texts_from
  starts-short zero t h = h
  starts-short (suc left) t h = go (is_text s t.end) refl (starts-short left (next_text s t))
    where
      go : (b : Bool) → is_text s t.end ≡ b
          → (Every ShortAt (t.starts ++ t.end ∷ []) → Every ShortAt (texts_from s left (next_text s t)).starts)
          → Every ShortAt (cond b (texts_from s left (next_text s t)) t).starts
      go true e k = k (every_append ShortAt t.starts (t.end ∷ []) h (text-short s t.end e, tt))
      go false e k = h

  texts-short : (starts : List ℕ) → Every ShortAt starts → Every (λ (x : Bytes). length x ≤ 63) (map (text_at s) starts)
  texts-short [] h = tt
  texts-short (at ∷ starts) h = (omega (arith, length-take (number s at) (drop (at + 4) s), h.0), texts-short starts h.1)

  -- at least one, and nothing after them
  abbrev whole : Bool
  whole = ltb 0 (length (texts s).starts) && eqb (texts s).end (length s)

  abbrev chosen : Bool → Arguments
  chosen b = cond b (A.given (map (text_at s) (texts s).starts)) (A.refused 5 0)

  pub arguments-short : Every (λ (x : Bytes). length x ≤ 63) (arguments_in (arguments s))
  unfolding arguments texts
  arguments-short = go whole
    where
      go : (b : Bool) → Every (λ (x : Bytes). length x ≤ 63) (arguments_in (chosen b))
      go true = texts-short (texts s).starts (starts-short 17 no_texts tt)
      go false = tt

  pub arguments-few : length (arguments_in (arguments s)) ≤ 17
  unfolding arguments
  arguments-few = go whole
    where
      go : (b : Bool) → length (arguments_in (chosen b)) ≤ 17
      go true = omega (arith, length-map (texts s).starts (text_at s), few-texts s)
      go false = omega arith
