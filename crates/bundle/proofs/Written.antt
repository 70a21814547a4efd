-- A bundle that was written is read back: where its records begin, and what stands there.
use mathlib.Core.Path.{◌≡◌, refl, sym, ap, ◌∙◌}
use mathlib.Core.Bool.{true}
use mathlib.Core.List.{[], ◌∷◌, ◌++◌}
use Prim.Native.Nat.{ℕ, ◌+◌, ◌≤◌}
use native.Mathlib.Nat.{add-zero}
use native.Mathlib.Omega.{arith}
use lib.ListN.{length, take, drop, length-append, length-drop}
use lib.Seq.{take_at, drop_at, drop-drop}
use Rattle.rules.specs.Syntax.{Bytes}
use Rattle.rules.proofs.Numbers.{two-read, four_read}
use Rattle.reader.proofs.Whole.{stands-inside, stands_there}
use Rattle.sheet.specs.Format.{number, long_number}
use Rattle.sheet.specs.Table.{words}
use Rattle.sheet.specs.WellFormed.{Item, write_item, write}
use Rattle.sheet.proofs.Written.{number-drop}
use Rattle.sheet.proofs.ReadBack.{size-first, kind-next, payload-last}
use Rattle.bundle.specs.Contents.{Contents, holds, bundled, contents, behind, stands, payload, sheet_at, arguments_at, input_at, end_at}
use Rattle.bundle.specs.Encoding.{limits_bytes, bundle_bytes}
use Rattle.bundle.proofs.Judging.{Good, good-is}

pub item-length : (c : Item) (l : Bytes) → length (write_item c ++ l) ≡ 4 + length c.payload + length l
unfolding write_item words
item-length c l = omega (arith, length-append c.payload l)

-- the bytes from `at` on are a record and l
module _ (b : Bytes) (at : ℕ) (c : Item) (l : Bytes) (h : drop at b ≡ write_item c ++ l) where
  size-at : number b at ≡ length c.payload
  size-at =
      ap (number b) (sym (add-zero at)) ∙ sym (number-drop b at 0) ∙ ap (λ (d : Bytes). number d 0) h ∙ size-first c l

  kind-at : number b (at + 2) ≡ c.kind
  kind-at = sym (number-drop b at 2) ∙ ap (λ (d : Bytes). number d 2) h ∙ kind-next c l

  drop-payload : drop (at + 4) b ≡ c.payload ++ l
  drop-payload = sym (drop-drop 4 at b) ∙ ap (drop 4) h ∙ payload-last c l

  payload-at : payload b at ≡ c.payload
  payload-at =
      ap (λ (n : ℕ). take n (drop (at + 4) b)) size-at ∙ ap (take (length c.payload)) drop-payload
      ∙ take_at c.payload l (length c.payload) refl

  next : drop (behind b at) b ≡ l
  next =
      ap (λ (n : ℕ). drop (at + 4 + n) b) size-at ∙ sym (drop-drop (length c.payload) (at + 4) b)
      ∙ ap (drop (length c.payload)) drop-payload ∙ drop_at c.payload l (length c.payload) refl

  room : at + 4 + number b at ≤ length b
  room = omega (arith, size-at, length-drop at b, ap length h, item-length c l)

  stands_at : stands b c.kind at ≡ true
  stands_at = stands_there b at c.kind room kind-at

-- THE BUNDLE

module _ (c : Contents) where
  abbrev b : Bytes
  b = bundle_bytes c

  abbrev limits : Item
  limits = record { kind = 80; payload = limits_bytes c }

  abbrev sheet : Item
  sheet = record { kind = 81; payload = c.sheet }

  abbrev arguments : Item
  arguments = record { kind = 82; payload = c.arguments }

  abbrev input : Item
  input = record { kind = 83; payload = c.input }

  from₀ : drop 0 b ≡ write_item limits ++ write (sheet ∷ arguments ∷ input ∷ [])
  unfolding bundle_bytes write
  from₀ = refl

  from₁ : drop (sheet_at b) b ≡ write_item sheet ++ write (arguments ∷ input ∷ [])
  unfolding write
  from₁ = next b 0 limits (write (sheet ∷ arguments ∷ input ∷ [])) from₀

  from₂ : drop (arguments_at b) b ≡ write_item arguments ++ write (input ∷ [])
  unfolding write
  from₂ = next b (sheet_at b) sheet (write (arguments ∷ input ∷ [])) from₁

  from₃ : drop (input_at b) b ≡ write_item input ++ []
  unfolding write
  from₃ = next b (arguments_at b) arguments (write (input ∷ [])) from₂

  from₄ : drop (end_at b) b ≡ []
  from₄ = next b (input_at b) input [] from₃

  good-bytes : length b ≤ 16384 → Good b
  unfolding words
  good-bytes h =
      let s = stands_at b (input_at b) input [] from₃ in
      record {
        size = h;
        limits = stands_at b 0 limits (write (sheet ∷ arguments ∷ input ∷ [])) from₀;
        ten = size-at b 0 limits (write (sheet ∷ arguments ∷ input ∷ [])) from₀;
        sheet = stands_at b (sheet_at b) sheet (write (arguments ∷ input ∷ [])) from₁;
        arguments = stands_at b (arguments_at b) arguments (write (input ∷ [])) from₂;
        input = s;
        end = omega (arith, stands-inside b (input_at b) 83 s, length-drop (end_at b) b, ap length from₄);
      }

  loop-at : long_number b 4 ≡ c.loop
  unfolding long_number bundle_bytes write write_item words
  loop-at = four_read c.loop

  stack_at : number b 8 ≡ c.stack
  unfolding number bundle_bytes write write_item words
  stack_at = two-read c.stack

  budget-at : long_number b 10 ≡ c.budget
  unfolding long_number bundle_bytes write write_item words
  budget-at = four_read c.budget

  contents-at : contents b ≡ c
  unfolding contents
  contents-at =
      let s = payload-at b (sheet_at b) sheet (write (arguments ∷ input ∷ [])) from₁ in
      let a = payload-at b (arguments_at b) arguments (write (input ∷ [])) from₂ in
      let i = payload-at b (input_at b) input [] from₃ in
      λ j. record { loop = loop-at j; stack = stack_at j; budget = budget-at j; sheet = s j; arguments = a j; input = i j }

  pub written_read : length b ≤ 16384 → bundled b ≡ holds c
  written_read h = good-is b (good-bytes h) ∙ ap holds contents-at
