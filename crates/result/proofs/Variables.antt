-- The variables that are shown: one list after another, how many there are, and how long their strings.
use Prim.Native.Nat.{ℕ, zero, suc, ◌≤◌, ◌<◌, ◌+◌, ◌*◌}
use native.Mathlib.Omega.{arith}
use mathlib.Core.Path.{◌≡◌, refl, sym, ap, ◌∙◌}
use mathlib.Core.Bool.{Bool, true, false}
use mathlib.Core.List.{List, [], ◌∷◌, ◌++◌, append_assoc}
use lib.ListN.{length, length-append}
use Rattle.rules.specs.Lists.{Every}
use Rattle.rules.specs.Syntax.{Bytes}
use Rattle.rules.specs.State.{Value, unset, bytes, Variable}
use Rattle.rules.specs.Ruling.{Shown, shown}
use Rattle.rules.proofs.Lists.{every_append}
use Rattle.memory.specs.Layout.{row, row_from, text_at, field_at, value_if, value_at, mark_at, variable_in, variables_at}
use Rattle.memory.proofs.Rows.{row-length}
use Rattle.memory.proofs.Writing.{text-length}
use Rattle.result.specs.Claims.{ShortStrings}

variable : Bytes → Value → Bool → Variable
variable n x m = record { name = n; value = x; exported = m }

by_value : (n : Bytes) (x : Value) (m : Bool) (vs : List Variable) → shown (variable n x m ∷ vs) ≡ shown (variable n x m ∷ []) ++ shown vs
unfolding variable
by_value n unset m vs = refl
by_value n (bytes s) m vs = refl

shown_cons : (v : Variable) (vs : List Variable) → shown (v ∷ vs) ≡ shown (v ∷ []) ++ shown vs
unfolding variable
shown_cons v vs = by_value v.name v.value v.exported vs

pub shown-append : (vs ws : List Variable) → shown (vs ++ ws) ≡ shown vs ++ shown ws
shown-append [] ws = refl
shown-append (v ∷ vs) ws =
    shown_cons v (vs ++ ws)
    ∙ ap (λ l. shown (v ∷ []) ++ l) (shown-append vs ws)
    ∙ sym (append_assoc (shown (v ∷ [])) (shown vs) (shown ws))
    ∙ ap (λ l. l ++ shown ws) (sym (shown_cons v vs))

-- HOW MANY

one_at_most : (n : Bytes) (x : Value) (m : Bool) → length (shown (variable n x m ∷ [])) ≤ 1
unfolding variable
one_at_most n unset m = omega arith
one_at_most n (bytes s) m = omega arith

shown-count : (vs : List Variable) → length (shown vs) ≤ length vs
unfolding variable
shown-count [] = omega arith
shown-count (v ∷ vs) =
    rw (shown_cons v vs)
    (omega (arith, length-append (shown (v ∷ [])) (shown vs), one_at_most v.name v.value v.exported, shown-count vs))

pub variables-count : (L : ℕ) (w : List ℕ) (a n : ℕ) → length (shown (variables_at L w a n)) ≤ n
variables-count L w a n = omega (arith, shown-count (variables_at L w a n), row-length n (variable_in L w a))

-- HOW LONG

from_every : (P : Shown → Type 0) (n : ℕ) (f : ℕ → Variable) (i : ℕ) → ((x : ℕ) → Every P (shown (f x ∷ []))) → Every P (shown (row_from n f i))
unfolding row_from
from_every P zero f i h = tt
from_every P (suc n) f i h =
    rw (shown_cons (f i) (row_from n f (suc i))) (every_append P (shown (f i ∷ [])) (shown (row_from n f (suc i))) (h i) (from_every P n f (suc i) h))

short : (b : Bool) (n s : Bytes) (m : Bool) → length n < 64 → length s < 64 → Every ShortStrings (shown (variable n (value_if b s) m ∷ []))
unfolding variable value_if
short true n s m h k = tt
short false n s m h k = (record { name = omega arith; value = omega arith }, tt)

module _ (L : ℕ) (w : List ℕ) (a : ℕ) where
  variable-short : 0 < L → L ≤ 64 → (x : ℕ) → Every ShortStrings (shown (variable_in L w a x ∷ []))
  unfolding variable_in value_at variable
  variable-short h k x =
      short _ (field_at 64 w 0 x) (text_at L w (a + (L + 2) * x + 2)) (mark_at w (a + (L + 2) * x)) (text-length 64 w (0 + 64 * x) (omega arith))
      (omega (arith, text-length L w (a + (L + 2) * x + 2) h))

  pub variables-short : (n : ℕ) → 0 < L → L ≤ 64 → Every ShortStrings (shown (variables_at L w a n))
  unfolding row
  variables-short n h k = from_every ShortStrings n (variable_in L w a) 0 (variable-short h k)
