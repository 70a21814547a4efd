-- The result sheet that the work memory stands for when a run has ended.
use Rattle.std.specs.Prelude.{List, [], ◌∷◌, ℕ, zero, suc, ◌<◌, ◌≤◌, length}
use Rattle.rules.specs.declared.Behaviour.{Behaviour}
use Rattle.rules.specs.Syntax.{Bytes}
use Rattle.rules.specs.Ruling.{Shown, Row, Sheet, shown}
use Rattle.memory.specs.Layout.{part, text_at, value_at, mark_at, number_at, variables_at, variables_place, stream_place, entered_place, own_place, inclusive_place}
use Rattle.memory.specs.Abstract.{Roomy}
use Rattle.memory.specs.declared.Given.{Given}
use Rattle.memory.specs.declared.Course.{Course}

-- the counters of function f
abbrev pub row_in : (w : Bytes) → (f : ℕ) → Row
row_in w f = record { function = f; entered = number_at w (entered_place f); own = number_at w (own_place f); inclusive = number_at w (inclusive_place f) }

-- those of `functions` functions, the first of them f
unfoldable pub rows_in : (w : Bytes) → (f functions : ℕ) → List Row
rows_in w f zero = []
rows_in w f (suc functions) = row_in w f ∷ rows_in w (suc f) functions

-- the variable at v, named by the text at f, if it is set
abbrev pub shown_at : (u : ℕ) → (w : Bytes) → (f v : ℕ) → List Shown
shown_at u w f v = shown ((record { name = text_at 64 w f; value = value_at u w v; exported = mark_at w v }) ∷ [])

-- main is function 0, and n more follow
unfoldable pub sheet_in : (w : Bytes) → Given → Behaviour → Course → (n : ℕ) → Sheet
sheet_in w g b c n = record {
  behaviour = b;
  result = c.result;
  steps = c.used;
  output = part w (stream_place g.unit 0) c.length;
  variables = shown (variables_at g.unit w (variables_place g.unit 0) g.slots);
  profile = rows_in w 0 (suc n);
}

-- what an ended run leaves: everything is of a size that can be written
pub record Writable (out w : Bytes) (g : Given) (c : Course) (n : ℕ) : Type 0 where
  pub roomy : Roomy g w
  pub unit : g.unit ≤ 64
  pub output : c.length ≤ 1024
  pub steps : c.used < 4294967296
  pub functions : n ≤ 32
  pub room : 4096 ≤ length out
