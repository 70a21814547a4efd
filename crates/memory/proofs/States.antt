-- The bytes as the rules' state: what leaves it as it is, and what changes it as the rules say.
use Prim.Native.Nat.{ℕ, ◌≤◌, ◌<◌, ◌+◌, ◌*◌}
use native.Mathlib.Omega.{arith}
use mathlib.Core.Path.{◌≡◌, refl}
use mathlib.Core.Logic.{⊎_elim, inr}
use mathlib.Core.Bool.{Bool, true, false}
use mathlib.Core.List.{List, ◌++◌}
use Rattle.rules.specs.Syntax.{Bytes}
use Rattle.rules.specs.State.{Variable, kept, set_variables, set_output, variables, written}
use Rattle.rules.specs.Words.{assigned, marked}
use Rattle.memory.specs.declared.Given.{Given}
use Rattle.memory.specs.Scope.{Scope}
use Rattle.memory.specs.declared.Course.{Course}
use Rattle.memory.specs.Layout.{Same, Only, fields_at, variables_at, variables_place, list_place, string_place, stream_place, counters_end}
use Rattle.memory.specs.Posts.{Assigned, Marked, Longer}
use Rattle.memory.specs.Abstract.{stream_if, input_if, state_of, Roomy, Placed, Fits, Unchanged}
use Rattle.memory.proofs.Parts.{under, over, part_same, part_away, only_wider}
use Rattle.memory.proofs.Texts.{like_same, fields_like, step}
use Rattle.memory.proofs.Variables.{variables_like}
use Rattle.memory.proofs.Places.{variables-next, variables-within}
use Rattle.memory.proofs.Keeping.{level-end, low-lists}

-- PARTS OF THE STATE

pub same-variables : {w w' : List ℕ} (u v n : ℕ) → Same 0 1024 w w' → Same (variables_place u v) (variables_place u v + 16 * (u + 2)) w w' → 0 < u → n ≤ 16
    → variables_at u w' (variables_place u v) n ≡ variables_at u w (variables_place u v) n
same-variables u v n p q z h =
    variables_like u n z (like_same 0 1024 p (omega arith) (omega arith)) h
    (like_same (variables_place u v) ((u + 2) * n) q (omega arith) (omega (arith, variables-within u h)))

pub same-fields : {w w' : List ℕ} (u a n : ℕ) → Same a (a + u * n) w w' → 0 < u → fields_at u w' a n ≡ fields_at u w a n
same-fields u a n p z = fields_like u n z (like_same a (u * n) p (omega arith) (omega arith))

pub same-input : {w w' : List ℕ} (b : Bool) (i : List ℕ) (a n : ℕ) → (b ≡ true → Same a (a + n) w w') → input_if b i w' a n ≡ input_if b i w a n
unfolding input_if
same-input false i a n p = refl
same-input true i a n p = part_same a n (omega arith) (omega arith) (p refl)

-- WHAT DOES NOT MATTER

module _ {i : List ℕ} {g : Given} {e : Scope} {c : Course} {w w' : List ℕ} (m : Roomy g w) (h : Placed e) (f : Fits i g e c) where
  pub state_kept : Unchanged g e c w w' → state_of i w' g e c ≡ state_of i w g e c
  unfolding state_of
  state_kept p =
      rw (
        same-variables g.unit e.level g.slots p.names p.variables m.unit m.slots,
        same-fields g.unit c.arguments c.count p.arguments m.unit,
        same-input e.piped i c.from c.rest p.input,
        part_same {u = w} {v = w'} (stream_place g.unit e.stream) c.length (omega arith) (omega arith) p.output,
      )

  module _ {a b : ℕ} (p : Only a b w w') where
    -- counters
    pub state_charged : 4096 ≤ a → b ≤ counters_end → state_of i w' g e c ≡ state_of i w g e c
    state_charged x y = state_kept (record {
      names = under _ _ (omega arith) p;
      variables = over _ _ (omega arith) p;
      arguments = over _ _ (omega (arith, f.low)) p;
      input = λ q. over _ _ (omega (arith, f.from q)) p;
      output = over _ _ (omega arith) p;
    })

    -- levels above
    pub state_level : variables_place g.unit (e.level + 1) ≤ a → b ≤ list_place g.unit 0 → state_of i w' g e c ≡ state_of i w g e c
    state_level x y = state_kept (record {
      names = under _ _ (omega arith) p;
      variables = under _ _ (omega (arith, variables-next g.unit e.level)) p;
      arguments = over _ _ (omega (arith, f.low)) p;
      input = λ q. over _ _ (omega (arith, f.from q)) p;
      output = over _ _ (omega arith) p;
    })

    -- the own list, or lists above
    pub state_list : list_place g.unit (e.holds + 1) ≤ a → b ≤ string_place g.unit 0 → state_of i w' g e c ≡ state_of i w g e c
    state_list x y = state_kept (record {
      names = under _ _ (omega arith) p;
      variables = under _ _ (omega (arith, level-end g.unit h)) p;
      arguments = under _ _ (omega (arith, f.high)) p;
      input = λ q. over _ _ (omega (arith, f.from q)) p;
      output = over _ _ (omega arith) p;
    })

    -- strings
    pub state_string : string_place g.unit 0 ≤ a → b ≤ stream_place g.unit 0 → state_of i w' g e c ≡ state_of i w g e c
    state_string x y = state_kept (record {
      names = under _ _ (omega arith) p;
      variables = under _ _ (omega (arith, level-end g.unit h)) p;
      arguments = under _ _ (omega (arith, f.high, low-lists g.unit h)) p;
      input = λ q. over _ _ (omega (arith, f.from q)) p;
      output = over _ _ (omega arith) p;
    })

-- WHAT CHANGES IT

-- a course whose stream has another length
abbrev pub with_length : ℕ → Course → Course
with_length r c = record { used = c.used; result = c.result; arguments = c.arguments; count = c.count; from = c.from; rest = c.rest; length = r }

module _ {i : List ℕ} {g : Given} {e : Scope} {c : Course} {w w' : List ℕ} (m : Roomy g w) (h : Placed e) (f : Fits i g e c) where
  -- only variables of the own level are new
  new_variables : (vs : List Variable) → variables_at g.unit w' (variables_place g.unit e.level) g.slots ≡ vs
      → Only (variables_place g.unit e.level) (variables_place g.unit e.level + 16 * (g.unit + 2)) w w' → state_of i w' g e c ≡ set_variables vs (state_of i w g e c)
  unfolding state_of
  new_variables vs q p =
      rw (
        q,
        same-fields {w = w} {w' = w'} g.unit c.arguments c.count (over _ _ (omega (arith, level-end g.unit h, f.low)) p) m.unit,
        same-input {w = w} {w' = w'} e.piped i c.from c.rest (λ y. over _ _ (omega (arith, level-end g.unit h, f.from y)) p),
        part_away {u = w} {v = w'} (stream_place g.unit e.stream) c.length p (inr (omega (arith, level-end g.unit h))),
      )

  one-variable : (x : ℕ) → Only (variables_place g.unit e.level + (g.unit + 2) * x) (variables_place g.unit e.level + (g.unit + 2) * x + (g.unit + 2)) w w' → x < g.slots
      → Only (variables_place g.unit e.level) (variables_place g.unit e.level + 16 * (g.unit + 2)) w w'
  one-variable x p l = only_wider _ _ (omega arith) (omega (arith, step (g.unit + 2) x 16 (omega (arith, m.slots)))) p

  pub state_assigned : (x : ℕ) (s : Bytes) → Assigned g.unit (variables_place g.unit e.level) x s w w' → x < g.slots
      → state_of i w' g e c ≡ set_variables (assigned x s (variables (state_of i w g e c))) (state_of i w g e c)
  unfolding state_of
  state_assigned x s p l = new_variables _ (p.variables g.slots l m.slots) (one-variable x p.only l)

  pub state_marked : (x : ℕ) → Marked g.unit (variables_place g.unit e.level) x w w' → x < g.slots
      → state_of i w' g e c ≡ set_variables (marked x (variables (state_of i w g e c))) (state_of i w g e c)
  unfolding state_of
  state_marked x p l = new_variables _ (p.variables g.slots l m.slots) (one-variable x p.only l)

  -- bytes written to a stream that keeps them
  pub state_longer : (s : Bytes) (r : ℕ) → Longer (stream_place g.unit e.stream) c.length s w w' r → e.dropped ≡ false
      → state_of i w' g e (with_length r c) ≡ set_output (kept (written (state_of i w g e c) ++ s)) (state_of i w g e c)
  unfolding state_of stream_if
  state_longer s r p d =
      rw (
        d,
        p.bytes,
        same-variables {w = w} {w' = w'} g.unit e.level g.slots (under _ _ (omega arith) p.only) (under _ _ (omega (arith, level-end g.unit h)) p.only) m.unit m.slots,
        same-fields {w = w} {w' = w'} g.unit c.arguments c.count (under _ _ (omega (arith, f.high, low-lists g.unit h)) p.only) m.unit,
        same-input {w = w} {w' = w'} e.piped i c.from c.rest (λ y. ⊎_elim (λ l. under _ _ (omega arith) p.only) (λ l. over _ _ (omega (arith, p.fits)) p.only) (f.apart y)),
      )
