-- One level up and back: a scope that has its own variables, and what is left of the outer one when it is done.
use Prim.Native.Nat.{ℕ, ◌≤◌, ◌<◌, ◌+◌, ◌*◌, ◌-◌}
use native.Mathlib.Omega.{arith}
use native.Mathlib.Nat.{mul-add}
use mathlib.Core.Path.{◌≡◌, sym, ap, ◌∙◌}
use mathlib.Core.Logic.{⊎_elim, inr}
use mathlib.Core.Bool.{true, false}
use mathlib.Core.List.{List, []}
use lib.ListN.{get_or, drop, length-drop}
use lib.Seq.{ext_get_or, get_or-drop}
use Rattle.rules.specs.State.{kept, context, set_output, set_input}
use Rattle.memory.specs.declared.Given.{Given}
use Rattle.memory.specs.Scope.{Scope}
use Rattle.memory.specs.declared.Course.{Course}
use Rattle.memory.specs.Layout.{part, field_at, fields_at, variables_at, variables_place, list_place, stream_place}
use Rattle.memory.specs.Posts.{Raised}
use Rattle.memory.specs.Abstract.{stream_if, input_if, state_of, Roomy, Fits, Kept}
use Rattle.memory.proofs.Parts.{over, part_same, part_away, same-within}
use Rattle.memory.proofs.Rows.{row-length, row_at}
use Rattle.memory.proofs.Places.{variables-next, variables_up, list_up, variables-end, list-next, fields_within}
use Rattle.memory.proofs.States.{with_length, same-variables, same-fields, same-input}

-- AFTER raise

-- a course that reads n bytes at a
abbrev pub with_input : (a n : ℕ) → Course → Course
with_input a n c = record { used = c.used; result = c.result; arguments = c.arguments; count = c.count; from = a; rest = n; length = c.length }

module _ {i : List ℕ} {g : Given} {e : Scope} {c : Course} {w w' : List ℕ} (m : Roomy g w) (f : Fits i g e c) (p : Raised g.unit (variables_place g.unit e.level) w w') (l : e.level < 10) where
  above : variables_place g.unit e.level + 32 * (g.unit + 2) ≤ list_place g.unit 0
  above = omega (arith, variables-next g.unit e.level, variables-end g.unit {v = e.level + 1} (omega arith))

  raised-variables : variables_at g.unit w' (variables_place g.unit (e.level + 1)) g.slots ≡ variables_at g.unit w (variables_place g.unit e.level) g.slots
  raised-variables = let d : variables_place g.unit (e.level + 1) ≡ variables_place g.unit e.level + 16 * (g.unit + 2) = variables-next g.unit e.level in rw d (p.variables g.slots m.slots)

  raised-arguments : fields_at g.unit w' c.arguments c.count ≡ fields_at g.unit w c.arguments c.count
  raised-arguments = same-fields g.unit c.arguments c.count (over _ _ (omega (arith, above, f.low)) p.only) m.unit

  raised-input : input_if e.piped i w' c.from c.rest ≡ input_if e.piped i w c.from c.rest
  raised-input = same-input e.piped i c.from c.rest (λ q. over _ _ (omega (arith, above, f.from q)) p.only)

  raised-output : part w' (stream_place g.unit e.stream) c.length ≡ part w (stream_place g.unit e.stream) c.length
  raised-output = part_away (stream_place g.unit e.stream) c.length p.only (inr (omega (arith, above)))

  module _ (e' : Scope) (v : e'.level ≡ e.level + 1) where
    -- a scope one level up that writes and reads what the outer one does
    pub state_raised : e'.stream ≡ e.stream → e'.dropped ≡ e.dropped → e'.piped ≡ e.piped → state_of i w' g e' c ≡ state_of i w g e c
    unfolding state_of
    state_raised x y z = rw (v, x, y, z, raised-variables, raised-arguments, raised-input, raised-output)

    -- one with a fresh stream
    pub state_fresh : e'.dropped ≡ false → e'.piped ≡ e.piped → state_of i w' g e' (with_length 0 c) ≡ set_output (kept []) (state_of i w g e c)
    unfolding state_of stream_if part
    state_fresh y z = rw (v, y, z, raised-variables, raised-arguments, raised-input)

    -- one that reads n bytes at a
    pub state_piped : (a n : ℕ) → e'.stream ≡ e.stream → e'.dropped ≡ e.dropped → e'.piped ≡ true
        → state_of i w' g e' (with_input a n c) ≡ set_input (part w' a n) (state_of i w g e c)
    unfolding state_of input_if
    state_piped a n x y z = rw (v, x, y, z, raised-variables, raised-arguments, raised-output)

-- AFTER AN INNER EVALUATION

module _ {g : Given} {e : Scope} {n : ℕ} {w w' : List ℕ} (p : Kept g e n w w') where
  pub variables-kept : (v : ℕ) → 0 < g.unit → g.slots ≤ 16 → v < e.level
      → variables_at g.unit w' (variables_place g.unit v) g.slots ≡ variables_at g.unit w (variables_place g.unit v) g.slots
  variables-kept v z h l =
      same-variables g.unit v g.slots (same-within _ _ (omega arith) (omega arith) p.tables)
      (same-within _ _ (variables_up g.unit (omega arith)) (omega (arith, variables-next g.unit v, variables_up g.unit {v = v + 1} {v' = e.level} (omega arith))) p.variables) z h

  pub fields-kept : (a m : ℕ) → 0 < g.unit → list_place g.unit 0 ≤ a → a + g.unit * m ≤ list_place g.unit (e.holds + 1)
      → fields_at g.unit w' a m ≡ fields_at g.unit w a m
  fields-kept a m z l k = same-fields g.unit a m (same-within _ _ l k p.lists) z

  -- the list of a hold level below
  pub state_fields : (h m : ℕ) → 0 < g.unit → m ≤ 16 → h < e.holds
      → fields_at g.unit w' (list_place g.unit (h + 1)) m ≡ fields_at g.unit w (list_place g.unit (h + 1)) m
  state_fields h m z l k =
      fields-kept (list_place g.unit (h + 1)) m z (list_up g.unit (omega arith))
      (omega (arith, list-next g.unit (h + 1), fields_within g.unit {n = m} l, list_up g.unit {h = h + 1 + 1} {h' = e.holds + 1} (omega arith)))

  pub output-kept : part w' (stream_place g.unit e.stream) n ≡ part w (stream_place g.unit e.stream) n
  output-kept = part_same (stream_place g.unit e.stream) n (omega arith) (omega arith) p.written

  pub input-kept : {i : List ℕ} {c : Course} → Fits i g e c → input_if e.piped i w' c.from c.rest ≡ input_if e.piped i w c.from c.rest
  input-kept {i} {c} f =
      same-input e.piped i c.from c.rest
      (λ q.
      ⊎_elim (λ h. same-within _ _ (f.from q) (omega arith) p.written) (λ h. same-within _ _ h (f.to q) p.others) (f.apart q))

  -- back in a scope below
  pub state_restored : {i : List ℕ} {d : Scope} {c : Course} → Roomy g w → Fits i g d c → d.level < e.level → d.holds ≤ e.holds
      → context (state_of i w' g d c) ≡ context (state_of i w g d c)
  unfolding state_of
  state_restored {i} {d} {c} m f l h =
      rw (
        variables-kept d.level m.unit m.slots l,
        fields-kept c.arguments c.count m.unit f.low (omega (arith, f.high, list_up g.unit {h = d.holds + 1} {h' = e.holds + 1} (omega arith))),
      )

-- SHIFT

pub fields-dropped : (u : ℕ) (w : List ℕ) (a n m : ℕ) → n ≤ m → fields_at u w (a + u * n) (m - n) ≡ drop n (fields_at u w a m)
fields-dropped u w a n m h =
    ext_get_or [] _ _ (row-length (m - n) (field_at u w (a + u * n)) ∙ sym (length-drop n (fields_at u w a m) ∙ ap (λ k. k - n) (row-length m (field_at u w a))))
    (λ k l. one k (omega (arith, row-length (m - n) (field_at u w (a + u * n)))))
  where
    one : (k : ℕ) → k < m - n → get_or (fields_at u w (a + u * n) (m - n)) k [] ≡ get_or (drop n (fields_at u w a m)) k []
    one k l =
        let d : a + u * n + u * k ≡ a + u * (n + k) = omega (arith, mul-add u n k) in
        row_at (m - n) (field_at u w (a + u * n)) k [] l
        ∙ rw d (sym (get_or-drop n (fields_at u w a m) k [] ∙ row_at m (field_at u w a) (n + k) [] (omega arith)))
