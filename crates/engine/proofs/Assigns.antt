-- Assign: what it comes to from what its string came to.
-- Assumes nothing.
use Prim.Native.Nat.{ℕ, ◌≤◌, ◌<◌, ◌+◌, ◌*◌, min}
use native.Mathlib.Omega.{arith}
use mathlib.Core.Path.{◌≡◌, sym, ap, ◌∙◌}
use mathlib.Core.Bool.{Bool, true}
use lib.ListN.{length}
use lib.Seq.{take_all}
use Rattle.rules.specs.declared.Behaviour.{Behaviour}
use Rattle.rules.specs.declared.Behaviour.TheVariants.{Failure}
use Rattle.rules.specs.declared.Refusal.{Refusal}
use Rattle.rules.specs.Syntax.{Bytes}
use Rattle.rules.specs.Trace.{end}
use Rattle.rules.specs.State.{Outcome, Run, ended, variables, set_variables, set_result}
use Rattle.rules.specs.Words.{assigned}
use Rattle.rules.specs.Rules.{settle, finish}
use Rattle.rules.proofs.Outcomes.{on_value}
use Rattle.rules.proofs.Ways.{assign_on, finish_on}
use Rattle.sheet.specs.Filled.{in_record, mark_in}
use Rattle.sheet.proofs.Reading.{assign_law}
use Rattle.memory.specs.Layout.{part, variables_place, string_place}
use Rattle.memory.specs.Posts.{Level, Assigned}
use Rattle.memory.specs.Abstract.{state_of}
use Rattle.memory.proofs.Parts.{under}
use Rattle.memory.proofs.Places.{string-end}
use Rattle.memory.proofs.Texts.{step}
use Rattle.memory.proofs.Keeping.{kept-level, level-end}
use Rattle.memory.proofs.States.{state_assigned}
use Rattle.memory.specs.declared.Given.{Given}
use Rattle.memory.specs.Scope.{Scope}
use Rattle.memory.specs.declared.Course.{Course}
use Rattle.engine.specs.Values.{RunEnd}
use Rattle.engine.specs.Ends.{finished}
use Rattle.engine.specs.Meaning.{ins_rule, str_at, ins_rule_at, handed}
use Rattle.engine.specs.Post.{Ready, OfKind, Valued, StrDone, InsRuled, does}
use Rattle.engine.proofs.Going.{has_value, has_error, text-refused, ready_kept, ran_then, quiet}
use Rattle.engine.proofs.Follows.{value_on, error-came, value-refused}
use Rattle.engine.proofs.Settles.{handed-condition, onward-result, finish-settled}
use Rattle.engine.specs.Values.{Text}

-- a value that was begun afresh stands in the string of this hold level
pub whole-value : {i w v : Bytes} {g : Given} {e : Scope} {c d : Course} {o : Outcome _} {m : ℕ} {flag : Bool} → (q : Valued i g e w c 0 o m flag v d) → part v (string_place g.unit e.holds) m ≡ q.bytes
unfolding part
whole-value {v = v} {g = g} {e = e} {m = m} q =
    let least : min g.unit (0 + m) ≡ m = omega (arith, q.short) in
    ap (part v (string_place g.unit e.holds)) (sym least) ∙ q.text ∙ take_all g.unit q.bytes (omega (arith, q.size, q.short))

module _ {s i w : Bytes} {g : Given} {e : Scope} {c : Course} {r x b : ℕ} (ready : Ready s i w g e c) (kind : OfKind s w r 16) (slot : x ≡ mark_in w r) (string : b ≡ in_record s w r 6) where
  -- what comes after the value
  abbrev assigns : (Bytes × Bool) → Run Behaviour
  assigns p t = ended (settle (handed s w g e) p.1) (set_result p.1 (set_variables (assigned x p.0 (variables t)) t)) end

  assign-starts : does s i w g e c (ins_rule_at s g e.calls r) ≡ on_value (does s i w g e c (str_at s g e.calls b true)) Failure assigns
  unfolding does ins_rule_at ins_rule str_at
  assign-starts = rw ((assign_law ready.loaded r kind.known kind.kind).0, slot, string) (assign_on _ _ _ _)

  known_slot : x < g.slots
  known_slot = omega (arith, slot, ready.slots, (assign_law ready.loaded r kind.known kind.kind).1)

  module _ {v : Bytes} {f : Text} (ran : StrDone s i w g e c b true 0 v f) where
    pub assign-error : {d : Course} → f ≡ Text.Error d → InsRuled s i w g e c r v (RunEnd.Ended Failure d)
    assign-error h = record { by = error-came _ _ assign-starts (has_error ran h) }

    pub assign-refused : {why : Refusal} {place : ℕ} → f ≡ Text.Refused why place → InsRuled s i w g e c r v (RunEnd.Refused why place)
    assign-refused h = record { by = value-refused _ _ assign-starts (text-refused ran h) }

    module _ {n from a : ℕ} {flag : Bool} {d : Course} (value : f ≡ Text.Value n flag d) (stands : from ≡ string_place g.unit e.holds) (level : a ≡ variables_place g.unit e.level) where
      -- it can become the variable's
      pub assign_can : Level g.unit v a × ((x < 16) × (n < g.unit) × (a + 16 * (g.unit + 2) ≤ from) × (from + n ≤ length v))
      assign_can =
          let q = has_value ran value in
          let end_of_lem = level-end g.unit ready.placed in
          let last = string-end g.unit {h = e.holds} ready.placed.holds in (
            record { above = omega (arith, level); unit = ready.roomy.unit; small = ready.roomy.small; room = omega (arith, level, end_of_lem, q.came.kept.size, ready.roomy.room) },
            (
              omega (arith, known_slot, ready.roomy.slots),
              q.short,
              omega (arith, level, stands, end_of_lem),
              omega (arith, stands, last, q.short, q.came.kept.size, ready.roomy.room),
            ),
          )

      pub assign_done : {y : Bytes} {k : RunEnd} → Assigned g.unit a x (part v from n) v y → k ≡ finished e d flag → InsRuled s i w g e c r y k
      assign_done {y} made ends =
          let q = has_value ran value in
          let after-it = ready_kept ready q.came.kept.tables q.came.kept.size q.came.onward in
          let new = rw (level, stands, whole-value q) at made in
          let within = step (g.unit + 2) x 16 (omega (arith, known_slot, ready.roomy.slots)) in
          let state = state_assigned after-it.roomy after-it.placed after-it.fits x q.bytes new known_slot in
          let goes : assigns (q.bytes, flag) (state_of i v g e d) ≡ finish (handed s w g e) flag (state_of i y g e d)
          = sym (finish_on (handed s w g e) flag (set_variables (assigned x q.bytes (variables (state_of i v g e d))) (state_of i v g e d))) ∙ ap (finish (handed s w g e) flag) (sym state)
          in
          rw ends
          (ran_then (finished e d flag) q.came (value_on _ _ assign-starts q.came)
          (record {
            by = quiet
                (goes ∙ finish-settled i y g e d (handed s w g e) flag (handed-condition s w g e))
                (under _ _ (omega arith) new.only)
                (kept-level after-it.placed new.only (omega arith) (omega (arith, level-end g.unit ready.placed, within)))
                (onward-result g d flag);
          }))
