-- A record begins with its step: the evaluators in front of the rules.
-- Assumes nothing.
use Prim.Native.Nat.{ℕ, zero, suc, ◌≤◌, ◌<◌, ◌+◌, ◌-◌}
use native.Mathlib.Nat.{le_refl}
use native.Mathlib.Numerals.{add-one}
use native.Mathlib.Omega.{arith}
use mathlib.Core.Path.{◌≡◌, refl, sym, ap, ◌∙◌}
use mathlib.Core.Logic.{inr}
use mathlib.Core.Bool.{Bool}
use mathlib.Core.List.{List, ◌++◌}
use lib.ListN.{take}
use lib.Dec.{ltb}
use borrow.Author.Tests.{lt-ltb, le-ltb}
use Rattle.rules.specs.declared.Refusal.TheVariants.{BudgetUsedUp}
use Rattle.rules.specs.Syntax.{Bytes, str_place, lst_place, ins_place}
use Rattle.rules.specs.Trace.{end, step}
use Rattle.rules.specs.State.{Evaluated, ended, after, set_used}
use Rattle.rules.specs.Refusals.{Means, Meaning, stepped as beginning}
use Rattle.rules.proofs.Outcomes.{stepped_on, on_step_lem, on_no_step}
use Rattle.sheet.specs.Check.{count}
use Rattle.sheet.specs.Filled.{Loaded, IsIns, IsStr, IsLst, ins_of, str_of, lst_of, in_record}
use Rattle.sheet.proofs.Reading.{string-kinds, list-kinds, instruction-kinds}
use Rattle.sheet.proofs.Reading.{text_law, variable_law, argument_law, embedded_law, join_law, empty_law, field_law, split_law}
use Rattle.sheet.proofs.Reading.{assign_law, export_law, sequence_law, subshell_law, not_law, if_law, nooutput_law, pipe_law, utility_law}
use Rattle.sheet.proofs.Reading.{call_law, for_law, while_law, exit_law, return_law, shift_law}
use Rattle.memory.specs.Layout.{Only, own_place, list_place, string_place, counters_end}
use Rattle.memory.specs.Abstract.{state_of}
use Rattle.memory.specs.Profile.{Counted}
use Rattle.memory.proofs.Parts.{under, over, part_away, same_trans}
use Rattle.memory.proofs.Keeping.{kept-counters}
use Rattle.memory.proofs.States.{state_charged, same-fields}
use Rattle.memory.proofs.Charging.{charged-step, counted-only}
use Rattle.memory.specs.declared.Given.{Given}
use Rattle.memory.specs.Scope.{Scope}
use Rattle.memory.specs.declared.Course.{Course}
use Rattle.engine.specs.Values.{RunEnd}
use Rattle.engine.specs.Moves.{stepped}
use Rattle.engine.specs.Meaning.{known_of, limits_given, handed, ins_at, str_at, lst_at, ins_rule_at, str_rule_at, lst_rule_at}
use Rattle.engine.specs.Post.{Ready, Came, Stopped, Ran, RanText, RanList, so_far, does}
use Rattle.engine.proofs.Going.{handed-kept, came_then, stopped_then, ran_then, list_then}
use Rattle.engine.proofs.Follows.{in_sheet}
use Rattle.engine.specs.Values.{Text, Listing}

-- A NODE HAS THE NUMBER OF ITS RECORD

module _ {s w : Bytes} (l : Loaded s (known_of s) w) (r : ℕ) where
  ins-place : IsIns (known_of s) r → ins_place (ins_of (known_of s) r) ≡ r
  ins-place h = go (in_record s w r 2 - 16) (let k = instruction-kinds l r h in omega (arith, k.0)) (let k = instruction-kinds l r h in omega (arith, k.1))
    where
      n : r < count (known_of s)
      n = h.0

      go : (k : ℕ) → in_record s w r 2 ≡ 16 + k → k ≤ 14 → ins_place (ins_of (known_of s) r) ≡ r
      go zero e m = ap ins_place (assign_law l r n e).0
      go (suc zero) e m = ap ins_place (export_law l r n e).0
      go (suc (suc zero)) e m = ap ins_place (sequence_law l r n e).0
      go (suc (suc (suc zero))) e m = ap ins_place (subshell_law l r n e).0
      go (suc (suc (suc (suc zero)))) e m = ap ins_place (not_law l r n e).0
      go (suc (suc (suc (suc (suc zero))))) e m = ap ins_place (if_law l r n e).0
      go (suc (suc (suc (suc (suc (suc zero)))))) e m = ap ins_place (nooutput_law l r n e).0
      go (suc (suc (suc (suc (suc (suc (suc zero))))))) e m = ap ins_place (pipe_law l r n e).0
      go (suc (suc (suc (suc (suc (suc (suc (suc zero)))))))) e m = ap ins_place (utility_law l r n e).0
      go (suc (suc (suc (suc (suc (suc (suc (suc (suc zero))))))))) e m = ap ins_place (call_law l r n e).0
      go (suc (suc (suc (suc (suc (suc (suc (suc (suc (suc zero)))))))))) e m = ap ins_place (for_law l r n e).0
      go (suc (suc (suc (suc (suc (suc (suc (suc (suc (suc (suc zero))))))))))) e m = ap ins_place (while_law l r n e).0
      go (suc (suc (suc (suc (suc (suc (suc (suc (suc (suc (suc (suc zero)))))))))))) e m = ap ins_place (exit_law l r n e).0
      go (suc (suc (suc (suc (suc (suc (suc (suc (suc (suc (suc (suc (suc zero))))))))))))) e m = ap ins_place (return_law l r n e).0
      go (suc (suc (suc (suc (suc (suc (suc (suc (suc (suc (suc (suc (suc (suc zero)))))))))))))) e m = ap ins_place (shift_law l r n e).0
      go (suc (suc (suc (suc (suc (suc (suc (suc (suc (suc (suc (suc (suc (suc (suc k))))))))))))))) e m = absurd (omega arith)

  str-place : IsStr (known_of s) r → str_place (str_of (known_of s) r) ≡ r
  str-place h = go (in_record s w r 2 - 1) (let k = string-kinds l r h in omega (arith, k.0)) (let k = string-kinds l r h in omega (arith, k.1))
    where
      n : r < count (known_of s)
      n = h.0

      go : (k : ℕ) → in_record s w r 2 ≡ 1 + k → k ≤ 4 → str_place (str_of (known_of s) r) ≡ r
      go zero e m = ap str_place (text_law l r n e).0
      go (suc zero) e m = ap str_place (variable_law l r n e).0
      go (suc (suc zero)) e m = ap str_place (argument_law l r n e).0
      go (suc (suc (suc zero))) e m = ap str_place (embedded_law l r n e).0
      go (suc (suc (suc (suc zero)))) e m = ap str_place (join_law l r n e).0
      go (suc (suc (suc (suc (suc k))))) e m = absurd (omega arith)

  lst-place : IsLst (known_of s) r → lst_place (lst_of (known_of s) r) ≡ r
  lst-place h = go (in_record s w r 2 - 6) (let k = list-kinds l r h in omega (arith, k.0)) (let k = list-kinds l r h in omega (arith, k.1))
    where
      n : r < count (known_of s)
      n = h.0

      go : (k : ℕ) → in_record s w r 2 ≡ 6 + k → k ≤ 2 → lst_place (lst_of (known_of s) r) ≡ r
      go zero e m = ap lst_place (empty_law l r n e)
      go (suc zero) e m = ap lst_place (field_law l r n e).0
      go (suc (suc zero)) e m = ap lst_place (split_law l r n e).0
      go (suc (suc (suc k))) e m = absurd (omega arith)

  module _ (g : Given) (calls : ℕ) where
    pub ins-begins : IsIns (known_of s) r → ins_at s g calls r ≡ beginning (limits_given g) r (ins_rule_at s g calls r)
    unfolding ins_at ins_rule_at
    ins-begins h = ap (λ (k : ℕ). beginning (limits_given g) k (ins_rule_at s g calls r)) (ins-place h)

    pub str-begins : (flag : Bool) → IsStr (known_of s) r → str_at s g calls r flag ≡ beginning (limits_given g) r (str_rule_at s g calls r flag)
    unfolding str_at str_rule_at
    str-begins flag h = ap (λ (k : ℕ). beginning (limits_given g) k (str_rule_at s g calls r flag)) (str-place h)

    pub lst-begins : (fields : List Bytes) → IsLst (known_of s) r → lst_at s g calls r fields ≡ beginning (limits_given g) r (lst_rule_at s g calls r fields)
    unfolding lst_at lst_rule_at
    lst-begins fields h = ap (λ (k : ℕ). beginning (limits_given g) k (lst_rule_at s g calls r fields)) (lst-place h)

-- THE BUDGET, TESTED FIRST

module _ (i : Bytes) (g : Given) (e : Scope) (c : Course) (w : Bytes) where
  pub used_in : (state_of i w g e c).used ≡ c.used
  unfolding state_of
  used_in = refl

  state_used : state_of i w g e (stepped c) ≡ set_used (c.used + 1) (state_of i w g e c)
  unfolding state_of
  state_used = refl

module _ {A : Type 0} {s i w : Bytes} {g : Given} {e : Scope} {c : Course} (ready : Ready s i w g e c) (r : ℕ) (m t : Means A) (begins : t ≡ beginning (limits_given g) r m) where
  pub used_up : r < count (known_of s) → g.budget ≤ c.used → Stopped (does s i w g e c t) BudgetUsedUp r w w
  unfolding does state_of
  used_up k h = record {
    trace = end;
    eq = ap (λ (x : Means A). x (handed s w g e) (state_of i w g e c)) begins ∙ on_no_step _ _ _ _ _ (stepped_on _ _ _ _ _) (le-ltb _ _ h);
    size = refl;
    known = in_sheet ready k;
  }

  used-is : (v : Bytes) → (state_of i v g e c).used ≡ c.used
  used-is v = used_in i g e c v

  -- the step made, and what comes after it
  module _ {v : Bytes} (counted : Counted (own_place e.function) 1 w v) (left : c.used < g.budget) where
    pub only : Only 4096 counters_end w v
    only = counted-only _ _ counted ready.placed.function

    state_stepped : state_of i v g e (stepped c) ≡ set_used (suc (state_of i w g e c).used) (state_of i w g e c)
    state_stepped =
        state_used i g e c v
        ∙ ap (λ (n : ℕ). set_used n (state_of i v g e c)) (add-one c.used)
        ∙ ap (set_used (suc c.used)) (state_charged ready.roomy ready.placed ready.fits only (omega arith) (omega arith))
        ∙ ap (λ (n : ℕ). set_used (suc n) (state_of i w g e c)) (sym (used-is w))

    goes_on : m (handed s w g e) (set_used (suc (state_of i w g e c).used) (state_of i w g e c)) ≡ does s i v g e (stepped c) m
    unfolding does
    goes_on = rw (handed-kept ready (under 0 4096 (omega arith) only), state_stepped)

    pub step_on : does s i w g e c t ≡ after (step r end) (does s i v g e (stepped c) m)
    unfolding does
    step_on =
        ap (λ (x : Means A). x (handed s w g e) (state_of i w g e c)) begins
        ∙ on_step_lem _ _ _ _ _ (stepped_on _ _ _ _ _) (ap (λ (n : ℕ). ltb n g.budget) (used-is w) ∙ lt-ltb _ _ left)
        ∙ ap (after (step r end)) goes_on

    abbrev pub stepped-came : Came i g e w c (ended (tt {0}) (state_of i v g e (stepped c)) (step r end)) (tt {0}) v (stepped c)
    stepped-came = record {
      trace = step r end;
      eq = refl;
      charged = charged-step _ counted ready.placed.function r;
      kept = kept-counters ready.placed only (omega arith) (omega arith);
      onward = record { used = omega arith; longer = le_refl _; short = λ h. h; low = le_refl _; high = le_refl _; count = le_refl _; from = refl; rest = le_refl _ };
    }

-- WHAT COMES AFTER THE STEP

module _ {s i w v : Bytes} {g : Given} {e : Scope} {c : Course} (ready : Ready s i w g e c) (r : ℕ) (counted : Counted (own_place e.function) 1 w v) (left : c.used < g.budget) where
  changed : Only 4096 counters_end w v
  changed = counted-only _ _ counted ready.placed.function

  pub ins-begun : {x : Bytes} (m t : Meaning) (a : RunEnd) → t ≡ beginning (limits_given g) r m → Ran i g e v (stepped c) (does s i v g e (stepped c) m) x a → Ran i g e w c (does s i w g e c t) x a
  ins-begun m t a h n = ran_then a (stepped-came ready r m t h counted left) (step_on ready r m t h counted left) n

  pub str-begun : {x : Bytes} (k : ℕ) (m t : Means (Evaluated (Bytes × Bool))) (a : Text) → t ≡ beginning (limits_given g) r m
      → RanText i g e v (stepped c) k (does s i v g e (stepped c) m) x a → RanText i g e w c k (does s i w g e c t) x a
  str-begun k m t (Text.Value l flag d) h n = record {
    by = record {
      bytes = n.by.bytes;
      size = n.by.size;
      short = n.by.short;
      came = came_then (stepped-came ready r m t h counted left) (step_on ready r m t h counted left) n.by.came;
      text = n.by.text ∙ ap (λ (p : Bytes). take g.unit (p ++ n.by.bytes)) (part_away (string_place g.unit e.holds) k changed (inr (omega arith)));
      list = same_trans (over _ _ (omega arith) changed) n.by.list;
    };
  }
  str-begun k m t (Text.Error d) h n = record { by = came_then (stepped-came ready r m t h counted left) (step_on ready r m t h counted left) n.by }
  str-begun k m t (Text.Refused why place) h n = record { by = stopped_then (stepped-came ready r m t h counted left) (step_on ready r m t h counted left) n.by }

  -- the fields so far are as before
  pub fields-stepped : (m : ℕ) → so_far v g e m ≡ so_far w g e m
  fields-stepped m = same-fields g.unit (list_place g.unit (e.holds + 1)) m (over _ _ (omega arith) changed) ready.roomy.unit

  pub lst-begun : {x : Bytes} (m t : Means (Evaluated (List Bytes))) (a : Listing) → t ≡ beginning (limits_given g) r m
      → RanList i g e v (stepped c) (does s i v g e (stepped c) m) x a → RanList i g e w c (does s i w g e c t) x a
  lst-begun m t a h n = list_then a (stepped-came ready r m t h counted left) (step_on ready r m t h counted left) n
