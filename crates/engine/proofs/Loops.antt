-- While: turns made, and what remains of the loop.
-- Assumes nothing.
use Prim.Native.Nat.{ℕ, zero, suc, ◌<◌, ◌-◌}
use native.Mathlib.Omega.{arith}
use mathlib.Core.Path.{◌≡◌, refl, sym, ap, ◌∙◌}
use mathlib.Core.Bool.{Bool, true, false, ◌&&◌, cond}
use lib.Dec.{ltb}
use borrow.Author.Tests.{ltb-true, ltb-false}
use Rattle.rules.specs.declared.Behaviour.{Behaviour}
use Rattle.rules.specs.declared.Behaviour.TheVariants.{Normal, Failure}
use Rattle.rules.specs.Syntax.{Bytes}
use Rattle.rules.specs.Trace.{Trace, end, ◌⨾◌}
use Rattle.rules.specs.State.{State, Inherited, Outcome, Run, ended, after, result, choose, give}
use Rattle.rules.specs.Refusals.{under_condition}
use Rattle.rules.specs.Rules.{end_with, while_true}
use Rattle.rules.proofs.Outcomes.{on_normal, on_normal_lem, after-end, after-after}
use Rattle.rules.proofs.Ways.{while_on, while-none, while-more}
use Rattle.sheet.specs.Filled.{in_record}
use Rattle.sheet.proofs.Judged.{and_left, and_right}
use Rattle.sheet.proofs.Reading.{while_law}
use Rattle.memory.specs.Abstract.{state_of, Kept}
use Rattle.memory.specs.Profile.{Charged}
use Rattle.memory.proofs.Parts.{same_refl, same_trans}
use Rattle.memory.proofs.Keeping.{kept_refl, kept_trans}
use Rattle.memory.proofs.Charging.{charged-none, charged_then}
use Rattle.memory.specs.declared.Given.{Given}
use Rattle.memory.specs.Scope.{Scope}
use Rattle.memory.specs.declared.Course.{Course}
use Rattle.engine.specs.Values.{RunEnd}
use Rattle.engine.specs.Ends.{ended_normal, loop_over}
use Rattle.engine.specs.Moves.{tested, with_result}
use Rattle.engine.specs.Meaning.{ins_rule, ins_at, ins_rule_at, handed}
use Rattle.engine.specs.Post.{Ready, OfKind, Onward, Came, Ran, InsDone, InsRuled, does}
use Rattle.engine.proofs.Going.{onward_refl, onward_trans, handed-kept, ready_kept, has_ended, still, ran_then}
use Rattle.engine.proofs.Follows.{does-later, normal_run, normal_stop}
use Rattle.engine.proofs.Settles.{end_with_settled, onward-result}
use Rattle.engine.proofs.Flow.{Tests, test_ran, result_in}

-- the body runs: some of the limit is left
pub some_left : (result : Bool) (left : ℕ) → (result && ltb 0 left) ≡ true → 0 < left
some_left b left runs = ltb-true 0 left (and_right b (ltb 0 left) runs)

-- what the rules make of the loop where the body may run `left` times more
abbrev pub remains : (s i w₀ : Bytes) → Given → Scope → (a b : ℕ) → (w : Bytes) → Course → (flag : Bool) → (left : ℕ) → Outcome Behaviour
remains s i w₀ g e a b w c flag left =
    while_true (ins_at s g e.calls a (under_condition (handed s w₀ g e))) (ins_at s g e.calls b (handed s w₀ g e)) flag left (state_of i w g e c)

-- turns are made, and the body may run `left` times more: memory and course are now w and c
pub record Turned (s i w₀ : Bytes) (g : Given) (e : Scope) (c₀ : Course) (r a b : ℕ) (w : Bytes) (c : Course) (flag : Bool) (left : ℕ) : Type 0 where
  pub trace : Trace
  pub rest : does s i w₀ g e c₀ (ins_rule_at s g e.calls r) ≡ after trace (remains s i w₀ g e a b w c flag left)
  pub charged : Charged e.function trace w₀ w
  pub kept : Kept g e c₀.length w₀ w
  pub onward : Onward g c₀ c

-- a turn after its test was true
go_on : (test body : Run Behaviour) → (left : ℕ) → Run Behaviour
go_on test body zero = give Failure
go_on test body (suc left) = λ t. on_normal (body t) (λ u. while_true test body (result u) left u)

one_turn : (test body : Run Behaviour) (flag : Bool) (left : ℕ) (t : State) → while_true test body flag left t ≡ on_normal (test t) (λ u. choose (result u) (go_on test body left) (end_with flag) u)
unfolding go_on
one_turn test body flag zero t = while-none t test body flag
one_turn test body flag (suc left) t = while-more t test body flag left

module _ {s i w : Bytes} {g : Given} {e : Scope} {c : Course} {r a b : ℕ} (ready : Ready s i w g e c) (kind : OfKind s w r 27) (test : a ≡ in_record s w r 4) (body : b ≡ in_record s w r 6) where
  while-starts : does s i w g e c (ins_rule_at s g e.calls r) ≡ remains s i w g e a b w c true g.loops
  unfolding does ins_rule_at ins_rule ins_at
  while-starts = rw ((while_law ready.loaded r kind.known kind.kind).0, test, body) (while_on _ _ _ _ _)

  pub turned_none : {left : ℕ} → left ≡ g.loops → Turned s i w g e c r a b w c true left
  turned_none {left} all = record {
    trace = end;
    rest = while-starts ∙ ap (remains s i w g e a b w c true) (sym all) ∙ sym (after-end (remains s i w g e a b w c true left));
    charged = charged-none (same_refl _ _ w);
    kept = kept_refl g e c.length w;
    onward = onward_refl g c;
  }

-- an instruction that ended Normal, as an equation
normal_on : {i w v : Bytes} {g : Given} {e : Scope} {c d : Course} {p o : Outcome Behaviour} (k : State → Outcome Behaviour) → p ≡ on_normal o k
    → (m : Came i g e w c o Normal v d) → p ≡ after m.trace (k (state_of i v g e d))
normal_on k starts m = on_normal_lem _ _ _ starts _ m.trace m.eq

module _ {s i w₀ w : Bytes} {g : Given} {e : Scope} {c₀ c : Course} {r a b : ℕ} {flag : Bool} {left : ℕ} (ready : Ready s i w₀ g e c₀) (t : Turned s i w₀ g e c₀ r a b w c flag left) where
  pub turned_ready : Ready s i w g e c
  turned_ready = ready_kept ready t.kept.tables t.kept.size t.onward

  abbrev passed : Came i g e w₀ c₀ (ended (tt {0}) (state_of i w g e c) t.trace) (tt {0}) w c
  passed = record { trace = t.trace; eq = refl; charged = t.charged; kept = t.kept; onward = t.onward }

  -- from the turn to the loop
  outward : {x : Bytes} (k : RunEnd) → Ran i g e w c (remains s i w₀ g e a b w c flag left) x k → InsRuled s i w₀ g e c₀ r x k
  outward k q = ran_then k passed t.rest q

  abbrev tests : Run Behaviour
  tests = ins_at s g e.calls a (under_condition (handed s w₀ g e))

  abbrev bodies : Run Behaviour
  bodies = ins_at s g e.calls b (handed s w₀ g e)

  turn_starts : remains s i w₀ g e a b w c flag left ≡ on_normal (Tests s i w g e c a) (λ u. choose (result u) (go_on tests bodies left) (end_with flag) u)
  turn_starts =
      one_turn tests bodies flag left (state_of i w g e c)
      ∙ ap (λ (h : Inherited). on_normal (ins_at s g e.calls a (under_condition h) (state_of i w g e c)) (λ u. choose (result u) (go_on tests bodies left) (end_with flag) u))
      (sym (handed-kept ready t.kept.tables))

  -- after a test that was true, and after one that was false
  went : (v : Bytes) (d : Course) → d.result ≡ true
      → choose (result (state_of i v g e d)) (go_on tests bodies left) (end_with flag) (state_of i v g e d) ≡ go_on tests bodies left (state_of i v g e d)
  unfolding choose
  went v d h = ap (λ (q : Bool). choose q (go_on tests bodies left) (end_with flag) (state_of i v g e d)) (result_in i v g e d ∙ h)

  left_off : (v : Bytes) (d : Course) → d.result ≡ false
      → choose (result (state_of i v g e d)) (go_on tests bodies left) (end_with flag) (state_of i v g e d) ≡ ended Normal (state_of i v g e (with_result flag d)) end
  unfolding choose
  left_off v d h =
      ap (λ (q : Bool). choose q (go_on tests bodies left) (end_with flag) (state_of i v g e d)) (result_in i v g e d ∙ h) ∙ end_with_settled i v g e d flag

  module _ {x : Scope} {v : Bytes} {f : RunEnd} (under : x ≡ tested e) (ran : InsDone s i w g x c a v f) where
    pub turn_stopped : ended_normal f ≡ false → InsRuled s i w₀ g e c₀ r v f
    turn_stopped z = outward f (normal_stop _ turn_starts f z (test_ran s a f under ran))

    module _ {d : Course} (came : f ≡ RunEnd.Ended Normal d) where
      whole : Came i g e w c (Tests s i w g e c a) Normal v d
      whole = has_ended (test_ran s a f under ran) came

      turn_end : d.result ≡ false → InsRuled s i w₀ g e c₀ r v (RunEnd.Ended Normal (with_result flag d))
      turn_end h = outward _ (normal_run _ turn_starts (RunEnd.Ended Normal (with_result flag d)) whole refl (left_off v d h) (record { by = still refl (onward-result g d flag) }))

      turn_limit : d.result ≡ true → left ≡ 0 → InsRuled s i w₀ g e c₀ r v (RunEnd.Ended Failure d)
      unfolding go_on give
      turn_limit h none =
          outward _ (normal_run _ turn_starts (RunEnd.Ended Failure d) whole refl (went v d h ∙ ap (λ (k : ℕ). go_on tests bodies k (state_of i v g e d)) none) (record { by = still refl (onward_refl g d) }))

      -- the body does not run
      turn_off : (b : Bool) → d.result ≡ b → (b && ltb 0 left) ≡ false → InsRuled s i w₀ g e c₀ r v (cond b (RunEnd.Ended Failure d) (RunEnd.Ended Normal (with_result flag d)))
      turn_off true h z = turn_limit h (omega (arith, ltb-false 0 left z))
      turn_off false h z = turn_end h

      pub turn_over : (d.result && ltb 0 left) ≡ false → InsRuled s i w₀ g e c₀ r v (loop_over d flag)
      turn_over z = turn_off d.result refl z

      module _ (runs : (d.result && ltb 0 left) ≡ true) {u : Bytes} {k : RunEnd} (ran₂ : InsDone s i v g e d b u k) where
        -- the body, and the turns after it
        next : choose (result (state_of i v g e d)) (go_on tests bodies left) (end_with flag) (state_of i v g e d)
            ≡ on_normal (does s i v g e d (ins_at s g e.calls b)) (λ q. while_true tests bodies (result q) (left - 1) q)
        unfolding go_on
        next =
            let more : left ≡ suc (left - 1) = omega (arith, some_left d.result left runs) in
            went v d (and_left d.result (ltb 0 left) runs)
            ∙ ap (λ (j : ℕ). go_on tests bodies j (state_of i v g e d)) more
            ∙ ap (λ (o : Outcome Behaviour). on_normal o (λ q. while_true tests bodies (result q) (left - 1) q)) (does-later _ d ready (same_trans t.kept.tables whole.kept.tables))

        pub body_stopped : ended_normal k ≡ false → InsRuled s i w₀ g e c₀ r u k
        body_stopped z = outward _ (normal_run _ turn_starts k whole refl next (normal_stop _ refl k z ran₂))

        pub turned_more : {d₂ : Course} → k ≡ RunEnd.Ended Normal d₂ → Turned s i w₀ g e c₀ r a b u d₂ d₂.result (left - 1)
        turned_more {d₂} came₂ =
            let m = whole in
            let m₂ = has_ended ran₂ came₂ in
            let later = remains s i w₀ g e a b u d₂ d₂.result (left - 1) in
            record {
              trace = t.trace ⨾ (m.trace ⨾ m₂.trace);
              rest = t.rest
                  ∙ ap (after t.trace)
                  (
                  normal_on _ turn_starts m
                  ∙ ap (after m.trace) (next ∙ normal_on _ refl m₂ ∙ ap (λ (j : Bool). after m₂.trace (remains s i w₀ g e a b u d₂ j (left - 1))) (result_in i u g e d₂))
                  ∙ after-after m.trace m₂.trace later
                  )
                  ∙ after-after t.trace (m.trace ⨾ m₂.trace) later;
              charged = charged_then t.charged (charged_then m.charged m₂.charged);
              kept = kept_trans t.kept (kept_trans m.kept m₂.kept m.onward.longer) t.onward.longer;
              onward = onward_trans t.onward (onward_trans m.onward m₂.onward);
            }
