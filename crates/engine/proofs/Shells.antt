-- Subshell and nooutput: what they come to from what their body came to.
-- Assumes nothing.
use Prim.Native.Nat.{ℕ, ◌≤◌, ◌<◌}
use native.Mathlib.Nat.{le_refl}
use native.Mathlib.Omega.{arith}
use mathlib.Core.Path.{◌≡◌, refl, sym, ap, ◌∙◌}
use Rattle.rules.specs.declared.Behaviour.{Behaviour}
use Rattle.rules.specs.declared.Refusal.{Refusal}
use Rattle.rules.specs.declared.Refusal.TheVariants.{ManyHolds}
use Rattle.rules.specs.Syntax.{Bytes}
use Rattle.rules.specs.Trace.{end}
use Rattle.rules.specs.State.{State, Inherited, Outcome, ended, after, and_then, Run, dropped, give, result, set_context, set_output}
use Rattle.rules.specs.Refusals.{one_more_hold}
use Rattle.rules.specs.Rules.{finish_unless_failure}
use Rattle.rules.proofs.Outcomes.{on_hold, then_end_lem}
use Rattle.rules.proofs.Ways.{subshell_on, nooutput_on}
use Rattle.sheet.specs.Filled.{in_record}
use Rattle.sheet.proofs.Reading.{subshell_law, nooutput_law}
use Rattle.memory.specs.Layout.{variables_place}
use Rattle.memory.specs.Posts.{Raised}
use Rattle.memory.specs.Abstract.{state_of, stream_if, Kept}
use Rattle.memory.proofs.Keeping.{kept-inner}
use Rattle.memory.proofs.Levels.{output-kept}
use Rattle.memory.specs.declared.Given.{Given}
use Rattle.memory.specs.Scope.{Scope}
use Rattle.memory.specs.declared.Course.{Course}
use Rattle.engine.specs.Values.{RunEnd}
use Rattle.engine.specs.Ends.{finished_unless_failure}
use Rattle.engine.specs.Moves.{apart, silent, left, with_result, with_length}
use Rattle.engine.specs.Meaning.{ins_rule, ins_at, ins_rule_at, handed, limits_given}
use Rattle.engine.specs.Post.{Ready, OfKind, InsDone, InsRuled, does}
use Rattle.engine.proofs.Going.{ran_then, has_ended, was_refused}
use Rattle.engine.proofs.Follows.{in_sheet, no_hold_lem, one-hold, handed-silent}
use Rattle.engine.proofs.Settles.{finish_unless_ran}
use Rattle.engine.proofs.Inner.{then_came, then_stopped, kept-raised, does-apart, context-back, came-back}

-- SUBSHELL

-- after the body: its result, the context from before
unfoldable after_shell : Inherited → State → Behaviour → Run Behaviour
after_shell h s b s₁ = finish_unless_failure h b (result s₁) (set_context s.context s₁)

module _ {s i w : Bytes} {g : Given} {e : Scope} {c : Course} {r : ℕ} (ready : Ready s i w g e c) (kind : OfKind s w r 19) where
  shell_starts : (a : ℕ) → a ≡ in_record s w r 4 → does s i w g e c (ins_rule_at s g e.calls r)
      ≡ on_hold (limits_given g) r (handed s w g e) (and_then (ins_at s g e.calls a (one_more_hold (handed s w g e)) (state_of i w g e c)) (after_shell (handed s w g e) (state_of i w g e c)))
  unfolding does ins_rule_at ins_rule ins_at after_shell
  shell_starts a first = rw ((subshell_law ready.loaded r kind.known kind.kind).0, first) (subshell_on _ _ _ _ _)

  pub subshell-none : 10 ≤ e.holds → InsRuled s i w g e c r w (RunEnd.Refused ManyHolds r)
  subshell-none h = record { by = no_hold_lem _ s w g e r (shell_starts _ refl) (in_sheet ready kind.known) h }

  module _ {v : Bytes} {a : ℕ} (first : a ≡ in_record s w r 4) (room : e.holds < 10) (raised : Raised g.unit (variables_place g.unit e.level) w v) where
    shell_goes : does s i w g e c (ins_rule_at s g e.calls r) ≡ and_then (does s i v g (apart e) c (ins_at s g e.calls a)) (after_shell (handed s w g e) (state_of i w g e c))
    shell_goes =
        one-hold _ s w g e r (shell_starts a first) room
        ∙ ap (λ (o : Outcome Behaviour). and_then o (after_shell (handed s w g e) (state_of i w g e c))) (does-apart ready room raised _)

    -- back: the context from before but for the result
    shell_ends : {n : ℕ} {x : Bytes} (d : Course) (b : Behaviour) → Kept g (apart e) n v x
        → after_shell (handed s w g e) (state_of i w g e c) b (state_of i x g (apart e) d)
        ≡ finish_unless_failure (handed s w g e) b d.result (state_of i x g e (with_result c.result (left c d)))
    unfolding after_shell state_of
    shell_ends d b k = rw (sym (context-back ready room raised k (omega arith) (omega arith))) refl

    module _ {x : Bytes} {f : RunEnd} (ran : InsDone s i v g (apart e) c a x f) where
      pub subshell-ran : {d : Course} {y : Behaviour} → f ≡ RunEnd.Ended y d → InsRuled s i w g e c r x (finished_unless_failure e y (left c d))
      unfolding handed
      subshell-ran {d} {y} h =
          let m = has_ended ran h in
          let o = m.onward in
          ran_then _
          (came-back ready room raised (with_result c.result (left c d)) m refl (kept-inner m.kept (omega arith) (omega arith) (le_refl _) refl (le_refl _))
          (record { used = o.used; longer = o.longer; short = o.short; low = le_refl _; high = le_refl _; count = le_refl _; from = o.from; rest = o.rest }))
          (then_came _ shell_goes m ∙ ap (λ (q : Outcome Behaviour). after m.trace q) (shell_ends d y m.kept))
          (finish_unless_ran i x g e (with_result c.result (left c d)) (handed s w g e) y d.result refl)

      pub subshell-refused : {why : Refusal} {place : ℕ} → f ≡ RunEnd.Refused why place → InsRuled s i w g e c r x f
      subshell-refused h = rw h (record { by = then_stopped _ shell_goes (was_refused ran h) (kept-raised ready room raised 0).size })

-- NOOUTPUT

-- after the body: the stream from before
unfoldable after_silence : State → Behaviour → Run Behaviour
after_silence s b s₁ = give b (set_output s.output s₁)

module _ {s i w : Bytes} {g : Given} {e : Scope} {c : Course} {r : ℕ} (ready : Ready s i w g e c) (kind : OfKind s w r 22) where
  silence_starts : (a : ℕ) → a ≡ in_record s w r 4 → does s i w g e c (ins_rule_at s g e.calls r)
      ≡ on_hold (limits_given g) r (handed s w g e) (and_then (ins_at s g e.calls a (one_more_hold (handed s w g e)) (set_output dropped (state_of i w g e c))) (after_silence (state_of i w g e c)))
  unfolding does ins_rule_at ins_rule ins_at after_silence
  silence_starts a first = rw ((nooutput_law ready.loaded r kind.known kind.kind).0, first) (nooutput_on _ _ _ _ _)

  pub nooutput-none : 10 ≤ e.holds → InsRuled s i w g e c r w (RunEnd.Refused ManyHolds r)
  nooutput-none h = record { by = no_hold_lem _ s w g e r (silence_starts _ refl) (in_sheet ready kind.known) h }

  module _ {a : ℕ} (first : a ≡ in_record s w r 4) (room : e.holds < 10) where
    does-silent : ins_at s g e.calls a (one_more_hold (handed s w g e)) (set_output dropped (state_of i w g e c)) ≡ does s i w g (silent e) c (ins_at s g e.calls a)
    unfolding does state_of stream_if
    does-silent = ap (λ (h : Inherited). ins_at s g e.calls a h (set_output dropped (state_of i w g e c))) (sym (handed-silent s w g e))

    silence_goes : does s i w g e c (ins_rule_at s g e.calls r) ≡ and_then (does s i w g (silent e) c (ins_at s g e.calls a)) (after_silence (state_of i w g e c))
    silence_goes =
        one-hold _ s w g e r (silence_starts a first) room
        ∙ ap (λ (o : Outcome Behaviour). and_then o (after_silence (state_of i w g e c))) does-silent

    silence_ends : {x : Bytes} (d : Course) (b : Behaviour) → Kept g (silent e) c.length w x
        → after_silence (state_of i w g e c) b (state_of i x g (silent e) d) ≡ ended b (state_of i x g e (with_length c.length d)) end
    unfolding after_silence state_of give
    silence_ends d b k = rw (output-kept k) refl

    module _ {x : Bytes} {f : RunEnd} (ran : InsDone s i w g (silent e) c a x f) where
      pub nooutput-ran : {d : Course} {y : Behaviour} → f ≡ RunEnd.Ended y d → InsRuled s i w g e c r x (RunEnd.Ended y (with_length c.length d))
      nooutput-ran {d} {y} h =
          let m = has_ended ran h in
          let o = m.onward in
          record {
            by = record {
              trace = m.trace;
              eq = then_came _ silence_goes m ∙ ap (λ (q : Outcome Behaviour). after m.trace q) (silence_ends d y m.kept) ∙ ap (ended y (state_of i x g e (with_length c.length d))) (then_end_lem m.trace);
              charged = m.charged;
              kept = kept-inner m.kept (le_refl _) (omega arith) (le_refl _) refl (le_refl _);
              onward = record { used = o.used; longer = le_refl _; short = λ z. z; low = o.low; high = o.high; count = o.count; from = o.from; rest = o.rest };
            };
          }

      pub nooutput-refused : {why : Refusal} {place : ℕ} → f ≡ RunEnd.Refused why place → InsRuled s i w g e c r x f
      nooutput-refused h = rw h (record { by = then_stopped _ silence_goes (was_refused ran h) refl })
