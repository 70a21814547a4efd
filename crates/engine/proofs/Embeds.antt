-- Embedded commands: what they come to from what their instruction came to.
-- Assumes nothing.
use Prim.Native.Nat.{ℕ, ◌≤◌, ◌<◌, ◌+◌, ◌*◌}
use native.Mathlib.Nat.{le_refl}
use native.Mathlib.Omega.{arith}
use mathlib.Core.Path.{◌≡◌, refl, sym, ap, ◌∙◌}
use mathlib.Core.Bool.{Bool, true, false, true≢false}
use mathlib.Core.List.{[]}
use mathlib.Core.Logic.{inr}
use lib.Dec.{ltb}
use lib.ListN.{length}
use borrow.Author.Tests.{ltb-true, ltb-false}
use Rattle.rules.specs.declared.Behaviour.{Behaviour}
use Rattle.rules.specs.declared.Behaviour.TheVariants.{Normal, Return, Exit, Failure}
use Rattle.rules.specs.declared.Refusal.{Refusal}
use Rattle.rules.specs.declared.Refusal.TheVariants.{ManyHolds, LongString}
use Rattle.rules.specs.Syntax.{Bytes}
use Rattle.rules.specs.Trace.{end}
use Rattle.rules.specs.State.{State, Evaluated, error, Outcome, ended, after, and_then, Run, give, kept, result, written, set_context, set_output}
use Rattle.rules.specs.Words.{embedded_value}
use Rattle.rules.specs.Flow.{unless_failure}
use Rattle.rules.specs.Refusals.{one_more_hold, made_string}
use Rattle.rules.proofs.Outcomes.{on_hold}
use Rattle.rules.proofs.Ways.{embedded_on}
use Rattle.sheet.specs.Filled.{in_record}
use Rattle.sheet.proofs.Reading.{embedded_law}
use Rattle.memory.specs.Layout.{part, Same, variables_place, list_place, string_place, stream_place}
use Rattle.memory.specs.Posts.{Raised, Cut, Appended}
use Rattle.memory.specs.Abstract.{state_of, stream_if, Kept}
use Rattle.memory.proofs.Parts.{over, part_length, part_same, part_away, same-within, same_trans}
use Rattle.memory.proofs.Places.{variables-next, variables-end, string_up, string-next, list_up}
use Rattle.memory.proofs.Keeping.{kept_trans, kept_fresh}
use Rattle.memory.proofs.Levels.{output-kept}
use Rattle.memory.specs.declared.Given.{Given}
use Rattle.memory.specs.Scope.{Scope}
use Rattle.memory.specs.declared.Course.{Course}
use Rattle.engine.specs.Values.{RunEnd}
use Rattle.engine.specs.Ends.{is_failure}
use Rattle.engine.specs.Moves.{caught, with_length, back}
use Rattle.engine.specs.Meaning.{limits_given, str_rule, ins_at, str_rule_at, handed}
use Rattle.engine.specs.Post.{Ready, Onward, OfKind, Came, InsDone, StrRuled, does}
use Rattle.engine.proofs.Going.{ready_kept, onward_refl, still, has_ended, was_refused}
use Rattle.engine.proofs.Follows.{in_sheet, no_hold_lem, one-hold}
use Rattle.engine.proofs.Inner.{then_came, then_stopped, kept-raised, does-caught, context-back, came-back}
use Rattle.engine.proofs.Looking.{gives, appends}
use Rattle.engine.proofs.Evaluators.{text_then}
use Rattle.engine.proofs.Joins.{made, made-long}
use Rattle.engine.specs.Values.{Text}

-- after the instruction: the value of what it wrote is the string, and context and stream are from before
unfoldable after_embedded : Given → (at : ℕ) → State → Behaviour → Run (Evaluated (Bytes × Bool))
after_embedded g at s b s₁ = unless_failure b error (made_string (limits_given g) at (embedded_value (written s₁)) (result s₁)) (set_output s.output (set_context s.context s₁))

unless-none : {A : Type 0} (b : Behaviour) (a : A) (next : Run A) (s : State) → is_failure b ≡ true → unless_failure b a next s ≡ ended a s end
unfolding unless_failure give
unless-none Normal a next s h = absurd (true≢false (sym h))
unless-none Return a next s h = absurd (true≢false (sym h))
unless-none Exit a next s h = absurd (true≢false (sym h))
unless-none Failure a next s h = refl

unless-next : {A : Type 0} (b : Behaviour) (a : A) (next : Run A) → is_failure b ≡ false → unless_failure b a next ≡ next
unfolding unless_failure
unless-next Normal a next h = refl
unless-next Return a next h = refl
unless-next Exit a next h = refl
unless-next Failure a next h = absurd (true≢false h)

module _ {s i w : Bytes} {g : Given} {e : Scope} {c : Course} {r : ℕ} (flag : Bool) (ready : Ready s i w g e c) (kind : OfKind s w r 4) where
  embedded-starts : (a : ℕ) → a ≡ in_record s w r 4 → does s i w g e c (str_rule_at s g e.calls r flag)
      ≡ on_hold (limits_given g) r (handed s w g e) (and_then (ins_at s g e.calls a (one_more_hold (handed s w g e)) (set_output (kept []) (state_of i w g e c))) (after_embedded g r (state_of i w g e c)))
  unfolding does str_rule_at str_rule ins_at after_embedded
  embedded-starts a first = rw ((embedded_law ready.loaded r kind.known kind.kind).0, first) (embedded_on _ _ _ _ _ _)

  pub embedded-none : (n : ℕ) → 10 ≤ e.holds → StrRuled s i w g e c r flag n w (Text.Refused ManyHolds r)
  embedded-none n h = record { by = no_hold_lem _ s w g e r (embedded-starts _ refl) (in_sheet ready kind.known) h }

  module _ {v : Bytes} {a : ℕ} (first : a ≡ in_record s w r 4) (room : e.holds < 10) (raised : Raised g.unit (variables_place g.unit e.level) w v) where
    embedded_goes : does s i w g e c (str_rule_at s g e.calls r flag)
        ≡ and_then (does s i v g (caught e) (with_length 0 c) (ins_at s g e.calls a)) (after_embedded g r (state_of i w g e c))
    embedded_goes =
        one-hold _ s w g e r (embedded-starts a first) room
        ∙ ap (λ (o : Outcome Behaviour). and_then o (after_embedded g r (state_of i w g e c))) (does-caught ready room raised _)

    module _ {x : Bytes} (k : Kept g (caught e) 0 v x) where
      inside : Kept g e c.length v x
      inside = kept_fresh k (omega arith) (omega arith) (le_refl _) ready.placed.stream ready.fits.length

      around : Kept g e c.length w x
      around = kept_trans (kept-raised ready room raised c.length) inside (le_refl _)

      embedded-ends : (d : Course) (b : Behaviour)
          → after_embedded g r (state_of i w g e c) b (state_of i x g (caught e) d)
          ≡ unless_failure b error (made_string (limits_given g) r (embedded_value (part x (stream_place g.unit e.streams) d.length)) d.result) (state_of i x g e (back c d))
      unfolding after_embedded state_of stream_if
      embedded-ends d b = rw (sym (context-back ready room raised k (omega arith) (omega arith)), output-kept around) refl

      -- the string in work and the list are as they were
      level-below : variables_place g.unit e.level + 32 * (g.unit + 2) ≤ list_place g.unit 0
      level-below = omega (arith, variables-next g.unit e.level, variables-end g.unit {v = e.level + 1} (omega (arith, ready.placed.level)))

      string-kept : (n : ℕ) → n ≤ g.unit → part x (string_place g.unit e.holds) n ≡ part w (string_place g.unit e.holds) n
      string-kept n h =
          part_same (string_place g.unit e.holds) n (string_up g.unit (omega arith)) (omega (arith, string-next g.unit e.holds)) k.strings
          ∙ part_away (string_place g.unit e.holds) n raised.only (inr (omega (arith, level-below)))

      list-kept : Same (list_place g.unit (e.holds + 1)) (list_place g.unit (e.holds + 2)) w x
      list-kept = same_trans (over _ _ (omega (arith, level-below)) raised.only) (same-within _ _ (list_up g.unit (omega arith)) (list_up g.unit (omega arith)) k.lists)

    module _ {x : Bytes} {f : RunEnd} (ran : InsDone s i v g (caught e) (with_length 0 c) a x f) where
      pub embedded-refused : (n : ℕ) {why : Refusal} {place : ℕ} → f ≡ RunEnd.Refused why place → StrRuled s i w g e c r flag n x (Text.Refused why place)
      embedded-refused n h = record { by = then_stopped _ embedded_goes (was_refused ran h) (kept-raised ready room raised 0).size }

      module _ {d : Course} {y : Behaviour} (has : f ≡ RunEnd.Ended y d) where
        abbrev one : Came i g (caught e) v (with_length 0 c) (does s i v g (caught e) (with_length 0 c) (ins_at s g e.calls a)) y x d
        one = has_ended ran has

        onward : Onward g c (back c d)
        onward = let o = one.onward in record { used = o.used; longer = le_refl _; short = λ z. z; low = le_refl _; high = le_refl _; count = le_refl _; from = o.from; rest = o.rest }

        -- the instruction, as an evaluation in the scope around it
        abbrev outside : Came i g e w c (ended (tt {0}) (state_of i x g e (back c d)) one.trace) (tt {0}) x (back c d)
        outside = came-back ready room raised (back c d) one refl (inside one.kept) onward

        pub ready_back : Ready s i x g e (back c d)
        ready_back = ready_kept ready (around one.kept).tables (around one.kept).size onward

        goes_on : does s i w g e c (str_rule_at s g e.calls r flag)
            ≡ after one.trace (unless_failure y error (made_string (limits_given g) r (embedded_value (part x (stream_place g.unit e.streams) d.length)) d.result) (state_of i x g e (back c d)))
        goes_on = then_came _ embedded_goes one ∙ ap (after one.trace) (embedded-ends one.kept d y)

        pub embedded-error : (n : ℕ) → n ≤ g.unit → is_failure y ≡ true → StrRuled s i w g e c r flag n x (Text.Error (back c d))
        embedded-error n m h = text_then _ outside goes_on (string-kept one.kept _ m) (list-kept one.kept) (record { by = still (unless-none y _ _ _ h) (onward_refl g (back c d)) })

        -- the stream it wrote is within its room
        pub stream-short : d.length ≤ 1024
        stream-short = one.onward.short (omega arith)

        -- the first k bytes of the stream are the value
        module _ {k : ℕ} (cut : Cut (stream_place g.unit e.streams) d.length x k) where
          made_on_it : is_failure y ≡ false → does s i w g e c (str_rule_at s g e.calls r flag)
              ≡ after one.trace (made_string (limits_given g) r (part x (stream_place g.unit e.streams) k) d.result (state_of i x g e (back c d)))
          made_on_it h =
              goes_on
              ∙ ap (λ (o : Run (Evaluated (Bytes × Bool))). after one.trace (o (state_of i x g e (back c d)))) (unless-next y error _ h)
              ∙ ap (λ (v : Bytes). after one.trace (made_string (limits_given g) r v d.result (state_of i x g e (back c d)))) (sym cut.value)

          -- its bytes stand behind the string in work
          module _ {z : Bytes} {n p q o : ℕ} (fits : n ≤ g.unit) (h : is_failure y ≡ false) (from : p ≡ stream_place g.unit e.streams) (to : q ≡ string_place g.unit e.holds)
              (put : Appended g.unit q n (part x p k) x z o) where
            size : length (part x (stream_place g.unit e.streams) k) ≡ k
            size = part_length x (stream_place g.unit e.streams) k

            embedded-long : g.unit ≤ k → StrRuled s i w g e c r flag n z (Text.Refused LongString r)
            embedded-long l =
                text_then _ outside (made_on_it h) (string-kept one.kept _ fits) (list-kept one.kept)
                (record {
                  by = record {
                    trace = end;
                    eq = made-long i x g e (back c d) r _ d.result ready.roomy.unit (omega (arith, size));
                    size = put.only.size;
                    known = in_sheet ready kind.known;
                  };
                })

            embedded-value : k < g.unit → StrRuled s i w g e c r flag n z (Text.Value k d.result (back c d))
            embedded-value l =
                text_then _ outside (made_on_it h) (string-kept one.kept _ fits) (list-kept one.kept)
                (gives ready_back (appends _ _ (rw from at put) fits) to (made i x g e (back c d) r _ d.result (omega (arith, size))) refl l)

            -- one or the other, by its length
            pub embedded-made : {t : Text} → (k < g.unit → Text.Value k d.result (back c d) ≡ t) → (g.unit ≤ k → Text.Refused LongString r ≡ t) → StrRuled s i w g e c r flag n z t
            embedded-made {t} short long = by (ltb k g.unit) refl
              where
                by : (b : Bool) → ltb k g.unit ≡ b → StrRuled s i w g e c r flag n z t
                by true l = rw (sym (short (ltb-true _ _ l))) (embedded-value (ltb-true _ _ l))
                by false l = rw (sym (long (ltb-false _ _ l))) (embedded-long (ltb-false _ _ l))
