-- Pipe: what its second side comes to, and the pipe from both sides.
-- Assumes nothing.
use Prim.Native.Nat.{ℕ, ◌≤◌, ◌<◌}
use native.Mathlib.Nat.{le_refl}
use native.Mathlib.Omega.{arith}
use mathlib.Core.Path.{◌≡◌, refl, sym, ap, ◌∙◌}
use mathlib.Core.Bool.{true, false, true≢false}
use mathlib.Core.List.{[]}
use Rattle.rules.specs.declared.Behaviour.{Behaviour}
use Rattle.rules.specs.declared.Behaviour.TheVariants.{Normal, Return, Exit, Failure}
use Rattle.rules.specs.declared.Refusal.{Refusal}
use Rattle.rules.specs.declared.Refusal.TheVariants.{ManyHolds}
use Rattle.rules.specs.Syntax.{Bytes}
use Rattle.rules.specs.Trace.{end}
use Rattle.rules.specs.State.{State, Inherited, Outcome, ended, after, and_then, Run, kept, give, result, written, set_context, set_input, set_output}
use Rattle.rules.specs.Flow.{unless_failure}
use Rattle.rules.specs.Refusals.{Meaning, one_more_hold}
use Rattle.rules.specs.Rules.{finish_unless_failure}
use Rattle.rules.proofs.Outcomes.{on_hold}
use Rattle.rules.proofs.Ways.{pipe_on}
use Rattle.sheet.specs.Filled.{in_record}
use Rattle.sheet.proofs.Reading.{pipe_law}
use Rattle.memory.specs.Layout.{variables_place, part, stream_place}
use Rattle.memory.specs.Posts.{Raised}
use Rattle.memory.specs.Abstract.{state_of, stream_if, Kept}
use Rattle.memory.proofs.Keeping.{kept-inner, kept_trans}
use Rattle.memory.proofs.Levels.{input-kept, output-kept}
use Rattle.memory.specs.declared.Given.{Given}
use Rattle.memory.specs.Scope.{Scope}
use Rattle.memory.specs.declared.Course.{Course}
use Rattle.engine.specs.Values.{RunEnd}
use Rattle.engine.specs.Ends.{is_failure, finished_unless_failure}
use Rattle.engine.specs.Moves.{caught, fed, back, joined, fed_by, with_result, with_length}
use Rattle.engine.specs.Meaning.{ins_rule, ins_at, ins_rule_at, handed, limits_given}
use Rattle.engine.specs.Post.{Ready, OfKind, Came, InsDone, InsRuled, Into, Piped, Instruction, into_rule, does}
use Rattle.engine.proofs.Going.{onward_refl, ran_then, still, has_ended, was_refused, ready_kept}
use Rattle.engine.proofs.Follows.{in_sheet, no_hold_lem, one-hold, is-failure, does-later}
use Rattle.engine.proofs.Settles.{finish_unless_ran}
use Rattle.engine.proofs.Inner.{then_came, then_stopped, kept-raised, kept-caught, does-caught, does-fed, context-back, came-back, state_back, came-caught}

-- THE SECOND SIDE

-- after it: its result, the context and the input from before
unfoldable after_second : Inherited → State → Behaviour → Run Behaviour
after_second h s b s₁ = finish_unless_failure h b (result s₁) (set_input s.input (set_context s.context s₁))

module _ {s i w v : Bytes} {g : Given} {e : Scope} {c : Course} {b n : ℕ} (ready : Ready s i w g e c) (given : Into s e b n) (raised : Raised g.unit (variables_place g.unit e.level) w v) where
  into_starts : does s i w g e c (into_rule (ins_at s g e.calls b) (part w (stream_place g.unit e.streams) n))
      ≡ and_then (ins_at s g e.calls b (one_more_hold (handed s w g e)) (set_input (part w (stream_place g.unit e.streams) n) (state_of i w g e c))) (after_second (handed s w g e) (state_of i w g e c))
  unfolding does into_rule after_second
  into_starts = refl

  into_goes : does s i w g e c (into_rule (ins_at s g e.calls b) (part w (stream_place g.unit e.streams) n))
      ≡ and_then (does s i v g (fed e) (fed_by (stream_place g.unit e.streams) n c) (ins_at s g e.calls b)) (after_second (handed s w g e) (state_of i w g e c))
  into_goes = into_starts ∙ ap (λ (o : Outcome Behaviour). and_then o (after_second (handed s w g e) (state_of i w g e c))) (does-fed ready given.hold raised (ins_at s g e.calls b) n)

  into_kept : {m : ℕ} {x : Bytes} → c.length ≤ m → Kept g (fed e) m v x → Kept g e c.length v x
  into_kept h k = kept-inner k (omega arith) (omega arith) (omega arith) refl h

  into_ends : {x : Bytes} (d : Course) (y : Behaviour) → Kept g (fed e) c.length v x
      → after_second (handed s w g e) (state_of i w g e c) y (state_of i x g (fed e) d)
      ≡ finish_unless_failure (handed s w g e) y d.result (state_of i x g e (with_result c.result (joined c d)))
  unfolding after_second state_of
  into_ends d y k =
      rw (
        sym (context-back ready given.hold raised k (omega arith) (omega arith)),
        sym (input-kept (kept_trans (kept-raised ready given.hold raised c.length) (into_kept (le_refl _) k) (le_refl _)) ready.fits),
      ) refl

  module _ {x : Bytes} {f : RunEnd} (ran : InsDone s i v g (fed e) (fed_by (stream_place g.unit e.streams) n c) b x f) where
    pub into_ran : {d : Course} {y : Behaviour} → f ≡ RunEnd.Ended y d → Piped s i w g e c b n x (finished_unless_failure e y (joined c d))
    unfolding handed
    into_ran {d} {y} h =
        let m = has_ended ran h in
        let o = m.onward in
        ran_then _
        (came-back ready given.hold raised (with_result c.result (joined c d)) m refl (into_kept (le_refl _) m.kept)
        (record { used = o.used; longer = o.longer; short = o.short; low = le_refl _; high = le_refl _; count = le_refl _; from = refl; rest = le_refl _ }))
        (then_came _ into_goes m ∙ ap (λ (q : Outcome Behaviour). after m.trace q) (into_ends d y m.kept))
        (finish_unless_ran i x g e (with_result c.result (joined c d)) (handed s w g e) y d.result refl)

    pub into_refused : {why : Refusal} {place : ℕ} → f ≡ RunEnd.Refused why place → Piped s i w g e c b n x f
    into_refused h = rw h (record { by = then_stopped _ into_goes (was_refused ran h) (kept-raised ready given.hold raised 0).size })

-- THE FIRST SIDE, and then the second

unfoldable after_first : Meaning → Inherited → State → Behaviour → Run Behaviour
after_first second h s b s₁ =
    unless_failure b Failure
    (λ s₂. and_then (second (one_more_hold h) (set_input (written s₁) s₂)) (λ c s₃. finish_unless_failure h c (result s₃) (set_input s₁.input (set_context s.context s₃))))
    (set_output s.output (set_context s.context s₁))

module _ {s i w : Bytes} {g : Given} {e : Scope} {c : Course} {r : ℕ} (ready : Ready s i w g e c) (kind : OfKind s w r 23) where
  pipe-starts : (a b : ℕ) → a ≡ in_record s w r 4 → b ≡ in_record s w r 6 → does s i w g e c (ins_rule_at s g e.calls r)
      ≡ on_hold (limits_given g) r (handed s w g e)
      (and_then (ins_at s g e.calls a (one_more_hold (handed s w g e)) (set_output (kept []) (state_of i w g e c))) (after_first (ins_at s g e.calls b) (handed s w g e) (state_of i w g e c)))
  unfolding does ins_rule_at ins_rule ins_at after_first
  pipe-starts a b first second = rw ((pipe_law ready.loaded r kind.known kind.kind).0, first, second) (pipe_on _ _ _ _ _ _)

  pub pipe-none : 10 ≤ e.holds → InsRuled s i w g e c r w (RunEnd.Refused ManyHolds r)
  pipe-none h = record { by = no_hold_lem _ s w g e r (pipe-starts _ _ refl refl) (in_sheet ready kind.known) h }

  module _ {v : Bytes} {a b : ℕ} (first : a ≡ in_record s w r 4) (second : b ≡ in_record s w r 6) (room : e.holds < 10) (raised : Raised g.unit (variables_place g.unit e.level) w v) where
    pipe_goes : does s i w g e c (ins_rule_at s g e.calls r)
        ≡ and_then (does s i v g (caught e) (with_length 0 c) (ins_at s g e.calls a)) (after_first (ins_at s g e.calls b) (handed s w g e) (state_of i w g e c))
    pipe_goes =
        one-hold _ s w g e r (pipe-starts a b first second) room
        ∙ ap (λ (o : Outcome Behaviour). and_then o (after_first (ins_at s g e.calls b) (handed s w g e) (state_of i w g e c))) (does-caught ready room raised _)

    pipe-fails : {n : ℕ} {x : Bytes} (d : Course) → Kept g (caught e) n v x
        → after_first (ins_at s g e.calls b) (handed s w g e) (state_of i w g e c) Failure (state_of i x g (caught e) d) ≡ ended Failure (state_of i x g e (back c d)) end
    unfolding after_first unless_failure give
    pipe-fails d k = ap (λ (q : State). ended Failure q end) (state_back ready room raised d k)

    -- the second side starts where the pipe did, but for the input
    pipe-second : {n : ℕ} {x : Bytes} (d : Course) → Kept g (caught e) n v x
        → after_first (ins_at s g e.calls b) (handed s w g e) (state_of i w g e c) Normal (state_of i x g (caught e) d)
        ≡ into_rule (ins_at s g e.calls b) (part x (stream_place g.unit e.streams) d.length) (handed s w g e) (state_of i x g e (back c d))
    unfolding after_first unless_failure into_rule state_of stream_if
    pipe-second d k =
        rw (
          sym (context-back ready room raised k (omega arith) (omega arith)),
          sym (output-kept (kept_trans (kept-raised ready room raised c.length) (kept-caught ready room raised k) (le_refl _))),
        ) refl

    pipe-next : {n : ℕ} {x : Bytes} (d : Course) (y : Behaviour) → is_failure y ≡ false → Kept g (caught e) n v x
        → after_first (ins_at s g e.calls b) (handed s w g e) (state_of i w g e c) y (state_of i x g (caught e) d)
        ≡ into_rule (ins_at s g e.calls b) (part x (stream_place g.unit e.streams) d.length) (handed s w g e) (state_of i x g e (back c d))
    unfolding after_first unless_failure
    pipe-next d Normal z k = pipe-second d k
    pipe-next d Return z k = pipe-second d k
    pipe-next d Exit z k = pipe-second d k
    pipe-next d Failure z k = absurd (true≢false z)

    module _ {x : Bytes} {f : RunEnd} (ran : InsDone s i v g (caught e) (with_length 0 c) a x f) where
      module _ {d : Course} {y : Behaviour} (told : f ≡ RunEnd.Ended y d) where
        came : Came i g (caught e) v (with_length 0 c) (does s i v g (caught e) (with_length 0 c) (ins_at s g e.calls a)) y x d
        came = has_ended ran told

        pub pipe-between : Ready s i x g e (back c d)
        pipe-between = let m = came-caught ready room raised came in ready_kept ready m.kept.tables m.kept.size m.onward

        pub pipe_into : Instruction s (in_record s w r 6) → Into s e b d.length
        pipe_into h = record { second = rw second h; hold = room; short = came.onward.short (omega arith) }

        pub pipe-ran : {z : Bytes} (n : RunEnd) → is_failure y ≡ false → Piped s i x g e (back c d) b d.length z n → InsRuled s i w g e c r z n
        pipe-ran n h q =
            let m = came-caught ready room raised came in
            ran_then n m
            (then_came _ pipe_goes came ∙ ap (λ (o : Outcome Behaviour). after came.trace o) (pipe-next d y h came.kept ∙ does-later _ (back c d) ready m.kept.tables))
            q

        pub pipe-failed : is_failure y ≡ true → InsRuled s i w g e c r x (RunEnd.Ended Failure (back c d))
        pipe-failed h =
            ran_then _ (came-caught ready room raised came)
            (then_came _ pipe_goes came ∙ ap (λ (o : Outcome Behaviour). after came.trace o)
            (ap (λ (q : Behaviour). after_first (ins_at s g e.calls b) (handed s w g e) (state_of i w g e c) q (state_of i x g (caught e) d)) (is-failure y h) ∙ pipe-fails d came.kept))
            (record { by = still refl (onward_refl g (back c d)) })

      pub pipe-refused : {why : Refusal} {place : ℕ} → f ≡ RunEnd.Refused why place → InsRuled s i w g e c r x f
      pipe-refused h = rw h (record { by = then_stopped _ pipe_goes (was_refused ran h) (kept-raised ready room raised 0).size })
