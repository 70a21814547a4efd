-- Call: what the body of a function comes to around it, and the call from its list.
-- Assumes nothing.
use Prim.Native.Nat.{ℕ, zero, suc, ◌≤◌, ◌<◌, ◌+◌, ◌-◌}
use native.Mathlib.Nat.{le_refl}
use native.Mathlib.Omega.{arith}
use mathlib.Core.Path.{◌≡◌, refl, sym, ap, ◌∙◌}
use mathlib.Core.Bool.{false}
use mathlib.Core.List.{List}
use lib.ListN.{length}
use Rattle.rules.specs.declared.Behaviour.{Behaviour}
use Rattle.rules.specs.declared.Behaviour.TheVariants.{Failure}
use Rattle.rules.specs.declared.Refusal.{Refusal}
use Rattle.rules.specs.declared.Refusal.TheVariants.{ManyHolds}
use Rattle.rules.specs.Syntax.{Bytes, Function}
use Rattle.rules.specs.Trace.{end, call, opened, steps}
use Rattle.rules.specs.Flow.{returned}
use Rattle.rules.specs.State.{State, value, Outcome, ended, after, and_then, inside, Run, give, arguments, set_arguments}
use Rattle.rules.specs.Words.{Callee, known, find}
use Rattle.rules.specs.Refusals.{Meaning, one_more_hold, named}
use Rattle.rules.specs.Rules.{finish, call_of, enter_rule, full_stack_rule}
use Rattle.rules.specs.Evaluation.{eval_ins, enter_at}
use Rattle.rules.proofs.Outcomes.{on_value, on_hold}
use Rattle.rules.proofs.Ways.{call_on, enter_on, full_stack_on}
use Rattle.sheet.specs.Filled.{ins_of, in_record, text_in, named_in, body_in, mark_in, function_in}
use Rattle.sheet.proofs.Reading.{call_law}
use Rattle.sheet.proofs.Located.{few-functions}
use Rattle.sheet.proofs.Callees.{callee_known, callee-unknown, function_law}
use Rattle.memory.specs.Layout.{Only, list_place, row, row_from, counters_end}
use Rattle.memory.specs.Abstract.{state_of, Kept}
use Rattle.memory.specs.Profile.{CallBegun, CallEnded}
use Rattle.memory.specs.declared.Opened.{Opened}
use Rattle.memory.proofs.Parts.{under}
use Rattle.memory.proofs.Places.{list_up, list-next, fields_within}
use Rattle.memory.proofs.Keeping.{kept-inner, kept-counters, kept_trans}
use Rattle.memory.proofs.Levels.{fields-kept}
use Rattle.memory.proofs.States.{state_charged}
use Rattle.memory.proofs.Charging.{charged-call, call_begun_only, call_ended_only}
use Rattle.memory.specs.declared.Given.{Given}
use Rattle.memory.specs.Scope.{Scope}
use Rattle.memory.specs.declared.Course.{Course}
use Rattle.engine.specs.Values.{RunEnd}
use Rattle.engine.specs.Ends.{finished}
use Rattle.engine.specs.Moves.{within, with_arguments}
use Rattle.engine.specs.Meaning.{known_of, limits_given, functions_of, enter_with, ins_rule, ins_at, lst_at, ins_rule_at, handed}
use Rattle.engine.specs.Post.{Ready, OfKind, Onward, Came, InsDone, InsRuled, LstDone, Enters, Entered, so_far, does}
use Rattle.engine.proofs.Going.{onward_refl, ran_then, stopped_then, still, has_ended, was_refused, has_fields, list-error, list-refused, ready_kept, handed-kept}
use Rattle.engine.proofs.Follows.{in_sheet, handed-within, value_on, error-came, value-refused, no_hold_lem, one-hold, does-later}
use Rattle.engine.proofs.Settles.{finish-ran}
use Rattle.engine.proofs.Inner.{ready_in}
use Rattle.rules.proofs.Runs.{used-steps}
use Rattle.engine.specs.Values.{Listing}

-- THE BODY

-- where the new arguments stand
abbrev pub called : (m : ℕ) → Given → Scope → Course → Course
called m g e c = with_arguments (list_place g.unit (e.holds + 1)) m c

-- after the body: the caller's arguments
unfoldable after_body : State → Behaviour → Run Behaviour
after_body s b s₁ = give (returned b) (set_arguments (arguments s) s₁)

-- the rule, up to its hold
enter_starts : (s i w : Bytes) (g : Given) (e : Scope) (c : Course) (f m r b : ℕ) → does s i w g e c (enter_rule (limits_given g) r f (text_in s w (named_in w f)) (ins_at s g (e.calls + 1) b) (so_far w g e m))
    ≡ on_hold (limits_given g) r (handed s w g e)
    (and_then (inside f (ins_at s g (e.calls + 1) b (named (text_in s w (named_in w f)) (one_more_hold (handed s w g e))) (set_arguments (so_far w g e m) (state_of i w g e c)))) (after_body (state_of i w g e c)))
unfolding does after_body
enter_starts s i w g e c f m r b = enter_on _ _ _ _ _ _ _ _

module _ {s i w : Bytes} {g : Given} {e : Scope} {c : Course} {f m : ℕ} (ready : Ready s i w g e c) (given : Enters s g e f m) where
  few : f ≤ 32
  few = omega (arith, given.function, few-functions ready.loaded)

  -- the body's scope and course, before and after the call is begun
  within_ready : Ready s i w g (within f e) (called m g e c)
  within_ready =
      let p = ready.placed in
      let q = ready.fits in
      ready_in ready (within f e) (called m g e c)
      (record { level = omega (arith, p.level); holds = omega (arith, given.hold); stream = p.stream; streams = omega (arith, p.streams); function = few })
      given.function
      (record {
        stdin = q.stdin;
        from = q.from;
        to = q.to;
        apart = q.apart;
        rest = q.rest;
        length = q.length;
        count = given.few;
        low = list_up g.unit (omega arith);
        high = omega (arith, list-next g.unit (e.holds + 1), fields_within g.unit {n = m} given.few);
      })

  -- argument 0 is the name, the others are the list
  handed-function : (k : ℕ) → 0 < k → handed s w g (within k e) ≡ named (text_in s w (named_in w k)) (one_more_hold (handed s w g e))
  handed-function zero h = absurd (omega arith)
  handed-function (suc k) h = handed-within s w g e k

  state_arguments : state_of i w g (within f e) (called m g e c) ≡ set_arguments (so_far w g e m) (state_of i w g e c)
  unfolding state_of
  state_arguments = refl

  -- the caller is a function too
  caller : e.function ≤ 32
  caller = ready.placed.function

  module _ {v : Bytes} {o : Opened} (begun : CallBegun e.function f w v o) where
    entry : Only 4096 counters_end w v
    entry = call_begun_only e.function f begun caller given.positive few

    pub ready_within : Ready s i v g (within f e) (called m g e c)
    ready_within = ready_kept within_ready (under 0 4096 (omega arith) entry) entry.size (onward_refl g (called m g e c))

    handed-called : handed s v g (within f e) ≡ named (text_in s w (named_in w f)) (one_more_hold (handed s w g e))
    handed-called = handed-kept within_ready (under 0 4096 (omega arith) entry) ∙ handed-function f given.positive

    state_called : state_of i v g (within f e) (called m g e c) ≡ set_arguments (so_far w g e m) (state_of i w g e c)
    state_called = state_charged within_ready.roomy within_ready.placed within_ready.fits entry (le_refl _) (le_refl _) ∙ state_arguments

    does-called : (b : ℕ) → ins_at s g (e.calls + 1) b (named (text_in s w (named_in w f)) (one_more_hold (handed s w g e))) (set_arguments (so_far w g e m) (state_of i w g e c))
        ≡ does s i v g (within f e) (called m g e c) (ins_at s g (e.calls + 1) b)
    unfolding does
    does-called b = rw (handed-called, state_called) refl

    module _ {x : Bytes} {a : RunEnd} {b : ℕ} (body : b ≡ body_in w f) (ran : InsDone s i v g (within f e) (called m g e c) b x a) where
      enter_goes : (r : ℕ) → does s i w g e c (enter_rule (limits_given g) r f (text_in s w (named_in w f)) (ins_at s g (e.calls + 1) (body_in w f)) (so_far w g e m))
          ≡ and_then (inside f (does s i v g (within f e) (called m g e c) (ins_at s g (e.calls + 1) b))) (after_body (state_of i w g e c))
      enter_goes r =
          ap (λ (k : ℕ). does s i w g e c (enter_rule (limits_given g) r f (text_in s w (named_in w f)) (ins_at s g (e.calls + 1) k) (so_far w g e m))) (sym body)
          ∙ one-hold _ s w g e r (enter_starts s i w g e c f m r b) given.hold
          ∙ ap (λ (o : Outcome Behaviour). and_then (inside f o) (after_body (state_of i w g e c))) (does-called b)

      pub enter_refused : {why : Refusal} {place : ℕ} (r : ℕ) → a ≡ RunEnd.Refused why place → Entered s i w g e c r f m x a
      enter_refused r h =
          let z = was_refused ran h in
          rw h (record { by = record { trace = opened f z.trace; eq = enter_goes r ∙ ap (λ (o : Outcome Behaviour). and_then (inside f o) (after_body (state_of i w g e c))) z.eq; size = z.size ∙ entry.size; known = z.known } })

      module _ {d : Course} {y : Behaviour} (told : a ≡ RunEnd.Ended y d) where
        came : Came i g (within f e) v (called m g e c) (does s i v g (within f e) (called m g e c) (ins_at s g (e.calls + 1) b)) y x d
        came = has_ended ran told

        -- as many steps as the body's trace has
        body-steps : d.used - c.used ≡ steps came.trace
        unfolding does ins_at enter_with state_of
        body-steps = omega (arith, used-steps _ _ _ (ins_of (known_of s) b) _ _ _ _ _ came.eq)

        onward : Onward g c (with_arguments c.arguments c.count d)
        onward =
            let o = came.onward in
            record { used = o.used; longer = o.longer; short = o.short; low = le_refl _; high = le_refl _; count = le_refl _; from = o.from; rest = o.rest }

        kept-body : Kept g e c.length w x
        kept-body =
            kept_trans {m = c.length} (kept-counters ready.placed entry (le_refl _) (le_refl _))
            (kept-inner came.kept (le_refl _) (omega arith) (le_refl _) refl (le_refl _)) (le_refl _)

        pub ready_after : Ready s i x g e (with_arguments c.arguments c.count d)
        ready_after = ready_kept ready kept-body.tables kept-body.size onward

        -- the caller's arguments again
        body_back : after_body (state_of i w g e c) y (state_of i x g (within f e) d) ≡ ended (returned y) (state_of i x g e (with_arguments c.arguments c.count d)) end
        unfolding after_body state_of give
        body_back = rw (fields-kept kept-body c.arguments c.count ready.roomy.unit ready.fits.low ready.fits.high) refl

        module _ (z : Bytes) (closed : CallEnded e.function f o (d.used - c.used) x z) where
          exit : Only 4096 counters_end x z
          exit = call_ended_only e.function f o _ closed caller given.positive few

          body-ends : after_body (state_of i w g e c) y (state_of i x g (within f e) d) ≡ ended (returned y) (state_of i z g e (with_arguments c.arguments c.count d)) end
          body-ends = body_back ∙ ap (λ (q : State). ended (returned y) q end) (sym (state_charged ready_after.roomy ready_after.placed ready_after.fits exit (le_refl _) (le_refl _)))

          pub enter_size : length z ≡ length w
          enter_size = exit.size ∙ kept-body.size

          pub enter_ran : (r : ℕ) → Entered s i w g e c r f m z (RunEnd.Ended (returned y) (with_arguments c.arguments c.count d))
          enter_ran r = record {
            by = record {
              trace = call f came.trace end;
              eq = enter_goes r ∙ ap (λ (o : Outcome Behaviour). and_then (inside f o) (after_body (state_of i w g e c))) came.eq ∙ ap (after (call f came.trace end)) body-ends;
              charged = charged-call e.function f o begun came.charged (rw body-steps at closed) caller given.positive few;
              kept = kept_trans {m = c.length} kept-body (kept-counters ready.placed exit (le_refl _) (le_refl _)) (le_refl _);
              onward = onward;
            };
          }

-- THE CALL

module _ (s : Bytes) (g : Given) (calls at f : ℕ) (k : Function) (new : List Bytes) where
  -- one call more may be opened, or none
  open_calls : calls < g.stack → enter_with s g calls at f k new ≡ enter_rule (limits_given g) at f k.name (eval_ins (limits_given g) (functions_of s g) (enter_with s g (calls + 1)) k.body) new
  unfolding enter_with enter_at
  open_calls h = let d : g.stack - calls ≡ suc (g.stack - (calls + 1)) = omega arith in ap (λ (n : ℕ). enter_at (limits_given g) (functions_of s g) n at f k new) d

  full-calls : g.stack ≤ calls → enter_with s g calls at f k new ≡ full_stack_rule
  unfolding enter_with enter_at
  full-calls h = let d : g.stack - calls ≡ 0 = omega arith in ap (λ (n : ℕ). enter_at (limits_given g) (functions_of s g) n at f k new) d

module _ {s i w : Bytes} {g : Given} {e : Scope} {c : Course} {r l f : ℕ} (ready : Ready s i w g e c) (kind : OfKind s w r 25) (list : l ≡ in_record s w r 6) (number : f ≡ mark_in w r) where
  abbrev callee : Callee
  callee = find (text_in s w (in_record s w r 4)) 1 (functions_of s g)

  call-starts : does s i w g e c (ins_rule_at s g e.calls r)
      ≡ on_value (does s i w g e c (lst_at s g e.calls l (so_far w g e 0))) Failure (λ new. call_of (enter_with s g e.calls) r callee new (handed s w g e))
  unfolding does ins_rule_at ins_rule lst_at row row_from
  call-starts = rw ((call_law ready.loaded r kind.known kind.kind).0, list) (call_on _ _ _ _ _ _)

  module _ {v : Bytes} {a : Listing} (done : LstDone s i w g e c l 0 v a) where
    pub call-error : {d : Course} → a ≡ Listing.Error d → InsRuled s i w g e c r v (RunEnd.Ended Failure d)
    call-error h = record { by = error-came _ _ call-starts (list-error done h) }

    pub call-refused : {why : Refusal} {place : ℕ} → a ≡ Listing.Refused why place → InsRuled s i w g e c r v (RunEnd.Refused why place)
    call-refused h = record { by = value-refused _ _ call-starts (list-refused done h) }

    module _ {d : Course} {m : ℕ} (told : a ≡ Listing.Fields m d) where
      came-list : Came i g e w c (does s i w g e c (lst_at s g e.calls l (so_far w g e 0))) (value (so_far v g e m)) v d
      came-list = (has_fields done told).came

      pub ready_call : Ready s i v g e d
      ready_call = ready_kept ready came-list.kept.tables came-list.kept.size came-list.onward

      -- a name that no function has
      call_of_unknown : f ≡ 0 → call_of (enter_with s g e.calls) r callee (so_far v g e m) (handed s w g e) (state_of i v g e d) ≡ finish (handed s w g e) false (state_of i v g e d)
      unfolding call_of
      call_of_unknown h =
          ap (λ (k : Callee). call_of (enter_with s g e.calls) r k (so_far v g e m) (handed s w g e) (state_of i v g e d))
          (callee-unknown ready.loaded r kind.known kind.kind (sym number ∙ h))

      pub call-unknown : f ≡ 0 → InsRuled s i w g e c r v (finished e d false)
      unfolding handed
      call-unknown h =
          ran_then _ came-list
          (value_on _ _ call-starts came-list ∙ ap (λ (o : Outcome Behaviour). after came-list.trace o) (call_of_unknown h))
          (finish-ran i v g e d (handed s w g e) false refl)

      -- a function
      module _ (some : f ≡ 0 → ⊥) where
        numbered : f ≤ length (known_of s).functions
        numbered = rw number (callee_known ready.loaded r kind.known kind.kind (λ z. some (number ∙ z))).1

        function-same : (k : ℕ) → 0 < k → k ≤ length (known_of s).functions → function_in s w (known_of s) k ≡ function_in s v (known_of s) k
        function-same zero h l = absurd (omega arith)
        function-same (suc k) h l = sym (function_law ready.loaded k l) ∙ function_law ready_call.loaded k l

        defined : callee ≡ known f (function_in s v (known_of s) f)
        defined =
            (callee_known ready.loaded r kind.known kind.kind (λ z. some (number ∙ z))).0
            ∙ ap (λ (k : ℕ). known k (function_in s w (known_of s) k)) (sym number)
            ∙ ap (known f) (function-same f (omega (arith, some)) numbered)

        call_of_known : call_of (enter_with s g e.calls) r callee (so_far v g e m) (handed s w g e) (state_of i v g e d)
            ≡ enter_with s g e.calls r f (function_in s v (known_of s) f) (so_far v g e m) (handed s w g e) (state_of i v g e d)
        unfolding call_of
        call_of_known = ap (λ (k : Callee). call_of (enter_with s g e.calls) r k (so_far v g e m) (handed s w g e) (state_of i v g e d)) defined

        -- as many calls open as the stack limit allows
        pub call-full : g.stack ≤ e.calls → InsRuled s i w g e c r v (RunEnd.Ended Failure d)
        call-full h =
            ran_then _ came-list
            (value_on _ _ call-starts came-list
            ∙ ap (λ (o : Outcome Behaviour). after came-list.trace o)
            (call_of_known ∙ ap (λ (q : Meaning). q (handed s w g e) (state_of i v g e d)) (full-calls s g e.calls r f _ (so_far v g e m) h) ∙ full_stack_on _ _))
            (record { by = still refl (onward_refl g d) })

        call_goes : e.calls < g.stack → does s i w g e c (ins_rule_at s g e.calls r)
            ≡ after came-list.trace (does s i v g e d (enter_rule (limits_given g) r f (text_in s v (named_in v f)) (ins_at s g (e.calls + 1) (body_in v f)) (so_far v g e m)))
        unfolding ins_at
        call_goes h =
            value_on _ _ call-starts came-list
            ∙ ap (λ (o : Outcome Behaviour). after came-list.trace o)
            (call_of_known ∙ ap (λ (q : Meaning). q (handed s w g e) (state_of i v g e d)) (open_calls s g e.calls r f _ (so_far v g e m) h) ∙ does-later _ d ready came-list.kept.tables)

        pub call_none : e.calls < g.stack → 10 ≤ e.holds → InsRuled s i w g e c r v (RunEnd.Refused ManyHolds r)
        call_none h k = record { by = stopped_then came-list (call_goes h) (no_hold_lem _ s v g e r (enter_starts s i v g e d f m r (body_in v f)) (in_sheet ready kind.known) k) }

        pub call-ran : {x : Bytes} (n : RunEnd) → e.calls < g.stack → Entered s i v g e d r f m x n → InsRuled s i w g e c r x n
        call-ran n h q = ran_then n came-list (call_goes h) q

        pub call_enters : e.calls < g.stack → e.holds < 10 → Enters s g e f m
        call_enters h k = record {
          positive = omega (arith, some);
          function = numbered;
          hold = k;
          stack = h;
          few = (has_fields done told).few;
        }
