-- Failure is never lost: a watch on any records of a run refuses it only where the run ends in Failure, and has made no step since. And a watch on
-- all of them sees every end in Failure.
-- Assumes nothing.
use mathlib.Core.Path.{◌≡◌, refl, sym, ◌∙◌, ap, subst}
use mathlib.Core.Bool.{Bool, true, false, cond, not, ◌&&◌}
use mathlib.Core.List.{List}
use Prim.Native.Nat.{ℕ, suc, ◌<◌}
use native.Mathlib.Omega.{arith}
use lib.Dec.{T, ltb}
use Rattle.rules.specs.declared.Behaviour.{Behaviour}
use Rattle.rules.specs.declared.Behaviour.TheVariants.{Normal, Return, Exit, Failure}
use Rattle.rules.specs.declared.Refusal.{Refusal}
use Rattle.rules.specs.declared.Refusal.TheVariants.{LongList}
use Rattle.rules.specs.Trace.{Trace, end, step, call, ◌⨾◌, steps}
use Rattle.rules.specs.Syntax.{Function, Ins, assign, export, sequence, subshell, if, nooutput, pipe, utility, for, while, exit, return, shift}
use Rattle.rules.specs.State.{Limits, State, Inherited}
use Rattle.rules.specs.State.{Outcome, refused, ended, Run, and_then, after, inside, ◌>>=◌, ◌>>◌, as_call, set_used}
use Rattle.rules.specs.Flow.{is_failure}
use Rattle.rules.specs.Refusals.{Meaning, begin, stepped, at_top}
use Rattle.rules.specs.Evaluation.{start, run}
use Rattle.rules.specs.Rules.{Enter}
use Rattle.rules.specs.Watched.{Watch, refusing, seen, watched, watched_ins, watched_run}
use Rattle.rules.specs.Claims.{Given, outcome, outcome_under, RefusedWith, EndsInFailure, FailureNeverLost, FailureSeen, Watching, nothing, failed}
use Rattle.rules.proofs.Outcomes.{then_end_lem, begun_if}
use Rattle.rules.proofs.Beginnings.{steps_then, opened_some, both_hold}
use Rattle.rules.proofs.Induction.{Laws, Spoilt, as_many, holds_of}

module _ (looks : ℕ → Bool) (why : Refusal) (place : ℕ) where
  -- of outcomes, the second under the watch: nothing was seen, or a bad answer was, which is that of the first
  data Stops {A : Type 0} (bad : A → Bool) : (o o' : Outcome A) → Type 0 where
    unseen : (o : Outcome A) → Stops bad o o
    stopped : (a : A) (s : State) (t : Trace) → T (bad a) → 0 < steps t → Stops bad (ended a s t) (refused why place t)

  record Stopping {A : Type 0} (bad : A → Bool) (m m' : Run A) : Type 0 where
    from : (s : State) → Stops bad (m s) (m' s)

  at_once : {A : Type 0} (bad : A → Bool) (m : Run A) → Stopping bad m m
  at_once bad m = record { from = λ s. unseen (m s) }

  stops_second : {A : Type 0} {bad : A → Bool} (t : Trace) (o o' : Outcome A) → Stops bad o o' → Stops bad (after t o) (after t o')
  stops_second t o o' (unseen x) = unseen (after t x)
  stops_second t o o' (stopped b s u h g) = stopped b s (t ⨾ u) h (omega (arith, steps_then t u))

  module _ {A B : Type 0} {bad : A → Bool} {bad' : B → Bool} (k k' : A → Run B) where
    stops_bind : (m m' : Run A) → Stopping bad m m' → ((a : A) → Stopping bad' (k a) (k' a))
        → ((a : A) → T (bad a) → (s : State) → Spoilt bad' (k a) s) → Stopping bad' (◌>>=◌ m k) (◌>>=◌ m' k')
    unfolding ◌>>=◌
    stops_bind m m' hm hk spoils = record { from = λ s. go (m s) (m' s) (hm.from s) }
      where
        go : (o o' : Outcome A) → Stops bad o o' → Stops bad' (and_then o k) (and_then o' k')
        go o o' (unseen (refused w p t)) = unseen (refused w p t)
        go o o' (unseen (ended a s t)) = stops_second t (k a s) (k' a s) ((hk a).from s)
        go o o' (stopped a s t h g) =
            let p = spoils a h s in
            subst (λ x. Stops bad' x (refused why place t)) (sym (ap (after t) p.ends ∙ ap (ended p.answer p.after) (then_end_lem t)))
            (stopped p.answer p.after t p.is_bad g)

  stops_call : (f : ℕ) (m m' : Run Behaviour) → Stopping is_failure m m' → Stopping is_failure (as_call f m) (as_call f m')
  unfolding as_call
  stops_call f m m' h = record { from = λ s. go (m s) (m' s) (h.from s) }
    where
      go : (o o' : Outcome Behaviour) → Stops is_failure o o' → Stops is_failure (inside f o) (inside f o')
      go o o' (unseen x) = unseen (inside f x)
      go o o' (stopped b s t h g) =
          subst (λ u. Stops is_failure (ended b s (call f t end)) (refused why place u)) (sym (opened_some f t g))
          (stopped b s (call f t end) h (omega arith))

  -- a record's step and what follows, seen by the watch
  module _ {A : Type 0} (bad : A → Bool) (at : ℕ) where
    end_seen : (a : A) (s : State) (t : Trace) (b : Bool) → (looks at && bad a) ≡ b
        → Stops bad (ended a s (step at t)) (cond b (refused why place (step at t)) (ended a s (step at t)))
    end_seen a s t true e = stopped a s (step at t) (both_hold (looks at) (bad a) (rw e tt)).1 (omega arith)
    end_seen a s t false e = unseen (ended a s (step at t))

    step-seen : (o o' : Outcome A) → Stops bad o o'
        → Stops bad (after (step at end) o) (seen (refusing looks why place) bad at (after (step at end) o'))
    step-seen o o' (unseen (refused w p t)) = unseen _
    step-seen o o' (unseen (ended a s t)) = end_seen a s t (looks at && bad a) refl
    step-seen o o' (stopped a s t h g) = stopped a s (step at t) h (omega arith)

    stops-begin : (L : Limits) (m m' : Run A) → Stopping bad m m'
        → Stopping bad (◌>>◌ (begin L at) m) (λ s. seen (refusing looks why place) bad at (◌>>◌ (begin L at) m' s))
    unfolding ◌>>=◌ ◌>>◌ begin
    stops-begin L m m' h = record { from = λ s. go s (ltb s.used L.budget) }
      where
        go : (s : State) (b : Bool)
            → Stops bad (and_then (begun_if at s b) (λ _. m)) (seen (refusing looks why place) bad at (and_then (begun_if at s b) (λ _. m')))
        go s true = step-seen (m (set_used (suc s.used) s)) (m' (set_used (suc s.used) s)) (h.from (set_used (suc s.used) s))
        go s false = unseen _

  stops : (L : Limits) → Laws (refusing looks why place) L L ⊥ (λ A bad m m'. Stopping bad m m')
  stops L = record {
    loops = as_many L.loop;
    gives = λ a. at_once _ _;
    refuses = λ w p n. at_once _ _;
    looks = λ f. at_once _ _;
    changes = λ f h. at_once _ _;
    begins = λ at h. stops-begin _ at L _ _ h;
    calls = λ f h. stops_call f _ _ h;
    gave_up = λ more. absurd more;
    bind = λ hm hk spoils. stops_bind _ _ _ _ hm hk spoils;
  }

  pub run-watched : (limits : Limits) (g : Given) → Watching why place (outcome limits g) (outcome_under (refusing looks why place) limits g)
  unfolding run watched_run
  run-watched limits g =
      go (outcome limits g) (outcome_under (refusing looks why place) limits g)
      ((stops_call 0 _ _
      (holds_of g.program.functions (refusing looks why place) limits limits.loop limits.stack limits.budget ⊥ _ (stops limits)
      limits.stack limits.stack (as_many limits.stack) (at_top g.argument0) g.program.main)
      ).from (start g.program g.arguments g.stdin))
    where
      go : (o o' : Outcome Behaviour) → Stops is_failure o o' → Watching why place o o'
      go o o' (unseen x) = nothing x
      go o o' (stopped Normal s t h g) = absurd h
      go o o' (stopped Return s t h g) = absurd h
      go o o' (stopped Exit s t h g) = absurd h
      go o o' (stopped Failure s t h g) = failed s t

-- TOLD APART FROM THE RUN'S OWN REFUSALS

-- refused at two places, as the watch is set, it is not as it is without the watch
pub failure_never_lost_lem : FailureNeverLost
failure_never_lost_lem looks limits g h =
    go (outcome limits g)
    (under 0) (run-watched looks LongList 0 limits g) (h LongList 0)
    (under 1) (run-watched looks LongList 1 limits g) (h LongList 1)
  where
    under : (place : ℕ) → Outcome Behaviour
    under place = outcome_under (refusing looks LongList place) limits g

    go : (o o₀ : Outcome Behaviour) → Watching LongList 0 o o₀ → RefusedWith LongList 0 o₀
        → (o₁ : Outcome Behaviour) → Watching LongList 1 o o₁ → RefusedWith LongList 1 o₁ → EndsInFailure o
    go o o₀ (failed s t) p o₁ q r = refl
    go o o₀ (nothing (ended b s t)) p o₁ q r = absurd p
    go o o₀ (nothing (refused w a t)) p o₁ (nothing x) r = absurd (omega (arith, p.1, r.1))

-- NOTHING IS OVERLOOKED

module _ (why : Refusal) (place : ℕ) (L : Limits) where
  abbrev on_all : Watch
  on_all = refusing (λ at. true) why place

  abbrev NoFailure : Outcome Behaviour → Type 0
  NoFailure (refused w p t) = Unit {0}
  NoFailure (ended b s t) = T (not (is_failure b))

  record Passes (m : Run Behaviour) : Type 0 where
    from : (s : State) → NoFailure (m s)

  seen_all : (at : ℕ) (m : Meaning) (h : Inherited) → Passes (watched on_all L is_failure at m h)
  unfolding watched
  seen_all at m h = record { from = λ s. go (stepped L at m h s) }
    where
      go : (o : Outcome Behaviour) → NoFailure (seen on_all is_failure at o)
      go (refused w p t) = tt
      go (ended Normal s t) = tt
      go (ended Return s t) = tt
      go (ended Exit s t) = tt
      go (ended Failure s t) = tt

  none_left : (functions : List Function) (enter : Enter) (h : Inherited) (i : Ins) → Passes (watched_ins on_all L functions enter i h)
  unfolding watched_ins
  none_left functions enter h (assign at x s) = seen_all at _ h
  none_left functions enter h (export at x) = seen_all at _ h
  none_left functions enter h (sequence at i j) = seen_all at _ h
  none_left functions enter h (subshell at i) = seen_all at _ h
  none_left functions enter h (Ins.not at i) = seen_all at _ h
  none_left functions enter h (if at i j k) = seen_all at _ h
  none_left functions enter h (nooutput at i) = seen_all at _ h
  none_left functions enter h (pipe at i j) = seen_all at _ h
  none_left functions enter h (utility at name l) = seen_all at _ h
  none_left functions enter h (Ins.call at name l) = seen_all at _ h
  none_left functions enter h (for at x l i) = seen_all at _ h
  none_left functions enter h (while at i j) = seen_all at _ h
  none_left functions enter h (exit at c) = seen_all at _ h
  none_left functions enter h (return at c) = seen_all at _ h
  none_left functions enter h (shift at n) = seen_all at _ h

  in_call : (f : ℕ) (m : Run Behaviour) → Passes m → Passes (as_call f m)
  unfolding as_call
  in_call f m h = record { from = λ s. go (m s) (h.from s) }
    where
      go : (o : Outcome Behaviour) → NoFailure o → NoFailure (inside f o)
      go (refused w p t) h = tt
      go (ended b s t) h = h

  none_at_end : (g : Given) → NoFailure (outcome_under on_all L g)
  unfolding watched_run
  none_at_end g =
      (in_call 0 _ (none_left g.program.functions _ (at_top g.argument0) g.program.main)).from (start g.program g.arguments g.stdin)

  seen-refused : (o o' : Outcome Behaviour) → Watching why place o o' → EndsInFailure o → NoFailure o' → RefusedWith why place o'
  seen-refused o o' (nothing (refused w p t)) e n = absurd e
  seen-refused o o' (nothing (ended b s t)) e n = absurd (subst (λ (x : Behaviour). T (not (is_failure x))) e n)
  seen-refused o o' (failed s t) e n = (refl, refl)

pub failure-seen : FailureSeen
failure-seen limits g e why place =
    seen-refused why place limits (outcome limits g) _ (run-watched (λ at. true) why place limits g) e (none_at_end why place limits g)
