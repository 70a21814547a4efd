-- Raising a limit is harmless: an outcome that is neither an end in Failure nor a refusal with 6 is the same under limits that are each at least
-- as large.
-- Assumes nothing.
use mathlib.Core.Path.{◌≡◌, refl, sym, ap, subst}
use mathlib.Core.Bool.{Bool, true, false, not}
use Prim.Native.Nat.{ℕ, ◌≤◌, ◌<◌}
use native.Mathlib.Omega.{arith}
use lib.Dec.{T, leb, ltb, leb→le, ltb→lt, lt→ltb}
use Rattle.rules.specs.declared.Behaviour.{Behaviour}
use Rattle.rules.specs.Trace.{Trace, end, ◌⨾◌}
use Rattle.rules.specs.State.{Limits, with_limits, number, State}
use Rattle.rules.specs.State.{Outcome, refused, ended, Run, and_then, after, inside, ◌>>=◌, ◌>>◌, give, as_call}
use Rattle.rules.specs.Flow.{is_failure}
use Rattle.rules.specs.Refusals.{begin, at_top}
use Rattle.rules.specs.Evaluation.{start, run}
use Rattle.rules.specs.Watched.{idle}
use Rattle.rules.specs.Claims.{Given, outcome, no_smaller, lasting, OutcomeLasts}
use Rattle.rules.proofs.Outcomes.{begun_if}
use Rattle.rules.proofs.Beginnings.{both_hold}
use Rattle.rules.proofs.Induction.{Laws, Spoilt, never, holds_of_both}

-- o' is o, if o is neither a refusal with 6 nor an end with a bad answer
abbrev Lasts : {A : Type 0} → (bad : A → Bool) → (o o' : Outcome A) → Type 0
Lasts bad (refused why place t) o' = T (ltb 6 (number why)) → o' ≡ refused why place t
Lasts bad (ended a s t) o' = T (not (bad a)) → o' ≡ ended a s t

record Lasting {A : Type 0} (bad : A → Bool) (m m' : Run A) : Type 0 where
  from : (s : State) → Lasts bad (m s) (m' s)

at_once : {A : Type 0} (bad : A → Bool) (m : Run A) → Lasting bad m m
at_once bad m = record { from = λ s. go (m s) }
  where
    go : (o : Outcome _) → Lasts bad o o
    go (refused why place t) = λ n. refl
    go (ended a s t) = λ n. refl

-- nothing is said of a bad answer
bad_lasts : {A : Type 0} (bad : A → Bool) (o o' : Outcome A) (a : A) (s : State) (t : Trace) → o ≡ ended a s t → T (bad a) → Lasts bad o o'
bad_lasts bad o o' a s t e h = subst (λ x. Lasts bad x o') (sym e) (λ n. absurd (both (bad a) h n))
  where
    both : (b : Bool) → T b → T (not b) → ⊥
    both true p q = q
    both false p q = p

lasts-second : {A : Type 0} (bad : A → Bool) (t : Trace) (o o' : Outcome A) → Lasts bad o o' → Lasts bad (after t o) (after t o')
lasts-second bad t (refused why place u) o' h = λ n. ap (after t) (h n)
lasts-second bad t (ended b s u) o' h = λ n. ap (after t) (h n)

module _ {A B : Type 0} {bad : A → Bool} {bad' : B → Bool} (k k' : A → Run B) where
  lasts_bind : (m m' : Run A) → Lasting bad m m' → ((a : A) → Lasting bad' (k a) (k' a))
      → ((a : A) → T (bad a) → (s : State) → Spoilt bad' (k a) s) → Lasting bad' (◌>>=◌ m k) (◌>>=◌ m' k')
  unfolding ◌>>=◌
  lasts_bind m m' hm hk spoils = record { from = λ s. go (m s) (m' s) (hm.from s) }
    where
      good : (a : A) (s : State) (t : Trace) (o' : Outcome A) → o' ≡ ended a s t → Lasts bad' (after t (k a s)) (and_then o' k')
      good a s t o' e =
          subst (λ o. Lasts bad' (after t (k a s)) (and_then o k')) (sym e) (lasts-second bad' t (k a s) (k' a s) ((hk a).from s))

      either : (a : A) (s : State) (t : Trace) (o' : Outcome A) (b : Bool) → bad a ≡ b → Lasts bad (ended a s t) o'
          → Lasts bad' (after t (k a s)) (and_then o' k')
      either a s t o' true e h =
          let p = spoils a (rw e tt) s in
          bad_lasts bad' (after t (k a s)) (and_then o' k') p.answer p.after (t ⨾ end) (ap (after t) p.ends) p.is_bad
      either a s t o' false e h = good a s t o' (h (rw e tt))

      go : (o o' : Outcome A) → Lasts bad o o' → Lasts bad' (and_then o k) (and_then o' k')
      go (refused why place t) o' h = λ n. ap (λ o. and_then o k') (h n)
      go (ended a s t) o' h = either a s t o' (bad a) refl h

lasts-call : (f : ℕ) (m m' : Run Behaviour) → Lasting is_failure m m' → Lasting is_failure (as_call f m) (as_call f m')
unfolding as_call
lasts-call f m m' h = record { from = λ s. go (m s) (m' s) (h.from s) }
  where
    go : (o o' : Outcome Behaviour) → Lasts is_failure o o' → Lasts is_failure (inside f o) (inside f o')
    go (refused why place t) o' h = λ n. ap (inside f) (h n)
    go (ended b s t) o' h = λ n. ap (inside f) (h n)

module _ (L : Limits) (loop stack budget : ℕ) (loops : L.loop ≤ loop) (calls : L.stack ≤ stack) (steps : L.budget ≤ budget) where
  abbrev L' : Limits
  L' = with_limits L loop stack budget

  lasts-begin : (at : ℕ) → Lasting never (begin L at) (begin L' at)
  unfolding begin
  lasts-begin at = record { from = λ s. go s (ltb s.used L.budget) refl (ltb s.used budget) refl }
    where
      go : (s : State) (b : Bool) → ltb s.used L.budget ≡ b → (c : Bool) → ltb s.used budget ≡ c
          → Lasts never (begun_if at s b) (begun_if at s c)
      go s false e c f = λ n. absurd n
      go s true e true f = λ n. refl
      go s true e false f =
          let l : s.used < L.budget = ltb→lt s.used L.budget (rw e tt) in
          absurd (subst T f (lt→ltb s.used budget (omega arith)))

  raised : Laws idle L L' (Unit {0}) (λ A bad m m'. Lasting bad m m')
  unfolding ◌>>◌ give
  raised = record {
    loops = record { most = loops; strictly = λ l. tt };
    gives = λ a. at_once _ _;
    refuses = λ why place n. at_once _ _;
    looks = λ f. at_once _ _;
    changes = λ f h. at_once _ _;
    begins = λ at h. lasts_bind _ _ (begin L at) (begin L' at) (lasts-begin at) (λ _. h) (λ a t. absurd t);
    calls = λ f h. lasts-call f _ _ h;
    gave_up = λ _ m. record { from = λ s n. absurd n };
    bind = λ hm hk spoils. lasts_bind _ _ _ _ hm hk spoils;
  }

  pub run-lasts : (g : Given) → T (lasting (outcome L g)) → outcome L' g ≡ outcome L g
  unfolding run
  run-lasts g =
      let s₀ = start g.program g.arguments g.stdin in
      go (outcome L g) (outcome L' g)
      ((lasts-call 0 _ _
      (holds_of_both g.program.functions L loop stack budget (Unit {0}) _ raised L.stack stack
      (record { most = calls; strictly = λ l. tt }) (at_top g.argument0) g.program.main)
      ).from s₀)
    where
      go : (o o' : Outcome Behaviour) → Lasts is_failure o o' → T (lasting o) → o' ≡ o
      go (refused why place t) o' h n = h n
      go (ended b s t) o' h n = h n

no_smaller_lem : (l l' : Limits) → T (no_smaller l l') → (l.loop ≤ l'.loop) × (l.stack ≤ l'.stack) × (l.budget ≤ l'.budget)
no_smaller_lem l l' h =
    let p = both_hold (leb l.loop l'.loop) _ h in
    let q = both_hold (leb l.stack l'.stack) _ p.1 in
    (leb→le _ _ p.0, leb→le _ _ q.0, leb→le _ _ q.1)

pub outcome-lasts : OutcomeLasts
outcome-lasts limits loop stack budget g h n =
    let p = no_smaller_lem limits (with_limits limits loop stack budget) h in
    run-lasts limits loop stack budget p.0 p.1 p.2 g n
