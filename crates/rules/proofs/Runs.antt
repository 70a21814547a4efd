-- What holds of every run: the steps of its trace are within the budget; if it ends they are the steps used, and if it is refused with 6
-- they are the whole budget.
-- Assumes nothing.
use mathlib.Core.Path.{◌≡◌, refl, subst}
use mathlib.Core.Bool.{Bool, true, false, cond}
use mathlib.Core.List.{List}
use Prim.Native.Nat.{ℕ, suc, ◌+◌, ◌≤◌, ◌<◌}
use native.Mathlib.Omega.{arith}
use lib.Dec.{ltb, ltb→lt}
use Rattle.rules.specs.declared.Behaviour.{Behaviour}
use Rattle.rules.specs.declared.Refusal.{Refusal}
use Rattle.rules.specs.declared.Refusal.TheVariants.{BudgetUsedUp}
use Rattle.rules.specs.Syntax.{Bytes, Function, Program, Ins}
use Rattle.rules.specs.Trace.{Trace, end, step, ◌⨾◌, steps}
use Rattle.rules.specs.State.{Limits, number, State, Inherited, Outcome, refused, ended, Run, set_used, after, and_then, inside, as_call, trace_of, ◌>>=◌, ◌>>◌, give, refuse, look, change}
use Rattle.rules.specs.Refusals.{begin, at_top}
use Rattle.rules.specs.Evaluation.{eval_ins, enter_at, start, main, run}
use Rattle.rules.specs.Watched.{idle}
use Rattle.rules.proofs.Outcomes.{Ends, Comes, ends_of}
use Rattle.rules.proofs.Beginnings.{steps_then, steps-opened, le_if_false}
use Rattle.rules.proofs.Induction.{Laws, as_many, holds_of}

-- the steps used grow by the steps of the trace and stay within the budget b
pub record Counted (b : ℕ) (s s' : State) (t : Trace) : Type 0 where
  pub grows : s'.used ≡ s.used + steps t
  pub within : s.used ≤ b → s'.used ≤ b

-- so do the steps before a refusal, and one with 6 comes when they are the whole budget
pub record Stops (b : ℕ) (s : State) (why : Refusal) (t : Trace) : Type 0 where
  pub within : s.used ≤ b → s.used + steps t ≤ b
  pub full : s.used ≤ b → why ≡ BudgetUsedUp → s.used + steps t ≡ b

abbrev Tally : {A : Type 0} → ℕ → State → Outcome A → Type 0
Tally b s o = Comes (λ _. Counted b s) (λ why _. Stops b s why) o

record Counts {A : Type 0} (b : ℕ) (m : Run A) : Type 0 where
  from : (s : State) → Tally b s (m s)

nothing : (b : ℕ) (s s' : State) → s'.used ≡ s.used → Counted b s s' end
nothing b s s' e = record { grows = omega arith; within = λ h. omega arith }

-- a refusal with another number than 6, at once
not_six : (b : ℕ) (s : State) (why : Refusal) → 6 < number why → Stops b s why end
not_six b s why h = record {
  within = λ l. omega arith;
  full = λ l e. let z : 6 < number BudgetUsedUp = subst (λ w. 6 < number w) e h in absurd (omega arith);
}

joined : (b : ℕ) (s s' s'' : State) (t u : Trace) → Counted b s s' t → Counted b s' s'' u → Counted b s s'' (t ⨾ u)
joined b s s' s'' t u p q = record {
  grows = let g : steps (t ⨾ u) ≡ steps t + steps u = steps_then t u in omega (arith, p.grows, q.grows);
  within = λ h. q.within (p.within h);
}

stopped : (b : ℕ) (s s' : State) (why : Refusal) (t u : Trace) → Counted b s s' t → Stops b s' why u → Stops b s why (t ⨾ u)
stopped b s s' why t u p q = record {
  within = λ h. omega (arith, p.grows, q.within (p.within h), steps_then t u);
  full = λ h e. omega (arith, p.grows, q.full (p.within h) e, steps_then t u);
}

counts_bind : {A B : Type 0} (b : ℕ) (m : Run A) (k : A → Run B) → Counts b m → ((a : A) → Counts b (k a)) → Counts b (◌>>=◌ m k)
unfolding ◌>>=◌
counts_bind {A} {B} b m k hm hk = record { from = λ s. first s (m s) (hm.from s) }
  where
    second : (s s' : State) (t : Trace) → Counted b s s' t → (o : Outcome B) → Tally b s' o → Tally b s (after t o)
    second s s' t h (refused why place u) g = stopped b s s' why t u h g
    second s s' t h (ended a s'' u) g = joined b s s' s'' t u h g

    first : (s : State) (o : Outcome A) → Tally b s o → Tally b s (and_then o k)
    first s (refused why place t) h = h
    first s (ended a s' t) h = second s s' t h (k a s') ((hk a).from s')

counts-begin : (L : Limits) (at : ℕ) → Counts L.budget (begin L at)
unfolding begin
counts-begin L at = record { from = λ s. go s (ltb s.used L.budget) refl }
  where
    go : (s : State) (b : Bool) → ltb s.used L.budget ≡ b
        → Tally {A = Unit {0}} L.budget s (cond b (ended tt (set_used (suc s.used) s) (step at end)) (refused BudgetUsedUp at end))
    go s true e =
        let k : s.used < L.budget = ltb→lt s.used L.budget (rw e tt) in
        record { grows = omega arith; within = λ _. omega arith }
    go s false e =
        let k : L.budget ≤ s.used = le_if_false s.used L.budget e in
        record { within = λ h. omega arith; full = λ h _. omega arith }

counts-call : (b f : ℕ) (m : Run Behaviour) → Counts b m → Counts b (as_call f m)
unfolding as_call
counts-call b f m h = record { from = λ s. go s (m s) (h.from s) }
  where
    go : (s : State) (o : Outcome Behaviour) → Tally b s o → Tally b s (inside f o)
    go s (refused why place t) p = record {
      within = λ h. omega (arith, p.within h, steps-opened f t);
      full = λ h e. omega (arith, p.full h e, steps-opened f t);
    }
    go s (ended a s' t) p = record { grows = omega (arith, p.grows); within = p.within }

counts : (L : Limits) → Laws idle L L ⊥ (λ A bad m m'. Counts L.budget m)
unfolding ◌>>◌ give refuse look change
counts L = record {
  loops = as_many L.loop;
  gives = λ a. record { from = λ s. nothing _ s s refl };
  refuses = λ why place n. record { from = λ s. not_six _ s why n };
  looks = λ f. record { from = λ s. nothing _ s s refl };
  changes = λ f h. record { from = λ s. nothing _ s (f s) (h s) };
  begins = λ at h. counts_bind L.budget (begin L at) _ (counts-begin L at) (λ _. h);
  calls = λ f h. counts-call L.budget f _ h;
  gave_up = λ more. absurd more;
  bind = λ hm hk _. counts_bind L.budget _ _ hm hk;
}

-- of every instruction, however many calls are left
counted : (L : Limits) (functions : List Function) (left : ℕ) (h : Inherited) (i : Ins)
    → Counts L.budget (eval_ins L functions (enter_at L functions left) i h)
counted L functions left h i = holds_of functions idle L L.loop L.stack L.budget ⊥ _ (counts L) left left (as_many left) h i

-- an instruction uses as many steps as its trace has, however many calls are left
pub used-steps : (L : Limits) (functions : List Function) (left : ℕ) (i : Ins) (h : Inherited) (s s' : State) (b : Behaviour) (t : Trace)
    → eval_ins L functions (enter_at L functions left) i h s ≡ ended b s' t → s'.used ≡ s.used + steps t
used-steps L functions left i h s s' b t e =
    (subst (Tally L.budget s) e ((counted L functions left h i).from s)).grows

-- of a run that ended
pub record RunCounted (limits : Limits) (s : State) (t : Trace) : Type 0 where
  pub used : s.used ≡ steps t
  pub within : steps t ≤ limits.budget

-- of one that was refused
pub record RunStopped (limits : Limits) (why : Refusal) (t : Trace) : Type 0 where
  pub within : steps t ≤ limits.budget
  pub full : why ≡ BudgetUsedUp → steps t ≡ limits.budget

abbrev pub RunTally : Limits → Outcome Behaviour → Type 0
RunTally limits o = Comes (λ _. RunCounted limits) (λ why _. RunStopped limits why) o

main-counted : (limits : Limits) (s : State) → s.used ≡ 0 → (o : Outcome Behaviour) → Tally limits.budget s o → RunTally limits (inside 0 o)
main-counted limits s e (refused why place t) c = record {
  within = omega (arith, c.within (omega arith), steps-opened 0 t);
  full = λ n. omega (arith, c.full (omega arith) n, steps-opened 0 t);
}
main-counted limits s e (ended b s' t) c = record { used = omega (arith, c.grows); within = omega (arith, c.grows, c.within (omega arith)) }

module _ (limits : Limits) (program : Program) (argument0 : Bytes) (arguments : List Bytes) (stdin : Bytes) where
  pub run_tally : RunTally limits (run limits program argument0 arguments stdin)
  unfolding run as_call
  run_tally =
      let s₀ = start program arguments stdin in
      main-counted limits s₀ refl (main limits program argument0 s₀)
      ((counted limits program.functions limits.stack (at_top argument0) program.main).from s₀)

  pub run-counted : Ends (λ _. RunCounted limits) (run limits program argument0 arguments stdin)
  run-counted = ends_of (λ _. RunCounted limits) (λ why _. RunStopped limits why) (run limits program argument0 arguments stdin) run_tally

  pub run-within : steps (trace_of (run limits program argument0 arguments stdin)) ≤ limits.budget
  run-within = go (run limits program argument0 arguments stdin) run_tally
    where
      go : (o : Outcome Behaviour) → RunTally limits o → steps (trace_of o) ≤ limits.budget
      go (refused why place t) c = c.within
      go (ended b s t) c = c.within
