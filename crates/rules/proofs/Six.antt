-- Refusal 6, exactly: read off the run with one step more allowed, whatever that came to.
-- Assumes nothing.
use mathlib.Core.Path.{◌≡◌, refl, sym, ◌∙◌, ap, subst}
use Prim.Native.Nat.{ℕ, suc, ◌≤◌, ◌<◌}
use native.Mathlib.Omega.{arith}
use native.Mathlib.Decide.{dec_le}
use lib.ListN.{get_or}
use Rattle.rules.specs.declared.Behaviour.{Behaviour}
use Rattle.rules.specs.declared.Refusal.{Refusal}
use Rattle.rules.specs.declared.Refusal.TheVariants.{BudgetUsedUp}
use Rattle.rules.specs.Trace.{Trace, steps, first_steps, places}
use Rattle.rules.specs.State.{Limits, with_budget, Outcome, refused, ended, trace_of}
use Rattle.rules.specs.Claims.{Given, outcome, NotByBudget, Settled, one_step_more, NextStep}
use Rattle.rules.proofs.Budget.{run_exact}
use Rattle.rules.proofs.Runs.{RunTally, run_tally}

place_of : Outcome Behaviour → ℕ
place_of (refused why place t) = place
place_of (ended b s t) = 0

module _ (limits : Limits) (g : Given) where
  abbrev longer : Trace
  longer = trace_of (one_step_more limits g)

  abbrev B : ℕ
  B = limits.budget

  settled : Settled B (one_step_more limits g) (outcome limits g)
  settled = run_exact (with_budget limits (suc B)) B g.program g.argument0 g.arguments g.stdin

  tally : (l : Limits) → RunTally l (outcome l g)
  tally l = run_tally l g.program g.argument0 g.arguments g.stdin

  -- a run refused with 6 made as many steps as its budget allows
  all-used : (l : Limits) (place : ℕ) (t : Trace) → outcome l g ≡ refused BudgetUsedUp place t → steps t ≡ l.budget
  all-used l place t e = (subst (RunTally l) e (tally l)).full refl

  -- so the longer run is no refusal with 6 if its steps fit the budget
  not_six : steps longer ≤ B → NotByBudget (one_step_more limits g)
  not_six h = go (one_step_more limits g) refl h
    where
      go : (o : Outcome Behaviour) → one_step_more limits g ≡ o → steps (trace_of o) ≤ B → NotByBudget o
      go (refused why place t) e h = λ w.
          let z : steps t ≡ suc B = all-used (with_budget limits (suc B)) place t (e ∙ ap (λ (r : Refusal). refused r place t) w) in
          absurd (omega arith)
      go (ended b s t) e h = tt

  longer-steps : (place : ℕ) (t : Trace) → outcome limits g ≡ refused BudgetUsedUp place t → B < steps longer
  longer-steps place t e = go (dec_le (steps longer) B)
    where
      go : Dec (steps longer ≤ B) → B < steps longer
      go (yes h) = absurd (subst NotByBudget (sym (settled.kept h (not_six h)) ∙ e) (not_six h) refl)
      go (no h) = omega (arith, h)

  pub six_from : (place : ℕ) (t : Trace) → outcome limits g ≡ refused BudgetUsedUp place t
      → NextStep limits g place × (steps t ≡ limits.budget) × (t ≡ first_steps limits.budget (trace_of (one_step_more limits g)))
  unfolding place_of
  six_from place t e =
      let l = longer-steps place t e in
      let q : refused BudgetUsedUp (get_or (places longer) B 0) (first_steps B longer) ≡ refused BudgetUsedUp place t = sym (settled.cut l) ∙ e in
      (record { made = l; at = ap place_of q }, all-used limits place t e, sym (ap trace_of q))

  pub six_to : (place : ℕ) → NextStep limits g place
      → outcome limits g ≡ refused BudgetUsedUp place (first_steps limits.budget (trace_of (one_step_more limits g)))
  six_to place n = settled.cut n.made ∙ ap (λ (p : ℕ). refused BudgetUsedUp p (first_steps B longer)) n.at
