-- The figures of every run are sound, and the result sheet holds them.
-- Assumes nothing.
use mathlib.Core.Path.{◌≡◌, refl, sym, ◌∙◌, ap, subst}
use mathlib.Core.List.{map}
use Prim.Native.Nat.{ℕ, zero, suc, ◌+◌, ◌≤◌, ◌<◌}
use native.Mathlib.Nat.{zero-add, add-zero, suc-add, add-suc}
use native.Mathlib.Omega.{arith}
use lib.ListN.{length}
use Rattle.rules.specs.declared.Behaviour.{Behaviour}
use Rattle.rules.specs.declared.Refusal.{Refusal}
use Rattle.rules.specs.Lists.{Every}
use Rattle.rules.specs.Syntax.{Program}
use Rattle.rules.specs.Trace.{Trace, steps, sum, own, sum_below, Accounted}
use Rattle.rules.specs.State.{Limits, State, Outcome, refused, ended, trace_of}
use Rattle.rules.specs.Ruling.{Ruling, refusal, sheet, Sheet, profile, ruling, ruling_of}
use Rattle.rules.specs.Genuine.{MadeBy, MadeSoFar}
use Rattle.rules.specs.Claims.{Given, outcome, ruling_on, own_of, RowAccounted, SheetAccounted}
use Rattle.rules.proofs.Outcomes.{Ends}
use Rattle.rules.proofs.Traces.{accounted, inclusive-outermost, inclusive_le, own_le}
use Rattle.rules.proofs.Beginnings.{steps-opened, opened_some}
use Rattle.rules.proofs.Runs.{RunCounted, run-counted, run-within}
use Rattle.rules.proofs.Genuineness.{genuine-numbered, genuine-filled, unfinished-numbered, unfinished-filled, begins-steps, Made, run-made, run-genuine, run-steps}

made_accounted : (limits : Limits) (program : Program) (t : Trace) → MadeBy limits program t → Accounted (length program.functions) t
made_accounted limits program t m =
    subst (Accounted (length program.functions)) (sym m.is_main)
    (accounted _ m.inside (genuine-numbered limits program m.inside m.genuine)
    (begins-steps _ m.inside m.begins, genuine-filled limits program m.inside m.genuine, tt))

pub run_accounted : (limits : Limits) (g : Given) (b : Behaviour) (s : State) (t : Trace) → outcome limits g ≡ ended b s t
    → (s.used ≡ steps t) × (steps t ≤ limits.budget) × Accounted (length g.program.functions) t
run_accounted limits g b s t e =
    let c : RunCounted limits s t = subst (Ends (λ _. RunCounted limits)) e (run-counted limits program g.argument0 g.arguments g.stdin) in
    let m : MadeBy limits program t = subst (Ends (λ _ _. MadeBy limits program)) e (run-genuine limits program g.argument0 g.arguments g.stdin) in
    (c.used, c.within, made_accounted limits program t m)
  where
    program : Program
    program = g.program

-- the same of a refused run, if it made a step
so_far_accounted : (limits : Limits) (program : Program) (why : Refusal) (place : ℕ) (t : Trace) → MadeSoFar limits program why place t
    → 0 < steps t → Accounted (length program.functions) t
so_far_accounted limits program why place t m h =
    let i = m.inside in
    let k : 0 < steps i = subst (λ (n : ℕ). 0 < n) (ap steps m.is_main ∙ steps-opened 0 i) h in
    subst (Accounted (length program.functions)) (sym (m.is_main ∙ opened_some 0 i k))
    (accounted _ i (unfinished-numbered limits program i m.unfinished) (k, unfinished-filled limits program i m.unfinished, tt))

pub outcome_accounted : (limits : Limits) (g : Given)
    → (steps (trace_of (outcome limits g)) ≤ limits.budget)
    × (0 < limits.budget → Accounted (length g.program.functions) (trace_of (outcome limits g)))
outcome_accounted limits g = (
  run-within limits program g.argument0 g.arguments g.stdin,
  λ l. go (outcome limits g) (run-made limits program g.argument0 g.arguments g.stdin)
      (run-steps limits program g.argument0 g.arguments g.stdin l),
)
  where
    program : Program
    program = g.program

    go : (o : Outcome Behaviour) → Made limits g.program o → 0 < steps (trace_of o) → Accounted (length g.program.functions) (trace_of o)
    go (refused why place t) m h = so_far_accounted limits g.program why place t m h
    go (ended b s t) m h = made_accounted limits g.program t m

-- ROWS

-- the own counts of k functions from f, and of those below f + k
sum-from : (t : Trace) (f k : ℕ) → sum_below f (λ g. own g t) + sum (map own_of (profile f k t)) ≡ sum_below (f + k) (λ g. own g t)
sum-from t f zero = add-zero (sum_below f (λ g. own g t)) ∙ ap (λ (n : ℕ). sum_below n (λ g. own g t)) (sym (add-zero f))
sum-from t f (suc k) =
    let h : sum_below f (λ g. own g t) + own f t + sum (map own_of (profile (suc f) k t)) ≡ sum_below (suc f + k) (λ g. own g t) = sum-from t (suc f) k in
    omega (arith, h) ∙ ap (λ (n : ℕ). sum_below n (λ g. own g t)) (suc-add f k ∙ sym (add-suc f k))

rows_accounted : (t : Trace) (f k : ℕ) → Every (RowAccounted t) (profile f k t)
rows_accounted t f zero = tt
rows_accounted t f (suc k) = (
  record { times = refl; outermost_add_up = inclusive-outermost f t; own_below = own_le f t; never_above = inclusive_le f t },
  rows_accounted t (suc f) k,
)

module _ (limits : Limits) (g : Given) where
  abbrev n : ℕ
  n = length g.program.functions

  ended_accounted : (b : Behaviour) (s : State) (t : Trace) → outcome limits g ≡ ended b s t → (r : Sheet)
      → ruling_of n (ended b s t) ≡ sheet r → SheetAccounted limits g r
  ended_accounted b s t e r q = subst OnSheet q (record {
    after = s;
    trace = t;
    ran = e;
    total = refl;
    within = (run_accounted limits g b s t e).1;
    charges =
        let h : 0 + sum (map own_of (profile 0 (suc n) t)) ≡ sum_below (0 + suc n) (λ g. own g t) = sum-from t 0 (suc n) in
        let c : sum_below (suc n) (λ g. own g t) ≡ steps t = (run_accounted limits g b s t e).2.charges in
        let k : sum_below (0 + suc n) (λ g. own g t) ≡ steps t = ap (λ (m : ℕ). sum_below m (λ g. own g t)) (zero-add (suc n)) ∙ c in
        omega (arith, h, k);
    rows = rows_accounted t 0 (suc n);
  })
    where
      OnSheet : Ruling → Type 0
      OnSheet (refusal number place) = Unit {0}
      OnSheet (sheet r) = SheetAccounted limits g r

  pub sheet_accounted : (r : Sheet) → ruling_on limits g ≡ sheet r → SheetAccounted limits g r
  unfolding ruling
  sheet_accounted r q = go (outcome limits g) refl q
    where
      go : (o : Outcome Behaviour) → outcome limits g ≡ o → ruling_of n o ≡ sheet r → SheetAccounted limits g r
      go (refused why place t) e q = absurd (subst IsRefusal q tt)
        where
          IsRefusal : Ruling → Type 0
          IsRefusal (refusal number place) = Unit {0}
          IsRefusal (sheet r) = ⊥
      go (ended b s t) e q = ended_accounted b s t e r q
