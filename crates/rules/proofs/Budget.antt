-- Refusal 6 is exact: whatever a run came to under some budget, under any other it comes to the same where its steps fit, unless it was
-- refused with 6; and under a budget that they do not fit it is refused with 6, at the record whose beginning would have been the first step
-- past that budget, after the steps before it.
-- Assumes nothing.
use mathlib.Core.Path.{◌≡◌, refl, sym, ◌∙◌, ap, subst}
use mathlib.Core.Bool.{Bool, true, false, cond}
use mathlib.Core.List.{List, [], ◌∷◌, ◌++◌, append-nil, append_assoc}
use Prim.Native.Nat.{ℕ, suc, ◌+◌, ◌-◌, ◌≤◌, ◌<◌}
use native.Mathlib.Nat.{suc-add}
use native.Mathlib.Omega.{arith}
use native.Mathlib.Decide.{dec_le}
use lib.Dec.{ltb, T, ltb→lt, lt→ltb}
use lib.ListN.{length, get_or, get_or-append}
use Rattle.rules.specs.declared.Behaviour.{Behaviour}
use Rattle.rules.specs.declared.Refusal.{Refusal}
use Rattle.rules.specs.declared.Refusal.TheVariants.{BudgetUsedUp}
use Rattle.rules.specs.Syntax.{Bytes, Program}
use Rattle.rules.specs.Trace.{Trace, end, step, call, ◌⨾◌, opened, steps, first_steps, places}
use Rattle.rules.specs.State.{Limits, with_budget, State}
use Rattle.rules.specs.State.{Outcome, refused, ended, Run, and_then, after, inside, ◌>>=◌, ◌>>◌, give, refuse, look, change, as_call, set_used}
use Rattle.rules.specs.Refusals.{begin, at_top}
use Rattle.rules.specs.Evaluation.{start, main, run}
use Rattle.rules.specs.Watched.{idle}
use Rattle.rules.proofs.Induction.{Laws, as_many, holds_of_both}
use Rattle.rules.specs.Claims.{Settled}
use Rattle.rules.proofs.Beginnings.{steps_then, steps-opened, true_if_lt, first_of_two, second_of_two, places-length}

-- PLACES

places_then : (t u : Trace) → places (t ⨾ u) ≡ places t ++ places u
places_then end u = refl
places_then (step at t) u = ap (λ r. at ∷ r) (places_then t u)
places_then (call f i t) u = ap (λ r. places i ++ r) (places_then t u) ∙ sym (append_assoc (places i) (places t) (places u))

get_d_past : (xs ys : List ℕ) (i : ℕ) → get_or (xs ++ ys) (length xs + i) 0 ≡ get_or ys i 0
get_d_past [] ys i = ap (λ (k : ℕ). get_or ys k 0) (omega arith)
get_d_past (x ∷ xs) ys i = ap (λ (k : ℕ). get_or (x ∷ xs ++ ys) k 0) (suc-add (length xs) i) ∙ get_d_past xs ys i

-- the place of the step that comes after i others
abbrev pub place : Trace → (i : ℕ) → ℕ
place t i = get_or (places t) i 0

place-first : (t u : Trace) (i : ℕ) → i < steps t → place (t ⨾ u) i ≡ place t i
place-first t u i h =
    ap (λ (l : List ℕ). get_or l i 0) (places_then t u) ∙ get_or-append (places t) (places u) 0 i (omega (arith, places-length t))

place-second : (t u : Trace) (i j : ℕ) → j ≡ steps t + i → place (t ⨾ u) j ≡ place u i
place-second t u i j e =
    ap (λ (l : List ℕ). get_or l j 0) (places_then t u)
    ∙ ap (λ (k : ℕ). get_or (places t ++ places u) k 0) (omega (arith, places-length t))
    ∙ get_d_past (places t) (places u) i

-- a trace cut short: the refusal of the step that comes after i others
abbrev pub cut_at : {A : Type 0} → Trace → (i : ℕ) → Outcome A
cut_at t i = refused BudgetUsedUp (place t i) (first_steps i t)

cut-first : {A : Type 0} (t u : Trace) (i : ℕ) → i < steps t → ◌≡◌ {A = Outcome A} (cut_at t i) (cut_at (t ⨾ u) i)
cut-first t u i h = rw (place-first t u i h, first_of_two t u i h) refl

cut-second : {A : Type 0} (t u : Trace) (i j : ℕ) → j ≡ steps t + i → ◌≡◌ {A = Outcome A} (after t (cut_at u i)) (cut_at (t ⨾ u) j)
cut-second t u i j e = rw (place-second t u i j e, second_of_two t u i j e) refl

-- inside a call, whether it came to its end or is still open
cut-call : {A : Type 0} (f : ℕ) (t : Trace) (i : ℕ) → i < steps t → ◌≡◌ {A = Outcome A} (inside f (cut_at t i)) (cut_at (call f t end) i)
cut-call f t i h = rw (append-nil (places t), true_if_lt i (steps t) h) refl

cut_opened : {A : Type 0} (f : ℕ) (t : Trace) (i : ℕ) → i < steps t → ◌≡◌ {A = Outcome A} (inside f (cut_at t i)) (cut_at (opened f t) i)
cut_opened f end i h = absurd (omega arith)
cut_opened f (step at t) i h = cut-call f (step at t) i h
cut_opened f (call g j t) i h = cut-call f (call g j t) i h

-- TWO RUNS, the second under budget B

pub record SettledAt {A : Type 0} (B : ℕ) (s : State) (a : A) (s' : State) (t : Trace) (o' : Outcome A) : Type 0 where
  pub grows : s'.used ≡ s.used + steps t
  pub fit : s.used ≤ B → s'.used ≤ B → o' ≡ ended a s' t
  pub past : s.used ≤ B → B < s'.used → o' ≡ cut_at t (B - s.used)

pub record Denied {A : Type 0} (B : ℕ) (s : State) (why : Refusal) (p : ℕ) (t : Trace) (o' : Outcome A) : Type 0 where
  pub fit : s.used + steps t ≤ B → ¬ (why ≡ BudgetUsedUp) → o' ≡ refused why p t
  pub past : s.used ≤ B → B < s.used + steps t → o' ≡ cut_at t (B - s.used)

abbrev pub Tells : {A : Type 0} → ℕ → State → (o o' : Outcome A) → Type 0
Tells B s (refused why p t) o' = Denied B s why p t o'
Tells B s (ended a s' t) o' = SettledAt B s a s' t o'

pub record Exact {A : Type 0} (B : ℕ) (m m' : Run A) : Type 0 where
  pub from : (s : State) → Tells B s (m s) (m' s)

quiet : {A : Type 0} (B : ℕ) (s s' : State) (a : A) → s'.used ≡ s.used → SettledAt B s a s' end (ended a s' end)
quiet B s s' a e = record { grows = omega arith; fit = λ _ _. refl; past = λ h k. absurd (omega arith) }

module _ {A C : Type 0} (B : ℕ) (k' : A → Run C) where
  -- a first part that ended: under budget B it fits, and the second goes on; or it is cut short
  module _ (s s' : State) (a : A) (t : Trace) (o' : Outcome A) (p : SettledAt B s a s' t o') where
    goes_on : s.used ≤ B → s'.used ≤ B → and_then o' k' ≡ after t (k' a s')
    goes_on h l = ap (λ o. and_then o k') (p.fit h l)

    cut_short_lem : (u : Trace) (n : ℕ) → n ≡ s'.used + steps u → (s'.used ≤ B → B < n → k' a s' ≡ cut_at u (B - s'.used))
        → s.used ≤ B → B < n → and_then o' k' ≡ cut_at (t ⨾ u) (B - s.used)
    cut_short_lem u n e q h l = which (dec_le s'.used B)
      where
        which : Dec (s'.used ≤ B) → and_then o' k' ≡ cut_at (t ⨾ u) (B - s.used)
        which (yes w) = goes_on h w ∙ ap (after t) (q w l) ∙ cut-second t u (B - s'.used) (B - s.used) (omega (arith, p.grows))
        which (no w) = ap (λ o. and_then o k') (p.past h (omega arith)) ∙ cut-first t u (B - s.used) (omega (arith, p.grows))

    exact_second : (o : Outcome C) → Tells B s' o (k' a s') → Tells B s (after t o) (and_then o' k')
    exact_second (refused why place u) q = record {
      fit = λ l n.
          goes_on (omega (arith, p.grows, steps_then t u)) (omega (arith, p.grows, steps_then t u))
          ∙ ap (after t) (q.fit (omega (arith, p.grows, steps_then t u)) n);
      past = λ h l. cut_short_lem u (s'.used + steps u) refl q.past h (omega (arith, p.grows, steps_then t u));
    }
    exact_second (ended c s'' u) q = record {
      grows = omega (arith, p.grows, q.grows, steps_then t u);
      fit = λ h l. goes_on h (omega (arith, q.grows)) ∙ ap (after t) (q.fit (omega (arith, q.grows)) l);
      past = cut_short_lem u s''.used q.grows q.past;
    }

  exact_bind : (m m' : Run A) (k : A → Run C) → Exact B m m' → ((a : A) → Exact B (k a) (k' a)) → Exact B (◌>>=◌ m k) (◌>>=◌ m' k')
  unfolding ◌>>=◌
  exact_bind m m' k hm hk = record { from = λ s. go s (m s) (m' s) (hm.from s) }
    where
      go : (s : State) (o o' : Outcome A) → Tells B s o o' → Tells B s (and_then o k) (and_then o' k')
      go s (refused why place t) o' p = record {
        fit = λ l n. ap (λ o. and_then o k') (p.fit l n);
        past = λ h l. ap (λ o. and_then o k') (p.past h l);
      }
      go s (ended a s' t) o' p = exact_second s s' a t o' p (k a s') ((hk a).from s')

exact_call : (B f : ℕ) (m m' : Run Behaviour) → Exact B m m' → Exact B (as_call f m) (as_call f m')
unfolding as_call
exact_call B f m m' h = record { from = λ s. go s (m s) (m' s) (h.from s) }
  where
    go : (s : State) (o o' : Outcome Behaviour) → Tells B s o o' → Tells B s (inside f o) (inside f o')
    go s (refused why place t) o' p = record {
      fit = λ l n. ap (inside f) (p.fit (omega (arith, steps-opened f t)) n);
      past = λ h l.
          ap (inside f) (p.past h (omega (arith, steps-opened f t)))
          ∙ cut_opened f t (B - s.used) (omega (arith, steps-opened f t));
    }
    go s (ended a s' t) o' p = record {
      grows = omega (arith, p.grows);
      fit = λ h l. ap (inside f) (p.fit h l);
      past = λ h l. ap (inside f) (p.past h l) ∙ cut-call f t (B - s.used) (omega (arith, p.grows));
    }

module _ (L : Limits) (B : ℕ) where
  abbrev L' : Limits
  L' = with_budget L B

  exact_begin : (at : ℕ) → Exact B (begin L at) (begin L' at)
  unfolding begin
  exact_begin at = record { from = λ s. go s (ltb s.used L.budget) }
    where
      made : State → Outcome (Unit {0})
      made s = ended tt (set_used (suc s.used) s) (step at end)

      fit_go : (s : State) (b : Bool) → ltb s.used B ≡ b → suc s.used ≤ B → cond b (made s) (refused BudgetUsedUp at end) ≡ made s
      fit_go s true e h = refl
      fit_go s false e h = absurd (subst T e (lt→ltb s.used B h))

      past_go : (s : State) (b : Bool) → ltb s.used B ≡ b → s.used ≤ B → B < suc s.used
          → cond b (made s) (refused BudgetUsedUp at end) ≡ cut_at (step at end) (B - s.used)
      past_go s true e h l = let k : s.used < B = ltb→lt s.used B (rw e tt) in absurd (omega arith)
      past_go s false e h l =
          let z : B - s.used ≡ 0 = omega arith in
          rw z refl

      go : (s : State) (b : Bool)
          → Tells B s (cond b (made s) (refused BudgetUsedUp at end)) (cond (ltb s.used B) (made s) (refused BudgetUsedUp at end))
      go s true = record {
        grows = omega arith;
        fit = λ h l. fit_go s (ltb s.used B) refl l;
        past = λ h l. past_go s (ltb s.used B) refl h l;
      }
      go s false = record { fit = λ l n. absurd (n refl); past = λ h l. absurd (omega arith) }

  exact : Laws idle L L' ⊥ (λ A bad m m'. Exact B m m')
  unfolding ◌>>◌ give refuse look change
  exact = record {
    loops = as_many L.loop;
    gives = λ a. record { from = λ s. quiet B s s a refl };
    refuses = λ why place n. record { from = λ s. record { fit = λ l n. refl; past = λ h l. absurd (omega arith) } };
    looks = λ f. record { from = λ s. quiet B s s (f s) refl };
    changes = λ f h. record { from = λ s. quiet B s (f s) tt (h s) };
    begins = λ at h. exact_bind B _ (begin L at) (begin L' at) _ (exact_begin at) (λ _. h);
    calls = λ f h. exact_call B f _ _ h;
    gave_up = λ more. absurd more;
    bind = λ hm hk _. exact_bind B _ _ _ _ hm hk;
  }

  pub run_exact : (program : Program) (argument0 : Bytes) (arguments : List Bytes) (stdin : Bytes)
      → Settled B (run L program argument0 arguments stdin) (run L' program argument0 arguments stdin)
  unfolding run
  run_exact program argument0 arguments stdin =
      let s₀ = start program arguments stdin in
      go (as_call 0 (main L program argument0) s₀) (as_call 0 (main L' program argument0) s₀)
      ((exact_call B 0 _ _
      (holds_of_both program.functions L L.loop L.stack B ⊥ _ exact L.stack L.stack (as_many L.stack) (at_top argument0) program.main)
      ).from s₀)
    where
      whole : (t : Trace) {o : Outcome Behaviour} → o ≡ cut_at t (B - 0) → o ≡ cut_at t B
      whole t e = e ∙ ap (λ (i : ℕ). cut_at t i) (omega arith)

      go : (o o' : Outcome Behaviour) → Tells B (start program arguments stdin) o o' → Settled B o o'
      go (refused why p t) o' h = record {
        cut = λ l. whole t (h.past (omega arith) (omega arith));
        kept = λ l n. h.fit (omega arith) n;
      }
      go (ended b s t) o' h = record {
        cut = λ l. whole t (h.past (omega arith) (omega (arith, h.grows)));
        kept = λ l n. h.fit (omega arith) (omega (arith, h.grows));
      }
