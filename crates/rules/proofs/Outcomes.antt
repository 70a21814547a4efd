-- How a run goes on from the outcome of its first part, whatever the rule: on Normal, on another behaviour, on a value, on an error, on a
-- refusal, on a hold; and the traces. proofs/Ways.antt has each rule in these terms.
-- Assumes nothing.
use mathlib.Core.Path.{◌≡◌, refl, sym, ◌∙◌, ap, fun_ext}
use mathlib.Core.Bool.{Bool, true, false, cond}
use mathlib.Core.List.{List, ◌++◌}
use Prim.Native.Nat.{ℕ, suc}
use lib.Dec.{ltb, leb}
use lib.ListN.{length}
use Rattle.rules.specs.declared.Behaviour.{Behaviour}
use Rattle.rules.specs.declared.Behaviour.TheVariants.{Normal, Return, Exit, Failure}
use Rattle.rules.specs.declared.Refusal.{Refusal}
use Rattle.rules.specs.declared.Refusal.TheVariants.{BudgetUsedUp, LongString, LongList, LongStream, ManyHolds}
use Rattle.rules.specs.Syntax.{Bytes}
use Rattle.rules.specs.Trace.{Trace, end, step, call, ◌⨾◌}
use Rattle.rules.specs.State.{Limits, kept, dropped, State, Inherited, Evaluated, error, value}
use Rattle.rules.specs.State.{Outcome, refused, ended, Run, after, and_then, inside, ◌>>=◌, ◌>>◌, give, refuse, look, change, choose, without_trace, set_used, output, set_output, result}
use Rattle.rules.specs.Flow.{if_normal, unless_error}
use Rattle.rules.specs.Refusals.{Means, one_more_hold, begin, stepped, made_string, add_fields, write_to, write, hold}

-- what is claimed of an outcome, if it is an end
abbrev pub Ends : {A : Type 0} → (A → State → Trace → Type 0) → Outcome A → Type 0
Ends P (refused why place t) = Unit {0}
Ends P (ended a s t) = P a s t

-- what is claimed of an outcome: P of an end, Q of a refusal
abbrev pub Comes : {A : Type 0} → (A → State → Trace → Type 0) → (Refusal → ℕ → Trace → Type 0) → Outcome A → Type 0
Comes P Q (refused why place t) = Q why place t
Comes P Q (ended a s t) = P a s t

pub ends_of : {A : Type 0} (P : A → State → Trace → Type 0) (Q : Refusal → ℕ → Trace → Type 0) (o : Outcome A) → Comes P Q o → Ends P o
ends_of P Q (refused why place t) h = tt
ends_of P Q (ended a s t) h = h

-- ONE OUTCOME AFTER ANOTHER

pub then_end_lem : (t : Trace) → t ⨾ end ≡ t
then_end_lem end = refl
then_end_lem (step at t) = ap (step at) (then_end_lem t)
then_end_lem (call f i t) = ap (call f i) (then_end_lem t)

pub then_assoc : (t u v : Trace) → (t ⨾ u) ⨾ v ≡ t ⨾ (u ⨾ v)
then_assoc end u v = refl
then_assoc (step at t) u v = ap (step at) (then_assoc t u v)
then_assoc (call f i t) u v = ap (call f i) (then_assoc t u v)

pub after-end : {A : Type 0} (o : Outcome A) → after end o ≡ o
after-end (refused why place t) = refl
after-end (ended a s t) = refl

pub after-after : {A : Type 0} (t u : Trace) (o : Outcome A) → after t (after u o) ≡ after (t ⨾ u) o
after-after t u (refused why place v) = ap (refused why place) (sym (then_assoc t u v))
after-after t u (ended a s v) = ap (ended a s) (sym (then_assoc t u v))

pub then_after : {A B : Type 0} (t : Trace) (o : Outcome A) (k : A → Run B) → and_then (after t o) k ≡ after t (and_then o k)
then_after t (refused why place u) k = refl
then_after t (ended a s u) k = sym (after-after t u (k a s))

pub then_then : {A B C : Type 0} (o : Outcome A) (k : A → Run B) (l : B → Run C) → and_then (and_then o k) l ≡ and_then o (λ a s. and_then (k a s) l)
then_then (refused why place t) k l = refl
then_then (ended a s t) k l = then_after t (k a s) l

-- THE TRACE

-- the rest goes on without it
pub without_after : {A : Type 0} (t : Trace) (o : Outcome A) → without_trace (after t o) ≡ without_trace o
without_after t (refused why place u) = refl
without_after t (ended a s u) = refl

pub without_then : {A B : Type 0} (o : Outcome A) (k : A → Run B) → without_trace (and_then o k) ≡ and_then (without_trace o) (λ a s. without_trace (k a s))
without_then (refused why place t) k = refl
without_then (ended a s t) k = without_after t (k a s) ∙ sym (after-end (without_trace (k a s)))

pub without_inside : {A : Type 0} (f : ℕ) (o : Outcome A) → without_trace (inside f o) ≡ without_trace o
without_inside f (refused why place t) = refl
without_inside f (ended a s t) = refl

-- WAYS ON

-- k after Normal; anything else passes through
unfoldable pub on_normal : Outcome Behaviour → (k : State → Outcome Behaviour) → Outcome Behaviour
on_normal (refused why place t) k = refused why place t
on_normal (ended Normal s t) k = after t (k s)
on_normal (ended Return s t) k = ended Return s t
on_normal (ended Exit s t) k = ended Exit s t
on_normal (ended Failure s t) k = ended Failure s t

-- k with a value; an error becomes b
unfoldable pub on_value : {A B : Type 0} → Outcome (Evaluated A) → (b : B) → (k : A → Run B) → Outcome B
on_value (refused why place t) b k = refused why place t
on_value (ended error s t) b k = ended b s t
on_value (ended (value a) s t) b k = after t (k a s)

-- a record begins, or not
abbrev pub begun_if : (at : ℕ) → State → Bool → Outcome (Unit {0})
begun_if at s b = cond b (ended tt (set_used (suc s.used) s) (step at end)) (refused BudgetUsedUp at end)

-- o, unless the holds are used up
unfoldable pub on_hold : {A : Type 0} → Limits → (at : ℕ) → Inherited → Outcome A → Outcome A
on_hold L at h o = cond (ltb h.holds L.holds) o (refused ManyHolds at end)

-- o, unless the budget is used up; a step comes before it
unfoldable pub on_step : {A : Type 0} → Limits → (at : ℕ) → State → Outcome A → Outcome A
on_step L at s o = cond (ltb s.used L.budget) (after (step at end) o) (refused BudgetUsedUp at end)

module _ (m o : Outcome Behaviour) (k : State → Outcome Behaviour) (starts : m ≡ on_normal o k) where
  pub on_normal_lem : (s : State) (t : Trace) → o ≡ ended Normal s t → m ≡ after t (k s)
  unfolding on_normal
  on_normal_lem s t e = starts ∙ rw e refl

  pub on_other : (b : Behaviour) (s : State) (t : Trace) → o ≡ ended b s t → ¬ (b ≡ Normal) → m ≡ ended b s t
  unfolding on_normal
  on_other Normal s t e n = absurd (n refl)
  on_other Return s t e n = starts ∙ rw e refl
  on_other Exit s t e n = starts ∙ rw e refl
  on_other Failure s t e n = starts ∙ rw e refl

  pub on_refused : (why : Refusal) (place : ℕ) (t : Trace) → o ≡ refused why place t → m ≡ refused why place t
  unfolding on_normal
  on_refused why place t e = starts ∙ rw e refl

module _ {A B : Type 0} (m : Outcome B) (o : Outcome (Evaluated A)) (b : B) (k : A → Run B) (starts : m ≡ on_value o b k) where
  pub on_value_lem : (a : A) (s : State) (t : Trace) → o ≡ ended (value a) s t → m ≡ after t (k a s)
  unfolding on_value
  on_value_lem a s t e = starts ∙ rw e refl

  pub on_error : (s : State) (t : Trace) → o ≡ ended error s t → m ≡ ended b s t
  unfolding on_value
  on_error s t e = starts ∙ rw e refl

  pub on_value_refused : (why : Refusal) (place : ℕ) (t : Trace) → o ≡ refused why place t → m ≡ refused why place t
  unfolding on_value
  on_value_refused why place t e = starts ∙ rw e refl

module _ {A : Type 0} (m o : Outcome A) (L : Limits) (at : ℕ) where
  pub on_hold_lem : (h : Inherited) → m ≡ on_hold L at h o → ltb h.holds L.holds ≡ true → m ≡ o
  unfolding on_hold
  on_hold_lem h starts e = starts ∙ rw e refl

  pub on_no_hold : (h : Inherited) → m ≡ on_hold L at h o → ltb h.holds L.holds ≡ false → m ≡ refused ManyHolds at end
  unfolding on_hold
  on_no_hold h starts e = starts ∙ rw e refl

  pub on_step_lem : (s : State) → m ≡ on_step L at s o → ltb s.used L.budget ≡ true → m ≡ after (step at end) o
  unfolding on_step
  on_step_lem s starts e = starts ∙ rw e refl

  pub on_no_step : (s : State) → m ≡ on_step L at s o → ltb s.used L.budget ≡ false → m ≡ refused BudgetUsedUp at end
  unfolding on_step
  on_no_step s starts e = starts ∙ rw e refl

-- the same without the trace
pub without_normal : (o : Outcome Behaviour) (k : State → Outcome Behaviour)
    → without_trace (on_normal o k) ≡ on_normal (without_trace o) (λ s. without_trace (k s))
unfolding on_normal
without_normal (refused why place t) k = refl
without_normal (ended Normal s t) k = without_after t (k s) ∙ sym (after-end (without_trace (k s)))
without_normal (ended Return s t) k = refl
without_normal (ended Exit s t) k = refl
without_normal (ended Failure s t) k = refl

pub without_value : {A B : Type 0} (o : Outcome (Evaluated A)) (b : B) (k : A → Run B)
    → without_trace (on_value o b k) ≡ on_value (without_trace o) b (λ a s. without_trace (k a s))
unfolding on_value
without_value (refused why place t) b k = refl
without_value (ended error s t) b k = refl
without_value (ended (value a) s t) b k = without_after t (k a s) ∙ sym (after-end (without_trace (k a s)))

-- HOW THE RULES' COMBINATORS COME TO THEM

-- of runs; and, with `-at`, of a run from a state
pub bind_at : {A B : Type 0} (m : Run A) (k : A → Run B) (s : State) → ◌>>=◌ m k s ≡ and_then (m s) k
unfolding ◌>>=◌
bind_at m k s = refl

pub bind_on : {A B : Type 0} (m : Run A) (k : A → Run B) → ◌>>=◌ m k ≡ (λ s. and_then (m s) k)
bind_on m k = fun_ext (bind_at m k)

pub look_at : {A B : Type 0} (f : State → A) (k : A → Run B) (s : State) → ◌>>=◌ (look f) k s ≡ k (f s) s
unfolding ◌>>=◌ look
look_at f k s = after-end (k (f s) s)

pub look_on : {A B : Type 0} (f : State → A) (k : A → Run B) → ◌>>=◌ (look f) k ≡ (λ s. k (f s) s)
look_on f k = fun_ext (look_at f k)

pub change-at : {B : Type 0} (f : State → State) (k : Run B) (s : State) → ◌>>◌ (change f) k s ≡ k (f s)
unfolding ◌>>◌ ◌>>=◌ change
change-at f k s = after-end (k (f s))

pub change_on : {B : Type 0} (f : State → State) (k : Run B) → ◌>>◌ (change f) k ≡ (λ s. k (f s))
change_on f k = fun_ext (change-at f k)

pub if_normal_lem : (m k : Run Behaviour) (s : State) → ◌>>=◌ m (λ b. if_normal b k) s ≡ on_normal (m s) k
unfolding ◌>>=◌ if_normal give on_normal
if_normal_lem m k s = go (m s)
  where
    go : (o : Outcome Behaviour) → and_then o (λ b. if_normal b k) ≡ on_normal o k
    go (refused why place t) = refl
    go (ended Normal s₁ t) = refl
    go (ended Return s₁ t) = ap (ended Return s₁) (then_end_lem t)
    go (ended Exit s₁ t) = ap (ended Exit s₁) (then_end_lem t)
    go (ended Failure s₁ t) = ap (ended Failure s₁) (then_end_lem t)

-- where the result is looked up first
pub if_normal_look : (m : Run Behaviour) (k : Bool → Run Behaviour) (s : State)
    → ◌>>=◌ m (λ b. ◌>>=◌ (look result) (λ r. if_normal b (k r))) s ≡ on_normal (m s) (λ s₁. k (result s₁) s₁)
unfolding ◌>>=◌ if_normal give look on_normal
if_normal_look m k s = go (m s)
  where
    go : (o : Outcome Behaviour) → and_then o (λ b. ◌>>=◌ (look result) (λ r. if_normal b (k r))) ≡ on_normal o (λ s₁. k (result s₁) s₁)
    go (refused why place t) = refl
    go (ended Normal s₁ t) = ap (after t) (after-end (k (result s₁) s₁))
    go (ended Return s₁ t) = ap (ended Return s₁) (then_end_lem t)
    go (ended Exit s₁ t) = ap (ended Exit s₁) (then_end_lem t)
    go (ended Failure s₁ t) = ap (ended Failure s₁) (then_end_lem t)

pub unless-error : {A B : Type 0} (m : Run (Evaluated A)) (b : B) (k : A → Run B) (s : State)
    → ◌>>=◌ m (λ v. unless_error v b k) s ≡ on_value (m s) b k
unfolding ◌>>=◌ unless_error give on_value
unless-error {A} m b k s = go (m s)
  where
    go : (o : Outcome (Evaluated A)) → and_then o (λ v. unless_error v b k) ≡ on_value o b k
    go (refused why place t) = refl
    go (ended error s₁ t) = ap (ended b s₁) (then_end_lem t)
    go (ended (value a) s₁ t) = refl

pub held : {A : Type 0} (L : Limits) (at : ℕ) (h : Inherited) (k : Inherited → Run A) (s : State)
    → ◌>>=◌ (hold L at h) k s ≡ on_hold L at h (k (one_more_hold h) s)
unfolding ◌>>=◌ hold choose give refuse on_hold
held L at h k s = go (ltb h.holds L.holds)
  where
    go : (b : Bool) → and_then (choose b (give (one_more_hold h)) (refuse ManyHolds at) s) k ≡ cond b (k (one_more_hold h) s) (refused ManyHolds at end)
    go true = after-end (k (one_more_hold h) s)
    go false = refl

pub stepped_on : {A : Type 0} (L : Limits) (at : ℕ) (m : Means A) (h : Inherited) (s : State)
    → stepped L at m h s ≡ on_step L at s (m h (set_used (suc s.used) s))
unfolding stepped begin ◌>>=◌ ◌>>◌ on_step
stepped_on L at m h s = go (ltb s.used L.budget)
  where
    go : (b : Bool) → and_then (begun_if at s b) (λ _. m h) ≡ cond b (after (step at end) (m h (set_used (suc s.used) s))) (refused BudgetUsedUp at end)
    go true = refl
    go false = refl

-- what a choice between an answer and a refusal comes to
pub choose_on : {A : Type 0} (b : Bool) (m k : Run A) (s : State) → choose b m k s ≡ cond b (m s) (k s)
unfolding choose
choose_on true m k s = refl
choose_on false m k s = refl

module _ (L : Limits) (at : ℕ) (s : State) where
  pub made_on : (w : Bytes) (flag : Bool)
      → made_string L at w flag s ≡ cond (leb (length w) L.string) (ended (value (w, flag)) s end) (refused LongString at end)
  unfolding made_string give refuse
  made_on w flag = choose_on _ _ _ s

  pub added_on : (so_far new : List Bytes)
      → add_fields L at so_far new s ≡ cond (leb (length (so_far ++ new)) L.list) (ended (so_far ++ new) s end) (refused LongList at end)
  unfolding add_fields give refuse
  added_on so_far new = choose_on _ _ _ s

  pub write-dropped : (new : Bytes) → output s ≡ dropped → write L at new s ≡ ended tt s end
  unfolding write write_to give
  write-dropped new e = look_at _ _ s ∙ ap (λ o. write_to L at o new s) e

  pub write_kept : (new before : Bytes) → output s ≡ kept before
      → write L at new s ≡ cond (leb (length (before ++ new)) L.stream) (ended tt (set_output (kept (before ++ new)) s) end) (refused LongStream at end)
  unfolding write write_to change refuse
  write_kept new before e = look_at _ _ s ∙ ap (λ o. write_to L at o new s) e ∙ choose_on _ _ _ s
