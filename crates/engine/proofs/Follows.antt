-- How a rule goes on from what its first part came to, whatever the rule.
-- Assumes nothing.
use Prim.Native.Nat.{ℕ, suc, ◌≤◌, ◌<◌, ◌+◌}
use native.Mathlib.Numerals.{add-one}
use native.Mathlib.Omega.{arith}
use mathlib.Core.Path.{◌≡◌, refl, sym, ap, ◌∙◌}
use mathlib.Core.Bool.{true, false, true≢false}
use lib.ListN.{length}
use borrow.Author.Tests.{lt-ltb, le-ltb}
use Rattle.rules.specs.declared.Behaviour.{Behaviour}
use Rattle.rules.specs.declared.Behaviour.TheVariants.{Normal, Return, Exit, Failure}
use Rattle.rules.specs.declared.Refusal.{Refusal}
use Rattle.rules.specs.declared.Refusal.TheVariants.{ManyHolds}
use Rattle.rules.specs.Syntax.{Bytes}
use Rattle.rules.specs.Trace.{end}
use Rattle.rules.specs.State.{State, Inherited, Evaluated, error, value, Outcome, ended, refused, after, Run}
use Rattle.rules.specs.Refusals.{Means, one_more_hold, named}
use Rattle.rules.proofs.Outcomes.{on_normal, on_value, on_hold, on_normal_lem, on_other, on_refused, on_value_lem, on_error, on_value_refused, on_hold_lem, on_no_hold}
use Rattle.sheet.specs.Check.{count}
use Rattle.sheet.specs.Filled.{start_of, text_in, named_in}
use Rattle.sheet.proofs.Located.{few-records}
use Rattle.memory.specs.Layout.{Same}
use Rattle.memory.specs.Abstract.{state_of}
use Rattle.memory.specs.declared.Given.{Given}
use Rattle.memory.specs.Scope.{Scope}
use Rattle.memory.specs.declared.Course.{Course}
use Rattle.engine.specs.Values.{RunEnd}
use Rattle.engine.specs.Ends.{is_normal, is_failure, ended_normal, answered}
use Rattle.engine.specs.declared.Ending.{Ending}
use Rattle.rules.specs.declared.Halt.{Halt}
use Rattle.std.specs.Prelude.{Result, IsErrAnd}
use Rattle.std.proofs.lemmas.Result.{err_from_is_err_and}
use Rattle.engine.specs.Moves.{held, apart, caught, fed, silent, within}
use Rattle.engine.specs.Meaning.{known_of, limits_given, handed}
use Rattle.engine.specs.Post.{Ready, Came, Stopped, Ran, does}
use Rattle.engine.proofs.Going.{ran_then, handed-kept}

-- READING

-- no sheet has more than 512 records
pub in_sheet : {s i w : Bytes} {g : Given} {e : Scope} {c : Course} {r : ℕ} → Ready s i w g e c → r < count (known_of s) → r < 512
in_sheet ready h = omega (arith, few-records ready.loaded)

-- the number d bytes into record r can be read
pub can_read : {s i w : Bytes} {g : Given} {e : Scope} {c : Course} (r d : ℕ) → Ready s i w g e c → r < count (known_of s) → d < 65536 → start_of w r + d + 2 ≤ length s
    → ((r < 512) × (4096 ≤ length w)) × ((d < 65536) × (start_of w r + d + 2 ≤ length s))
can_read r d ready h k l = ((in_sheet ready h, omega (arith, ready.roomy.room)), (k, l))

-- BEHAVIOURS

pub is_normal_lem : (b : Behaviour) → is_normal b ≡ true → b ≡ Normal
is_normal_lem Normal h = refl
is_normal_lem Return h = absurd (true≢false (sym h))
is_normal_lem Exit h = absurd (true≢false (sym h))
is_normal_lem Failure h = absurd (true≢false (sym h))

pub not_normal : (b : Behaviour) → is_normal b ≡ false → ¬ (b ≡ Normal)
not_normal b h e = true≢false (sym (ap is_normal e) ∙ h)

pub is-failure : (b : Behaviour) → is_failure b ≡ true → b ≡ Failure
is-failure Normal h = absurd (true≢false (sym h))
is-failure Return h = absurd (true≢false (sym h))
is-failure Exit h = absurd (true≢false (sym h))
is-failure Failure h = refl

-- what an instruction came to that ended Normal
pub normal_end : {b : Behaviour} (c : Course) → is_normal b ≡ true → RunEnd.Ended b c ≡ RunEnd.Ended Normal c
normal_end {b} c e = ap (λ (y : Behaviour). RunEnd.Ended y c) (is_normal_lem b e)

-- what a refusal comes to that is handed on
pub exits : (r : Result Ending Halt) {h : Halt} → IsErrAnd r (λ e. e ≡ h) → answered r ≡ RunEnd.Refused h.why h.place
exits r q = let p = err_from_is_err_and r q in rw (p.1, p.2) refl

-- WHAT IS HANDED DOWN to an inner scope

module _ (s w : Bytes) (g : Given) (e : Scope) where
  more : (d : Scope) → handed s w g d ≡ record { condition = e.condition; argument0 = (handed s w g e).argument0; holds = e.holds + 1 } → handed s w g d ≡ one_more_hold (handed s w g e)
  unfolding handed
  more d h = h ∙ ap (λ (n : ℕ). record { condition = e.condition; argument0 = (handed s w g e).argument0; holds = n }) (add-one e.holds)

  pub handed-held : handed s w g (held e) ≡ one_more_hold (handed s w g e)
  unfolding handed
  handed-held = more (held e) refl

  pub handed-apart : handed s w g (apart e) ≡ one_more_hold (handed s w g e)
  unfolding handed
  handed-apart = more (apart e) refl

  pub handed-caught : handed s w g (caught e) ≡ one_more_hold (handed s w g e)
  unfolding handed
  handed-caught = more (caught e) refl

  pub handed-fed : handed s w g (fed e) ≡ one_more_hold (handed s w g e)
  unfolding handed
  handed-fed = more (fed e) refl

  pub handed-silent : handed s w g (silent e) ≡ one_more_hold (handed s w g e)
  unfolding handed
  handed-silent = more (silent e) refl

  pub handed-within : (f : ℕ) → handed s w g (within (suc f) e) ≡ named (text_in s w (named_in w (suc f))) (one_more_hold (handed s w g e))
  unfolding handed
  handed-within f = ap (λ (n : ℕ). record { condition = e.condition; argument0 = text_in s w (named_in w (suc f)); holds = n }) (add-one e.holds)

-- a later evaluation in the same scope
pub does-later : {A : Type 0} {s i w v : Bytes} {g : Given} {e : Scope} {c : Course} (m : Means A) (d : Course) → Ready s i w g e c → Same 0 4096 w v
    → m (handed s w g e) (state_of i v g e d) ≡ does s i v g e d m
unfolding does
does-later {i = i} {v = v} {g = g} {e = e} m d ready p = ap (λ (h : Inherited). m h (state_of i v g e d)) (sym (handed-kept ready p))

-- A RULE THAT BEGINS WITH AN INSTRUCTION

module _ {i w v : Bytes} {g : Given} {e : Scope} {c d : Course} {p o : Outcome Behaviour} {b : Behaviour} (k : State → Outcome Behaviour) (starts : p ≡ on_normal o k) where
  pub normal_run : {x : Bytes} {q : Outcome Behaviour} (a : RunEnd) → Came i g e w c o b v d → is_normal b ≡ true → k (state_of i v g e d) ≡ q → Ran i g e v d q x a → Ran i g e w c p x a
  normal_run a m h z n =
      ran_then a m
      (on_normal_lem _ _ _ starts _ m.trace (m.eq ∙ ap (λ (y : Behaviour). ended y (state_of i v g e d) m.trace) (is_normal_lem b h)) ∙ ap (after m.trace) z)
      n

  pub normal_other : Came i g e w c o b v d → is_normal b ≡ false → Ran i g e w c p v (RunEnd.Ended b d)
  normal_other m h = record { by = record { trace = m.trace; eq = on_other _ _ _ starts b _ m.trace m.eq (not_normal b h); charged = m.charged; kept = m.kept; onward = m.onward } }

pub normal_refused : {i w v : Bytes} {g : Given} {e : Scope} {c : Course} {p o : Outcome Behaviour} {why : Refusal} {place : ℕ} (k : State → Outcome Behaviour)
    → p ≡ on_normal o k → Stopped o why place w v → Ran i g e w c p v (RunEnd.Refused why place)
normal_refused k starts m = record { by = record { trace = m.trace; eq = on_refused _ _ _ starts _ _ m.trace m.eq; size = m.size; known = m.known } }

-- whatever else it came to, the rule comes to it too
pub normal_stop : {i w v : Bytes} {g : Given} {e : Scope} {c : Course} {p o : Outcome Behaviour} (k : State → Outcome Behaviour) → p ≡ on_normal o k
    → (a : RunEnd) → ended_normal a ≡ false → Ran i g e w c o v a → Ran i g e w c p v a
normal_stop k starts (RunEnd.Ended b d) h m = normal_other k starts m.by h
normal_stop k starts (RunEnd.Refused why place) h m = normal_refused k starts m.by

-- A RULE THAT BEGINS WITH AN EXPRESSION

module _ {A B : Type 0} {p : Outcome B} {o : Outcome (Evaluated A)} (b : B) (k : A → Run B) (starts : p ≡ on_value o b k) where
  -- the outcome after a value
  pub value_on : {i w v : Bytes} {g : Given} {e : Scope} {c d : Course} {y : A} → (m : Came i g e w c o (value y) v d) → p ≡ after m.trace (k y (state_of i v g e d))
  value_on m = on_value_lem _ _ _ _ starts _ _ m.trace m.eq

  -- an error becomes b
  pub error-came : {i w v : Bytes} {g : Given} {e : Scope} {c d : Course} → Came i g e w c o error v d → Came i g e w c p b v d
  error-came m = record { trace = m.trace; eq = on_error _ _ _ _ starts _ m.trace m.eq; charged = m.charged; kept = m.kept; onward = m.onward }

  pub value-refused : {why : Refusal} {place : ℕ} {w x : Bytes} → Stopped o why place w x → Stopped p why place w x
  value-refused m = record { trace = m.trace; eq = on_value_refused _ _ _ _ starts _ _ m.trace m.eq; size = m.size; known = m.known }

-- HOLDS

module _ {A : Type 0} {p : Outcome A} (o : Outcome A) (s w : Bytes) (g : Given) (e : Scope) (at : ℕ) (starts : p ≡ on_hold (limits_given g) at (handed s w g e) o) where
  -- the eleventh is refused
  pub not-held : 10 ≤ e.holds → p ≡ refused ManyHolds at end
  unfolding handed
  not-held h = on_no_hold _ _ _ _ _ starts (le-ltb _ _ h)

  pub no_hold_lem : at < 512 → 10 ≤ e.holds → Stopped p ManyHolds at w w
  no_hold_lem k h = record { trace = end; eq = not-held h; size = refl; known = k }

  pub one-hold : e.holds < 10 → p ≡ o
  unfolding handed
  one-hold h = on_hold_lem _ _ _ _ _ starts (lt-ltb _ _ h)
