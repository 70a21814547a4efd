-- How a rule ends: its result, then Settle.
-- Assumes nothing.
use native.Mathlib.Nat.{le_refl}
use mathlib.Core.Path.{◌≡◌, refl, sym, ap, ◌∙◌}
use mathlib.Core.Bool.{Bool, true, false, cond}
use Rattle.rules.specs.declared.Behaviour.{Behaviour}
use Rattle.rules.specs.declared.Behaviour.TheVariants.{Normal, Return, Exit, Failure}
use Rattle.rules.specs.Syntax.{Bytes}
use Rattle.rules.specs.Trace.{end}
use Rattle.rules.specs.State.{State, Inherited, ended, set_result}
use Rattle.rules.specs.Rules.{settle, finish, finish_unless_failure, end_with}
use Rattle.rules.proofs.Ways.{settle_unless_failure, finish_on, finish_unless_on, end_with_on}
use Rattle.memory.specs.Abstract.{state_of}
use Rattle.memory.specs.declared.Given.{Given}
use Rattle.memory.specs.Scope.{Scope}
use Rattle.memory.specs.declared.Course.{Course}
use Rattle.engine.specs.Values.{RunEnd}
use Rattle.engine.specs.Ends.{settled, finished, finished_unless_failure}
use Rattle.engine.specs.Moves.{with_result}
use Rattle.engine.specs.Meaning.{handed}
use Rattle.engine.specs.Post.{Onward, Ran}
use Rattle.engine.proofs.Going.{still}

-- SETTLE

-- what is handed down has the scope's condition
pub handed-condition : (s w : Bytes) (g : Given) (e : Scope) → (handed s w g e).condition ≡ e.condition
unfolding handed
handed-condition s w g e = refl

settle-settled : (h : Inherited) (e : Scope) (r : Bool) → h.condition ≡ e.condition → settle h r ≡ settled e.condition r
settle-settled h e true q = refl
settle-settled h e false q = ap (λ (b : Bool). cond b Normal Exit) q

-- Failure stays
abbrev pub settled_unless_failure : (condition : Bool) → Behaviour → (result : Bool) → Behaviour
settled_unless_failure condition Normal r = settled condition r
settled_unless_failure condition Return r = settled condition r
settled_unless_failure condition Exit r = settled condition r
settled_unless_failure condition Failure r = Failure

unless-settled : (h : Inherited) (e : Scope) (b : Behaviour) (r : Bool) → h.condition ≡ e.condition → settle_unless_failure h b r ≡ settled_unless_failure e.condition b r
unless-settled h e Normal r q = settle-settled h e r q
unless-settled h e Return r q = settle-settled h e r q
unless-settled h e Exit r q = settle-settled h e r q
unless-settled h e Failure r q = refl

pub onward-result : (g : Given) (c : Course) (r : Bool) → Onward g c (with_result r c)
onward-result g c r = record { used = le_refl _; longer = le_refl _; short = λ h. h; low = le_refl _; high = le_refl _; count = le_refl _; from = refl; rest = le_refl _ }

module _ (i w : Bytes) (g : Given) (e : Scope) (c : Course) where
  pub state_result : (r : Bool) → state_of i w g e (with_result r c) ≡ set_result r (state_of i w g e c)
  unfolding state_of
  state_result r = refl

  pub finish-settled : (h : Inherited) (r : Bool) → h.condition ≡ e.condition
      → finish h r (state_of i w g e c) ≡ ended (settled e.condition r) (state_of i w g e (with_result r c)) end
  finish-settled h r q =
      finish_on h r _
      ∙ ap (λ (b : Behaviour). ended b (set_result r (state_of i w g e c)) end) (settle-settled h e r q)
      ∙ ap (λ (s : State). ended (settled e.condition r) s end) (sym (state_result r))

  pub finish_unless_settled : (h : Inherited) (b : Behaviour) (r : Bool) → h.condition ≡ e.condition
      → finish_unless_failure h b r (state_of i w g e c) ≡ ended (settled_unless_failure e.condition b r) (state_of i w g e (with_result r c)) end
  finish_unless_settled h b r q =
      finish_unless_on h b r _
      ∙ ap (λ (d : Behaviour). ended d (set_result r (state_of i w g e c)) end) (unless-settled h e b r q)
      ∙ ap (λ (s : State). ended (settled_unless_failure e.condition b r) s end) (sym (state_result r))

  pub end_with_settled : (r : Bool) → end_with r (state_of i w g e c) ≡ ended Normal (state_of i w g e (with_result r c)) end
  end_with_settled r = end_with_on r _ ∙ ap (λ (s : State). ended Normal s end) (sym (state_result r))

  -- the same as an answer, memory as it is
  pub finish-ran : (h : Inherited) (r : Bool) → h.condition ≡ e.condition → Ran i g e w c (finish h r (state_of i w g e c)) w (finished e c r)
  finish-ran h r q = record { by = still (finish-settled h r q) (onward-result g c r) }

-- the answer is that behaviour, in the course that there is
pub finished-unless : (e : Scope) (b : Behaviour) (c : Course) → finished_unless_failure e b c ≡ RunEnd.Ended (settled_unless_failure e.condition b c.result) c
finished-unless e Normal c = refl
finished-unless e Return c = refl
finished-unless e Exit c = refl
finished-unless e Failure c = refl

-- with the result r, in a state that may have another
pub finish_unless_ran : (i w : Bytes) (g : Given) (e : Scope) (c : Course) (h : Inherited) (b : Behaviour) (r : Bool) → h.condition ≡ e.condition
    → Ran i g e w c (finish_unless_failure h b r (state_of i w g e c)) w (finished_unless_failure e b (with_result r c))
finish_unless_ran i w g e c h b r q = rw (finished-unless e b (with_result r c)) (record { by = still (finish_unless_settled i w g e c h b r q) (onward-result g c r) })
