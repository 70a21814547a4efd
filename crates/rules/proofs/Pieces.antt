-- The pieces that the rules are made of are sound (proofs/Invariant.antt): changes of state, refusals, ways on, utilities, loops.
-- Assumes nothing.
use mathlib.Core.Bool.{Bool, true, false, cond}
use mathlib.Core.List.{List, [], ◌∷◌, ◌++◌}
use Prim.Native.Nat.{ℕ, zero, suc}
use lib.Dec.{T, ltb, leb}
use lib.ListN.{length}
use Rattle.rules.specs.declared.Behaviour.{Behaviour}
use Rattle.rules.specs.declared.Behaviour.TheVariants.{Normal, Return, Exit, Failure}
use Rattle.rules.specs.declared.Refusal.TheVariants.{BudgetUsedUp}
use Rattle.rules.specs.Syntax.{Bytes, Slot, Program}
use Rattle.rules.specs.Trace.{step, end}
use Rattle.rules.specs.State.{Limits, Context, Variable, Stream, kept, dropped, kept_bytes, State, Inherited, Evaluated, error, value}
use Rattle.rules.specs.State.{refused, ended, Run, ◌>>=◌, ◌>>◌, look, change}
use Rattle.rules.specs.State.{set_context, input, set_input, set_output, set_used, variables, set_variables, set_arguments, set_result}
use Rattle.rules.specs.Words.{assigned, Utility, True, False, Echo, Test, Cat, Env, Other}
use Rattle.rules.specs.Flow.{if_normal, unless_failure, unless_error}
use Rattle.rules.specs.Refusals.{Means, begin, stepped, made_string, add_fields, write_to, write, hold}
use Rattle.rules.specs.Rules.{finish, finish_unless_failure, end_with, run_utility, for_each, while_test, while_true}
use Rattle.rules.specs.Genuine.{Node, record_of, Reached, nothing, begun, halted}
use Rattle.rules.proofs.Invariant.{Invariant, KnownContext, Known, Named, Left, Sound, sound_give, sound_refuse, sound_look, sound_change, sound_choose, sound_bind, sound_next}

-- nothing is known of the answer
abbrev pub Anything : {A : Type 0} → A → Type 0
Anything a = Unit {0}

-- what is known of a value, if it is none an error
abbrev pub IfValue : {A : Type 0} → (A → Type 0) → Evaluated A → Type 0
IfValue P error = Unit {0}
IfValue P (value a) = P a

module _ {limits : Limits} {program : Program} {inv : Invariant limits program} where
  -- CHANGES

  pub known-used : (n : ℕ) (s : State) → Known inv s → Known inv (set_used n s)
  known-used n s k = record { in_context = k.in_context; in_input = k.in_input; in_output = k.in_output }

  pub known-context : (c : Context) → KnownContext inv c → (s : State) → Known inv s → Known inv (set_context c s)
  known-context c h s k = record { in_context = h; in_input = k.in_input; in_output = k.in_output }

  pub known-result : (r : Bool) (s : State) → Known inv s → Known inv (set_result r s)
  known-result r s k = known-context _ k.in_context s k

  pub known-variables : (vs : List Variable) → inv.Variables vs → (s : State) → Known inv s → Known inv (set_variables vs s)
  known-variables vs h s k = known-context _ (h, k.in_context.1) s k

  pub known-arguments : (new : List Bytes) → inv.Fields new → (s : State) → Known inv s → Known inv (set_arguments new s)
  known-arguments new h s k = known-context _ (k.in_context.0, h) s k

  pub known-input : (new : Bytes) → inv.Stream new → (s : State) → Known inv s → Known inv (set_input new s)
  known-input new h s k = record { in_context = k.in_context; in_input = h; in_output = k.in_output }

  pub known-output : (o : Stream) → inv.Stream (kept_bytes o) → (s : State) → Known inv s → Known inv (set_output o s)
  known-output o h s k = record { in_context = k.in_context; in_input = k.in_input; in_output = h }

  module _ {left : ℕ} where
    pub sound_any : {A : Type 0} (f : State → A) → Sound inv left Anything (look f)
    sound_any f = sound_look _ (λ s k. tt)

    -- REFUSALS

    pub sound_begin : (n : Node) → Reached program n → Sound inv left Anything (begin limits (record_of n))
    unfolding begin
    sound_begin n r = record { from = λ s k. go s k (ltb s.used limits.budget) }
      where
        go : (s : State) → Known inv s → (b : Bool)
            → Left inv left {A = Unit {0}} Anything
            (cond b (ended tt (set_used (suc s.used) s) (step (record_of n) end)) (refused BudgetUsedUp (record_of n) end))
        go s k true = record { answer = tt; state = known-used _ s k; trace = begun n end r nothing }
        go s k false = halted end nothing

    pub sound_stepped : {A : Type 0} {post : A → Type 0} (n : Node) (m : Means A) (h : Inherited) → Reached program n
        → Sound inv left post (m h) → Sound inv left post (stepped limits (record_of n) m h)
    unfolding stepped
    sound_stepped n m h r hm = sound_next (sound_begin n r) hm

    pub sound_made : (at : ℕ) (s : Bytes) (flag : Bool) → Sound inv left (IfValue (λ p. inv.String p.0)) (made_string limits at s flag)
    unfolding made_string
    sound_made at s flag = sound_choose _ (λ t. sound_give _ (inv.made_is s t)) (sound_refuse _ _)

    pub sound_add : (at : ℕ) (so_far new : List Bytes)
        → (T (leb (length (so_far ++ new)) limits.list) → inv.Fields (so_far ++ new))
        → Sound inv left inv.Fields (add_fields limits at so_far new)
    unfolding add_fields
    sound_add at so_far new h = sound_choose _ (λ t. sound_give _ (h t)) (sound_refuse _ _)

    sound_write_to : (o : Stream) (at : ℕ) (new : Bytes) → Sound inv left Anything (write_to limits at o new)
    unfolding write_to
    sound_write_to dropped at new = sound_give _ tt
    sound_write_to (kept s) at new =
        sound_choose _ (λ t. sound_change _ (known-output _ (inv.stream_is _ t))) (sound_refuse _ _)

    pub sound_write : (at : ℕ) (new : Bytes) → Sound inv left Anything (write limits at new)
    unfolding write
    sound_write at new = sound_bind (sound_any _) (λ o _. sound_write_to o at new)

    pub sound_hold : (at : ℕ) (h : Inherited) → Named inv h → Sound inv left (Named inv) (hold limits at h)
    unfolding hold
    sound_hold at h n = sound_choose _ (λ t. sound_give _ n) (sound_refuse _ _)

    -- WAYS ON

    pub sound_result : (r : Bool) → Sound inv left Anything (change (set_result r))
    sound_result r = sound_change _ (known-result r)

    pub sound_finish : (h : Inherited) (r : Bool) → Sound inv left Anything (finish h r)
    unfolding finish
    sound_finish h r = sound_next (sound_result r) (sound_give _ tt)

    pub sound_finish_unless : (h : Inherited) (b : Behaviour) (r : Bool) → Sound inv left Anything (finish_unless_failure h b r)
    unfolding finish_unless_failure
    sound_finish_unless h Normal r = sound_finish h r
    sound_finish_unless h Return r = sound_finish h r
    sound_finish_unless h Exit r = sound_finish h r
    sound_finish_unless h Failure r = sound_next (sound_result r) (sound_give _ tt)

    pub sound_end : (r : Bool) → Sound inv left Anything (end_with r)
    unfolding end_with
    sound_end r = sound_next (sound_result r) (sound_give _ tt)

    pub sound_normal : (b : Behaviour) {m : Run Behaviour} → Sound inv left Anything m → Sound inv left Anything (if_normal b m)
    unfolding if_normal
    sound_normal Normal h = h
    sound_normal Return h = sound_give _ tt
    sound_normal Exit h = sound_give _ tt
    sound_normal Failure h = sound_give _ tt

    pub sound_unless : {A : Type 0} {post : A → Type 0} (b : Behaviour) (a : A) {m : Run A} → post a
        → Sound inv left post m → Sound inv left post (unless_failure b a m)
    unfolding unless_failure
    sound_unless Normal a p h = h
    sound_unless Return a p h = h
    sound_unless Exit a p h = h
    sound_unless Failure a p h = sound_give _ p

    pub sound_value : {A B : Type 0} {P : A → Type 0} {post : B → Type 0} (v : Evaluated A) (b : B) {k : A → Run B} → IfValue P v → post b
        → ((a : A) → P a → Sound inv left post (k a)) → Sound inv left post (unless_error v b k)
    unfolding unless_error
    sound_value error b w p h = sound_give _ p
    sound_value (value a) b w p h = h a w

    -- UTILITIES AND LOOPS

    pub sound_utility : (u : Utility) (at : ℕ) (fs : List Bytes) (h : Inherited) → Sound inv left Anything (run_utility limits at u fs h)
    unfolding run_utility
    sound_utility True at fs h = sound_finish h _
    sound_utility False at fs h = sound_finish h _
    sound_utility Echo at fs h = sound_next (sound_write at _) (sound_finish h _)
    sound_utility Test at fs h = sound_finish h _
    sound_utility Cat at [] h =
        sound_bind (sound_any input) (λ s _. sound_next (sound_change _ (known-input [] inv.no_bytes))
        (sound_next (sound_write at _) (sound_finish h _)))
    sound_utility Cat at (f ∷ fs) h = sound_finish h _
    sound_utility Env at [] h = sound_bind (sound_any variables) (λ vs _. sound_next (sound_write at _) (sound_finish h _))
    sound_utility Env at (f ∷ fs) h = sound_finish h _
    sound_utility Other at fs h = sound_finish h _

    -- a variable is given a string that is known
    pub sound_assigned : {B : Type 0} {post : B → Type 0} (x : Slot) (new : Bytes) {m : Run B} → inv.String new
        → Sound inv left post m → Sound inv left post (◌>>=◌ (look variables) (λ vs. ◌>>◌ (change (set_variables (assigned x new vs))) m))
    sound_assigned x new n h =
        sound_bind (sound_look _ (λ s k. k.in_context.0))
        (λ vs w. sound_next (sound_change _ (known-variables _ (inv.assign x new vs w n))) h)

    pub sound_each : (x : Slot) {body : Run Behaviour} → Sound inv left Anything body → (flag : Bool) (fs : List Bytes) → inv.Fields fs
        → Sound inv left Anything (for_each x body flag fs)
    unfolding for_each
    sound_each x hb flag [] w = sound_end flag
    sound_each x hb flag (f ∷ fs) w =
        sound_assigned x f (inv.first_field f fs w) (sound_bind hb
        (λ b _. sound_bind (sound_any _) (λ r _. sound_normal b (sound_each x hb r fs (inv.other_fields f fs w)))))

    sound_test : {test : Run Behaviour} → Sound inv left Anything test → (flag : Bool) {m : Run Behaviour}
        → Sound inv left Anything m → Sound inv left Anything (while_test test flag m)
    unfolding while_test
    sound_test ht flag hm =
        sound_bind ht (λ b _. sound_bind (sound_any _)
        (λ r _. sound_normal b (sound_choose r (λ _. hm) (sound_end flag))))

    pub sound_while : {test body : Run Behaviour} → Sound inv left Anything test → Sound inv left Anything body
        → (flag : Bool) (rounds : ℕ) → Sound inv left Anything (while_true test body flag rounds)
    unfolding while_true
    sound_while ht hb flag zero = sound_test ht flag (sound_give _ tt)
    sound_while ht hb flag (suc rounds) =
        sound_test ht flag (sound_bind hb
        (λ b _. sound_bind (sound_any _) (λ r _. sound_normal b (sound_while ht hb r rounds))))
