-- Calls are sound (proofs/Invariant.antt): where they stand in the trace and what they begin with.
-- Assumes nothing.
use mathlib.Core.Path.{◌≡◌, refl, sym, ◌∙◌, ap, subst}
use mathlib.Core.Bool.{Bool, true, false, cond}
use mathlib.Core.List.{List, [], ◌∷◌}
use Prim.Native.Nat.{ℕ, zero, suc, ◌<◌}
use native.Mathlib.Omega.{arith}
use lib.Dec.{ltb}
use Rattle.rules.specs.declared.Behaviour.{Behaviour}
use Rattle.rules.specs.declared.Behaviour.TheVariants.{Failure}
use Rattle.rules.specs.declared.Refusal.{Refusal}
use Rattle.rules.specs.declared.Refusal.TheVariants.{BudgetUsedUp, ManyHolds}
use Rattle.rules.specs.Lists.{Among, first, later}
use Rattle.rules.specs.Syntax.{Bytes, Function, Program, Lst, Ins, call}
use Rattle.rules.specs.Trace.{Trace, end, step, ◌⨾◌, steps}
use Rattle.rules.specs.State.{Limits, State, Inherited, Evaluated, error, value, Outcome, refused, ended, Run, after, and_then, inside}
use Rattle.rules.specs.State.{give, set_used, set_arguments, arguments, trace_of}
use Rattle.rules.specs.Words.{Callee, unknown, known, find, same}
use Rattle.rules.specs.Flow.{returned}
use Rattle.rules.specs.Refusals.{LstMeaning, one_more_hold, named, stepped}
use Rattle.rules.specs.Rules.{Enter, call_of, call_rule}
use Rattle.rules.specs.Evaluation.{ins_rule, eval_ins, eval_lst, enter_at}
use Rattle.rules.specs.Genuine.{ins, record_of, Reached, from_body, Begins, BeginsIfAny, Genuine, nothing, begun, called, Unfinished, halted, within}
use Rattle.rules.proofs.Outcomes.{Comes, then_end_lem, on_value, on_hold, on_step, on_step_lem, stepped_on}
use Rattle.rules.proofs.Beginnings.{true_if_lt}
use Rattle.rules.proofs.Ways.{finish_on, call_on, full_stack_on, enter_on}
use Rattle.rules.proofs.Invariant.{Invariant, Known, Named, Kept, Left, Sound, unfinished_then}
use Rattle.rules.proofs.Pieces.{Anything, IfValue, known-used, known-result, known-arguments}

-- the function found is one of the list
pub find_among : (name : Bytes) (n : ℕ) (gs : List Function) (f : ℕ) (g : Function) → find name n gs ≡ known f g → Among g gs
find_among name n [] f g e = absurd (subst is_unknown e tt)
  where
    is_unknown : Callee → Type 0
    is_unknown unknown = Unit {0}
    is_unknown (known f g) = ⊥
find_among name n (k ∷ gs) f g e = go (same name k.name) (find_among name (suc n) gs f g) e
  where
    function_of : Function → Callee → Function
    function_of d unknown = d
    function_of d (known f g) = g

    go : (b : Bool) → (find name (suc n) gs ≡ known f g → Among g gs) → cond b (known n k) (find name (suc n) gs) ≡ known f g → Among g (k ∷ gs)
    go true ih e = subst (λ x. Among x (k ∷ gs)) (ap (function_of k) e) first
    go false ih e = later (ih e)

-- what a record comes to begins with its step
abbrev pub BeginsAt : {A : Type 0} → (at : ℕ) → Outcome A → Type 0
BeginsAt at o = Comes (λ _ _ t. Begins at t) (λ _ _ t. BeginsIfAny at t) o

module _ (limits : Limits) (functions : List Function) (enter : Enter) (i : Ins) (h : Inherited) (s : State) where
  abbrev after_step : Outcome Behaviour
  after_step = ins_rule limits functions enter i h (set_used (suc s.used) s)

  stepped_as : eval_ins limits functions enter i h s ≡ on_step limits (record_of (ins i)) s after_step
  stepped_as = stepped_on limits (record_of (ins i)) _ h s

  pub ins-begins : BeginsAt (record_of (ins i)) (eval_ins limits functions enter i h s)
  unfolding on_step
  ins-begins = subst (BeginsAt (record_of (ins i))) (sym stepped_as) (go (ltb s.used limits.budget) after_step)
    where
      go : (b : Bool) (o : Outcome Behaviour)
          → BeginsAt (record_of (ins i)) (cond b (after (step (record_of (ins i)) end) o) (refused BudgetUsedUp (record_of (ins i)) end))
      go true (refused why place t) = refl
      go true (ended a s₁ t) = refl
      go false o = tt

  -- within the budget it makes that step, whatever it comes to
  pub ins-steps : s.used < limits.budget → 0 < steps (trace_of (eval_ins limits functions enter i h s))
  ins-steps l = subst (λ o. 0 < steps (trace_of o)) (sym (on_step_lem _ _ limits _ s stepped_as (true_if_lt _ _ l))) (go after_step)
    where
      go : (o : Outcome Behaviour) → 0 < steps (trace_of (after (step (record_of (ins i)) end) o))
      go (refused why place t) = omega arith
      go (ended b s₁ t) = omega arith

module _ {limits : Limits} {program : Program} (inv : Invariant limits program) where
  -- CALLS

  -- what a call does with `left` more calls allowed
  abbrev pub enter_with : (left : ℕ) → Enter
  enter_with left = enter_at limits program.functions left

  module _ (f : ℕ) (g : Function) (new : List Bytes) (h : Inherited) (s : State) where
    -- what a call of f adds to the trace, after its list: nothing, or what its body does
    pub data Entered : ℕ → Trace → Type 0 where
      not_at_all : {left : ℕ} → Entered left end
      once : {left : ℕ} (b : Behaviour) (s' : State) (v : Trace)
          → eval_ins limits program.functions (enter_with left) g.body (named g.name (one_more_hold h)) (set_arguments new s) ≡ ended b s' v
          → Begins (record_of (ins g.body)) v → Genuine limits program left v → Entered (suc left) (Trace.call f v end)

    -- the same where the run was refused: nothing, or what its body did before
    pub data EnteredSoFar (why : Refusal) (place : ℕ) : ℕ → Trace → Type 0 where
      not_opened : {left : ℕ} → EnteredSoFar why place left end
      still_open : {left : ℕ} (v : Trace)
          → eval_ins limits program.functions (enter_with left) g.body (named g.name (one_more_hold h)) (set_arguments new s) ≡ refused why place v
          → Begins (record_of (ins g.body)) v → Unfinished limits program why place left v → EnteredSoFar why place (suc left) (Trace.call f v end)

    pub record Went (left : ℕ) (s' : State) (t : Trace) : Type 0 where
      pub state : Known inv s'
      pub trace : Entered left t

    abbrev pub Goes : (left : ℕ) → Outcome Behaviour → Type 0
    Goes left o = Comes (λ b. Went left) (λ why place t. EnteredSoFar why place left t) o

  -- what is asked of it
  abbrev pub Enters : (left : ℕ) → Type 0
  Enters left =
      (at f : ℕ) (g : Function) (new : List Bytes) (h : Inherited) (s : State) → Among g program.functions → inv.Fields new
      → Known inv s → Goes f g new h s left (enter_with left at f g new h s)

  module _ (at : ℕ) (name : Bytes) (list : Lst) (r : Reached program (ins (call at name list))) where
    -- a call record's step, its list's trace and the call make a genuine trace
    uncalled : (left : ℕ) (u : Trace) → Genuine limits program left u → Genuine limits program left (step at (u ⨾ end))
    uncalled left u gu = begun (ins (call at name list)) _ r (subst (Genuine limits program left) (sym (then_end_lem u)) gu)

    placed : (left f : ℕ) (g : Function) (fields : List Bytes) (h : Inherited) (s s₁ : State) (u v : Trace)
        → find name 1 program.functions ≡ known f g
        → eval_lst limits program.functions (enter_with left) list [] h s ≡ ended (value fields) s₁ u
        → Genuine limits program left u → Entered f g fields h s₁ left v → Genuine limits program left (step at (u ⨾ v))
    placed left f g fields h s s₁ u v e came gu not_at_all = uncalled left u gu
    placed left f g fields h s s₁ u v e came gu (once b s₂ w ran begins gw) =
        called at name list f g u w end r e
        (record { inherited = h; before = s; fields = fields; between = s₁; behaviour = b; after = s₂; list_came = came; body_ran = ran })
        gu begins gw nothing

    placed_so_far : {why : Refusal} {place : ℕ} (left f : ℕ) (g : Function) (fields : List Bytes) (h : Inherited) (s s₁ : State) (u v : Trace)
        → find name 1 program.functions ≡ known f g
        → eval_lst limits program.functions (enter_with left) list [] h s ≡ ended (value fields) s₁ u
        → Genuine limits program left u → EnteredSoFar f g fields h s₁ why place left v → Unfinished limits program why place left (step at (u ⨾ v))
    placed_so_far left f g fields h s s₁ u v e came gu not_opened = halted _ (uncalled left u gu)
    placed_so_far left f g fields h s s₁ u v e came gu (still_open w ran begins gw) =
        within at name list f g end u w nothing r e
        (record { inherited = h; before = s; fields = fields; between = s₁; list_came = came; body_refused = ran })
        gu begins gw

    module _ (left : ℕ) (enters : Enters left) (h : Inherited) where
      abbrev fields_of : LstMeaning
      fields_of = eval_lst limits program.functions (enter_with left) list

      abbrev go_on : (fields : List Bytes) → Run Behaviour
      go_on fields = call_of (enter_with left) at (find name 1 program.functions) fields h

      record Called (b : Behaviour) (s : State) (t : Trace) : Type 0 where
        state : Known inv s
        trace : Genuine limits program left (step at t)

      abbrev CallDone : Outcome Behaviour → Type 0
      CallDone o = Comes Called (λ why place t. Unfinished limits program why place left (step at t)) o

      module _ (s : State) (fields : List Bytes) (s₁ : State) (u : Trace) (came : fields_of [] h s ≡ ended (value fields) s₁ u)
          (k : Kept inv left (IfValue inv.Fields) (value fields) s₁ u) where
        after_list : (f : ℕ) (g : Function) → find name 1 program.functions ≡ known f g → (o : Outcome Behaviour)
            → Goes f g fields h s₁ left o → CallDone (after u o)
        after_list f g e (refused why place v) w = placed_so_far left f g fields h s s₁ u v e came k.trace w
        after_list f g e (ended b s₂ v) w = record { state = w.state; trace = placed left f g fields h s s₁ u v e came k.trace w.trace }

        with-callee : (c : Callee) → find name 1 program.functions ≡ c → CallDone (after u (call_of (enter_with left) at c fields h s₁))
        unfolding call_of
        with-callee unknown e =
            subst (λ o. CallDone (after u o)) (sym (finish_on h false s₁))
            (record { state = known-result false s₁ k.state; trace = uncalled left u k.trace })
        with-callee (known f g) e =
            after_list f g e (enter_with left at f g fields h s₁)
            (enters at f g fields h s₁ (find_among name 1 program.functions f g e) k.answer k.state)

      with-list : (s : State) (o : Outcome (Evaluated (List Bytes))) → fields_of [] h s ≡ o
          → Left inv left (IfValue inv.Fields) o → CallDone (on_value o Failure go_on)
      unfolding on_value
      with-list s (refused why place u) e k = unfinished_then limits program (step at end) u (begun (ins (call at name list)) end r nothing) k
      with-list s (ended error s₁ u) e k = record { state = k.state; trace = begun (ins (call at name list)) u r k.trace }
      with-list s (ended (value fields) s₁ u) e k = with-callee s fields s₁ u e k (find name 1 program.functions) refl

      with-step : (b : Bool) (o : Outcome Behaviour) → CallDone o
          → Left inv left Anything (cond b (after (step at end) o) (refused BudgetUsedUp at end))
      with-step true (refused why place t) k = k
      with-step true (ended b s t) k = record { answer = tt; state = k.state; trace = k.trace }
      with-step false o k = halted end nothing

      pub sound_call : Sound inv left (IfValue inv.Fields) (fields_of [] h)
          → Sound inv left Anything (stepped limits at (call_rule (enter_with left) at (find name 1 program.functions) fields_of) h)
      unfolding on_step
      sound_call hl = record {
        from = λ s k.
            let s₁ = set_used (suc s.used) s in
            subst (Left inv left Anything) (sym (stepped_on limits at _ h s ∙ ap (on_step limits at s) (call_on h s₁ _ at _ _)))
            (with-step (ltb s.used limits.budget) (on_value (fields_of [] h s₁) Failure go_on)
            (with-list s₁ (fields_of [] h s₁) refl (hl.from s₁ (known-used _ s k))));
      }

  -- ENTERING

  -- with no level left, nothing is entered
  pub enters_none : Enters zero
  unfolding enter_at
  enters_none at f g new h s a w k = subst (Goes f g new h s zero) (sym (full_stack_on h s)) (record { state = k; trace = not_at_all })

  -- with one level more than its body, if bodies are sound
  pub enters_more : (left : ℕ)
      → ((i : Ins) → Reached program (ins i) → (h : Inherited) → Named inv h
      → Sound inv left Anything (eval_ins limits program.functions (enter_with left) i h))
      → Enters (suc left)
  unfolding enter_at on_hold give
  enters_more left bodies at f g new h s a w k =
      subst (Goes f g new h s (suc left)) (sym (enter_on h s limits at f g.name _ new))
      (held (ltb h.holds limits.holds) (eval_ins limits program.functions (enter_with left) g.body inner s₁) refl
      ((bodies g.body (from_body g a) inner (inv.name_is g a)).from s₁ (known-arguments new w s k))
      (ins-begins limits program.functions (enter_with left) g.body inner s₁))
    where
      inner : Inherited
      inner = named g.name (one_more_hold h)

      s₁ : State
      s₁ = set_arguments new s

      held : (b : Bool) (o : Outcome Behaviour) → eval_ins limits program.functions (enter_with left) g.body inner s₁ ≡ o
          → Left inv left Anything o → BeginsAt (record_of (ins g.body)) o
          → Goes f g new h s (suc left)
          (cond b (and_then (inside f o) (λ b s₂. ended (returned b) (set_arguments (arguments s) s₂) end)) (refused ManyHolds at end))
      held true (refused why place end) e kept begins = not_opened
      held true (refused why place (step r t)) e kept begins = still_open (step r t) e begins kept
      held true (refused why place (Trace.call k i t)) e kept begins = absurd begins
      held true (ended b s₂ t) e kept begins = record {
        state = known-arguments (arguments s) k.in_context.1 s₂ kept.state;
        trace = once b s₂ t e begins kept.trace;
      }
      held false o e kept begins = not_opened
