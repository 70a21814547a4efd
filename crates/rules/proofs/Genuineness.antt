-- The trace of every run is genuine, up to the calls that are open at a refusal (specs/Genuine.antt); and what follows for the calls of
-- such a trace.
-- Assumes nothing.
use mathlib.Core.Path.{◌≡◌, refl, sym, ◌∙◌, ap, subst}
use mathlib.Core.Bool.{Bool, true, false, cond}
use mathlib.Core.List.{List, [], ◌∷◌, ◌++◌, append_assoc}
use Prim.Native.Nat.{ℕ, suc, ◌+◌, ◌≤◌, ◌<◌}
use native.Mathlib.Omega.{arith}
use lib.ListN.{length}
use Rattle.rules.specs.declared.Behaviour.{Behaviour}
use Rattle.rules.specs.declared.Refusal.{Refusal}
use Rattle.rules.specs.Lists.{Every, Among}
use Rattle.rules.specs.Syntax.{Bytes, Function, Program}
use Rattle.rules.specs.Trace.{Trace, end, step, call, ◌⨾◌, steps, timeline, Numbered, NoEmptyCall}
use Rattle.rules.specs.State.{Limits, State, Outcome, refused, ended, inside, as_call, trace_of}
use Rattle.rules.specs.Words.{same, Callee, unknown, known, find}
use Rattle.rules.specs.Refusals.{at_top}
use Rattle.rules.specs.Evaluation.{enter_at, start, main, run}
use Rattle.rules.specs.Genuine.{Node, ins, record_of, children, Reached, from_main, from_body, from_parent, Begins, Genuine, nothing, begun, called, Unfinished, halted, within, MadeBy, MadeSoFar}
use Rattle.rules.proofs.Lists.{every_append}
use Rattle.rules.proofs.Outcomes.{Ends, Comes, ends_of}
use Rattle.rules.proofs.Beginnings.{steps-opened, timeline-opened}
use Rattle.rules.proofs.Invariant.{Invariant, Left}
use Rattle.rules.proofs.Pieces.{Anything}
use Rattle.rules.proofs.Calls.{BeginsAt, ins-begins, ins-steps}
use Rattle.rules.proofs.Soundness.{sound_ins, enters}

-- what holds of main and the bodies, and of the parts of whatever it holds of, holds of all that belongs to a program
pub reached_all : (program : Program) (P : Node → Type 0)
    → P (ins program.main) → ((g : Function) → Among g program.functions → P (ins g.body))
    → ((parent n : Node) → P parent → Among n (children parent) → P n) → (n : Node) → Reached program n → P n
reached_all program P m b c n from_main = m
reached_all program P m b c n (from_body g a) = b g a
reached_all program P m b c n (from_parent {parent = parent} {n = n₁} r a) = c parent n₁ (reached_all program P m b c parent r) a

-- WHAT FOLLOWS FROM GENUINENESS

-- the function found has a number of the program
abbrev Within : ℕ → ℕ → Callee → Type 0
Within lo hi unknown = Unit {0}
Within lo hi (known f g) = (lo ≤ f) × (f < hi)

find-within : (name : Bytes) (f : ℕ) (gs : List Function) → Within f (f + length gs) (find name f gs)
find-within name f [] = tt
find-within name f (g ∷ gs) = go (same name g.name) (find name (suc f) gs) (find-within name (suc f) gs)
  where
    wider : (c : Callee) → Within (suc f) (suc f + length gs) c → Within f (f + suc (length gs)) c
    wider unknown w = tt
    wider (known k h) w = (omega (arith, w.0), omega (arith, w.1))

    go : (b : Bool) (c : Callee) → Within (suc f) (suc f + length gs) c → Within f (f + suc (length gs)) (cond b (known f g) c)
    go true c w = (omega arith, omega arith)
    go false c w = wider c w

numbered_then : (n : ℕ) (t u : Trace) → Numbered n t → Numbered n u → Numbered n (t ⨾ u)
numbered_then n end u a b = b
numbered_then n (step at t) u a b = numbered_then n t u a b
numbered_then n (call f i t) u a b = (a.0, a.1, a.2, numbered_then n t u a.3 b)

filled_then : (t u : Trace) → NoEmptyCall t → NoEmptyCall u → NoEmptyCall (t ⨾ u)
filled_then end u a b = b
filled_then (step at t) u a b = filled_then t u a b
filled_then (call f i t) u a b = (a.0, a.1, filled_then t u a.2 b)

pub begins-steps : (at : ℕ) (t : Trace) → Begins at t → 0 < steps t
begins-steps at end b = absurd b
begins-steps at (step r t) b = omega arith
begins-steps at (call f i t) b = absurd b

timeline_then : (opened : List ℕ) (t u : Trace) → timeline opened (t ⨾ u) ≡ timeline opened t ++ timeline opened u
timeline_then opened end u = refl
timeline_then opened (step at t) u = ap (λ l. opened ∷ l) (timeline_then opened t u)
timeline_then opened (call f i t) u =
    ap (λ l. timeline (f ∷ opened) i ++ l) (timeline_then opened t u)
    ∙ sym (append_assoc (timeline (f ∷ opened) i) (timeline opened t) (timeline opened u))

-- at most n functions are open
abbrev pub OpenAtMost : ℕ → List ℕ → Type 0
OpenAtMost n opened = length opened ≤ n

module _ (limits : Limits) (program : Program) where
  pub genuine-numbered : {left : ℕ} (t : Trace) → Genuine limits program left t → Numbered (length program.functions) t
  genuine-numbered t nothing = tt
  genuine-numbered t (begun n t₁ r g) = genuine-numbered t₁ g
  genuine-numbered t (called at name list f k u i t₁ r e c gu b gi gt) =
      let w : Within 1 (1 + length program.functions) (known f k) = subst (Within _ _) e (find-within name 1 program.functions) in
      numbered_then _ u (call f i t₁) (genuine-numbered u gu)
      (omega (arith, w.0), omega (arith, w.1), genuine-numbered i gi, genuine-numbered t₁ gt)

  pub genuine-filled : {left : ℕ} (t : Trace) → Genuine limits program left t → NoEmptyCall t
  genuine-filled t nothing = tt
  genuine-filled t (begun n t₁ r g) = genuine-filled t₁ g
  genuine-filled t (called at name list f k u i t₁ r e c gu b gi gt) =
      filled_then u (call f i t₁) (genuine-filled u gu) (begins-steps _ i b, genuine-filled i gi, genuine-filled t₁ gt)

  pub genuine_open : {left : ℕ} (t : Trace) → Genuine limits program left t → (opened : List ℕ) (n : ℕ) → length opened + left ≤ n
      → Every (OpenAtMost n) (timeline opened t)
  genuine_open t nothing opened n l = tt
  genuine_open t (begun k t₁ r g) opened n l = (omega arith, genuine_open t₁ g opened n l)
  genuine_open t (called at name list f k u i t₁ r e c gu b gi gt) opened n l = (
    omega arith,
    subst (Every (OpenAtMost n)) (sym (timeline_then opened u (call f i t₁)))
        (every_append (OpenAtMost n) (timeline opened u) _ (genuine_open u gu opened n l)
        (every_append (OpenAtMost n) (timeline (f ∷ opened) i) _ (genuine_open i gi (f ∷ opened) n (omega arith)) (genuine_open t₁ gt opened n l))),
  )

  -- the same before a refusal
  pub unfinished-numbered : {why : Refusal} {place left : ℕ} (t : Trace) → Unfinished limits program why place left t → Numbered (length program.functions) t
  unfinished-numbered t (halted t₁ g) = genuine-numbered t₁ g
  unfinished-numbered t (within at name list f k t₁ u i gt r e c gu b gi) =
      let w : Within 1 (1 + length program.functions) (known f k) = subst (Within _ _) e (find-within name 1 program.functions) in
      numbered_then _ t₁ (step at (u ⨾ call f i end)) (genuine-numbered t₁ gt)
      (numbered_then _ u (call f i end) (genuine-numbered u gu)
      (omega (arith, w.0), omega (arith, w.1), unfinished-numbered i gi, tt))

  pub unfinished-filled : {why : Refusal} {place left : ℕ} (t : Trace) → Unfinished limits program why place left t → NoEmptyCall t
  unfinished-filled t (halted t₁ g) = genuine-filled t₁ g
  unfinished-filled t (within at name list f k t₁ u i gt r e c gu b gi) =
      filled_then t₁ (step at (u ⨾ call f i end)) (genuine-filled t₁ gt)
      (filled_then u (call f i end) (genuine-filled u gu) (begins-steps _ i b, unfinished-filled i gi, tt))

  pub unfinished_open : {why : Refusal} {place left : ℕ} (t : Trace) → Unfinished limits program why place left t → (opened : List ℕ) (n : ℕ) → length opened + left ≤ n
      → Every (OpenAtMost n) (timeline opened t)
  unfinished_open t (halted t₁ g) opened n l = genuine_open t₁ g opened n l
  unfinished_open t (within at name list f k t₁ u i gt r e c gu b gi) opened n l =
      subst (Every (OpenAtMost n)) (sym (timeline_then opened t₁ (step at (u ⨾ call f i end))))
      (every_append (OpenAtMost n) (timeline opened t₁) _ (genuine_open t₁ gt opened n l) (
        omega arith,
        subst (Every (OpenAtMost n)) (sym (timeline_then opened u (call f i end)))
            (every_append (OpenAtMost n) (timeline opened u) _ (genuine_open u gu opened n l)
            (every_append (OpenAtMost n) (timeline (f ∷ opened) i) [] (unfinished_open i gi (f ∷ opened) n (omega arith)) tt)),
      ))

-- EVERY RUN

-- nothing is known of values
any_value : (limits : Limits) (program : Program) → Invariant limits program
any_value limits program = record {
  String = Anything;
  Fields = Anything;
  Variables = Anything;
  Stream = Anything;
  text_is = λ at s r. tt;
  name_is = λ g a. tt;
  variable_is = λ x vs h. tt;
  argument_is = λ n a later s h. tt;
  made_is = λ s t. tt;
  no_fields = tt;
  one_more = λ so_far s h k t. tt;
  some_more = λ so_far s h k t. tt;
  first_field = λ s more h. tt;
  other_fields = λ s more h. tt;
  fewer = λ n fields h. tt;
  assign = λ x s vs h k. tt;
  mark = λ x vs h. tt;
  no_bytes = tt;
  stream_is = λ s t. tt;
}

-- what is so of the trace of a run
abbrev pub Made : Limits → Program → Outcome Behaviour → Type 0
Made limits program o = Comes (λ _ _ t. MadeBy limits program t) (λ why place t. MadeSoFar limits program why place t) o

module _ (limits : Limits) (program : Program) (argument0 : Bytes) (arguments : List Bytes) (stdin : Bytes) where
  abbrev s₀ : State
  s₀ = start program arguments stdin

  pub run-made : Made limits program (run limits program argument0 arguments stdin)
  unfolding run as_call any_value
  run-made =
      go (main limits program argument0 s₀)
      ((sound_ins (any_value limits program) limits.stack (enters (any_value limits program) limits.stack)
      program.main from_main (at_top argument0) tt).from s₀ (record { in_context = (tt, tt); in_input = tt; in_output = tt }))
      (ins-begins limits program.functions (enter_at limits program.functions limits.stack) program.main (at_top argument0) s₀)
    where
      go : (o : Outcome Behaviour) → Left (any_value limits program) limits.stack Anything o
          → BeginsAt (record_of (ins program.main)) o → Made limits program (inside 0 o)
      go (refused why place t) k b = record { inside = t; is_main = refl; begins = b; unfinished = k }
      go (ended a s t) k b = record { inside = t; is_main = refl; begins = b; genuine = k.trace }

  pub run-genuine : Ends (λ _ _ t. MadeBy limits program t) (run limits program argument0 arguments stdin)
  run-genuine = ends_of (λ _ _ t. MadeBy limits program t) (λ why place t. MadeSoFar limits program why place t) (run limits program argument0 arguments stdin) run-made

  -- with any budget at all it makes a step
  pub run-steps : 0 < limits.budget → 0 < steps (trace_of (run limits program argument0 arguments stdin))
  unfolding run as_call
  run-steps l =
      go (main limits program argument0 s₀)
      (ins-steps limits program.functions (enter_at limits program.functions limits.stack) program.main (at_top argument0) s₀ l)
    where
      go : (o : Outcome Behaviour) → 0 < steps (trace_of o) → 0 < steps (trace_of (inside 0 o))
      go (refused why place t) h = omega (arith, steps-opened 0 t)
      go (ended b s t) h = omega arith

  -- no more calls are open at a step than the stack limit allows, beside main
  pub run_open : Every (OpenAtMost (suc limits.stack)) (timeline [] (trace_of (run limits program argument0 arguments stdin)))
  run_open = go (run limits program argument0 arguments stdin) run-made
    where
      go : (o : Outcome Behaviour) → Made limits program o → Every (OpenAtMost (suc limits.stack)) (timeline [] (trace_of o))
      go (refused why place t) m =
          subst (λ u. Every (OpenAtMost (suc limits.stack)) (timeline [] u)) (sym m.is_main)
          (subst (Every (OpenAtMost (suc limits.stack))) (sym (timeline-opened 0 [] m.inside))
          (unfinished_open limits program m.inside m.unfinished (0 ∷ []) (suc limits.stack) (omega arith)))
      go (ended b s t) m =
          subst (λ u. Every (OpenAtMost (suc limits.stack)) (timeline [] u)) (sym m.is_main)
          (every_append (OpenAtMost (suc limits.stack)) (timeline (0 ∷ []) m.inside) []
          (genuine_open limits program m.inside m.genuine (0 ∷ []) (suc limits.stack) (omega arith)) tt)
