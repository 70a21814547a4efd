-- One run at a time: what it may be trusted with before and after. An `Invariant` says what is known of values, `Sound` that a run keeps
-- it and does only what a program can do. proofs/Soundness.antt shows it of every evaluation.
-- Assumes nothing.
use mathlib.Core.Path.{sym, subst}
use mathlib.Core.Bool.{Bool, true, false}
use mathlib.Core.List.{List, [], ◌∷◌, ◌++◌}
use Prim.Native.Nat.{ℕ, suc}
use lib.Dec.{T, leb}
use lib.ListN.{length, get_or, drop}
use Rattle.rules.specs.declared.Refusal.{Refusal}
use Rattle.rules.specs.Lists.{Among}
use Rattle.rules.specs.Syntax.{Bytes, Slot, Function, Program, text}
use Rattle.rules.specs.Trace.{Trace, end, step, call, ◌⨾◌}
use Rattle.rules.specs.State.{Limits, Variable, State, Inherited, Context}
use Rattle.rules.specs.State.{Outcome, refused, ended, Run, after, and_then, ◌>>=◌, ◌>>◌, give, refuse, look, change, choose}
use Rattle.rules.specs.State.{input, written}
use Rattle.rules.specs.Words.{stretches, read_variable, assigned, marked}
use Rattle.rules.specs.Genuine.{Reached, str, Genuine, nothing, begun, called, Unfinished, halted, within}
use Rattle.rules.proofs.Outcomes.{Comes, then_assoc}

-- WHAT IS KNOWN OF VALUES

-- of strings, of fields and arguments, of variables, of streams; and why the rules keep it
pub record Invariant (limits : Limits) (program : Program) : Type 1 where
  pub String : Bytes → Type 0
  pub Fields : List Bytes → Type 0
  pub Variables : List Variable → Type 0
  pub Stream : Bytes → Type 0
  pub text_is : (at : ℕ) (s : Bytes) → Reached program (str (text at s)) → String s
  pub name_is : (g : Function) → Among g program.functions → String g.name
  pub variable_is : (x : Slot) (vs : List Variable) → Variables vs → String (read_variable x vs)
  pub argument_is : (n : ℕ) (argument0 : Bytes) (later : List Bytes) → String argument0 → Fields later → String (get_or (argument0 ∷ later) n [])
  pub made_is : (s : Bytes) → T (leb (length s) limits.string) → String s
  pub no_fields : Fields []
  pub one_more : (so_far : List Bytes) (s : Bytes) → Fields so_far → String s → T (leb (length (so_far ++ s ∷ [])) limits.list) → Fields (so_far ++ s ∷ [])
  pub some_more : (so_far : List Bytes) (s : Bytes) → Fields so_far → String s
      → T (leb (length (so_far ++ stretches s)) limits.list) → Fields (so_far ++ stretches s)
  pub first_field : (s : Bytes) (more : List Bytes) → Fields (s ∷ more) → String s
  pub other_fields : (s : Bytes) (more : List Bytes) → Fields (s ∷ more) → Fields more
  pub fewer : (n : ℕ) (fields : List Bytes) → Fields fields → Fields (drop n fields)
  pub assign : (x : Slot) (s : Bytes) (vs : List Variable) → Variables vs → String s → Variables (assigned x s vs)
  pub mark : (x : Slot) (vs : List Variable) → Variables vs → Variables (marked x vs)
  pub no_bytes : Stream []
  pub stream_is : (s : Bytes) → T (leb (length s) limits.stream) → Stream s

module _ (limits : Limits) (program : Program) where
  -- genuine traces one after the other
  pub genuine_then : {left : ℕ} (t u : Trace) → Genuine limits program left t → Genuine limits program left u → Genuine limits program left (t ⨾ u)
  genuine_then t v nothing h = h
  genuine_then t v (begun n t₁ r g) h = begun n _ r (genuine_then t₁ v g h)
  genuine_then t v (called {left = l} at name list f k u i t₁ r e c gu b gi gt) h =
      subst (λ w. Genuine limits program (suc l) (step at w)) (sym (then_assoc u (call f i t₁) v))
      (called at name list f k u i (t₁ ⨾ v) r e c gu b gi (genuine_then t₁ v gt h))

  -- a genuine trace before one that ends in a refusal
  pub unfinished_then : {why : Refusal} {place left : ℕ} (t u : Trace) → Genuine limits program left t → Unfinished limits program why place left u
      → Unfinished limits program why place left (t ⨾ u)
  unfinished_then t v g (halted v₁ h) = halted _ (genuine_then t v₁ g h)
  unfinished_then {why} {place} t v g (within {left = l} at name list f k t₁ u i gt r e c gu b gi) =
      subst (Unfinished limits program why place (suc l)) (then_assoc t t₁ (step at (u ⨾ call f i end)))
      (within at name list f k (t ⨾ t₁) u i (genuine_then t t₁ g gt) r e c gu b gi)

module _ {limits : Limits} {program : Program} (inv : Invariant limits program) where
  -- of a context, a state, and an inherited argument 0
  abbrev pub KnownContext : Context → Type 0
  KnownContext c = inv.Variables c.variables × inv.Fields c.arguments

  pub record Known (s : State) : Type 0 where
    pub in_context : KnownContext s.context
    pub in_input : inv.Stream (input s)
    pub in_output : inv.Stream (written s)

  abbrev pub Named : Inherited → Type 0
  Named h = inv.String h.argument0

  module _ (left : ℕ) where
    -- of an end: its answer, state and trace, when `left` more calls may be opened
    pub record Kept {A : Type 0} (post : A → Type 0) (a : A) (s : State) (t : Trace) : Type 0 where
      pub answer : post a
      pub state : Known s
      pub trace : Genuine limits program left t

    -- of an outcome: of a refusal only the trace
    abbrev pub Left : {A : Type 0} → (A → Type 0) → Outcome A → Type 0
    Left post o = Comes (Kept post) (λ why place t. Unfinished limits program why place left t) o

    -- of a run: it keeps what is known, and what it does is genuine
    pub record Sound {A : Type 0} (post : A → Type 0) (m : Run A) : Type 0 where
      pub from : (s : State) → Known s → Left post (m s)

-- RUNS ARE SOUND if what they are made of is

module _ {limits : Limits} {program : Program} {inv : Invariant limits program} {left : ℕ} where
  pub sound_give : {A : Type 0} {post : A → Type 0} (a : A) → post a → Sound inv left post (give a)
  unfolding give
  sound_give a p = record { from = λ s k. record { answer = p; state = k; trace = nothing } }

  pub sound_refuse : {A : Type 0} {post : A → Type 0} (why : Refusal) (place : ℕ) → Sound inv left post (refuse why place)
  unfolding refuse
  sound_refuse why place = record { from = λ s k. halted end nothing }

  pub sound_look : {A : Type 0} {post : A → Type 0} (f : State → A) → ((s : State) → Known inv s → post (f s))
      → Sound inv left post (look f)
  unfolding look
  sound_look f h = record { from = λ s k. record { answer = h s k; state = k; trace = nothing } }

  pub sound_change : (f : State → State) → ((s : State) → Known inv s → Known inv (f s))
      → Sound inv left (λ _. Unit {0}) (change f)
  unfolding change
  sound_change f h = record { from = λ s k. record { answer = tt; state = h s k; trace = nothing } }

  pub sound_choose : {A : Type 0} {post : A → Type 0} (b : Bool) {m k : Run A}
      → (T b → Sound inv left post m) → Sound inv left post k → Sound inv left post (choose b m k)
  unfolding choose
  sound_choose true hm hk = hm tt
  sound_choose false hm hk = hk

  pub sound_bind : {A B : Type 0} {post_a : A → Type 0} {post : B → Type 0} {m : Run A} {k : A → Run B}
      → Sound inv left post_a m → ((a : A) → post_a a → Sound inv left post (k a)) → Sound inv left post (◌>>=◌ m k)
  unfolding ◌>>=◌
  sound_bind {A} {B} {post_a} {post} {m} {k} hm hk = record { from = λ s i. first (m s) (hm.from s i) }
    where
      second : (t : Trace) → Genuine limits program left t → (o : Outcome B) → Left inv left post o → Left inv left post (after t o)
      second t g (refused why place u) h = unfinished_then limits program t u g h
      second t g (ended b s u) h = record { answer = h.answer; state = h.state; trace = genuine_then limits program t u g h.trace }

      first : (o : Outcome A) → Left inv left post_a o → Left inv left post (and_then o k)
      first (refused why place t) h = h
      first (ended a s t) h = second t h.trace (k a s) ((hk a h.answer).from s h.state)

  pub sound_next : {A B : Type 0} {post_a : A → Type 0} {post : B → Type 0} {m : Run A} {k : Run B}
      → Sound inv left post_a m → Sound inv left post k → Sound inv left post (◌>>◌ m k)
  unfolding ◌>>◌
  sound_next hm hk = sound_bind hm (λ a p. hk)
