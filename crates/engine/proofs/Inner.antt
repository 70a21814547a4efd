-- A scope inside another one: what it needs to be ready, what is handed down to it, and how its evaluation counts in the scope around it.
-- Assumes nothing.
use Prim.Native.Nat.{ℕ, ◌≤◌, ◌<◌, ◌+◌, ◌*◌}
use native.Mathlib.Nat.{le_refl}
use native.Mathlib.Omega.{arith}
use mathlib.Core.Path.{◌≡◌, refl, sym, ap, ◌∙◌}
use mathlib.Core.Logic.{inl, inr}
use mathlib.Core.Bool.{true≢false}
use mathlib.Core.List.{[]}
use lib.ListN.{length}
use Rattle.rules.specs.declared.Refusal.{Refusal}
use Rattle.rules.specs.Syntax.{Bytes}
use Rattle.rules.specs.State.{Outcome, ended, after, and_then, Run, kept, context, output, set_context, set_output, set_input}
use Rattle.rules.specs.Refusals.{Means, one_more_hold}
use Rattle.memory.specs.Layout.{part, Same, Only, variables_place, list_place, stream_place, counters_end}
use Rattle.memory.specs.Posts.{Raised}
use Rattle.memory.specs.Abstract.{state_of, Placed, Fits, Kept}
use Rattle.memory.proofs.Parts.{under, only_wider, part_away}
use Rattle.memory.proofs.Places.{variables-next, variables_up, variables-end, list_up}
use Rattle.memory.proofs.Keeping.{kept-level, kept_fresh, kept_trans}
use Rattle.memory.proofs.Charging.{charged-before}
use Rattle.memory.proofs.States.{state_level}
use Rattle.memory.proofs.Levels.{state_raised, state_fresh, state_piped, state_restored, output-kept}
use Rattle.memory.specs.declared.Given.{Given}
use Rattle.memory.specs.Scope.{Scope}
use Rattle.memory.specs.declared.Course.{Course}
use Rattle.engine.specs.Moves.{apart, caught, fed, silent, with_length, fed_by, back}
use Rattle.engine.specs.Meaning.{known_of, handed}
use Rattle.engine.specs.Post.{Ready, Onward, Came, Stopped, does}
use Rattle.engine.proofs.Going.{onward_refl, handed-kept, ready_kept}
use Rattle.engine.proofs.Follows.{handed-apart, handed-caught, handed-fed}

-- WHAT FOLLOWS AN EVALUATION, in whatever scope

module _ {A B : Type 0} {p : Outcome B} {o : Outcome A} (k : A → Run B) (starts : p ≡ and_then o k) where
  pub then_came : {i v x : Bytes} {g : Given} {d : Scope} {b f : Course} {a : A} (m : Came i g d v b o a x f) → p ≡ after m.trace (k a (state_of i x g d f))
  then_came m = starts ∙ ap (λ (q : Outcome A). and_then q k) m.eq

  pub then_stopped : {why : Refusal} {place : ℕ} {w v x : Bytes} → Stopped o why place v x → length v ≡ length w → Stopped p why place w x
  then_stopped m h = record { trace = m.trace; eq = starts ∙ ap (λ (q : Outcome A). and_then q k) m.eq; size = m.size ∙ h; known = m.known }

-- READY

module _ {s i w : Bytes} {g : Given} {e : Scope} {c : Course} (ready : Ready s i w g e c) where
  pub ready_in : (d : Scope) (b : Course) → Placed d → d.function ≤ length (known_of s).functions → Fits i g d b → Ready s i w g d b
  ready_in d b p f h = record { loaded = ready.loaded; roomy = ready.roomy; wide = ready.wide; slots = ready.slots; placed = p; function = f; fits = h }

  -- the arguments stay below the list of a hold more
  pub higher : c.arguments + g.unit * c.count ≤ list_place g.unit (e.holds + 1 + 1)
  higher = omega (arith, ready.fits.high, list_up g.unit {h = e.holds + 1} {h' = e.holds + 1 + 1} (omega arith))

  -- nothing written is kept
  pub ready_silent : e.holds < 10 → Ready s i w g (silent e) c
  ready_silent room =
      let p = ready.placed in
      let f = ready.fits in
      ready_in (silent e) c
      (record { level = omega (arith, p.level); holds = omega arith; stream = p.stream; streams = omega (arith, p.streams); function = p.function })
      ready.function
      (record { stdin = f.stdin; from = f.from; to = f.to; apart = f.apart; rest = f.rest; length = f.length; count = f.count; low = f.low; high = higher })

-- A LEVEL MORE

module _ {s i w v : Bytes} {g : Given} {e : Scope} {c : Course} (ready : Ready s i w g e c) (room : e.holds < 10) (raised : Raised g.unit (variables_place g.unit e.level) w v) where
  low : e.level < 10
  low = omega (arith, ready.placed.level)

  only : Only (variables_place g.unit (e.level + 1)) (list_place g.unit 0) w v
  only =
      only_wider _ _ (omega (arith, variables-next g.unit e.level))
      (omega (arith, variables-next g.unit e.level, variables-end g.unit {v = e.level + 1} (omega (arith, low)))) raised.only

  pub tables-raised : Same 0 4096 w v
  tables-raised = under 0 4096 (omega arith) only

  pub counters-raised : Same 4096 counters_end w v
  counters-raised = under 4096 counters_end (omega arith) only

  pub kept-raised : (n : ℕ) → Kept g e n w v
  kept-raised n = kept-level ready.placed only (variables_up g.unit (omega arith)) (le_refl _)

  pub ready_raised : Ready s i v g e c
  ready_raised = ready_kept ready tables-raised only.size (onward_refl g c)

  -- READY THERE

  pub ready_apart : Ready s i v g (apart e) c
  ready_apart =
      let p = ready.placed in
      let f = ready.fits in
      ready_in ready_raised (apart e) c
      (record { level = omega (arith, p.level); holds = omega arith; stream = p.stream; streams = omega (arith, p.streams); function = p.function })
      ready.function
      (record { stdin = f.stdin; from = f.from; to = f.to; apart = f.apart; rest = f.rest; length = f.length; count = f.count; low = f.low; high = higher ready })

  pub ready_caught : Ready s i v g (caught e) (with_length 0 c)
  ready_caught =
      let p = ready.placed in
      let f = ready.fits in
      ready_in ready_raised (caught e) (with_length 0 c)
      (record { level = omega (arith, p.level); holds = omega arith; stream = omega arith; streams = omega (arith, p.streams); function = p.function })
      ready.function
      (record {
        stdin = f.stdin;
        from = f.from;
        to = λ q. omega (arith, f.to q);
        apart = λ q. inl (f.to q);
        rest = f.rest;
        length = omega arith;
        count = f.count;
        low = f.low;
        high = higher ready;
      })

  pub ready_fed : (n : ℕ) → n ≤ 1024 → Ready s i v g (fed e) (fed_by (stream_place g.unit e.streams) n c)
  ready_fed n h =
      let p = ready.placed in
      let f = ready.fits in
      ready_in ready_raised (fed e) (fed_by (stream_place g.unit e.streams) n c)
      (record { level = omega (arith, p.level); holds = omega arith; stream = omega (arith, p.stream); streams = omega (arith, p.streams); function = p.function })
      ready.function
      (record {
        stdin = λ q. absurd (true≢false q);
        from = λ q. omega arith;
        to = λ q. omega arith;
        apart = λ q. inr (omega (arith, p.stream));
        rest = h;
        length = f.length;
        count = f.count;
        low = f.low;
        high = higher ready;
      })

  -- EVALUATED THERE

  handed-raised : (d : Scope) → handed s v g d ≡ one_more_hold (handed s v g e) → handed s v g d ≡ one_more_hold (handed s w g e)
  handed-raised d h = h ∙ ap one_more_hold (handed-kept ready tables-raised)

  module _ {A : Type 0} (m : Means A) where
    pub does-apart : m (one_more_hold (handed s w g e)) (state_of i w g e c) ≡ does s i v g (apart e) c m
    unfolding does
    does-apart = rw (handed-raised (apart e) (handed-apart s v g e), state_raised ready.roomy ready.fits raised low (apart e) refl refl refl refl)

    pub does-caught : m (one_more_hold (handed s w g e)) (set_output (kept []) (state_of i w g e c)) ≡ does s i v g (caught e) (with_length 0 c) m
    unfolding does
    does-caught = rw (handed-raised (caught e) (handed-caught s v g e), state_fresh ready.roomy ready.fits raised low (caught e) refl refl refl)

    pub does-fed : (n : ℕ) → m (one_more_hold (handed s w g e)) (set_input (part w (stream_place g.unit e.streams) n) (state_of i w g e c))
        ≡ does s i v g (fed e) (fed_by (stream_place g.unit e.streams) n c) m
    unfolding does
    does-fed n =
        rw (
          handed-raised (fed e) (handed-fed s v g e),
          state_piped ready.roomy ready.fits raised low (fed e) refl (stream_place g.unit e.streams) n refl refl refl,
          part_away {u = w} {v = v} (stream_place g.unit e.streams) n only (inr (omega arith)),
        )

  -- AND BACK

  -- the variables and arguments of the scope around are as they were
  pub context-back : {d : Scope} {n : ℕ} {x : Bytes} → Kept g d n v x → e.level < d.level → e.holds ≤ d.holds → context (state_of i x g e c) ≡ context (state_of i w g e c)
  context-back k l h =
      state_restored k ready_raised.roomy ready.fits l h
      ∙ ap context (state_level ready.roomy ready.placed ready.fits only (le_refl _) (le_refl _))

  -- an evaluation there, as one in the scope around that ends in the course f
  abbrev pub came-back : {A : Type 0} {d : Scope} {b b' : Course} {x : Bytes} {o : Outcome A} {a : A} (f : Course) (m : Came i g d v b o a x b')
      → d.function ≡ e.function → Kept g e c.length v x → Onward g c f → Came i g e w c (ended (tt {0}) (state_of i x g e f) m.trace) (tt {0}) x f
  came-back f m h k q = record {
    trace = m.trace;
    eq = refl;
    charged = charged-before counters-raised (rw h at m.charged);
    kept = kept_trans (kept-raised c.length) k (le_refl _);
    onward = q;
  }

  -- AFTER WHAT IS CAUGHT: the context and the stream from before, the input as it was left

  pub kept-caught : {n : ℕ} {x : Bytes} → Kept g (caught e) n v x → Kept g e c.length v x
  kept-caught k = kept_fresh k (omega arith) (omega arith) (le_refl _) ready.placed.stream ready.fits.length

  pub state_back : {n : ℕ} {x : Bytes} (d : Course) → Kept g (caught e) n v x
      → set_output (output (state_of i w g e c)) (set_context (context (state_of i w g e c)) (state_of i x g (caught e) d)) ≡ state_of i x g e (back c d)
  unfolding state_of
  state_back d k =
      rw (sym (context-back k (omega arith) (omega arith)), sym (output-kept (kept_trans (kept-raised c.length) (kept-caught k) (le_refl _)))) refl

  abbrev pub came-caught : {A : Type 0} {d : Course} {x : Bytes} {o : Outcome A} {a : A} (m : Came i g (caught e) v (with_length 0 c) o a x d)
      → Came i g e w c (ended (tt {0}) (state_of i x g e (back c d)) m.trace) (tt {0}) x (back c d)
  came-caught {d = d} m =
      came-back (back c d) m refl (kept-caught m.kept)
      (record { used = m.onward.used; longer = le_refl _; short = λ h. h; low = le_refl _; high = le_refl _; count = le_refl _; from = m.onward.from; rest = m.onward.rest })
