-- Utilities: what each comes to on its fields, from what was written and from how the rule ends.
-- Assumes nothing.
use Prim.Native.Nat.{ℕ, ◌≤◌, ◌<◌, ◌+◌, ◌-◌}
use native.Mathlib.Nat.{le_refl}
use native.Mathlib.Numerals.{add-one}
use native.Mathlib.Omega.{arith}
use mathlib.Core.Path.{◌≡◌, refl, sym, ap, ◌∙◌}
use mathlib.Core.Logic.{◌⊎◌}
use mathlib.Core.Bool.{Bool, true, false, cond}
use mathlib.Core.List.{[], ◌∷◌, ◌++◌}
use lib.Dec.{leb}
use lib.ListN.{length, length-append, take, drop}
use borrow.Author.Tests.{le-leb, lt-leb}
use Rattle.rules.specs.declared.Behaviour.{Behaviour}
use Rattle.rules.specs.declared.Refusal.TheVariants.{LongStream}
use Rattle.rules.specs.Syntax.{Bytes}
use Rattle.rules.specs.Trace.{end}
use Rattle.rules.specs.State.{State, Inherited, kept, dropped, Outcome, ended, refused, and_then, ◌>>=◌, ◌>>◌, output, set_output, set_input, written}
use Rattle.rules.specs.Words.{True, False, Echo, Test, Cat, Env, Other, echoed, passes, env_lines}
use Rattle.rules.specs.Refusals.{write}
use Rattle.rules.specs.Rules.{finish, run_utility}
use Rattle.rules.proofs.Outcomes.{after-end, look_at, change-at, write-dropped, write_kept}
use Rattle.memory.specs.Layout.{part, Same, row, row_from, field_at, fields_at, variables_at, variables_place, list_place, stream_place, counters_end}
use Rattle.memory.specs.Posts.{Longer, Copied, Streamed}
use Rattle.memory.specs.Abstract.{stream_if, input_if, state_of, Kept}
use Rattle.memory.proofs.Parts.{same_refl, under, part_length, part_slice}
use Rattle.memory.proofs.Places.{stream_up}
use Rattle.memory.proofs.Charging.{charged-none}
use Rattle.memory.proofs.Keeping.{kept_refl, kept-stream}
use Rattle.memory.proofs.States.{state_longer}
use Rattle.memory.specs.declared.Given.{Given}
use Rattle.memory.specs.Scope.{Scope}
use Rattle.memory.specs.declared.Course.{Course}
use Rattle.std.specs.declared.option.Option.{Option}
use Rattle.std.specs.declared.option.Option.TheVariants.{Some, None}
use Rattle.engine.specs.Values.{RunEnd}
use Rattle.engine.specs.Ends.{finished, wrote_of, Measured}
use Rattle.engine.specs.Moves.{emptied}
use Rattle.engine.specs.Meaning.{limits_given}
use Rattle.engine.specs.Post.{Onward, Came, Ran, Acts, Acted, so_far}
use Rattle.engine.proofs.Going.{onward_refl, onward_trans, fits-onward, quiet, ran_then}
use Rattle.engine.proofs.Settles.{finish-settled, onward-result}

-- HOW THEY END: a result, then Settle, in memory and course as they are by then

module _ {i w : Bytes} {g : Given} {e : Scope} {c : Course} (h : Inherited) (q : h.condition ≡ e.condition) where
  finish-later : {w' : Bytes} {c' : Course} {o : Outcome Behaviour} (r : Bool) → o ≡ finish h r (state_of i w' g e c') → Same 4096 counters_end w w' → Kept g e c.length w w' → Onward g c c'
      → Ran i g e w c o w' (finished e c' r)
  finish-later {w'} {c'} r z p k n = record { by = quiet (z ∙ finish-settled i w' g e c' h r q) p k (onward_trans n (onward-result g c' r)) }

  finish-here : {o : Outcome Behaviour} (r : Bool) → o ≡ finish h r (state_of i w g e c) → Ran i g e w c o w (finished e c r)
  finish-here r z = finish-later r z (same_refl _ _ w) (kept_refl _ _ _ w) (onward_refl g c)

-- WHAT IS WRITTEN

is-dropped : (i w : Bytes) (g : Given) (e : Scope) (c : Course) → e.dropped ≡ true → output (state_of i w g e c) ≡ dropped
unfolding state_of stream_if
is-dropped i w g e c d = rw d

is-kept : (i w : Bytes) (g : Given) (e : Scope) (c : Course) → e.dropped ≡ false → output (state_of i w g e c) ≡ kept (written (state_of i w g e c))
unfolding state_of stream_if
is-kept i w g e c d = rw d

written-length : (i w : Bytes) (g : Given) (e : Scope) (c : Course) → e.dropped ≡ false → length (written (state_of i w g e c)) ≡ c.length
unfolding state_of stream_if
written-length i w g e c d = rw d (part_length w _ _)

-- a write, and then the end of the rule
abbrev writes : (g : Given) → (at : ℕ) → (s : Bytes) → Inherited → State → Outcome Behaviour
writes g at s h st = and_then (write (limits_given g) at s st) (λ _. finish h true)

-- bytes came to a stream, measured before or afterwards
abbrev Went : (a n : ℕ) (s : Bytes) (w w' : Bytes) → Option ℕ → Type 0
Went a n s w w' (Some r) = Longer a n s w w' r
Went a n s w w' None = (1024 < n + length s) × (length w' ≡ length w)

went_streamed : (a n : ℕ) (s w w' : Bytes) (size : Option ℕ) → Streamed a n s w w' size → Went a n s w w' size
went_streamed a n s w w' (Some r) p = p
went_streamed a n s w w' None p = (p.over, p.size)

went_copied : (a n : ℕ) (s w w' : Bytes) (size : Option ℕ) → Copied a n s w w' size → Went a n s w w' size
went_copied a n s w w' (Some r) p = p
went_copied a n s w w' None p = (p.over, p.size)

-- a length that was measured is at most a stream's
went_measured : (a n : ℕ) (s w w' : Bytes) (size : Option ℕ) → Went a n s w w' size → Measured size
went_measured a n s w w' (Some r) p m q = let z : r ≡ m = cc in omega (arith, p.fits, p.count)
went_measured a n s w w' None p m q = let z : ◌≡◌ {A = ℕ} 0 1 = cc in omega arith

pub streamed_measured : (a n : ℕ) (s w w' : Bytes) (size : Option ℕ) → Streamed a n s w w' size → Measured size
streamed_measured a n s w w' size p = went_measured a n s w w' size (went_streamed a n s w w' size p)

pub copied_measured : (a n : ℕ) (s w w' : Bytes) (size : Option ℕ) → Copied a n s w w' size → Measured size
copied_measured a n s w w' size p = went_measured a n s w w' size (went_copied a n s w w' size p)

module _ {i w : Bytes} {g : Given} {e : Scope} {c : Course} {at m : ℕ} (a : Acts i w g e c at m) (h : Inherited) (q : h.condition ≡ e.condition) (s : Bytes) where
  write-nothing : e.dropped ≡ true → Ran i g e w c (writes g at s h (state_of i w g e c)) w (finished e c true)
  write-nothing d =
      finish-here h q true
      (ap (λ (o : Outcome (Unit {0})). and_then o (λ _. finish h true)) (write-dropped (limits_given g) at _ s (is-dropped i w g e c d)) ∙ after-end _)

  module _ (d : e.dropped ≡ false) where
    write_on : (b : Bool) → leb (c.length + length s) 1024 ≡ b
        → writes g at s h (state_of i w g e c)
        ≡ and_then {A = Unit {0}} (cond b (ended tt (set_output (kept (written (state_of i w g e c) ++ s)) (state_of i w g e c)) end) (refused LongStream at end)) (λ _. finish h true)
    write_on b l =
        let n : length (written (state_of i w g e c) ++ s) ≡ c.length + length s = length-append (written (state_of i w g e c)) s ∙ ap (λ (k : ℕ). k + length s) (written-length i w g e c d) in
        ap (λ (o : Outcome (Unit {0})). and_then o (λ _. finish h true))
        (write_kept (limits_given g) at _ s _ (is-kept i w g e c d)
        ∙ ap (λ (y : Bool). cond y (ended tt (set_output (kept (written (state_of i w g e c) ++ s)) (state_of i w g e c)) end) (refused LongStream at end)) (ap (λ (k : ℕ). leb k 1024) n ∙ l))

    write-some : {w' : Bytes} (size : Option ℕ) → Went (stream_place g.unit e.stream) c.length s w w' size
        → Ran i g e w c (writes g at s h (state_of i w g e c)) w' (wrote_of e c at size)
    write-some (Some n) p =
        finish-later h q true
        (write_on true (le-leb _ _ p.fits) ∙ after-end _ ∙ ap (finish h true) (sym (state_longer a.roomy a.placed a.fits s n p d)))
        (under _ _ (omega arith) p.only)
        (kept-stream a.placed p.only (omega arith) (omega (arith, p.fits)))
        (record { used = le_refl _; longer = omega (arith, p.count); short = λ _. omega (arith, p.count, p.fits); low = le_refl _; high = le_refl _; count = le_refl _; from = refl; rest = le_refl _ })
    write-some None p = record { by = record { trace = end; eq = write_on false (lt-leb _ _ p.0); size = p.1; known = a.known } }

-- FIELDS

-- the rest of a row begins with its next entry
pub row-left : {A : Type 0} (n m k : ℕ) (f : ℕ → A) → n ≡ m + 1 → row_from n f k ≡ f k ∷ row_from m f (k + 1)
unfolding row_from
row-left n m k f h = rw (h, add-one m, add-one k) refl

some-fields : (w : Bytes) (g : Given) (e : Scope) (m : ℕ) → 0 < m
    → so_far w g e m ≡ field_at g.unit w (list_place g.unit (e.holds + 1)) 0 ∷ row_from (m - 1) (field_at g.unit w (list_place g.unit (e.holds + 1))) 1
unfolding row
some-fields w g e m l = row-left m (m - 1) 0 _ (omega arith)

-- EACH OF THEM

module _ {i w : Bytes} {g : Given} {e : Scope} {c : Course} {r m : ℕ} (a : Acts i w g e c r m) where
  -- true, false, and a name that is none of theirs: the result alone
  pub acted_true : Acted i w g e c r True m w (finished e c true)
  unfolding run_utility
  acted_true h q = finish-here h q true refl

  pub acted_false : Acted i w g e c r False m w (finished e c false)
  unfolding run_utility
  acted_false h q = finish-here h q false refl

  pub acted_other : Acted i w g e c r Other m w (finished e c false)
  unfolding run_utility
  acted_other h q = finish-here h q false refl

  pub acted_test : (b : Bool) {p : ℕ} → p ≡ list_place g.unit (e.holds + 1) → b ≡ passes (fields_at g.unit w p m) → Acted i w g e c r Test m w (finished e c b)
  unfolding run_utility
  acted_test b l z h q = finish-here h q b (ap (λ (y : Bool). finish h y (state_of i w g e c)) (sym (rw l at z)))

  -- echo
  echo_on : (h : Inherited) → run_utility (limits_given g) r Echo (so_far w g e m) h (state_of i w g e c) ≡ writes g r (echoed (so_far w g e m)) h (state_of i w g e c)
  unfolding run_utility ◌>>◌ ◌>>=◌
  echo_on h = refl

  pub echo_dropped : e.dropped ≡ true → Acted i w g e c r Echo m w (finished e c true)
  echo_dropped d h q = rw (echo_on h) (write-nothing a h q _ d)

  pub echo_wrote : {w' : Bytes} {p t : ℕ} (size : Option ℕ) → e.dropped ≡ false → t ≡ stream_place g.unit e.stream → p ≡ list_place g.unit (e.holds + 1)
      → Streamed t c.length (echoed (fields_at g.unit w p m)) w w' size → Acted i w g e c r Echo m w' (wrote_of e c r size)
  echo_wrote size d s l p h q = rw (echo_on h) (write-some a h q _ d size (went_streamed _ _ _ _ _ size (rw (s, l) at p)))

  -- cat and env with a field
  pub cat-fields : 0 < m → Acted i w g e c r Cat m w (finished e c false)
  unfolding run_utility
  cat-fields l h q = rw (some-fields w g e m l) (finish-here h q false refl)

  pub env-fields : 0 < m → Acted i w g e c r Env m w (finished e c false)
  unfolding run_utility
  env-fields l h q = rw (some-fields w g e m l) (finish-here h q false refl)

  -- env
  env_on : (h : Inherited) → m ≡ 0 → run_utility (limits_given g) r Env (so_far w g e m) h (state_of i w g e c)
      ≡ writes g r (env_lines (variables_at g.unit w (variables_place g.unit e.level) g.slots)) h (state_of i w g e c)
  unfolding run_utility row row_from state_of ◌>>◌ ◌>>=◌
  env_on h z = rw z (look_at _ _ _)

  pub env-dropped : m ≡ 0 → e.dropped ≡ true → Acted i w g e c r Env m w (finished e c true)
  env-dropped z d h q = rw (env_on h z) (write-nothing a h q _ d)

  pub env-wrote : {w' : Bytes} {p t : ℕ} (size : Option ℕ) → m ≡ 0 → e.dropped ≡ false → t ≡ stream_place g.unit e.stream → p ≡ variables_place g.unit e.level
      → Streamed t c.length (env_lines (variables_at g.unit w p g.slots)) w w' size → Acted i w g e c r Env m w' (wrote_of e c r size)
  env-wrote size z d s l p h q = rw (env_on h z) (write-some a h q _ d size (went_streamed _ _ _ _ _ size (rw (s, l) at p)))

  -- cat
  no_input : (b : Bool) → input_if b i w c.from 0 ≡ []
  unfolding input_if part
  no_input true = refl
  no_input false = refl

  state_emptied : set_input [] (state_of i w g e c) ≡ state_of i w g e (emptied c)
  unfolding state_of
  state_emptied = rw (no_input e.piped) refl

  onward-emptied : Onward g c (emptied c)
  onward-emptied = record { used = le_refl _; longer = le_refl _; short = λ l. l; low = le_refl _; high = le_refl _; count = le_refl _; from = refl; rest = omega arith }

  acts_emptied : Acts i w g e (emptied c) r m
  acts_emptied = record { roomy = a.roomy; placed = a.placed; fits = fits-onward a.fits onward-emptied; known = a.known; few = a.few }

  input-piped : e.piped ≡ true → input_if e.piped i w c.from c.rest ≡ part w c.from c.rest
  unfolding input_if
  input-piped y = rw y refl

  input-stdin : e.piped ≡ false → input_if e.piped i w c.from c.rest ≡ take c.rest (drop c.from i)
  unfolding input_if
  input-stdin y = rw y (sym (part_slice i c.from c.rest (a.fits.stdin y)))

  cat_on : (h : Inherited) → m ≡ 0 → run_utility (limits_given g) r Cat (so_far w g e m) h (state_of i w g e c)
      ≡ writes g r (input_if e.piped i w c.from c.rest) h (state_of i w g e (emptied c))
  unfolding run_utility row row_from state_of ◌>>◌ ◌>>=◌
  cat_on h z = rw z (look_at _ _ _ ∙ change-at _ _ _ ∙ ap (writes g r (input_if e.piped i w c.from c.rest) h) state_emptied)

  from-emptied : {w' : Bytes} {b : RunEnd} (h : Inherited) → m ≡ 0
      → Ran i g e w (emptied c) (writes g r (input_if e.piped i w c.from c.rest) h (state_of i w g e (emptied c))) w' b
      → Ran i g e w c (run_utility (limits_given g) r Cat (so_far w g e m) h (state_of i w g e c)) w' b
  from-emptied h z p =
      let m : Came {A = Unit {0}} i g e w c (ended tt (state_of i w g e (emptied c)) end) tt w (emptied c) = record { trace = end; eq = refl; charged = charged-none (same_refl _ _ w); kept = kept_refl _ _ _ w; onward = onward-emptied } in
      ran_then _ m (cat_on h z ∙ sym (after-end _)) p

  pub cat-dropped : m ≡ 0 → e.dropped ≡ true → Acted i w g e c r Cat m w (finished e (emptied c) true)
  cat-dropped z d h q = from-emptied h z (write-nothing acts_emptied h q _ d)

  cat-wrote : {w' : Bytes} (size : Option ℕ) → m ≡ 0 → e.dropped ≡ false
      → Went (stream_place g.unit e.stream) c.length (input_if e.piped i w c.from c.rest) w w' size
      → Acted i w g e c r Cat m w' (wrote_of e (emptied c) r size)
  cat-wrote size z d p h q = from-emptied h z (write-some acts_emptied h q _ d size p)

  -- what it reads of a pipe, and of the standard input
  pub cat-piped : {w' : Bytes} {t : ℕ} (size : Option ℕ) → m ≡ 0 → e.dropped ≡ false → t ≡ stream_place g.unit e.stream → e.piped ≡ true
      → Copied t c.length (part w c.from c.rest) w w' size → Acted i w g e c r Cat m w' (wrote_of e (emptied c) r size)
  cat-piped size z d s y p = cat-wrote size z d (rw (input-piped y) (went_copied _ _ _ _ _ size (rw s at p)))

  pub cat-stdin : {w' : Bytes} {t n : ℕ} (size : Option ℕ) → m ≡ 0 → e.dropped ≡ false → t ≡ stream_place g.unit e.stream → e.piped ≡ false → n ≡ c.rest
      → Copied t c.length (take n (drop c.from i)) w w' size → Acted i w g e c r Cat m w' (wrote_of e (emptied c) r size)
  cat-stdin size z d s y x p = cat-wrote size z d (rw (input-stdin y) (went_copied _ _ _ _ _ size (rw (s, x) at p)))

  -- where the input ends
  pub piped-end : e.piped ≡ true → c.from + c.rest ≤ length w
  piped-end y = omega (arith, a.fits.to y, stream_up g.unit {k = e.streams} {k' = 11} (omega (arith, a.placed.streams, a.placed.holds)), a.roomy.room)

  -- it does not overlap the stream at t that is written
  pub piped-apart : {t : ℕ} → t ≡ stream_place g.unit e.stream → e.piped ≡ true → (c.from + c.rest ≤ t) ⊎ (t + 1024 ≤ c.from)
  piped-apart s y = rw s (a.fits.apart y)
