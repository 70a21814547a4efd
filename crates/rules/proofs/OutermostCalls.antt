-- The claims of specs/Intervals.antt on outermost calls: found along the list of calls, they are those that the shape of the trace has,
-- but for empty ones; so each step is counted once, and their lengths add up to inclusive.
-- Assumes nothing.
use mathlib.Core.Path.{◌≡◌, refl, sym, ◌∙◌, ap}
use mathlib.Core.Bool.{Bool, true, false, cond, ◌&&◌, ◌||◌, true≢false}
use mathlib.Core.List.{List, [], ◌∷◌, ◌++◌, map, reverse_aux, map-append, append-nil}
use Prim.Native.Nat.{ℕ, suc, ◌+◌, ◌-◌, ◌≤◌, ◌<◌}
use native.Mathlib.Omega.{arith}
use native.Mathlib.Decide.{dec_lt}
use borrow.Author.Tests.{lt-ltb, le-ltb, le-leb, lt-leb, ltb-true, ltb-false, eqb-true}
use lib.Dec.{eqb, leb, ltb}
use lib.ListN.{length, length-append}
use Rattle.rules.specs.Lists.{Every}
use Rattle.rules.specs.Trace.{Trace, end, step, call, steps, one_if, sum, outermost, NoEmptyCall}
use Rattle.rules.specs.Intervals.{Interval, interval, calls_from, calls_of, length_of, is_of, open_at, open_of, passing, any, outermost_after, outermost_to}
use Rattle.rules.specs.Intervals.{InclusiveOfCalls, CountedOnce, OutermostOfCalls}
use Rattle.rules.proofs.Lists.{every_append}
use Rattle.rules.proofs.Traces.{inclusive-outermost}
use Rattle.rules.proofs.Intervals.{passing-append, and_false, or_true, any_append, any-reverse, none_of, shut_before, shut_after, filled-from}

-- BY SHAPE ----------------------------------------------------------------------------------------------------------

-- the outermost calls of f as the shape of the trace has them
shaped : (f now : ℕ) → Trace → List Interval
shaped f now end = []
shaped f now (step at t) = shaped f (suc now) t
shaped f now (call g i t) = cond (eqb g f) (interval g now (now + steps i) ∷ []) (shaped f now i) ++ shaped f (now + steps i) t

shaped_lengths : (f now : ℕ) (t : Trace) → map length_of (shaped f now t) ≡ outermost f t
unfolding shaped
shaped_lengths f now end = refl
shaped_lengths f now (step at t) = shaped_lengths f (suc now) t
shaped_lengths f now (call g i t) =
    map-append length_of (cond (eqb g f) (interval g now (now + steps i) ∷ []) (shaped f now i)) (shaped f (now + steps i) t)
    ∙ rw (shaped_lengths f (now + steps i) t) (ap (λ l. l ++ outermost f t) (go (eqb g f) (shaped_lengths f now i)))
  where
    go : (b : Bool) → map length_of (shaped f now i) ≡ outermost f i
        → map length_of (cond b (interval g now (now + steps i) ∷ []) (shaped f now i)) ≡ cond b (steps i ∷ []) (outermost f i)
    go true h = let e : now + steps i - now ≡ steps i = omega arith in ap (λ n. n ∷ []) e
    go false h = h

-- EMPTY CALLS LEFT OUT ----------------------------------------------------------------------------------------------

-- the call makes a step
makes_step : Interval → Bool
makes_step c = ltb c.begins c.ends

-- of the calls of f that have none of f open before them, those that make a step
found : (f : ℕ) (earlier cs : List Interval) → List Interval
found f earlier cs = passing makes_step (passing (is_of f) (outermost_after earlier cs))

after-append : (earlier xs ys : List Interval)
    → outermost_after earlier (xs ++ ys) ≡ outermost_after earlier xs ++ outermost_after (reverse_aux xs earlier) ys
after-append earlier [] ys = refl
after-append earlier (x ∷ xs) ys =
    rw (after-append (x ∷ earlier) xs ys) (go (any (open_of x.function x.begins) earlier))
  where
    go : (b : Bool)
        → cond b [] (x ∷ []) ++ (outermost_after (x ∷ earlier) xs ++ outermost_after (reverse_aux xs (x ∷ earlier)) ys)
        ≡ (cond b [] (x ∷ []) ++ outermost_after (x ∷ earlier) xs) ++ outermost_after (reverse_aux xs (x ∷ earlier)) ys
    go true = refl
    go false = refl

found-append : (f : ℕ) (earlier xs ys : List Interval) → found f earlier (xs ++ ys) ≡ found f earlier xs ++ found f (reverse_aux xs earlier) ys
unfolding found
found-append f earlier xs ys =
    ap (λ l. passing makes_step (passing (is_of f) l)) (after-append earlier xs ys)
    ∙ ap (passing makes_step) (passing-append (is_of f) (outermost_after earlier xs) (outermost_after (reverse_aux xs earlier) ys))
    ∙ passing-append makes_step (passing (is_of f) (outermost_after earlier xs)) (passing (is_of f) (outermost_after (reverse_aux xs earlier) ys))

-- one call, with what came before it
module _ (f now : ℕ) (earlier : List Interval) (g : ℕ) (i : Trace) where
  abbrev the_call : Interval
  the_call = interval g now (now + steps i)

  found-call : (t : Trace)
      → found f earlier (calls_from now (call g i t))
      ≡ (found f earlier (the_call ∷ []) ++ found f (the_call ∷ earlier) (calls_from now i))
      ++ found f (reverse_aux (calls_from now i) (the_call ∷ earlier)) (calls_from (now + steps i) t)
  found-call t =
      found-append f earlier (the_call ∷ calls_from now i) (calls_from (now + steps i) t)
      ∙ ap (λ l. l ++ found f (reverse_aux (calls_from now i) (the_call ∷ earlier)) (calls_from (now + steps i) t))
      (found-append f earlier (the_call ∷ []) (calls_from now i))

  -- a call of another function is not found
  other : eqb g f ≡ false → found f earlier (the_call ∷ []) ≡ []
  unfolding found
  other e = go (any (open_of g now) earlier)
    where
      go : (b : Bool) → passing makes_step (passing (is_of f) (cond b [] (the_call ∷ []) ++ [])) ≡ []
      go true = refl
      go false = rw e refl

  -- nor is one that makes a step while one of f is open
  enclosed : (0 < steps i → any (open_of f now) earlier ≡ true) → found f earlier (the_call ∷ []) ≡ []
  unfolding found makes_step
  enclosed h = go (eqb g f) refl (ltb now (now + steps i)) refl (any (open_of g now) earlier) refl
    where
      go : (same : Bool) → eqb g f ≡ same → (some : Bool) → ltb now (now + steps i) ≡ some → (shut : Bool) → any (open_of g now) earlier ≡ shut
          → passing makes_step (passing (is_of f) (cond shut [] (the_call ∷ []) ++ [])) ≡ []
      go same e some p true q = refl
      go false e some p false q = rw e refl
      go true e false p false q = rw (e, p) refl
      go true e true p false q =
          let n : g ≡ f = eqb-true g f e in
          let k : any (open_of f now) earlier ≡ true = h (omega (arith, ltb-true now (now + steps i) p)) in
          absurd (true≢false (sym k ∙ ap (λ x. any (open_of x now) earlier) (sym n) ∙ q))

  -- one is found if none of f is open
  free : eqb g f ≡ true → any (open_of f now) earlier ≡ false → found f earlier (the_call ∷ []) ≡ passing makes_step (the_call ∷ [])
  unfolding found
  free e h = let same : any (open_of g now) earlier ≡ false = ap (λ n. any (open_of n now) earlier) (eqb-true g f e) ∙ h in
      rw (same, e) refl

  -- what is open behind the call was open before it
  behind : (m : ℕ) → now + steps i ≤ m
      → any (open_of f m) (reverse_aux (calls_from now i) (the_call ∷ earlier)) ≡ any (open_of f m) earlier
  behind m h =
      any-reverse (open_of f m) (calls_from now i) (the_call ∷ earlier)
      ∙ rw (none_of f m (calls_from now i) (shut_after m now i h), le-ltb m (now + steps i) h, and_false (leb now m), and_false (eqb g f)) refl

-- while a call of f is open, none is found
found_inside : (f : ℕ) (earlier : List Interval) (now : ℕ) (t : Trace)
    → ((m : ℕ) → now ≤ m → m < now + steps t → any (open_of f m) earlier ≡ true) → found f earlier (calls_from now t) ≡ []
unfolding found
found_inside f earlier now end h = refl
found_inside f earlier now (step at t) h = found_inside f earlier (suc now) t (λ m p q. h m (omega arith) (omega arith))
found_inside f earlier now (call g i t) h =
    found-call f now earlier g i t
    ∙ rw (
      enclosed f now earlier g i (λ p. h now (omega arith) (omega arith)),
      found_inside f (the_call f now earlier g i ∷ earlier) now i (λ m p q. rw (h m (omega arith) (omega arith)) (or_true (open_of f m (the_call f now earlier g i)))),
      found_inside f (reverse_aux (calls_from now i) (the_call f now earlier g i ∷ earlier)) (now + steps i) t
          (λ m p q. behind f now earlier g i m p ∙ h m (omega arith) (omega arith)),
    ) refl

-- while none is open, those that the shape has are found
found_outside : (f : ℕ) (earlier : List Interval) (now : ℕ) (t : Trace)
    → ((m : ℕ) → now ≤ m → any (open_of f m) earlier ≡ false) → found f earlier (calls_from now t) ≡ passing makes_step (shaped f now t)
unfolding found shaped
found_outside f earlier now end h = refl
found_outside f earlier now (step at t) h = found_outside f earlier (suc now) t (λ m p. h m (omega arith))
found_outside f earlier now (call g i t) h =
    found-call f now earlier g i t
    ∙ go (eqb g f) refl (found_inside f (c ∷ earlier) now i) (found_outside f (c ∷ earlier) now i)
    (found_outside f (reverse_aux (calls_from now i) (c ∷ earlier)) (now + steps i) t (λ m p. behind f now earlier g i m p ∙ h m (omega arith)))
    ∙ sym (passing-append makes_step (cond (eqb g f) (c ∷ []) (shaped f now i)) (shaped f (now + steps i) t))
  where
    c : Interval
    c = interval g now (now + steps i)

    go : (b : Bool) → eqb g f ≡ b
        → (((m : ℕ) → now ≤ m → m < now + steps i → any (open_of f m) (c ∷ earlier) ≡ true) → found f (c ∷ earlier) (calls_from now i) ≡ [])
        → (((m : ℕ) → now ≤ m → any (open_of f m) (c ∷ earlier) ≡ false)
        → found f (c ∷ earlier) (calls_from now i) ≡ passing makes_step (shaped f now i))
        → found f (reverse_aux (calls_from now i) (c ∷ earlier)) (calls_from (now + steps i) t) ≡ passing makes_step (shaped f (now + steps i) t)
        → (found f earlier (c ∷ []) ++ found f (c ∷ earlier) (calls_from now i))
        ++ found f (reverse_aux (calls_from now i) (c ∷ earlier)) (calls_from (now + steps i) t)
        ≡ passing makes_step (cond (eqb g f) (c ∷ []) (shaped f now i)) ++ passing makes_step (shaped f (now + steps i) t)
    go true e inside outside rest =
        let none : found f (c ∷ earlier) (calls_from now i) ≡ [] = inside (λ m p q. rw (e, le-leb now m p, lt-ltb m (now + steps i) q) refl) in
        let one : found f earlier (c ∷ []) ≡ passing makes_step (c ∷ []) = free f now earlier g i e (h now (omega arith)) in
        rw (one, none, rest, e, append-nil (passing makes_step (c ∷ []))) refl
    go false e inside outside rest =
        let none : found f earlier (c ∷ []) ≡ [] = other f now earlier g i e in
        let those : found f (c ∷ earlier) (calls_from now i) ≡ passing makes_step (shaped f now i) = outside (λ m p. rw e (h m p)) in
        rw (none, those, rest, e) refl

-- so with nothing before
found_all : (f : ℕ) (t : Trace) → passing makes_step (outermost_to f t) ≡ passing makes_step (shaped f 0 t)
unfolding found
found_all f t = found_outside f [] 0 t (λ m p. refl)

-- THE CLAIMS --------------------------------------------------------------------------------------------------------

-- an empty call has no length, and is never open
sum-filled : (cs : List Interval) → sum (map length_of cs) ≡ sum (map length_of (passing makes_step cs))
unfolding makes_step
sum-filled [] = refl
sum-filled (c ∷ cs) = go (ltb c.begins c.ends) refl (sum-filled cs)
  where
    go : (b : Bool) → ltb c.begins c.ends ≡ b → sum (map length_of cs) ≡ sum (map length_of (passing makes_step cs))
        → c.ends - c.begins + sum (map length_of cs) ≡ sum (map length_of (cond b (c ∷ passing makes_step cs) (passing makes_step cs)))
    go true e h = omega arith
    go false e h = omega (arith, ltb-false c.begins c.ends e)

open_filled : (k : ℕ) (cs : List Interval) → passing (open_at k) cs ≡ passing (open_at k) (passing makes_step cs)
unfolding makes_step
open_filled k [] = refl
open_filled k (c ∷ cs) = rw (open_filled k cs) (go (ltb c.begins c.ends) refl (dec_lt k c.begins))
  where
    rest : List Interval
    rest = passing makes_step cs

    go : (b : Bool) → ltb c.begins c.ends ≡ b → Dec (k < c.begins)
        → cond (open_at k c) (c ∷ passing (open_at k) rest) (passing (open_at k) rest) ≡ passing (open_at k) (cond b (c ∷ rest) rest)
    go true e d = refl
    go false e (yes p) = rw (lt-leb c.begins k p) refl
    go false e (no p) = rw (le-ltb k c.ends (omega (arith, ltb-false c.begins c.ends e)), and_false (leb c.begins k)) refl

pub inclusive_of_calls_lem : InclusiveOfCalls
inclusive_of_calls_lem f t =
    inclusive-outermost f t
    ∙ ap sum (sym (shaped_lengths f 0 t))
    ∙ sum-filled (shaped f 0 t)
    ∙ ap (λ l. sum (map length_of l)) (sym (found_all f t))
    ∙ sym (sum-filled (outermost_to f t))

-- at most one of two
exclusive : (a b : Bool) → (a ≡ true → b ≡ false) → one_if a + one_if b ≡ one_if (a || b)
exclusive true b h = rw (h refl) (omega arith)
exclusive false b h = omega arith

-- a step lies in one outermost call of f, or no call of f is open at it
once : (f k now : ℕ) (t : Trace) → length (passing (open_at k) (shaped f now t)) ≡ one_if (any (open_of f k) (calls_from now t))
unfolding shaped
once f k now end = refl
once f k now (step at t) = once f k (suc now) t
once f k now (call g i t) =
    ap length (passing-append (open_at k) (cond (eqb g f) (c ∷ []) (shaped f now i)) (shaped f (now + steps i) t))
    ∙ length-append (passing (open_at k) (cond (eqb g f) (c ∷ []) (shaped f now i))) (passing (open_at k) (shaped f (now + steps i) t))
    ∙ rw (once f k (now + steps i) t, any_append (open_of f k) (calls_from now i) (calls_from (now + steps i) t))
    (go (eqb g f) (open_at k c) refl (once f k now i))
  where
    c : Interval
    c = interval g now (now + steps i)

    open_call : now ≤ k → k < now + steps i → open_at k c ≡ true
    open_call p q = rw (le-leb now k p, lt-ltb k (now + steps i) q) refl

    later-none : k < now + steps i → any (open_of f k) (calls_from (now + steps i) t) ≡ false
    later-none p = none_of f k (calls_from (now + steps i) t) (shut_before k (now + steps i) t p)

    inner-none : open_at k c ≡ false → Dec (k < now) → Dec (k < now + steps i) → any (open_of f k) (calls_from now i) ≡ false
    inner-none e (yes p) d = none_of f k (calls_from now i) (shut_before k now i p)
    inner-none e (no p) (yes q) = absurd (true≢false (sym (open_call (omega arith) q) ∙ e))
    inner-none e (no p) (no q) = none_of f k (calls_from now i) (shut_after k now i (omega arith))

    ended : open_at k c ≡ true → Dec (k < now + steps i) → k < now + steps i
    ended e (yes q) = q
    ended e (no q) = absurd (true≢false (sym e ∙ rw (le-ltb k (now + steps i) (omega arith)) (and_false (leb now k))))

    go : (b o : Bool) → open_at k c ≡ o
        → length (passing (open_at k) (shaped f now i)) ≡ one_if (any (open_of f k) (calls_from now i))
        → length (passing (open_at k) (cond b (c ∷ []) (shaped f now i))) + one_if (any (open_of f k) (calls_from (now + steps i) t))
        ≡ one_if ((b && open_at k c) || (any (open_of f k) (calls_from now i) || any (open_of f k) (calls_from (now + steps i) t)))
    go true true e h = rw (e, later-none (ended e (dec_lt k (now + steps i)))) (omega arith)
    go true false e h = rw (e, inner-none e (dec_lt k now) (dec_lt k (now + steps i))) (omega arith)
    go false true e h =
        rw h (exclusive (any (open_of f k) (calls_from now i)) (any (open_of f k) (calls_from (now + steps i) t))
        (λ _. later-none (ended e (dec_lt k (now + steps i)))))
    go false false e h = rw (h, inner-none e (dec_lt k now) (dec_lt k (now + steps i))) (omega arith)

pub counted-once : CountedOnce
counted-once f t k =
    ap length (open_filled k (outermost_to f t) ∙ ap (passing (open_at k)) (found_all f t) ∙ sym (open_filled k (shaped f 0 t)))
    ∙ once f k 0 t

-- if every call makes a step, nothing is left out
module _ {A : Type 0} (P : A → Type 0) where
  every_passing : (p : A → Bool) (xs : List A) → Every P xs → Every P (passing p xs)
  every_passing p [] h = tt
  every_passing p (x ∷ xs) h = go (p x) (every_passing p xs h.1)
    where
      go : (b : Bool) → Every P (passing p xs) → Every P (cond b (x ∷ passing p xs) (passing p xs))
      go true k = (h.0, k)
      go false k = k

every_after : (P : Interval → Type 0) (earlier cs : List Interval) → Every P cs → Every P (outermost_after earlier cs)
every_after P earlier [] h = tt
every_after P earlier (c ∷ cs) h = go (any (open_of c.function c.begins) earlier) (every_after P (c ∷ earlier) cs h.1)
  where
    go : (b : Bool) → Every P (outermost_after (c ∷ earlier) cs) → Every P (cond b [] (c ∷ []) ++ outermost_after (c ∷ earlier) cs)
    go true k = k
    go false k = (h.0, k)

abbrev Lasting : Interval → Type 0
Lasting c = c.begins < c.ends

shaped_filled : (f now : ℕ) (t : Trace) → NoEmptyCall t → Every Lasting (shaped f now t)
unfolding shaped
shaped_filled f now end h = tt
shaped_filled f now (step at t) h = shaped_filled f (suc now) t h
shaped_filled f now (call g i t) h =
    every_append Lasting (cond (eqb g f) (interval g now (now + steps i) ∷ []) (shaped f now i)) (shaped f (now + steps i) t)
    (go (eqb g f) (shaped_filled f now i h.1)) (shaped_filled f (now + steps i) t h.2)
  where
    go : (b : Bool) → Every Lasting (shaped f now i) → Every Lasting (cond b (interval g now (now + steps i) ∷ []) (shaped f now i))
    go true k = (omega (arith, h.0), tt)
    go false k = k

all-lasting : (cs : List Interval) → Every Lasting cs → passing makes_step cs ≡ cs
unfolding makes_step
all-lasting [] h = refl
all-lasting (c ∷ cs) h = rw (lt-ltb c.begins c.ends h.0, all-lasting cs h.1) refl

pub outermost_of_calls_lem : OutermostOfCalls
outermost_of_calls_lem f t h =
    sym (shaped_lengths f 0 t)
    ∙ ap (map length_of)
    (sym (all-lasting (shaped f 0 t) (shaped_filled f 0 t h))
    ∙ sym (found_all f t)
    ∙ all-lasting (outermost_to f t)
    (every_passing Lasting (is_of f) (outermost_after [] (calls_of t)) (every_after Lasting [] (calls_of t) (filled-from 0 t h))))
