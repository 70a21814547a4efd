-- The claims of specs/Intervals.antt: the calls of a trace as intervals, and the figures by them.
-- Assumes nothing.
use mathlib.Core.Logic.{◌⊎◌, inl, inr}
use mathlib.Core.Path.{◌≡◌, refl, sym, ◌∙◌, ap}
use mathlib.Core.Bool.{Bool, true, false, cond, ◌&&◌, ◌||◌}
use mathlib.Core.List.{List, [], ◌∷◌, ◌++◌, map, reverse, reverse_aux, reverse-append, map-append, append-nil, append_assoc}
use Prim.Native.Nat.{ℕ, zero, suc, ◌+◌, ◌-◌, ◌≤◌, ◌<◌}
use native.Mathlib.Omega.{arith}
use native.Mathlib.Decide.{dec_lt}
use borrow.Author.Tests.{lt-ltb, le-ltb, le-leb, lt-leb}
use lib.Dec.{eqb, leb}
use lib.ListN.{length, get_or, length-map, get_or-append}
use lib.Seq.{get_or-append-add}
use Rattle.rules.specs.Lists.{Every}
use Rattle.rules.specs.Trace.{Trace, end, step, call, steps, timeline, count, one_if, innermost, is_open, lengths, NoEmptyCall, sum_below}
use Rattle.rules.specs.Intervals.{Interval, interval, calls_from, calls_of, function_of, length_of, is_of, open_at, open_of, passing, any, calls_to, open_functions, EveryPair, Within, Before}
use Rattle.rules.specs.Intervals.{CallsInRange, CallsMakeSteps, CallsInOrder, NestedOrApart, TimelineOfCalls, OwnOfCalls, InclusiveBySteps, LengthsOfCalls}
use Rattle.rules.proofs.Lists.{every_append}
use Rattle.rules.proofs.Traces.{timeline-length, sum_same}

-- LISTS -------------------------------------------------------------------------------------------------------------

every_map : {A : Type 0} (P Q : A → Type 0) (xs : List A) → ((x : A) → P x → Q x) → Every P xs → Every Q xs
every_map P Q [] g h = tt
every_map P Q (x ∷ xs) g h = (g x h.0, every_map P Q xs g h.1)

pub passing-append : {A : Type 0} (p : A → Bool) (xs ys : List A) → passing p (xs ++ ys) ≡ passing p xs ++ passing p ys
passing-append p [] ys = refl
passing-append {A} p (x ∷ xs) ys = rw (passing-append p xs ys) (go (p x) (passing p xs) (passing p ys))
  where
    go : (b : Bool) (l m : List A) → cond b (x ∷ (l ++ m)) (l ++ m) ≡ cond b (x ∷ l) l ++ m
    go true l m = refl
    go false l m = refl

pub passing-none : {A : Type 0} (p : A → Bool) (xs : List A) → Every (λ x. p x ≡ false) xs → passing p xs ≡ []
passing-none p [] h = refl
passing-none p (x ∷ xs) h = rw h.0 (passing-none p xs h.1)

pub or_false : (b : Bool) → b || false ≡ b
or_false true = refl
or_false false = refl

pub or_true : (b : Bool) → b || true ≡ true
or_true true = refl
or_true false = refl

pub and_false : (b : Bool) → b && false ≡ false
and_false true = refl
and_false false = refl

or_swap : (a b c : Bool) → a || (b || c) ≡ b || (a || c)
or_swap true true c = refl
or_swap true false c = refl
or_swap false b c = refl

or_assoc : (a b c : Bool) → (a || b) || c ≡ a || (b || c)
or_assoc true b c = refl
or_assoc false b c = refl

module _ {A : Type 0} (p : A → Bool) where
  pub any_append : (xs ys : List A) → any p (xs ++ ys) ≡ any p xs || any p ys
  any_append [] ys = refl
  any_append (x ∷ xs) ys = ap (λ b. p x || b) (any_append xs ys) ∙ sym (or_assoc (p x) (any p xs) (any p ys))

  pub any-reverse : (xs ys : List A) → any p (reverse_aux xs ys) ≡ any p xs || any p ys
  any-reverse [] ys = refl
  any-reverse (x ∷ xs) ys = any-reverse xs (x ∷ ys) ∙ or_swap (any p xs) (p x) (any p ys) ∙ sym (or_assoc (p x) (any p xs) (any p ys))

-- where none is open, none of f is
pub none_of : (f k : ℕ) (cs : List Interval) → Every (λ c. open_at k c ≡ false) cs → any (open_of f k) cs ≡ false
none_of f k [] h = refl
none_of f k (c ∷ cs) h = rw (h.0, and_false (is_of f c)) (none_of f k cs h.1)

-- WHERE THE CALLS LIE -----------------------------------------------------------------------------------------------

-- a call of a trace between two steps
Between : (from to : ℕ) → Interval → Type 0
Between from to c = (from ≤ c.begins) × (c.begins ≤ c.ends) × (c.ends ≤ to)

between : (now : ℕ) (t : Trace) → Every (Between now (now + steps t)) (calls_from now t)
unfolding Between
between now end = tt
between now (step at t) =
    every_map (Between (suc now) (suc now + steps t)) (Between now (now + suc (steps t))) (calls_from (suc now) t)
    (λ c h. (omega arith, h.1, omega arith)) (between (suc now) t)
between now (call f i t) = (
  (omega arith, omega arith, omega arith),
  every_append (Between now (now + (steps i + steps t))) (calls_from now i) (calls_from (now + steps i) t)
      (every_map (Between now (now + steps i)) (Between now (now + (steps i + steps t))) (calls_from now i)
      (λ c h. (h.0, h.1, omega arith)) (between now i))
      (every_map (Between (now + steps i) (now + steps i + steps t)) (Between now (now + (steps i + steps t))) (calls_from (now + steps i) t)
      (λ c h. (omega arith, h.1, omega arith)) (between (now + steps i) t)),
)

pub in_range : CallsInRange
unfolding Between
in_range t = every_map (Between 0 (0 + steps t)) (λ c. (c.begins ≤ c.ends) × (c.ends ≤ steps t)) (calls_of t) (λ c h. (h.1, omega arith)) (between 0 t)

pub filled-from : (now : ℕ) (t : Trace) → NoEmptyCall t → Every (λ c. c.begins < c.ends) (calls_from now t)
filled-from now end h = tt
filled-from now (step at t) h = filled-from (suc now) t h
filled-from now (call f i t) h = (
  omega (arith, h.0),
  every_append (λ c. c.begins < c.ends) (calls_from now i) (calls_from (now + steps i) t) (filled-from now i h.1)
      (filled-from (now + steps i) t h.2),
)

pub make_steps : CallsMakeSteps
make_steps t h = filled-from 0 t h

-- one call and a later one
Placed : Interval → Interval → Type 0
Placed earlier later = (earlier.begins ≤ later.begins) × (Within earlier later ⊎ Before earlier later)

pairs-append : {A : Type 0} (R : A → A → Type 0) (xs ys : List A)
    → EveryPair R xs → EveryPair R ys → Every (λ x. Every (R x) ys) xs → EveryPair R (xs ++ ys)
pairs-append R [] ys h k g = k
pairs-append R (x ∷ xs) ys h k g = (every_append (R x) xs ys h.0 g.0, pairs-append R xs ys h.1 k g.1)

pairs-map : {A : Type 0} (R S : A → A → Type 0) (xs : List A) → ((x y : A) → R x y → S x y) → EveryPair R xs → EveryPair S xs
pairs-map R S [] g h = tt
pairs-map R S (x ∷ xs) g h = (every_map (R x) (S x) xs (g x) h.0, pairs-map R S xs g h.1)

placed : (now : ℕ) (t : Trace) → EveryPair Placed (calls_from now t)
unfolding Between Placed
placed now end = tt
placed now (step at t) = placed (suc now) t
placed now (call f i t) = (
  every_append (Placed (interval f now (now + steps i))) (calls_from now i) (calls_from (now + steps i) t)
      (every_map (Between now (now + steps i)) (Placed (interval f now (now + steps i))) (calls_from now i) (λ c h. (h.0, inl (h.0, h.2)))
      (between now i))
      (every_map (Between (now + steps i) (now + steps i + steps t)) (Placed (interval f now (now + steps i))) (calls_from (now + steps i) t)
      (λ c h. (omega arith, inr h.0)) (between (now + steps i) t)),
  pairs-append Placed (calls_from now i) (calls_from (now + steps i) t) (placed now i) (placed (now + steps i) t)
      (every_map (Between now (now + steps i)) (λ x. Every (Placed x) (calls_from (now + steps i) t)) (calls_from now i)
      (λ x g.
      every_map (Between (now + steps i) (now + steps i + steps t)) (Placed x) (calls_from (now + steps i) t) (λ c h. (omega arith, inr (omega arith)))
      (between (now + steps i) t))
      (between now i)),
)

pub in_order : CallsInOrder
unfolding Placed
in_order t = pairs-map Placed (λ x y. x.begins ≤ y.begins) (calls_of t) (λ x y h. h.0) (placed 0 t)

pub nested_or_apart_lem : NestedOrApart
unfolding Placed
nested_or_apart_lem t = pairs-map Placed (λ x y. Within x y ⊎ Before x y) (calls_of t) (λ x y h. h.1) (placed 0 t)

-- LENGTHS -----------------------------------------------------------------------------------------------------------

lengths-from : (f now : ℕ) (t : Trace) → lengths f t ≡ map length_of (passing (is_of f) (calls_from now t))
lengths-from f now end = refl
lengths-from f now (step at t) = lengths-from f (suc now) t
lengths-from f now (call g i t) =
    rw (passing-append (is_of f) (calls_from now i) (calls_from (now + steps i) t), lengths-from f now i, lengths-from f (now + steps i) t)
    (go (eqb g f) (passing (is_of f) (calls_from now i)) (passing (is_of f) (calls_from (now + steps i) t)))
  where
    e : now + steps i - now ≡ steps i
    e = omega arith

    go : (b : Bool) (l m : List Interval)
        → cond b (steps i ∷ []) [] ++ map length_of l ++ map length_of m ≡ map length_of (cond b (interval g now (now + steps i) ∷ (l ++ m)) (l ++ m))
    go true l m = rw (map-append length_of l m, e) refl
    go false l m = rw (map-append length_of l m) refl

pub lengths_of_calls_lem : LengthsOfCalls
lengths_of_calls_lem f t = (lengths-from f 0 t, ap length (lengths-from f 0 t) ∙ length-map (calls_to f t) length_of)

-- THE TIMELINE ------------------------------------------------------------------------------------------------------

-- no call is open before the trace, or after it
pub shut_before : (k now : ℕ) (t : Trace) → k < now → Every (λ c. open_at k c ≡ false) (calls_from now t)
unfolding Between
shut_before k now t h = every_map (Between now (now + steps t)) (λ c. open_at k c ≡ false) (calls_from now t)
    (λ c b. rw (lt-leb c.begins k (omega arith)) refl) (between now t)

pub shut_after : (k now : ℕ) (t : Trace) → now + steps t ≤ k → Every (λ c. open_at k c ≡ false) (calls_from now t)
unfolding Between
shut_after k now t h = every_map (Between now (now + steps t)) (λ c. open_at k c ≡ false) (calls_from now t)
    (λ c b. rw (le-ltb k c.ends (omega arith)) (and_false (leb c.begins k))) (between now t)

open_append : (k : ℕ) (xs ys : List Interval) → open_functions k (xs ++ ys) ≡ open_functions k ys ++ open_functions k xs
open_append k xs ys =
    ap (λ l. map function_of (reverse l)) (passing-append (open_at k) xs ys)
    ∙ ap (map function_of) (reverse-append (passing (open_at k) xs) (passing (open_at k) ys))
    ∙ map-append function_of (reverse (passing (open_at k) ys)) (reverse (passing (open_at k) xs))

none_open : (k : ℕ) (cs : List Interval) → Every (λ c. open_at k c ≡ false) cs → open_functions k cs ≡ []
none_open k cs h = ap (λ l. map function_of (reverse l)) (passing-none (open_at k) cs h)

-- the functions that are open at a step inside a call, and at one after it
module _ (f k now : ℕ) (i t : Trace) (opened : List ℕ) where
  open_inside : now ≤ k → k < now + steps i
      → open_functions k (calls_from now (call f i t)) ++ opened ≡ open_functions k (calls_from now i) ++ (f ∷ opened)
  open_inside h g =
      ap (λ l. l ++ opened)
      (open_append k (c ∷ calls_from now i) (calls_from (now + steps i) t)
      ∙ ap (λ l. l ++ open_functions k (c ∷ calls_from now i)) (none_open k (calls_from (now + steps i) t) (shut_before k (now + steps i) t g))
      ∙ open_append k (c ∷ []) (calls_from now i)
      ∙ ap (λ l. open_functions k (calls_from now i) ++ l) is_open_lem)
      ∙ append_assoc (open_functions k (calls_from now i)) (f ∷ []) opened
    where
      c : Interval
      c = interval f now (now + steps i)

      is_open_lem : open_functions k (interval f now (now + steps i) ∷ []) ≡ f ∷ []
      is_open_lem = rw (le-leb now k h, lt-ltb k (now + steps i) g) refl

  open_behind : now + steps i ≤ k → open_functions k (calls_from now (call f i t)) ≡ open_functions k (calls_from (now + steps i) t)
  open_behind h =
      open_append k (interval f now (now + steps i) ∷ calls_from now i) (calls_from (now + steps i) t)
      ∙ ap (λ l. open_functions k (calls_from (now + steps i) t) ++ l)
      (none_open k (interval f now (now + steps i) ∷ calls_from now i)
      (rw (le-ltb k (now + steps i) h) (and_false (leb now k)), shut_after k now i h))
      ∙ append-nil (open_functions k (calls_from (now + steps i) t))

timeline-from : (opened : List ℕ) (now : ℕ) (t : Trace) (k : ℕ) → k < steps t
    → get_or (timeline opened t) k [] ≡ open_functions (now + k) (calls_from now t) ++ opened
timeline-from opened now end k h = absurd (omega arith)
timeline-from opened now (step at t) zero h =
    sym (ap (λ l. l ++ opened) (none_open (now + 0) (calls_from (suc now) t) (shut_before (now + 0) (suc now) t (omega arith))))
timeline-from opened now (step at t) (suc k) h =
    let e : suc now + k ≡ now + suc k = omega arith in
    timeline-from opened (suc now) t k (omega arith) ∙ ap (λ m. open_functions m (calls_from (suc now) t) ++ opened) e
timeline-from opened now (call f i t) k h =
    go (dec_lt k (steps i)) (timeline-from (f ∷ opened) now i k) (timeline-from opened (now + steps i) t (k - steps i))
  where
    go : Dec (k < steps i)
        → (k < steps i → get_or (timeline (f ∷ opened) i) k [] ≡ open_functions (now + k) (calls_from now i) ++ (f ∷ opened))
        → (k - steps i < steps t → get_or (timeline opened t) (k - steps i) [] ≡ open_functions (now + steps i + (k - steps i)) (calls_from (now + steps i) t) ++ opened)
        → get_or (timeline (f ∷ opened) i ++ timeline opened t) k [] ≡ open_functions (now + k) (calls_from now (call f i t)) ++ opened
    go (yes g) inside behind =
        get_or-append (timeline (f ∷ opened) i) (timeline opened t) [] k (omega (arith, timeline-length (f ∷ opened) i))
        ∙ inside g
        ∙ sym (open_inside f (now + k) now i t opened (omega arith) (omega arith))
    go (no g) inside behind =
        let e : k ≡ length (timeline (f ∷ opened) i) + (k - steps i) = omega (arith, timeline-length (f ∷ opened) i) in
        let m : now + steps i + (k - steps i) ≡ now + k = omega arith in
        ap (λ n. get_or (timeline (f ∷ opened) i ++ timeline opened t) n []) e
        ∙ get_or-append-add (timeline (f ∷ opened) i) (timeline opened t) (k - steps i) []
        ∙ behind (omega arith)
        ∙ ap (λ n. open_functions n (calls_from (now + steps i) t) ++ opened) m
        ∙ ap (λ l. l ++ opened) (sym (open_behind f (now + k) now i t opened (omega arith)))

pub timeline_of_calls_lem : TimelineOfCalls
timeline_of_calls_lem t = (timeline-length [] t, λ k h. timeline-from [] 0 t k h ∙ append-nil (open_functions (0 + k) (calls_of t)) ∙ zero_off k)
  where
    zero_off : (k : ℕ) → open_functions (0 + k) (calls_of t) ≡ open_functions k (calls_of t)
    zero_off k = let e : 0 + k ≡ k = omega arith in ap (λ n. open_functions n (calls_of t)) e

-- FIGURES BY STEPS --------------------------------------------------------------------------------------------------

sum-shift : (n : ℕ) (g : ℕ → ℕ) → sum_below (suc n) g ≡ g 0 + sum_below n (λ k. g (suc k))
sum-shift zero g = omega arith
sum-shift (suc n) g = let ih : sum_below (suc n) g ≡ g 0 + sum_below n (λ k. g (suc k)) = sum-shift n g in omega arith

count_by_place : {A : Type 0} (p : A → Bool) (d : A) (xs : List A) → count p xs ≡ sum_below (length xs) (λ k. one_if (p (get_or xs k d)))
count_by_place p d [] = refl
count_by_place p d (x ∷ xs) =
    ap (λ n. one_if (p x) + n) (count_by_place p d xs) ∙ sym (sum-shift (length xs) (λ k. one_if (p (get_or (x ∷ xs) k d))))

-- any count over the timeline is one over the steps
by-steps : (p : List ℕ → Bool) (t : Trace) → count p (timeline [] t) ≡ sum_below (steps t) (λ k. one_if (p (open_functions k (calls_of t))))
by-steps p t =
    count_by_place p [] (timeline [] t)
    ∙ ap (λ n. sum_below n (λ k. one_if (p (get_or (timeline [] t) k [])))) (timeline-length [] t)
    ∙ sum_same (steps t) (λ k. one_if (p (get_or (timeline [] t) k []))) (λ k. one_if (p (open_functions k (calls_of t))))
    (λ k h. ap (λ l. one_if (p l)) ((timeline_of_calls_lem t).1 k h))

pub own_of_calls_lem : OwnOfCalls
own_of_calls_lem f t = by-steps (innermost f) t

open_any : (f : ℕ) (cs : List Interval) → is_open f (map function_of cs) ≡ any (is_of f) cs
open_any f [] = refl
open_any f (c ∷ cs) = ap (λ b. is_of f c || b) (open_any f cs)

any-passing : (f k : ℕ) (cs : List Interval) → any (is_of f) (passing (open_at k) cs) ≡ any (open_of f k) cs
any-passing f k [] = refl
any-passing f k (c ∷ cs) = go (is_of f c) (open_at k c) refl (any-passing f k cs)
  where
    go : (b o : Bool) → is_of f c ≡ b → any (is_of f) (passing (open_at k) cs) ≡ any (open_of f k) cs
        → any (is_of f) (cond o (c ∷ passing (open_at k) cs) (passing (open_at k) cs)) ≡ (b && o) || any (open_of f k) cs
    go true true e h = rw e refl
    go false true e h = rw e h
    go true false e h = h
    go false false e h = h

pub inclusive_by_steps_lem : InclusiveBySteps
inclusive_by_steps_lem f t =
    by-steps (is_open f) t
    ∙ sum_same (steps t) (λ k. one_if (is_open f (open_functions k (calls_of t)))) (λ k. one_if (any (open_of f k) (calls_of t)))
    (λ k h. ap one_if (same k))
  where
    same : (k : ℕ) → is_open f (open_functions k (calls_of t)) ≡ any (open_of f k) (calls_of t)
    same k =
        open_any f (reverse (passing (open_at k) (calls_of t)))
        ∙ any-reverse (is_of f) (passing (open_at k) (calls_of t)) []
        ∙ or_false (any (is_of f) (passing (open_at k) (calls_of t)))
        ∙ any-passing f k (calls_of t)
