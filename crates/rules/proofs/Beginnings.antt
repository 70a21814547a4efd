-- The beginning of a trace (`first_steps`): of two traces one after the other, and how many steps and which records it has.
-- Assumes nothing.
use mathlib.Core.Path.{◌≡◌, refl, sym, ◌∙◌, ap, subst}
use mathlib.Core.Bool.{Bool, true, false, cond, ◌&&◌}
use mathlib.Core.List.{List, [], ◌∷◌, ◌++◌, append-nil}
use Prim.Native.Nat.{ℕ, zero, suc, ◌+◌, ◌-◌, ◌≤◌, ◌<◌}
use native.Mathlib.Omega.{arith}
use lib.Dec.{ltb, T, ltb→lt, lt→ltb}
use lib.ListN.{length, take, length-append}
use Rattle.rules.specs.Trace.{Trace, end, step, call, ◌⨾◌, opened, steps, first_steps, places, timeline}
use Rattle.rules.proofs.Traces.{timeline-length}

pub steps_then : (t u : Trace) → steps (t ⨾ u) ≡ steps t + steps u
steps_then end u = omega arith
steps_then (step at t) u = let h : steps (t ⨾ u) ≡ steps t + steps u = steps_then t u in omega arith
steps_then (call f i t) u = let h : steps (t ⨾ u) ≡ steps t + steps u = steps_then t u in omega arith

pub steps-opened : (f : ℕ) (t : Trace) → steps (opened f t) ≡ steps t
steps-opened f end = refl
steps-opened f (step at t) = omega arith
steps-opened f (call g i t) = omega arith

-- with a step made, the call was open
pub opened_some : (f : ℕ) (t : Trace) → 0 < steps t → opened f t ≡ call f t end
opened_some f end h = absurd (omega arith)
opened_some f (step at t) h = refl
opened_some f (call g i t) h = refl

-- TESTS

pub both_hold : (a b : Bool) → T (a && b) → T a × T b
both_hold true b h = (tt, h)
both_hold false b h = absurd h

pub true_if_lt : (m n : ℕ) → m < n → ltb m n ≡ true
true_if_lt m n h = go (ltb m n) (lt→ltb m n h)
  where
    go : (b : Bool) → T b → b ≡ true
    go true t = refl
    go false t = absurd t

pub le_if_false : (m n : ℕ) → ltb m n ≡ false → n ≤ m
le_if_false m n e = let h : ¬ (m < n) = λ l. subst T e (lt→ltb m n l) in omega (arith, h)

false_if_le : (m n : ℕ) → n ≤ m → ltb m n ≡ false
false_if_le m n h = go (ltb m n) refl
  where
    go : (b : Bool) → ltb m n ≡ b → b ≡ false
    go true e = let l : m < n = ltb→lt m n (rw e tt) in absurd (omega arith)
    go false e = refl

-- TWO TRACES, one after the other

pub first_of_two : (t u : Trace) (n : ℕ) → n < steps t → first_steps n (t ⨾ u) ≡ first_steps n t
first_of_two end u n h = absurd (omega arith)
first_of_two (step at t) u zero h = refl
first_of_two (step at t) u (suc n) h = ap (step at) (first_of_two t u n (omega arith))
first_of_two (call f i t) u n h = go (ltb n (steps i)) refl (first_of_two t u (n - steps i))
  where
    go : (b : Bool) → ltb n (steps i) ≡ b
        → (n - steps i < steps t → first_steps (n - steps i) (t ⨾ u) ≡ first_steps (n - steps i) t)
        → cond b (opened f (first_steps n i)) (call f i (first_steps (n - steps i) (t ⨾ u)))
        ≡ cond b (opened f (first_steps n i)) (call f i (first_steps (n - steps i) t))
    go true e ih = refl
    go false e ih =
        let l : steps i ≤ n = le_if_false n (steps i) e in
        ap (call f i) (ih (omega arith))

pub second_of_two : (t u : Trace) (n m : ℕ) → m ≡ steps t + n → first_steps m (t ⨾ u) ≡ t ⨾ first_steps n u
second_of_two end u n m e = ap (λ (k : ℕ). first_steps k u) (omega arith)
second_of_two (step at t) u n zero e = absurd (omega arith)
second_of_two (step at t) u n (suc m) e = ap (step at) (second_of_two t u n m (omega arith))
second_of_two (call f i t) u n m e =
    rw (false_if_le m (steps i) (omega arith)) (ap (call f i) (second_of_two t u n (m - steps i) (omega arith)))

-- WHICH STEPS THEY ARE

take-first : {A : Type 0} (n : ℕ) (xs ys : List A) → n ≤ length xs → take n (xs ++ ys) ≡ take n xs
take-first zero xs ys h = refl
take-first (suc n) [] ys h = absurd (omega arith)
take-first (suc n) (x ∷ xs) ys h = ap (λ l. x ∷ l) (take-first n xs ys (omega arith))

take_second : {A : Type 0} (n : ℕ) (xs ys : List A) → length xs ≤ n → take n (xs ++ ys) ≡ xs ++ take (n - length xs) ys
take_second n [] ys h =
    let e : n ≡ n - 0 = omega arith in
    ap (λ (k : ℕ). take k ys) e
take_second zero (x ∷ xs) ys h = absurd (omega arith)
take_second (suc n) (x ∷ xs) ys h =
    let e : n - length xs ≡ suc n - suc (length xs) = omega arith in
    ap (λ l. x ∷ l) (take_second n xs ys (omega arith) ∙ ap (λ (k : ℕ). xs ++ take k ys) e)

take_none : {A : Type 0} (n : ℕ) → take {A = A} n [] ≡ []
take_none zero = refl
take_none (suc n) = refl

-- a call cut short inside, or after it
by_call : {A : Type 0} (n m : ℕ) (xs ys first rest : List A) → length xs ≡ m → first ≡ take n xs → rest ≡ take (n - m) ys
    → cond (ltb n m) first (xs ++ rest) ≡ take n (xs ++ ys)
by_call n m xs ys first rest e f r = go (ltb n m) refl
  where
    go : (b : Bool) → ltb n m ≡ b → cond b first (xs ++ rest) ≡ take n (xs ++ ys)
    go true p =
        let l : n < m = ltb→lt n m (rw p tt) in
        f ∙ sym (take-first n xs ys (omega arith))
    go false p =
        let l : m ≤ n = le_if_false n m p in
        ap (λ k. xs ++ k) r ∙ ap (λ (k : ℕ). xs ++ take (n - k) ys) (sym e) ∙ sym (take_second n xs ys (omega arith))

through : {A : Type 0} (read : Trace → List A) (b : Bool) (t u : Trace) → read (cond b t u) ≡ cond b (read t) (read u)
through read true t u = refl
through read false t u = refl

places-opened : (f : ℕ) (t : Trace) → places (opened f t) ≡ places t
places-opened f end = refl
places-opened f (step at t) = append-nil (places (step at t))
places-opened f (call g i t) = append-nil (places (call g i t))

pub places-length : (t : Trace) → length (places t) ≡ steps t
places-length end = refl
places-length (step at t) = ap suc (places-length t)
places-length (call f i t) = length-append (places i) (places t) ∙ omega (arith, places-length i, places-length t)

pub places-first : (n : ℕ) (t : Trace) → places (first_steps n t) ≡ take n (places t)
places-first n end = sym (take_none n)
places-first zero (step at t) = refl
places-first (suc n) (step at t) = ap (λ l. at ∷ l) (places-first n t)
places-first n (call f i t) =
    through places (ltb n (steps i)) _ _
    ∙ by_call n (steps i) (places i) (places t) _ _ (places-length i) (places-opened f (first_steps n i) ∙ places-first n i) (places-first (n - steps i) t)

pub timeline-opened : (f : ℕ) (others : List ℕ) (t : Trace) → timeline others (opened f t) ≡ timeline (f ∷ others) t
timeline-opened f others end = refl
timeline-opened f others (step at t) = append-nil (timeline (f ∷ others) (step at t))
timeline-opened f others (call g i t) = append-nil (timeline (f ∷ others) (call g i t))

pub timeline-first : (n : ℕ) (t : Trace) (others : List ℕ) → timeline others (first_steps n t) ≡ take n (timeline others t)
timeline-first n end others = sym (take_none n)
timeline-first zero (step at t) others = refl
timeline-first (suc n) (step at t) others = ap (λ l. others ∷ l) (timeline-first n t others)
timeline-first n (call f i t) others =
    through (timeline others) (ltb n (steps i)) _ _
    ∙ by_call n (steps i) (timeline (f ∷ others) i) (timeline others t) _ _ (timeline-length (f ∷ others) i)
    (timeline-opened f others (first_steps n i) ∙ timeline-first n i (f ∷ others)) (timeline-first (n - steps i) t others)
