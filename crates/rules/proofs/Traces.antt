-- The figures over every trace: the own counts add up to the steps; inclusive is the sum of the lengths of the outermost calls, never
-- below own and never above the steps.
-- Assumes nothing.
use mathlib.Core.Path.{◌≡◌, refl, sym, ◌∙◌, ap}
use mathlib.Core.Bool.{Bool, true, false, cond, ◌||◌, true≢false}
use mathlib.Core.List.{List, [], ◌∷◌, ◌++◌}
use Prim.Native.Nat.{ℕ, zero, suc, ◌+◌, ◌≤◌, ◌<◌}
use native.Mathlib.Omega.{arith}
use lib.Dec.{eqb, T, eqb→eq, eqb_refl}
use lib.ListN.{length, length-append}
use Rattle.rules.specs.Trace.{Trace, end, step, call, steps, timeline, count, sum, innermost, is_open, one_if, own, inclusive, lengths, entered, outermost, Numbered, NoEmptyCall, sum_below, Accounted}

-- counting goes over lists one after the other
pub count-append : {A : Type 0} (p : A → Bool) (xs ys : List A) → count p (xs ++ ys) ≡ count p xs + count p ys
count-append p [] ys = omega arith
count-append p (x ∷ xs) ys = let ih : count p (xs ++ ys) ≡ count p xs + count p ys = count-append p xs ys in omega arith

count_le : {A : Type 0} (p : A → Bool) (xs : List A) → count p xs ≤ length xs
count_le p [] = omega arith
count_le p (x ∷ xs) = go (p x) (count_le p xs)
  where
    go : (b : Bool) → count p xs ≤ length xs → one_if b + count p xs ≤ suc (length xs)
    go true h = omega arith
    go false h = omega arith

-- a test that passes whenever another does counts no less
pub count_weaker : {A : Type 0} (p q : A → Bool) → ((x : A) → one_if (p x) ≤ one_if (q x)) → (xs : List A) → count p xs ≤ count q xs
count_weaker p q h [] = omega arith
count_weaker p q h (x ∷ xs) = omega (arith, h x, count_weaker p q h xs)

pub sum-append : (xs ys : List ℕ) → sum (xs ++ ys) ≡ sum xs + sum ys
sum-append [] ys = omega arith
sum-append (x ∷ xs) ys = let ih : sum (xs ++ ys) ≡ sum xs + sum ys = sum-append xs ys in omega arith

-- the timeline has an entry for each step
pub timeline-length : (opened : List ℕ) (t : Trace) → length (timeline opened t) ≡ steps t
timeline-length opened end = refl
timeline-length opened (step at t) = ap suc (timeline-length opened t)
timeline-length opened (call f i t) =
    length-append (timeline (f ∷ opened) i) (timeline opened t)
    ∙ let h : length (timeline (f ∷ opened) i) ≡ steps i = timeline-length (f ∷ opened) i in
    let k : length (timeline opened t) ≡ steps t = timeline-length opened t in
    omega arith

-- while a call of f is open, every step counts
while_open : (f : ℕ) (opened : List ℕ) (t : Trace) → is_open f opened ≡ true → count (is_open f) (timeline opened t) ≡ steps t
while_open f opened end e = refl
while_open f opened (step at t) e =
    let h : count (is_open f) (timeline opened t) ≡ steps t = while_open f opened t e in
    rw e (omega arith)
while_open f opened (call g i t) e =
    count-append (is_open f) (timeline (g ∷ opened) i) (timeline opened t)
    ∙ let h : count (is_open f) (timeline (g ∷ opened) i) ≡ steps i = while_open f (g ∷ opened) i (still (eqb g f) e) in
    let k : count (is_open f) (timeline opened t) ≡ steps t = while_open f opened t e in
    omega arith
  where
    still : (b : Bool) → is_open f opened ≡ true → b || is_open f opened ≡ true
    still true e = refl
    still false e = e

-- while none is open, the steps inside the outermost calls count
while_shut : (f : ℕ) (opened : List ℕ) (t : Trace) → is_open f opened ≡ false → count (is_open f) (timeline opened t) ≡ sum (outermost f t)
while_shut f opened end e = refl
while_shut f opened (step at t) e =
    let h : count (is_open f) (timeline opened t) ≡ sum (outermost f t) = while_shut f opened t e in
    rw e (omega arith)
while_shut f opened (call g i t) e =
    count-append (is_open f) (timeline (g ∷ opened) i) (timeline opened t)
    ∙ go (eqb g f) refl (while_shut f (g ∷ opened) i) (while_shut f opened t e)
    ∙ sym (sum-append (cond (eqb g f) (steps i ∷ []) (outermost f i)) (outermost f t))
  where
    go : (b : Bool) → eqb g f ≡ b
        → (is_open f (g ∷ opened) ≡ false → count (is_open f) (timeline (g ∷ opened) i) ≡ sum (outermost f i))
        → count (is_open f) (timeline opened t) ≡ sum (outermost f t)
        → count (is_open f) (timeline (g ∷ opened) i) + count (is_open f) (timeline opened t)
        ≡ sum (cond (eqb g f) (steps i ∷ []) (outermost f i)) + sum (outermost f t)
    go true p inside k =
        let h : count (is_open f) (timeline (g ∷ opened) i) ≡ steps i = while_open f (g ∷ opened) i (rw p refl) in
        rw p (omega arith)
    go false p inside k =
        let h : count (is_open f) (timeline (g ∷ opened) i) ≡ sum (outermost f i) = inside (rw p e) in
        rw p (omega arith)

-- inclusive is the sum of the lengths of the outermost calls
pub inclusive-outermost : (f : ℕ) (t : Trace) → inclusive f t ≡ sum (outermost f t)
inclusive-outermost f t = while_shut f [] t refl

-- it is never above the steps, and main's is the steps
pub inclusive_le : (f : ℕ) (t : Trace) → inclusive f t ≤ steps t
inclusive_le f t =
    let h : length (timeline [] t) ≡ steps t = timeline-length [] t in
    omega (arith, count_le (is_open f) (timeline [] t))

pub inclusive-main : (t : Trace) → inclusive 0 (call 0 t end) ≡ steps t
inclusive-main t =
    count-append (is_open 0) (timeline (0 ∷ []) t) []
    ∙ let h : count (is_open 0) (timeline (0 ∷ []) t) ≡ steps t = while_open 0 (0 ∷ []) t refl in
    omega arith

-- own is never above inclusive: the innermost function is open
pub inner_open : (f : ℕ) (open-ones : List ℕ) → one_if (innermost f open-ones) ≤ one_if (is_open f open-ones)
inner_open f [] = omega arith
inner_open f (g ∷ gs) = go (eqb g f) (is_open f gs)
  where
    go : (b c : Bool) → one_if b ≤ one_if (b || c)
    go true c = omega arith
    go false c = omega arith

pub own_le : (f : ℕ) (t : Trace) → own f t ≤ inclusive f t
own_le f t = count_weaker (innermost f) (is_open f) (inner_open f) (timeline [] t)

pub sum-zero : (n : ℕ) → sum_below n (λ f. 0) ≡ 0
sum-zero zero = refl
sum-zero (suc n) = let h : sum_below n (λ f. 0) ≡ 0 = sum-zero n in omega arith

pub sum_add : (n : ℕ) (g h : ℕ → ℕ) → sum_below n (λ f. g f + h f) ≡ sum_below n g + sum_below n h
sum_add zero g h = refl
sum_add (suc n) g h = let ih : sum_below n (λ f. g f + h f) ≡ sum_below n g + sum_below n h = sum_add n g h in omega arith

pub sum_same : (n : ℕ) (g h : ℕ → ℕ) → ((k : ℕ) → k < n → g k ≡ h k) → sum_below n g ≡ sum_below n h
sum_same zero g h e = refl
sum_same (suc n) g h e =
    let ih : sum_below n g ≡ sum_below n h = sum_same n g h (λ k p. e k (omega arith)) in
    omega (arith, e n (omega arith))

-- a step is charged to one function
charge : ℕ → ℕ → ℕ
charge g f = one_if (eqb g f)

charge_same : (g : ℕ) → charge g g ≡ 1
unfolding charge
charge_same g = go (eqb g g) (eqb_refl g)
  where
    go : (b : Bool) → T b → one_if b ≡ 1
    go true t = refl
    go false t = absurd t

charge_other : (g f : ℕ) → ¬ (g ≡ f) → charge g f ≡ 0
unfolding charge
charge_other g f h = go (eqb g f) refl
  where
    go : (b : Bool) → eqb g f ≡ b → one_if b ≡ 0
    go true p = absurd (h (eqb→eq g f (rw p tt)))
    go false p = refl

T→true : (b : Bool) → T b → b ≡ true
T→true true t = refl
T→true false t = absurd t

charge_none : (n g : ℕ) → n ≤ g → sum_below n (charge g) ≡ 0
charge_none zero g h = refl
charge_none (suc n) g h =
    let ih : sum_below n (charge g) ≡ 0 = charge_none n g (omega arith) in
    omega (arith, charge_other g n (λ e. omega arith))

charge_one : (n g : ℕ) → g < n → sum_below n (charge g) ≡ 1
charge_one zero g h = absurd (omega arith)
charge_one (suc n) g h = go (eqb g n) refl (charge_one n g)
  where
    go : (b : Bool) → eqb g n ≡ b → (g < n → sum_below n (charge g) ≡ 1) → sum_below n (charge g) + charge g n ≡ 1
    go true p ih =
        let e : g ≡ n = eqb→eq g n (rw p tt) in
        rw (← e) (omega (arith, charge_none g g (omega arith), charge_same g))
    go false p ih =
        let ne : ¬ (g ≡ n) = λ e. true≢false (sym (T→true (eqb g n) (rw (← e) (eqb_refl g))) ∙ p) in
        omega (arith, ih (omega arith), charge_other g n ne)

-- of the functions below n, one is g
pub charged-once : (n g : ℕ) → g < n → sum_below n (λ f. one_if (eqb g f)) ≡ 1
unfolding charge
charged-once = charge_one

-- the own counts add up: with the functions 1 to n entered, each step is charged to one function from 0 to n
owns : (n g : ℕ) (gs : List ℕ) (t : Trace) → g ≤ n → Numbered n t → sum_below (suc n) (λ f. count (innermost f) (timeline (g ∷ gs) t)) ≡ steps t
unfolding charge
owns n g gs end h b = sum-zero (suc n)
owns n g gs (step at t) h b =
    sum_add (suc n) (charge g) (λ f. count (innermost f) (timeline (g ∷ gs) t))
    ∙ omega (arith, charge_one (suc n) g (omega arith), owns n g gs t h b)
owns n g gs (call f i t) h b =
    sum_same (suc n) _ _ (λ k _. count-append (innermost k) (timeline (f ∷ g ∷ gs) i) (timeline (g ∷ gs) t))
    ∙ sum_add (suc n) (λ k. count (innermost k) (timeline (f ∷ g ∷ gs) i)) (λ k. count (innermost k) (timeline (g ∷ gs) t))
    ∙ omega (arith, owns n f (g ∷ gs) i b.1 b.2, owns n g gs t h b.3)

pub own-sum : (n : ℕ) (t : Trace) → Numbered n t → sum_below (suc n) (λ f. own f (call 0 t end)) ≡ steps (call 0 t end)
own-sum n t b =
    sum_same (suc n) _ _ (λ f _. count-append (innermost f) (timeline (0 ∷ []) t) [])
    ∙ sum_add (suc n) (λ f. count (innermost f) (timeline (0 ∷ []) t)) (λ f. 0)
    ∙ omega (arith, owns n 0 [] t (omega arith) b, sum-zero (suc n))

-- main is not entered again
never_entered : (n : ℕ) (t : Trace) → Numbered n t → lengths 0 t ≡ []
never_entered n end b = refl
never_entered n (step at t) b = never_entered n t b
never_entered n (call f i t) b =
    rw (never_entered n i b.2, never_entered n t b.3) (go (eqb f 0) refl)
  where
    go : (c : Bool) → eqb f 0 ≡ c → cond {A = List ℕ} (eqb f 0) (steps i ∷ []) [] ++ [] ++ [] ≡ []
    go true e = let z : f ≡ 0 = eqb→eq f 0 (rw e tt) in absurd (omega (arith, z, b.0))
    go false e = rw e refl

-- a function that is never entered has no outermost call
entered-none : (f : ℕ) (t : Trace) → entered f t ≡ 0 → sum (outermost f t) ≡ 0
entered-none f end e = refl
entered-none f (step at t) e = entered-none f t e
entered-none f (call g i t) e = go (eqb g f) (entered-none f i) (entered-none f t) e
  where
    go : (b : Bool) → (entered f i ≡ 0 → sum (outermost f i) ≡ 0) → (entered f t ≡ 0 → sum (outermost f t) ≡ 0)
        → length (cond b (steps i ∷ []) [] ++ lengths f i ++ lengths f t) ≡ 0
        → sum (cond b (steps i ∷ []) (outermost f i) ++ outermost f t) ≡ 0
    go true hi ht e = absurd (omega (arith, e))
    go false hi ht e =
        let l : length (lengths f i ++ lengths f t) ≡ entered f i + entered f t = length-append (lengths f i) (lengths f t) in
        sum-append (outermost f i) (outermost f t) ∙ omega (arith, hi (omega (arith, e)), ht (omega (arith, e)))

-- and, if every call makes a step, one that is entered has one of some length
outermost-none : (f : ℕ) (t : Trace) → NoEmptyCall t → sum (outermost f t) ≡ 0 → entered f t ≡ 0
outermost-none f end h e = refl
outermost-none f (step at t) h e = outermost-none f t h e
outermost-none f (call g i t) h e = go (eqb g f) (outermost-none f i h.1) (outermost-none f t h.2) e
  where
    go : (b : Bool) → (sum (outermost f i) ≡ 0 → entered f i ≡ 0) → (sum (outermost f t) ≡ 0 → entered f t ≡ 0)
        → sum (cond b (steps i ∷ []) (outermost f i) ++ outermost f t) ≡ 0
        → length (cond b (steps i ∷ []) [] ++ lengths f i ++ lengths f t) ≡ 0
    go true hi ht e = absurd (omega (arith, e, h.0))
    go false hi ht e =
        let l : sum (outermost f i ++ outermost f t) ≡ sum (outermost f i) + sum (outermost f t) = sum-append (outermost f i) (outermost f t) in
        length-append (lengths f i) (lengths f t) ∙ omega (arith, hi (omega (arith, e)), ht (omega (arith, e)))

pub accounted : (n : ℕ) (t : Trace) → Numbered n t → NoEmptyCall (call 0 t end) → Accounted n (call 0 t end)
accounted n t b h = record {
  charges = own-sum n t b;
  outermost_add_up = λ f. inclusive-outermost f (call 0 t end);
  own_below = λ f. own_le f (call 0 t end);
  never_above = λ f. inclusive_le f (call 0 t end);
  entered_exactly = λ f. (
    (λ e. inclusive-outermost f (call 0 t end) ∙ entered-none f (call 0 t end) e),
    (λ e. outermost-none f (call 0 t end) h (sym (inclusive-outermost f (call 0 t end)) ∙ e)),
  );
  main_once = rw (never_entered n t b) refl;
  main_open = omega (arith, inclusive-main t);
}
