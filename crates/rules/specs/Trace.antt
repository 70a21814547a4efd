-- What a run did, step by step, and the profile read off it.
-- No figure is a counter kept along the way: each is defined on the finished trace.
use Rattle.std.specs.Prelude.{◌≡◌, Bool, true, false, cond, ◌||◌, List, [], ◌∷◌, ◌++◌, ℕ, zero, suc, ◌+◌, ◌-◌, ◌≤◌, ◌<◌, eqb, ltb, length}

-- A trace: the steps in order. A call encloses what was done while it was open, so calls are matched by construction.
pub data Trace : Type 0 where
  end : Trace
  step : (at : ℕ) (rest : Trace) → Trace
  call : (f : ℕ) (inside rest : Trace) → Trace

infixr 60 ◌⨾◌
-- one trace after the other
abbrev pub ◌⨾◌ : Trace → Trace → Trace
end ⨾ u = u
(step at t) ⨾ u = step at (t ⨾ u)
(call f i t) ⨾ u = call f i (t ⨾ u)

-- A call of f that is still open, after what was done in it. The first step of its body opens it: where the body's first record was
-- refused, it never was.
abbrev pub opened : (f : ℕ) → (inside : Trace) → Trace
opened f end = end
opened f (step at t) = call f (step at t) end
opened f (call g i t) = call f (call g i t) end

-- how many steps
abbrev pub steps : Trace → ℕ
steps end = 0
steps (step at t) = suc (steps t)
steps (call f i t) = steps i + steps t

-- The beginning of a trace: what was done before step number n, counted from 0. The calls that are open then are still open.
abbrev pub first_steps : (n : ℕ) → Trace → Trace
first_steps n end = end
first_steps zero (step at t) = end
first_steps (suc n) (step at t) = step at (first_steps n t)
first_steps n (call f i t) = cond (ltb n (steps i)) (opened f (first_steps n i)) (call f i (first_steps (n - steps i) t))

-- the records that began, in order
abbrev pub places : Trace → List ℕ
places end = []
places (step at t) = at ∷ places t
places (call f i t) = places i ++ places t

-- The timeline: for each step, the functions that are open when it is made, the innermost first.
abbrev pub timeline : (opened : List ℕ) → Trace → List (List ℕ)
timeline opened end = []
timeline opened (step at t) = opened ∷ timeline opened t
timeline opened (call f i t) = timeline (f ∷ opened) i ++ timeline opened t

abbrev pub one_if : Bool → ℕ
one_if true = 1
one_if false = 0

-- how many entries of a list pass a test
abbrev pub count : {A : Type 0} → (A → Bool) → List A → ℕ
count p [] = 0
count p (x ∷ xs) = one_if (p x) + count p xs

abbrev pub sum : List ℕ → ℕ
sum [] = 0
sum (n ∷ ns) = n + sum ns

-- f is the innermost open function
abbrev pub innermost : ℕ → List ℕ → Bool
innermost f [] = false
innermost f (g ∷ gs) = eqb g f

-- f is among the open functions
abbrev pub is_open : ℕ → List ℕ → Bool
is_open f [] = false
is_open f (g ∷ gs) = eqb g f || is_open f gs

-- Own: the steps made while f is the innermost open function.
abbrev pub own : ℕ → Trace → ℕ
own f t = count (innermost f) (timeline [] t)

-- Inclusive: the steps at which f is among the open functions, however often.
abbrev pub inclusive : ℕ → Trace → ℕ
inclusive f t = count (is_open f) (timeline [] t)

-- Lengths: for each call of f, in the order of their beginnings, the steps made while it was open, inner calls included.
abbrev pub lengths : ℕ → Trace → List ℕ
lengths f end = []
lengths f (step at t) = lengths f t
lengths f (call g i t) = cond (eqb g f) (steps i ∷ []) [] ++ lengths f i ++ lengths f t

-- Times entered: how many calls of f there are.
abbrev pub entered : ℕ → Trace → ℕ
entered f t = length (lengths f t)

-- Outermost: the lengths of those calls of f that began while no other call of f was open.
abbrev pub outermost : ℕ → Trace → List ℕ
outermost f end = []
outermost f (step at t) = outermost f t
outermost f (call g i t) = cond (eqb g f) (steps i ∷ []) (outermost f i) ++ outermost f t

-- every function that t enters is one of the functions 1 to n
abbrev pub Numbered : (n : ℕ) → Trace → Type 0
Numbered n end = Unit {0}
Numbered n (step at t) = Numbered n t
Numbered n (call f i t) = (0 < f) × (f ≤ n) × Numbered n i × Numbered n t

-- every call makes a step
abbrev pub NoEmptyCall : Trace → Type 0
NoEmptyCall end = Unit {0}
NoEmptyCall (step at t) = NoEmptyCall t
NoEmptyCall (call f i t) = (0 < steps i) × NoEmptyCall i × NoEmptyCall t

-- a sum over the functions below n
abbrev pub sum_below : (n : ℕ) → (ℕ → ℕ) → ℕ
sum_below zero g = 0
sum_below (suc n) g = sum_below n g + g n

-- The figures are sound: what README's third promise says of the trace of a program with n functions beside main.
pub record Accounted (n : ℕ) (t : Trace) : Type 0 where
  -- the own counts of all functions add up to the steps
  pub charges : sum_below (suc n) (λ f. own f t) ≡ steps t
  -- a function's inclusive count is the lengths of its outermost calls added up
  pub outermost_add_up : (f : ℕ) → inclusive f t ≡ sum (outermost f t)
  -- own is never above inclusive, nor inclusive above the steps
  pub own_below : (f : ℕ) → own f t ≤ inclusive f t
  pub never_above : (f : ℕ) → inclusive f t ≤ steps t
  -- a function that was never entered has no step in it, and no other
  pub entered_exactly : (f : ℕ) → (entered f t ≡ 0 → inclusive f t ≡ 0) × (inclusive f t ≡ 0 → entered f t ≡ 0)
  -- main has one call, which lasts as long as the run
  pub main_once : entered 0 t ≡ 1
  pub main_open : inclusive 0 t ≡ steps t
