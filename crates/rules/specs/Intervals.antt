-- The calls of a trace as intervals of its steps: where each begins and ends, which are open at a step, and which are outermost. The
-- claims say that the figures of specs/Trace.antt, which follow the trace's shape, are what they are by the intervals alone. They hold of
-- every trace; a trace in which every call makes a step is asked for where an empty call would differ.
use Rattle.std.specs.Prelude.{◌⊎◌, ◌≡◌, Bool, false, cond, ◌&&◌, ◌||◌, List, [], ◌∷◌, ◌++◌, map, reverse, ℕ, suc, ◌+◌, ◌-◌, ◌≤◌, ◌<◌, eqb, leb, ltb, length, get_or}
use Rattle.rules.specs.Lists.{Every}
use Rattle.rules.specs.Trace.{Trace, end, step, call, steps, timeline, one_if, sum, innermost, own, inclusive, lengths, entered, outermost, NoEmptyCall, sum_below}
use Rattle.rules.specs.State.{limits_of, trace_of}
use Rattle.rules.specs.Evaluation.{run}
use Rattle.rules.specs.Cases.{exercise_a}

-- CALLS -------------------------------------------------------------------------------------------------------------

-- A call. The steps of a trace are numbered from 0.
pub record Interval : Type 0 where
  pub function : ℕ
  pub begins : ℕ  -- the step at which it begins: from here on it is open
  pub ends : ℕ  -- the first step at which it is no longer open

abbrev pub interval : (function begins ends : ℕ) → Interval
interval f b e = record { function = f; begins = b; ends = e }

-- the calls of t in the order of their beginnings, if the first step of t has the number `now`
abbrev pub calls_from : (now : ℕ) → Trace → List Interval
calls_from now end = []
calls_from now (step at t) = calls_from (suc now) t
calls_from now (call f i t) = interval f now (now + steps i) ∷ calls_from now i ++ calls_from (now + steps i) t

abbrev pub calls_of : Trace → List Interval
calls_of t = calls_from 0 t

abbrev pub function_of : Interval → ℕ
function_of c = c.function

-- how many steps begin while it is open
abbrev pub length_of : Interval → ℕ
length_of c = c.ends - c.begins

-- c is a call of f
abbrev pub is_of : (f : ℕ) → Interval → Bool
is_of f c = eqb c.function f

-- c is open at step k
abbrev pub open_at : (k : ℕ) → Interval → Bool
open_at k c = leb c.begins k && ltb k c.ends

-- c is a call of f that is open at step k
abbrev pub open_of : (f k : ℕ) → Interval → Bool
open_of f k c = is_of f c && open_at k c

-- the entries of a list that pass a test
abbrev pub passing : {A : Type 0} → (A → Bool) → List A → List A
passing p [] = []
passing p (x ∷ xs) = cond (p x) (x ∷ passing p xs) (passing p xs)

-- some entry passes
abbrev pub any : {A : Type 0} → (A → Bool) → List A → Bool
any p [] = false
any p (x ∷ xs) = p x || any p xs

-- The outermost calls: those that began while no other call of their function was open. In the order of beginnings such another call is an
-- earlier one, so the list is gone along with the calls before.
abbrev pub outermost_after : (earlier : List Interval) → List Interval → List Interval
outermost_after earlier [] = []
outermost_after earlier (c ∷ cs) =
    cond (any (open_of c.function c.begins) earlier) [] (c ∷ []) ++ outermost_after (c ∷ earlier) cs

-- the calls of f, and the outermost of them
abbrev pub calls_to : (f : ℕ) → Trace → List Interval
calls_to f t = passing (is_of f) (calls_of t)

abbrev pub outermost_to : (f : ℕ) → Trace → List Interval
outermost_to f t = passing (is_of f) (outermost_after [] (calls_of t))

-- the functions of the calls that are open at step k, the one that began last first
abbrev pub open_functions : (k : ℕ) → List Interval → List ℕ
open_functions k cs = map function_of (reverse (passing (open_at k) cs))

-- WHERE THEY LIE ----------------------------------------------------------------------------------------------------

-- from every entry of a list to every later one
abbrev pub EveryPair : {A : Type 0} → (A → A → Type 0) → List A → Type 0
EveryPair R [] = Unit {0}
EveryPair R (x ∷ xs) = Every (R x) xs × EveryPair R xs

abbrev pub Within : (outer inner : Interval) → Type 0
Within outer inner = (outer.begins ≤ inner.begins) × (inner.ends ≤ outer.ends)

abbrev pub Before : (earlier later : Interval) → Type 0
Before earlier later = earlier.ends ≤ later.begins

-- A call ends no earlier than it begins, and within the trace's steps.
abbrev pub CallsInRange : Type 0
CallsInRange = (t : Trace) → Every (λ c. (c.begins ≤ c.ends) × (c.ends ≤ steps t)) (calls_of t)

-- If every call makes a step, each ends later than it begins.
abbrev pub CallsMakeSteps : Type 0
CallsMakeSteps = (t : Trace) → NoEmptyCall t → Every (λ c. c.begins < c.ends) (calls_of t)

-- The calls stand in the order of their beginnings.
abbrev pub CallsInOrder : Type 0
CallsInOrder = (t : Trace) → EveryPair (λ earlier later. earlier.begins ≤ later.begins) (calls_of t)

-- Of any two calls, the later lies within the earlier, or begins when that has ended.
abbrev pub NestedOrApart : Type 0
NestedOrApart = (t : Trace) → EveryPair (λ earlier later. Within earlier later ⊎ Before earlier later) (calls_of t)

-- THE FIGURES BY THEM -----------------------------------------------------------------------------------------------

-- The timeline is the open calls of each step, the innermost being the one that began last.
abbrev pub TimelineOfCalls : Type 0
TimelineOfCalls =
    (t : Trace)
    → (length (timeline [] t) ≡ steps t)
    × ((k : ℕ) → k < steps t → get_or (timeline [] t) k [] ≡ open_functions k (calls_of t))

-- Own is the number of steps at which the call that began last, of those open, is one of f.
abbrev pub OwnOfCalls : Type 0
OwnOfCalls = (f : ℕ) (t : Trace) → own f t ≡ sum_below (steps t) (λ k. one_if (innermost f (open_functions k (calls_of t))))

-- Inclusive is the number of steps at which some call of f is open,
abbrev pub InclusiveBySteps : Type 0
InclusiveBySteps = (f : ℕ) (t : Trace) → inclusive f t ≡ sum_below (steps t) (λ k. one_if (any (open_of f k) (calls_of t)))

-- and the lengths of the outermost calls of f added up:
abbrev pub InclusiveOfCalls : Type 0
InclusiveOfCalls = (f : ℕ) (t : Trace) → inclusive f t ≡ sum (map length_of (outermost_to f t))

-- a step at which some call of f is open lies in one outermost call of f, any other step in none.
abbrev pub CountedOnce : Type 0
CountedOnce = (f : ℕ) (t : Trace) (k : ℕ) → length (passing (open_at k) (outermost_to f t)) ≡ one_if (any (open_of f k) (calls_of t))

-- Lengths and times entered are the lengths and the number of the calls of f.
abbrev pub LengthsOfCalls : Type 0
LengthsOfCalls = (f : ℕ) (t : Trace) → (lengths f t ≡ map length_of (calls_to f t)) × (entered f t ≡ length (calls_to f t))

-- If every call makes a step, the outermost calls are the same too. (Of two empty calls, one inside the other, neither is ever open.)
abbrev pub OutermostOfCalls : Type 0
OutermostOfCalls = (f : ℕ) (t : Trace) → NoEmptyCall t → outermost f t ≡ map length_of (outermost_to f t)

-- EXERCISE A --------------------------------------------------------------------------------------------------------

-- the trace of its run under the exercise's own limits
unfoldable pub trace_a : Trace
trace_a = trace_of (run (limits_of 0 3 37) exercise_a (120 ∷ []) [] [])

-- f is entered three times, each time inside the time before; its outermost call alone makes inclusive 31, where all three would make 60.
abbrev pub CallsOfExerciseA : Type 0
CallsOfExerciseA =
    (calls_of trace_a ≡ interval 0 0 37 ∷ interval 1 6 37 ∷ interval 1 17 37 ∷ interval 1 28 37 ∷ [])
    × (outermost_to 1 trace_a ≡ interval 1 6 37 ∷ [])
    × (inclusive 1 trace_a ≡ 31)
    × (sum (map length_of (calls_to 1 trace_a)) ≡ 60)
