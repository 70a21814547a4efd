-- The calls that one function makes of another, read off the finished trace like the profile: how many there are, and the steps at which at
-- least one of them is open.
use Rattle.std.specs.Prelude.{◌≡◌, Bool, false, cond, ◌&&◌, ◌||◌, List, [], ◌∷◌, ◌++◌, ℕ, suc, ◌≤◌, ◌<◌, eqb, length}
use Rattle.rules.specs.Trace.{Trace, end, step, call, steps, timeline, count, sum, innermost, inclusive, entered, Numbered, sum_below}
use Rattle.rules.specs.Intervals.{trace_a}

-- THE FIGURES -------------------------------------------------------------------------------------------------------

-- among the open functions, the innermost first, a call of b stands directly inside one of a
abbrev pub crosses : (a b : ℕ) → List ℕ → Bool
crosses a b [] = false
crosses a b (g ∷ gs) = (eqb g b && innermost a gs) || crosses a b gs

-- Edge: the steps at which a call of b that a opened is among the open ones, however often.
abbrev pub edge : (a b : ℕ) → Trace → ℕ
edge a b t = count (crosses a b) (timeline [] t)

-- Lengths over an edge: for each call of b that began while a was innermost, in the order of their beginnings, the steps made while it was
-- open. `around` are the functions that are open around t, the innermost first.
abbrev pub lengths_over : (a b : ℕ) → (around : List ℕ) → Trace → List ℕ
lengths_over a b around end = []
lengths_over a b around (step at t) = lengths_over a b around t
lengths_over a b around (call f i t) =
    cond (eqb f b && innermost a around) (steps i ∷ []) [] ++ lengths_over a b (f ∷ around) i ++ lengths_over a b around t

-- Calls over an edge: how many calls of b were opened by a.
abbrev pub calls : (a b : ℕ) → Trace → ℕ
calls a b t = length (lengths_over a b [] t)

-- Outermost over an edge: the lengths of those of them that began while no other was open.
abbrev pub outermost_over : (a b : ℕ) → (around : List ℕ) → Trace → List ℕ
outermost_over a b around end = []
outermost_over a b around (step at t) = outermost_over a b around t
outermost_over a b around (call f i t) =
    cond (eqb f b && innermost a around) (steps i ∷ []) (outermost_over a b (f ∷ around) i) ++ outermost_over a b around t

-- OF EVERY TRACE ----------------------------------------------------------------------------------------------------

-- An edge's figure is the lengths of its outermost calls added up,
abbrev pub EdgesAddUp : Type 0
EdgesAddUp = (a b : ℕ) (t : Trace) → edge a b t ≡ sum (outermost_over a b [] t)

-- and never above the steps, nor above the inclusive count of the caller or of the callee.
abbrev pub EdgesBounded : Type 0
EdgesBounded = (a b : ℕ) (t : Trace) → (edge a b t ≤ steps t) × (edge a b t ≤ inclusive a t) × (edge a b t ≤ inclusive b t)

-- Of a trace under main that enters only the functions 1 to n: every call of a function beside main is over one edge.
abbrev pub EveryCallOverOneEdge : Type 0
EveryCallOverOneEdge =
    (n b : ℕ) (t : Trace) → Numbered n t → 0 < b → sum_below (suc n) (λ a. calls a b (call 0 t end)) ≡ entered b (call 0 t end)

-- CYCLES ------------------------------------------------------------------------------------------------------------

-- a opened a call of b
abbrev pub Met : Trace → (a b : ℕ) → Type 0
Met t a b = 0 < calls a b t

-- from a to b over one edge or more
pub data Leads (t : Trace) : (a b : ℕ) → Type 0 where
  over : {a b : ℕ} → Met t a b → Leads t a b
  and_on : {a b c : ℕ} → Met t a b → Leads t b c → Leads t a c

-- b is in no cycle with another function
abbrev pub InNoCycle : Trace → (b : ℕ) → Type 0
InNoCycle t b = (a : ℕ) → ¬ (a ≡ b) → Leads t b a → ¬ Leads t a b

-- the edges into b from the functions below m, its own self edge left out
abbrev pub into_from_others : (m b : ℕ) → Trace → ℕ
into_from_others m b t = sum_below m (λ a. cond (eqb a b) 0 (edge a b t))

-- So a viewer that adds up the edges into a function from others shows its inclusive count, where the function is in no cycle with another.
abbrev pub EdgesIntoAddUp : Type 0
EdgesIntoAddUp =
    (n b : ℕ) (t : Trace) → Numbered n t → 0 < b → InNoCycle (call 0 t end) b
    → into_from_others (suc n) b (call 0 t end) ≡ inclusive b (call 0 t end)

-- EXERCISE A --------------------------------------------------------------------------------------------------------

-- The third call of f lies inside the second, so the edge from f to itself has 20 steps, and not the 29 of both calls added up.
abbrev pub EdgesOfExerciseA : Type 0
EdgesOfExerciseA =
    (calls 0 1 trace_a ≡ 1)
    × (edge 0 1 trace_a ≡ 31)
    × (calls 1 1 trace_a ≡ 2)
    × (edge 1 1 trace_a ≡ 20)
    × (sum (lengths_over 1 1 [] trace_a) ≡ 29)
