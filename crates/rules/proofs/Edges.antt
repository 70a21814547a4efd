-- The edges of a trace, by marks: the calls of b that a opened are made calls of a function 1, and every other call one of a function 0. So
-- what is known of the calls of one function is known of those over an edge.
-- Assumes nothing.
use mathlib.Core.Path.{◌≡◌, refl, sym, ◌∙◌, ap}
use mathlib.Core.Bool.{Bool, true, false, cond, ◌&&◌, ◌||◌}
use mathlib.Core.List.{List, [], ◌∷◌, ◌++◌, append-nil, append_assoc}
use Prim.Native.Nat.{ℕ, suc, ◌+◌, ◌≤◌}
use native.Mathlib.Omega.{arith}
use borrow.Author.Tests.{ne_eqb}
use lib.Dec.{eqb}
use lib.ListN.{length, length-append}
use Rattle.rules.specs.Trace.{Trace, end, step, call, ◌⨾◌, steps, timeline, count, sum, innermost, is_open, one_if, inclusive, lengths, entered, outermost, Numbered, sum_below}
use Rattle.rules.specs.Edges.{crosses, edge, lengths_over, calls, outermost_over, EdgesAddUp, EdgesBounded, EveryCallOverOneEdge}
use Rattle.rules.proofs.Traces.{count-append, count_weaker, inner_open, inclusive-outermost, inclusive_le, sum-zero, sum_add, sum_same, charged-once}
use Rattle.rules.proofs.Intervals.{and_false}

-- MARKS -------------------------------------------------------------------------------------------------------------

-- t with its calls marked: 1 for a call of b that is opened while a is innermost, 0 for any other
abbrev pub marked : (a b : ℕ) → (around : List ℕ) → Trace → Trace
marked a b around end = end
marked a b around (step at t) = step at (marked a b around t)
marked a b around (call f i t) = call (one_if (eqb f b && innermost a around)) (marked a b (f ∷ around) i) (marked a b around t)

-- the marks of the open calls
abbrev pub marks : (a b : ℕ) → List ℕ → List ℕ
marks a b [] = []
marks a b (g ∷ gs) = one_if (eqb g b && innermost a gs) ∷ marks a b gs

-- a mark is 1 where it says so
mark-read : (c : Bool) → eqb (one_if c) 1 ≡ c
mark-read true = refl
mark-read false = refl

pub marked-steps : (a b : ℕ) (around : List ℕ) (t : Trace) → steps (marked a b around t) ≡ steps t
marked-steps a b around end = refl
marked-steps a b around (step at t) = ap suc (marked-steps a b around t)
marked-steps a b around (call f i t) = omega (arith, marked-steps a b (f ∷ around) i, marked-steps a b around t)

pub lengths-marked : (a b : ℕ) (around : List ℕ) (t : Trace) → lengths_over a b around t ≡ lengths 1 (marked a b around t)
lengths-marked a b around end = refl
lengths-marked a b around (step at t) = lengths-marked a b around t
lengths-marked a b around (call f i t) =
    rw (mark-read (eqb f b && innermost a around), marked-steps a b (f ∷ around) i, lengths-marked a b (f ∷ around) i, lengths-marked a b around t) refl

pub outermost-marked : (a b : ℕ) (around : List ℕ) (t : Trace) → outermost_over a b around t ≡ outermost 1 (marked a b around t)
outermost-marked a b around end = refl
outermost-marked a b around (step at t) = outermost-marked a b around t
outermost-marked a b around (call f i t) =
    rw (mark-read (eqb f b && innermost a around), marked-steps a b (f ∷ around) i, outermost-marked a b (f ∷ around) i, outermost-marked a b around t) refl

-- a call over the edge is open where a mark 1 is
crosses_marks : (a b : ℕ) (o : List ℕ) → crosses a b o ≡ is_open 1 (marks a b o)
crosses_marks a b [] = refl
crosses_marks a b (g ∷ gs) = rw (mark-read (eqb g b && innermost a gs), crosses_marks a b gs) refl

crossing_marked : (a b : ℕ) (around : List ℕ) (t : Trace)
    → count (crosses a b) (timeline around t) ≡ count (is_open 1) (timeline (marks a b around) (marked a b around t))
crossing_marked a b around end = refl
crossing_marked a b around (step at t) = rw (crosses_marks a b around, crossing_marked a b around t) refl
crossing_marked a b around (call f i t) =
    count-append (crosses a b) (timeline (f ∷ around) i) (timeline around t)
    ∙ omega (arith, crossing_marked a b (f ∷ around) i, crossing_marked a b around t)
    ∙ sym (count-append (is_open 1) (timeline (marks a b (f ∷ around)) (marked a b (f ∷ around) i)) (timeline (marks a b around) (marked a b around t)))

pub edge-marked : (a b : ℕ) (t : Trace) → edge a b t ≡ inclusive 1 (marked a b [] t)
edge-marked a b t = crossing_marked a b [] t

-- WHERE A TRACE STANDS ----------------------------------------------------------------------------------------------

-- of what is open around, only the innermost function matters
marked-inside : (a b g : ℕ) (o o' : List ℕ) (t : Trace) → marked a b (g ∷ o) t ≡ marked a b (g ∷ o') t
marked-inside a b g o o' end = refl
marked-inside a b g o o' (step at t) = ap (step at) (marked-inside a b g o o' t)
marked-inside a b g o o' (call f i t) = rw (marked-inside a b f (g ∷ o) (g ∷ o') i, marked-inside a b g o o' t) refl

pub lengths-inside : (a b g : ℕ) (o : List ℕ) (t : Trace) → lengths_over a b (g ∷ o) t ≡ lengths_over a b (g ∷ []) t
lengths-inside a b g o t =
    lengths-marked a b (g ∷ o) t ∙ ap (lengths 1) (marked-inside a b g o [] t) ∙ sym (lengths-marked a b (g ∷ []) t)

pub outermost-inside : (a b g : ℕ) (o : List ℕ) (t : Trace) → outermost_over a b (g ∷ o) t ≡ outermost_over a b (g ∷ []) t
outermost-inside a b g o t =
    outermost-marked a b (g ∷ o) t ∙ ap (outermost 1) (marked-inside a b g o [] t) ∙ sym (outermost-marked a b (g ∷ []) t)

-- one trace after the other
pub lengths-after : (a b : ℕ) (around : List ℕ) (t t' : Trace)
    → lengths_over a b around (t ⨾ t') ≡ lengths_over a b around t ++ lengths_over a b around t'
lengths-after a b around end t' = refl
lengths-after a b around (step at t) t' = lengths-after a b around t t'
lengths-after a b around (call f i t) t' = rw (lengths-after a b around t t') (simp append_assoc)

pub outermost-after : (a b : ℕ) (around : List ℕ) (t t' : Trace)
    → outermost_over a b around (t ⨾ t') ≡ outermost_over a b around t ++ outermost_over a b around t'
outermost-after a b around end t' = refl
outermost-after a b around (step at t) t' = outermost-after a b around t t'
outermost-after a b around (call f i t) t' = rw (outermost-after a b around t t') (simp append_assoc)

-- main is opened by no function
pub lengths-main : (a b : ℕ) (t : Trace) → lengths_over a b [] (call 0 t end) ≡ lengths_over a b (0 ∷ []) t
lengths-main a b t = rw (and_false (eqb 0 b)) (append-nil (lengths_over a b (0 ∷ []) t))

pub outermost-main : (a b : ℕ) (t : Trace) → outermost_over a b [] (call 0 t end) ≡ outermost_over a b (0 ∷ []) t
outermost-main a b t = rw (and_false (eqb 0 b)) (append-nil (outermost_over a b (0 ∷ []) t))

-- THE FIGURES -------------------------------------------------------------------------------------------------------

pub edges_add_up_lem : EdgesAddUp
edges_add_up_lem a b t = edge-marked a b t ∙ inclusive-outermost 1 (marked a b [] t) ∙ ap sum (sym (outermost-marked a b [] t))

pub edge_le : (a b : ℕ) (t : Trace) → edge a b t ≤ steps t
edge_le a b t = omega (arith, edge-marked a b t, inclusive_le 1 (marked a b [] t), marked-steps a b [] t)

-- a call over the edge is one of the callee
lengths_over_le : (a b : ℕ) (around : List ℕ) (t : Trace) → length (lengths_over a b around t) ≤ length (lengths b t)
lengths_over_le a b around end = omega arith
lengths_over_le a b around (step at t) = lengths_over_le a b around t
lengths_over_le a b around (call f i t) =
    simp length-append (go (eqb f b) (innermost a around) (lengths_over_le a b (f ∷ around) i) (lengths_over_le a b around t))
  where
    go : (c d : Bool)
        → length (lengths_over a b (f ∷ around) i) ≤ length (lengths b i)
        → length (lengths_over a b around t) ≤ length (lengths b t)
        → length (cond (c && d) (steps i ∷ []) []) + length (lengths_over a b (f ∷ around) i) + length (lengths_over a b around t)
        ≤ length (cond c (steps i ∷ []) []) + length (lengths b i) + length (lengths b t)
    go true true h k = omega arith
    go true false h k = omega arith
    go false d h k = omega arith

pub calls_le : (a b : ℕ) (t : Trace) → calls a b t ≤ entered b t
calls_le a b t = lengths_over_le a b [] t

le_one : (c : Bool) → one_if c ≤ 1
le_one true = omega arith
le_one false = omega arith

-- where a call over the edge is open, so are the callee and the caller
pub callee_open : (a b : ℕ) (o : List ℕ) → one_if (crosses a b o) ≤ one_if (is_open b o)
callee_open a b [] = omega arith
callee_open a b (g ∷ gs) = go (eqb g b) (innermost a gs) (crosses a b gs) (is_open b gs) (callee_open a b gs)
  where
    go : (c d x y : Bool) → one_if x ≤ one_if y → one_if ((c && d) || x) ≤ one_if (c || y)
    go true true x y h = omega arith
    go true false true y h = omega arith
    go true false false y h = omega arith
    go false d x y h = h

caller_open : (a b : ℕ) (o : List ℕ) → one_if (crosses a b o) ≤ one_if (is_open a o)
caller_open a b [] = omega arith
caller_open a b (g ∷ gs) =
    go (eqb g b) (innermost a gs) (crosses a b gs) (eqb g a) (is_open a gs) (inner_open a gs) (caller_open a b gs)
  where
    go : (c d x e y : Bool) → one_if d ≤ one_if y → one_if x ≤ one_if y → one_if ((c && d) || x) ≤ one_if (e || y)
    go c d x true true h k = le_one ((c && d) || x)
    go c d x true false h k = le_one ((c && d) || x)
    go c d x false true h k = le_one ((c && d) || x)
    go c true x false false h k = absurd (omega arith)
    go c false true false false h k = absurd (omega arith)
    go c false false false false h k = rw (and_false c) (omega arith)

pub edges_bounded_lem : EdgesBounded
edges_bounded_lem a b t = (
  edge_le a b t,
  count_weaker (crosses a b) (is_open a) (caller_open a b) (timeline [] t),
  count_weaker (crosses a b) (is_open b) (callee_open a b) (timeline [] t),
)

-- EVERY CALL --------------------------------------------------------------------------------------------------------

-- a call of f opened by g is one of b over the edge from g alone
over-one : (n f b g : ℕ) → g ≤ n → sum_below (suc n) (λ a. one_if (eqb f b && eqb g a)) ≡ one_if (eqb f b)
over-one n f b g h = go (eqb f b)
  where
    go : (c : Bool) → sum_below (suc n) (λ a. one_if (c && eqb g a)) ≡ one_if c
    go true = charged-once (suc n) g (omega arith)
    go false = sum-zero (suc n)

pub length-if : (c : Bool) (m : ℕ) (xs ys : List ℕ) → length (cond c (m ∷ []) [] ++ xs ++ ys) ≡ one_if c + (length xs + length ys)
length-if true m xs ys = simp length-append (omega arith)
length-if false m xs ys = simp length-append (omega arith)

each_over_one : (n b g : ℕ) (o : List ℕ) (t : Trace) → g ≤ n → Numbered n t
    → sum_below (suc n) (λ a. length (lengths_over a b (g ∷ o) t)) ≡ length (lengths b t)
each_over_one n b g o end h k = sum-zero (suc n)
each_over_one n b g o (step at t) h k = each_over_one n b g o t h k
each_over_one n b g o (call f i t) h k =
    sum_same (suc n) _ _ (λ a _. length-if (eqb f b && eqb g a) (steps i) (lengths_over a b (f ∷ g ∷ o) i) (lengths_over a b (g ∷ o) t))
    ∙ sum_add (suc n) (λ a. one_if (eqb f b && eqb g a)) (λ a. length (lengths_over a b (f ∷ g ∷ o) i) + length (lengths_over a b (g ∷ o) t))
    ∙ ap (λ m. sum_below (suc n) (λ a. one_if (eqb f b && eqb g a)) + m)
    (sum_add (suc n) (λ a. length (lengths_over a b (f ∷ g ∷ o) i)) (λ a. length (lengths_over a b (g ∷ o) t)))
    ∙ omega (arith, over-one n f b g h, each_over_one n b f (g ∷ o) i k.1 k.2, each_over_one n b g o t h k.3)
    ∙ sym (length-if (eqb f b) (steps i) (lengths b i) (lengths b t))

pub every_call_over_one_edge_lem : EveryCallOverOneEdge
every_call_over_one_edge_lem n b t h k =
    sum_same (suc n) _ _ (λ a _. ap length (lengths-main a b t))
    ∙ each_over_one n b 0 [] t (omega arith) h
    ∙ rw (ne_eqb 0 b (λ e. omega arith)) (ap length (sym (append-nil (lengths b t))))
