-- The graph of a run's trace: the own costs add up to the steps, and no figure is above them.
use Prim.Native.Nat.{ℕ, zero, suc, ◌≤◌, ◌+◌}
use native.Mathlib.Omega.{arith}
use native.Mathlib.Nat.{add-zero}
use mathlib.Core.Path.{◌≡◌, sym, ap, ◌∙◌, subst}
use mathlib.Core.Bool.{Bool, true, false, cond, ◌&&◌}
use mathlib.Core.List.{List, [], ◌∷◌, ◌++◌, map}
use lib.Dec.{eqb}
use lib.ListN.{length, length-append, length-map}
use Rattle.rules.specs.Lists.{Every}
use Rattle.rules.specs.Syntax.{Function, Program}
use Rattle.rules.specs.Trace.{Trace, end, step, call, ◌⨾◌, steps, timeline, count, one_if, sum, innermost, own, sum_below, Numbered}
use Rattle.rules.specs.Edges.{crosses, edge, lengths_over}
use Rattle.rules.specs.State.{Limits}
use Rattle.rules.specs.Genuine.{Begins, Genuine, nothing, begun, called, MadeBy}
use Rattle.rules.specs.Graph.{Figures, Edge, edges_from, blocks_from, figures_of, name_of, graph_of}
use Rattle.rules.proofs.Traces.{timeline-length, own_le, inclusive_le, own-sum}
use Rattle.callgrind.specs.Claims.{own_of}
use Rattle.callgrind.specs.Within.{Rising, EdgeWithin, BlockWithin, Within, ShortNames}
use Rattle.callgrind.proofs.Lines.{blocks-length}

-- CALLS, each of which begins with a step of its own

abbrev IsStep : Trace → Type 0
IsStep end = ⊥
IsStep (step at t) = Unit {0}
IsStep (call f i t) = ⊥

abbrev StepsFirst : Trace → Type 0
StepsFirst end = Unit {0}
StepsFirst (step at t) = StepsFirst t
StepsFirst (call f i t) = IsStep i × StepsFirst i × StepsFirst t

steps_then : (t u : Trace) → StepsFirst t → StepsFirst u → StepsFirst (t ⨾ u)
steps_then end u a b = b
steps_then (step at t) u a b = steps_then t u a b
steps_then (call f i t) u a b = (a.0, a.1, steps_then t u a.2 b)

begins-step : (at : ℕ) (t : Trace) → Begins at t → IsStep t
begins-step at end b = absurd b
begins-step at (step r t) b = tt
begins-step at (call f i t) b = absurd b

genuine-steps : (limits : Limits) (program : Program) {left : ℕ} (t : Trace) → Genuine limits program left t → StepsFirst t
genuine-steps limits program t nothing = tt
genuine-steps limits program t (begun n t₁ r g) = genuine-steps limits program t₁ g
genuine-steps limits program t (called at name list f k u i t₁ r e c gu b gi gt) =
    steps_then u (call f i t₁) (genuine-steps limits program u gu)
    (begins-step _ i b, genuine-steps limits program i gi, genuine-steps limits program t₁ gt)

made-steps : (limits : Limits) (program : Program) (t : Trace) → MadeBy limits program t → StepsFirst t
made-steps limits program t m =
    subst StepsFirst (sym m.is_main) (begins-step _ m.inside m.begins, genuine-steps limits program m.inside m.genuine, tt)

one_at_most : (b : Bool) (n : ℕ) → length (cond b (n ∷ []) []) ≤ 1
one_at_most true n = omega arith
one_at_most false n = omega arith

over_le : (a b : ℕ) (around : List ℕ) (t : Trace) → StepsFirst t → length (lengths_over a b around t) ≤ steps t
over_le a b around end h = omega arith
over_le a b around (step at t) h = omega (arith, over_le a b around t h)
over_le a b around (call f end t) h = absurd h.0
over_le a b around (call f (call g j k) t) h = absurd h.0
over_le a b around (call f (step at i) t) h =
    omega (
      arith,
      length-append (cond (eqb f b && innermost a around) (suc (steps i) ∷ []) [] ++ lengths_over a b (f ∷ around) i) (lengths_over a b around t),
      length-append (cond (eqb f b && innermost a around) (suc (steps i) ∷ []) []) (lengths_over a b (f ∷ around) i),
      one_at_most (eqb f b && innermost a around) (suc (steps i)),
      over_le a b (f ∷ around) i h.1,
      over_le a b around t h.2,
    )

-- STEPS

count_le : {A : Type 0} (p : A → Bool) (xs : List A) → count p xs ≤ length xs
count_le p [] = omega arith
count_le p (x ∷ xs) = go (p x) (count_le p xs)
  where
    go : (b : Bool) → count p xs ≤ length xs → one_if b + count p xs ≤ suc (length xs)
    go true h = omega arith
    go false h = omega arith

edge_le : (a b : ℕ) (t : Trace) → edge a b t ≤ steps t
edge_le a b t = omega (arith, count_le (crosses a b) (timeline [] t), timeline-length [] t)

-- GRAPHS FROM FIGURES

rising_on : (b c n : ℕ) (es : List Edge) → b ≤ c → Rising c n es → Rising b n es
rising_on b c n [] h r = tt
rising_on b c n (e ∷ es) h r = (omega (arith, r.0), r.1, r.2)

module _ (x : Figures) (most : ℕ) (own_in : (f : ℕ) → x.own f ≤ most) (calls-in : (a b : ℕ) → x.calls a b ≤ most) (edge_in : (a b : ℕ) → x.inclusive a b ≤ most) where
  edges_rise : (a b n m : ℕ) → b + n ≤ suc m → Rising b m (edges_from x a b n)
  unfolding edges_from
  edges_rise a b zero m h = tt
  edges_rise a b (suc n) m h = go (eqb (x.calls a b) 0) (edges_rise a (suc b) n m (omega arith))
    where
      go : (z : Bool) → Rising (suc b) m (edges_from x a (suc b) n)
          → Rising b m (cond z [] (record { callee = b; calls = x.calls a b; inclusive = x.inclusive a b } ∷ []) ++ edges_from x a (suc b) n)
      go true r = rising_on b (suc b) m (edges_from x a (suc b) n) (omega arith) r
      go false r = (omega arith, omega arith, r)

  edges_in : (a b n : ℕ) → Every (EdgeWithin most) (edges_from x a b n)
  unfolding edges_from
  edges_in a b zero = tt
  edges_in a b (suc n) = go (eqb (x.calls a b) 0) (edges_in a (suc b) n)
    where
      go : (z : Bool) → Every (EdgeWithin most) (edges_from x a (suc b) n)
          → Every (EdgeWithin most) (cond z [] (record { callee = b; calls = x.calls a b; inclusive = x.inclusive a b } ∷ []) ++ edges_from x a (suc b) n)
      go true r = r
      go false r = (record { calls = calls-in a b; inclusive = edge_in a b }, r)

  pub blocks_in : (n a k : ℕ) → Every (BlockWithin most n) (blocks_from x n a k)
  unfolding blocks_from
  blocks_in n a zero = tt
  blocks_in n a (suc k) =
      (record { own = own_in a; rising = edges_rise a 1 n n (omega arith); edges = edges_in a 1 n }, blocks_in n (suc a) k)

-- names of functions, as names of the graph
names_in : (functions : List Function) → Every (λ f. length f.name ≤ 63) functions → Every (λ name. length name ≤ 63) (map name_of functions)
names_in [] h = tt
names_in (f ∷ functions) h = (h.0, names_in functions h.1)

pub graph_within : (limits : Limits) (program : Program) (t : Trace) → MadeBy limits program t → (most : ℕ) → steps t ≤ most
    → ShortNames program.functions → Within most (graph_of program.functions t)
unfolding graph_of
graph_within limits program t m most h s = record {
  steps = h;
  few = omega (arith, length-map program.functions name_of, s.few);
  short = names_in program.functions s.short;
  all = blocks-length (figures_of t) (length program.functions) 0 (suc (length program.functions)) ∙ ap suc (sym (length-map program.functions name_of));
  blocks = rw (length-map program.functions name_of) (blocks_in (figures_of t) most
      (λ f. omega (arith, own_le f t, inclusive_le f t))
      (λ a b. omega (arith, over_le a b [] t (made-steps limits program t m)))
      (λ a b. omega (arith, edge_le a b t))
      (length program.functions) 0 (suc (length program.functions)));
}

-- OWN COSTS

own-blocks : (x : Figures) (n a k : ℕ) → sum_below a x.own + sum (map own_of (blocks_from x n a k)) ≡ sum_below (a + k) x.own
unfolding blocks_from
own-blocks x n a zero = add-zero _ ∙ ap (λ (m : ℕ). sum_below m x.own) (sym (add-zero a))
own-blocks x n a (suc k) =
    let ih : sum_below a x.own + x.own a + sum (map own_of (blocks_from x n (suc a) k)) ≡ sum_below (suc a + k) x.own = own-blocks x n (suc a) k in
    let next : suc a + k ≡ a + suc k = omega arith in
    omega (arith, ap (λ (m : ℕ). sum_below m x.own) next)

pub own_adds_up_lem : (functions : List Function) (t : Trace) → Numbered (length functions) t
    → sum (map own_of (graph_of functions (call 0 t end)).blocks) ≡ (graph_of functions (call 0 t end)).steps
unfolding graph_of
own_adds_up_lem functions t h =
    let none : 0 + suc (length functions) ≡ suc (length functions) = omega arith in
    omega (
      arith,
      own-blocks (figures_of (call 0 t end)) (length functions) 0 (suc (length functions)),
      ap (λ (m : ℕ). sum_below m (λ f. own f (call 0 t end))) none,
      own-sum (length functions) t h,
    )
