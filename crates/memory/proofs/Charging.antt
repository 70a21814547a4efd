-- The counters and the edges against the trace: steps, calls, and one trace after another.
use Prim.Native.Nat.{ℕ, ◌≤◌, ◌<◌, ◌+◌, ◌*◌}
use native.Mathlib.Omega.{arith}
use native.Mathlib.Decide.{ℕ_discrete, dec_lt}
use mathlib.Core.Path.{◌≡◌, refl, sym, ap, ◌∙◌}
use mathlib.Core.Logic.{◌⊎◌, inl, inr}
use mathlib.Core.Bool.{Bool, true, false, cond, ◌&&◌}
use mathlib.Core.List.{List, [], ◌∷◌, ◌++◌, append-nil}
use lib.ListN.{length, get_or, length-append}
use lib.Dec.{eqb}
use borrow.Author.Tests.{eq-eqb, ne_eqb}
use Rattle.rules.specs.Trace.{Trace, end, step, call, ◌⨾◌, steps, timeline, count, innermost, one_if, lengths, outermost, sum, own, entered}
use Rattle.rules.specs.Edges.{lengths_over, outermost_over, calls, edge}
use Rattle.rules.proofs.Traces.{count-append, sum-append, inclusive-outermost, inclusive_le, own_le}
use Rattle.rules.proofs.Edges.{lengths-inside, outermost-inside, lengths-after, outermost-after, lengths-main, outermost-main, edges_add_up_lem, edge_le, calls_le}
use Rattle.memory.specs.Layout.{Same, Only, number_at, counter_place, own_place, entered_place, edge_place, edge_calls_place, counters_end}
use Rattle.memory.specs.Profile.{Counted, Begun, Closed, CallBegun, CallEnded, Grown, CellGrown, Charged, Profiled}
use Rattle.memory.specs.declared.Opened.{Opened}
use Rattle.memory.proofs.Parts.{only_wider, only_trans, under, over, same-within}
use Rattle.memory.proofs.Texts.{like_same, number_like}
use Rattle.memory.proofs.Counters.{number_under, number-over}
use Rattle.memory.proofs.Cells.{counted-grown, grown-same, grown_then, grown-by, grown_around, CellKept, cell_same, cell_none, cell_then, cell_around, cell_by, cell_call, closed_bounds}

-- FIGURES OF TRACES

-- what is innermost does not depend on what is open further out
own-inside : (f g : ℕ) (o : List ℕ) (t : Trace) → count (innermost f) (timeline (g ∷ o) t) ≡ count (innermost f) (timeline (g ∷ []) t)
own-inside f g o end = refl
own-inside f g o (step at t) = ap (λ n. one_if (eqb g f) + n) (own-inside f g o t)
own-inside f g o (call h i t) =
    count-append (innermost f) (timeline (h ∷ g ∷ o) i) (timeline (g ∷ o) t)
    ∙ (omega (arith, own-inside f h (g ∷ o) i, own-inside f g o t, own-inside f h (g ∷ []) i))
    ∙ sym (count-append (innermost f) (timeline (h ∷ g ∷ []) i) (timeline (g ∷ []) t))

own_then : (f : ℕ) (o : List ℕ) (t t' : Trace) → count (innermost f) (timeline o (t ⨾ t')) ≡ count (innermost f) (timeline o t) + count (innermost f) (timeline o t')
own_then f o end t' = omega arith
own_then f o (step at t) t' = omega (arith, own_then f o t t')
own_then f o (call h i t) t' =
    count-append (innermost f) (timeline (h ∷ o) i) (timeline o (t ⨾ t'))
    ∙ omega (arith, own_then f o t t', count-append (innermost f) (timeline (h ∷ o) i) (timeline o t))

entered_then : (f : ℕ) (t t' : Trace) → length (lengths f (t ⨾ t')) ≡ length (lengths f t) + length (lengths f t')
entered_then f end t' = omega arith
entered_then f (step at t) t' = entered_then f t t'
entered_then f (call h i t) t' = simp length-append (omega (arith, entered_then f t t'))

outermost_then : (f : ℕ) (t t' : Trace) → sum (outermost f (t ⨾ t')) ≡ sum (outermost f t) + sum (outermost f t')
outermost_then f end t' = omega arith
outermost_then f (step at t) t' = outermost_then f t t'
outermost_then f (call h i t) t' = simp sum-append (omega (arith, outermost_then f t t'))

-- WHERE A CELL STANDS

-- a cell apart from the only bytes that changed
cell_apart : {a e c l : ℕ} {w w' : List ℕ} → Only a e w w' → (c + l + 5 ≤ a) ⊎ (e ≤ c) → CellKept c l w w'
cell_apart {c = c} {l = l} p (inl h) = cell_same (under c (c + l + 5) h p)
cell_apart {c = c} {l = l} p (inr h) = cell_same (over c (c + l + 5) h p)

-- two functions' counters, and two edges
functions-apart : (k f : ℕ) → (k ≡ f → ⊥) → (counter_place k + 13 ≤ counter_place f) ⊎ (counter_place f + 13 ≤ counter_place k)
functions-apart k f z = go (dec_lt k f)
  where
    go : Dec (k < f) → (counter_place k + 13 ≤ counter_place f) ⊎ (counter_place f + 13 ≤ counter_place k)
    go (yes h) = inl (omega arith)
    go (no h) = inr (omega (arith, z))

edges-apart : (a b c d : ℕ) → 0 < b → b ≤ 32 → 0 < d → d ≤ 32 → (a ≡ c → b ≡ d → ⊥) → (edge_place a b + 9 ≤ edge_place c d) ⊎ (edge_place c d + 9 ≤ edge_place a b)
edges-apart a b c d h k l m z = go (dec_lt (32 * a + b) (32 * c + d))
  where
    other : 32 * a + b ≡ 32 * c + d → ⊥
    other e = z (omega arith) (omega arith)

    go : Dec (32 * a + b < 32 * c + d) → (edge_place a b + 9 ≤ edge_place c d) ⊎ (edge_place c d + 9 ≤ edge_place a b)
    go (yes x) = inl (omega arith)
    go (no x) = inr (omega (arith, other))

-- ONE TRACE AFTER ANOTHER

pub charged-none : {function : ℕ} {w w' : List ℕ} → Same 4096 counters_end w w' → Charged function end w w'
charged-none {function} {w} {w'} p = record {
  own = λ f h. grown-same (number_like (like_same (own_place f) 4 p (omega arith) (omega arith)));
  functions = λ f h. cell_none (cell_same (same-within _ _ (omega arith) (omega arith) p));
  edges = λ a b h l m. cell_none (cell_same (same-within _ _ (omega arith) (omega arith) p));
}

pub charged_then : {function : ℕ} {t t' : Trace} {u v w : List ℕ} → Charged function t u v → Charged function t' v w → Charged function (t ⨾ t') u w
charged_then {function} {t} {t'} {u} {v} {w} p q = record {
  own = λ f h. grown-by _ (sym (own_then f (function ∷ []) t t')) (grown_then (p.own f h) (q.own f h));
  functions = λ f h. cell_by (sym (entered_then f t t')) (sym (outermost_then f t t')) (cell_then (p.functions f h) (q.functions f h));
  edges = λ a b h l m.
      cell_by (sym (ap length (lengths-after a b (function ∷ []) t t') ∙ length-append (lengths_over a b (function ∷ []) t) (lengths_over a b (function ∷ []) t')))
      (sym (ap sum (outermost-after a b (function ∷ []) t t') ∙ sum-append (outermost_over a b (function ∷ []) t) (outermost_over a b (function ∷ []) t')))
      (cell_then (p.edges a b h l m) (q.edges a b h l m));
}

-- counters that nothing touched, before a trace
pub charged-before : {function : ℕ} {t : Trace} {u v w : List ℕ} → Same 4096 counters_end u v → Charged function t v w → Charged function t u w
charged-before {function} {t} {u} {v} {w} p q = charged_then {t = end} (charged-none p) q

-- A STEP

pub counted-only : (f by : ℕ) {w w' : List ℕ} → Counted (own_place f) by w w' → f ≤ 32 → Only 4096 counters_end w w'
counted-only f by p h = only_wider _ _ (omega arith) (omega arith) p.only

pub charged-step : (f : ℕ) {w w' : List ℕ} → Counted (own_place f) 1 w w' → f ≤ 32 → (at : ℕ) → Charged f (step at end) w w'
charged-step f {w} {w'} p few at = record {
  own = λ k h. charge k (ℕ_discrete k f);
  functions = λ k h. cell_none (keep k (ℕ_discrete k f));
  edges = λ a b h l m. cell_none (cell_apart p.only (inr (omega arith)));
}
  where
    charge : (k : ℕ) → Dec (k ≡ f) → Grown (own_place k) (count (innermost k) (timeline (f ∷ []) (step at end))) w w'
    charge k (yes z) = rw (eq-eqb f k (sym z), z) (counted-grown p)
    charge k (no z) = rw (ne_eqb f k (λ y. z (sym y))) (grown-same (number-apart (functions-apart k f z)))
      where
        number-apart : (counter_place k + 13 ≤ counter_place f) ⊎ (counter_place f + 13 ≤ counter_place k) → number_at w' (own_place k) ≡ number_at w (own_place k)
        number-apart (inl h) = number_under (own_place k) p.only (omega arith)
        number-apart (inr h) = number-over (own_place k) p.only (omega arith)

    keep : (k : ℕ) → Dec (k ≡ f) → CellKept (counter_place k) 8 w w'
    keep k (yes z) = record {
      number = number_under (counter_place k) p.only (omega arith);
      steps = number-over (counter_place k + 8) p.only (omega arith);
      flag = p.only.above (counter_place k + 8 + 4) (omega arith);
    }
    keep k (no z) = away (functions-apart k f z)
      where
        away : (counter_place k + 13 ≤ counter_place f) ⊎ (counter_place f + 13 ≤ counter_place k) → CellKept (counter_place k) 8 w w'
        away (inl h) = cell_apart p.only (inl (omega arith))
        away (inr h) = cell_apart p.only (inr (omega arith))

-- A CALL

own-call : (k f g : ℕ) (t : Trace) → count (innermost k) (timeline (g ∷ []) (call f t end)) ≡ count (innermost k) (timeline (f ∷ []) t)
own-call k f g t = count-append (innermost k) (timeline (f ∷ g ∷ []) t) [] ∙ omega (arith, own-inside k f (g ∷ []) t)

entered-call : (b : Bool) (n : ℕ) (l : List ℕ) → length (cond b (n ∷ []) [] ++ l ++ []) ≡ one_if b + length l
entered-call true n l = rw (append-nil l) (omega arith)
entered-call false n l = rw (append-nil l) (omega arith)

outermost-call : (b : Bool) (n : ℕ) (l : List ℕ) → sum (cond b (n ∷ []) l ++ []) ≡ cond b n (sum l)
outermost-call true n l = omega arith
outermost-call false n l = rw (append-nil l)

-- the figures of a call over an edge, by what is done inside
module _ (a b f g : ℕ) (t : Trace) where
  calls-call : length (lengths_over a b (g ∷ []) (call f t end)) ≡ one_if (eqb f b && eqb g a) + length (lengths_over a b (f ∷ []) t)
  calls-call =
      entered-call (eqb f b && eqb g a) (steps t) (lengths_over a b (f ∷ g ∷ []) t)
      ∙ ap (λ (l : List ℕ). one_if (eqb f b && eqb g a) + length l) (lengths-inside a b f (g ∷ []) t)

  edge-call : sum (outermost_over a b (g ∷ []) (call f t end)) ≡ cond (eqb f b && eqb g a) (steps t) (sum (outermost_over a b (f ∷ []) t))
  edge-call =
      outermost-call (eqb f b && eqb g a) (steps t) (outermost_over a b (f ∷ g ∷ []) t)
      ∙ ap (λ (l : List ℕ). cond (eqb f b && eqb g a) (steps t) (sum l)) (outermost-inside a b f (g ∷ []) t)

-- the bounds of what a call changes
pub begun-only : (f : ℕ) {w w' : List ℕ} {r : Bool} → Begun f w w' r → f ≤ 32 → Only 4096 counters_end w w'
begun-only f p h = only_wider _ _ (omega arith) (omega arith) p.only

pub closed_only : (f : ℕ) (r : Bool) (n : ℕ) {w w' : List ℕ} → Closed f r n w w' → f ≤ 32 → Only 4096 counters_end w w'
closed_only f r n p h = only_wider _ _ (omega arith) (omega arith) (closed_bounds (counter_place f) 8 r n p)

pub call_begun_only : (g f : ℕ) {w w' : List ℕ} {o : Opened} → CallBegun g f w w' o → g ≤ 32 → 0 < f → f ≤ 32 → Only 4096 counters_end w w'
call_begun_only g f p h k l = only_trans (only_wider _ _ (omega arith) (omega arith) p.edge.only) (begun-only f p.function l)

pub call_ended_only : (g f : ℕ) (o : Opened) (n : ℕ) {w w' : List ℕ} → CallEnded g f o n w w' → g ≤ 32 → 0 < f → f ≤ 32 → Only 4096 counters_end w w'
call_ended_only g f o n p h k l =
    only_trans (closed_only f o.function n p.function l) (only_wider _ _ (omega arith) (omega arith) (closed_bounds (edge_place g f) 4 o.edge n p.edge))

-- of function f, with what is done inside: begun, and closed after so many steps
module _ {inside : Trace} {w v x : List ℕ} (y : List ℕ) (f : ℕ) (r : Bool) (b : Begun f w v r) (q : Charged f inside v x) (s : Closed f r (steps inside) x y) where
  shut : Only (counter_place f) (counter_place f + 8 + 5) x y
  shut = closed_bounds (counter_place f) 8 r (steps inside) s

  own-kept : (k : ℕ) → (number_at v (own_place k) ≡ number_at w (own_place k)) × (number_at y (own_place k) ≡ number_at x (own_place k))
  own-kept k = pick (ℕ_discrete k f)
    where
      inner : (r : Bool) → Closed f r (steps inside) x y → number_at y (own_place f) ≡ number_at x (own_place f)
      inner true e = number_under (own_place f) e.only (omega arith)
      inner false e = rw e refl

      pick : Dec (k ≡ f) → (number_at v (own_place k) ≡ number_at w (own_place k)) × (number_at y (own_place k) ≡ number_at x (own_place k))
      pick (yes z) = rw z (number_like (like_same (own_place f) 4 b.between (omega arith) (omega arith)), inner r s)
      pick (no z) = away (functions-apart k f z)
        where
          away : (counter_place k + 13 ≤ counter_place f) ⊎ (counter_place f + 13 ≤ counter_place k) → (number_at v (own_place k) ≡ number_at w (own_place k)) × (number_at y (own_place k) ≡ number_at x (own_place k))
          away (inl h) = (number_under (own_place k) b.only (omega arith), number_under (own_place k) shut (omega arith))
          away (inr h) = (number-over (own_place k) b.only (omega arith), number-over (own_place k) shut (omega arith))

  call-own : (g k : ℕ) → k ≤ 32 → Grown (own_place k) (count (innermost k) (timeline (g ∷ []) (call f inside end))) w y
  call-own g k h = grown-by _ (sym (own-call k f g inside)) (grown_around (own-kept k).0 (q.own k h) (own-kept k).1)

  call-functions : (k : ℕ) → k ≤ 32 → CellGrown (counter_place k) 8 (length (lengths k (call f inside end))) (sum (outermost k (call f inside end))) w y
  call-functions k h = pick (ℕ_discrete k f)
    where
      one : (k ≡ f) → CellGrown (counter_place k) 8 (one_if (eqb f k) + length (lengths k inside)) (cond (eqb f k) (steps inside) (sum (outermost k inside))) w y
      one z = rw (eq-eqb f k (sym z), z) (cell_call (omega arith) y r b (rw z at (q.functions k h)) s)

      other : (k ≡ f → ⊥) → CellKept (counter_place k) 8 w v → CellKept (counter_place k) 8 x y
          → CellGrown (counter_place k) 8 (one_if (eqb f k) + length (lengths k inside)) (cond (eqb f k) (steps inside) (sum (outermost k inside))) w y
      other z first last = rw (ne_eqb f k (λ c. z (sym c))) (cell_by (omega arith) refl (cell_around first (q.functions k h) last))

      said : CellGrown (counter_place k) 8 (one_if (eqb f k) + length (lengths k inside)) (cond (eqb f k) (steps inside) (sum (outermost k inside))) w y
          → CellGrown (counter_place k) 8 (length (lengths k (call f inside end))) (sum (outermost k (call f inside end))) w y
      said = cell_by (sym (entered-call (eqb f k) (steps inside) (lengths k inside))) (sym (outermost-call (eqb f k) (steps inside) (outermost k inside)))

      pick : Dec (k ≡ f) → CellGrown (counter_place k) 8 (length (lengths k (call f inside end))) (sum (outermost k (call f inside end))) w y
      pick (yes z) = said (one z)
      pick (no z) = said (away (functions-apart k f z))
        where
          away : (counter_place k + 13 ≤ counter_place f) ⊎ (counter_place f + 13 ≤ counter_place k)
              → CellGrown (counter_place k) 8 (one_if (eqb f k) + length (lengths k inside)) (cond (eqb f k) (steps inside) (sum (outermost k inside))) w y
          away (inl h) = other z (cell_apart b.only (inl (omega arith))) (cell_apart shut (inl (omega arith)))
          away (inr h) = other z (cell_apart b.only (inr (omega arith))) (cell_apart shut (inr (omega arith)))

-- main's call: no function opens it, so it is over no edge
pub charged-main : {function : ℕ} {inside : Trace} {w v x y : List ℕ} (r : Bool) → Begun 0 w v r → Charged 0 inside v x → Closed 0 r (steps inside) x y
    → Charged function (call 0 inside end) w y
charged-main {function} {inside} {w} {v} {x} {y} r b q s = record {
  own = call-own y 0 r b q s function;
  functions = call-functions y 0 r b q s;
  edges = λ a c h l m.
      let e : eqb 0 c ≡ false = ne_eqb 0 c (omega arith) in
      cell_by (sym (calls-call a c 0 function inside ∙ rw e (omega arith))) (sym (edge-call a c 0 function inside ∙ rw e refl))
      (cell_around (cell_apart b.only (inr (omega arith))) (q.edges a c h l m) (cell_apart (shut y 0 r b q s) (inr (omega arith))));
}

-- a call of f that g opened
module _ {inside : Trace} {w v x y : List ℕ} (g f : ℕ) (o : Opened) (b : CallBegun g f w v o) (q : Charged f inside v x) (s : CallEnded g f o (steps inside) x y) where
  closed : Only (edge_place g f) (edge_place g f + 4 + 5) s.between y
  closed = closed_bounds (edge_place g f) 4 o.edge (steps inside) s.edge

  call-edges : (a c : ℕ) → a ≤ 32 → 0 < c → c ≤ 32 → g ≤ 32 → 0 < f → f ≤ 32
      → CellGrown (edge_place a c) 4 (length (lengths_over a c (g ∷ []) (call f inside end))) (sum (outermost_over a c (g ∷ []) (call f inside end))) w y
  call-edges a c h k l m n p =
      cell_by (sym (calls-call a c f g inside)) (sym (edge-call a c f g inside)) (pick (ℕ_discrete a g) (ℕ_discrete c f))
    where
      Wanted : Type 0
      Wanted = CellGrown (edge_place a c) 4 (one_if (eqb f c && eqb g a) + length (lengths_over a c (f ∷ []) inside)) (cond (eqb f c && eqb g a) (steps inside) (sum (outermost_over a c (f ∷ []) inside))) w y

      -- the function's counters stand before all edges
      entering : CellKept (edge_place a c) 4 b.between v
      entering = cell_apart b.function.only (inr (omega arith))

      leaving : CellKept (edge_place a c) 4 x s.between
      leaving = cell_apart (closed_bounds (counter_place f) 8 o.function (steps inside) s.function) (inr (omega arith))

      body : CellGrown (edge_place a c) 4 (length (lengths_over a c (f ∷ []) inside)) (sum (outermost_over a c (f ∷ []) inside)) b.between s.between
      body = cell_around entering (q.edges a c h k l) leaving

      other : eqb f c && eqb g a ≡ false → (a ≡ g → c ≡ f → ⊥) → Wanted
      other e z = rw e (cell_by (omega arith) refl (away (edges-apart a c g f k l n p z)))
        where
          away : (edge_place a c + 9 ≤ edge_place g f) ⊎ (edge_place g f + 9 ≤ edge_place a c)
              → CellGrown (edge_place a c) 4 (length (lengths_over a c (f ∷ []) inside)) (sum (outermost_over a c (f ∷ []) inside)) w y
          away (inl i) = cell_around (cell_apart b.edge.only (inl (omega arith))) body (cell_apart closed (inl (omega arith)))
          away (inr i) = cell_around (cell_apart b.edge.only (inr (omega arith))) body (cell_apart closed (inr (omega arith)))

      pick : Dec (a ≡ g) → Dec (c ≡ f) → Wanted
      pick (yes z) (yes t) =
          rw (eq-eqb f c (sym t), eq-eqb g a (sym z))
          (cell_call (omega arith) y o.edge (rw (← z, ← t) at b.edge) body (rw (← z, ← t) at s.edge))
      pick (yes z) (no t) = other (rw (ne_eqb f c (λ e. t (sym e))) refl) (λ _ e. t e)
      pick (no z) t = other (unlike (eqb f c)) (λ e _. z e)
        where
          unlike : (d : Bool) → d && eqb g a ≡ false
          unlike true = ne_eqb g a (λ e. z (sym e))
          unlike false = refl

  pub charged-call : g ≤ 32 → 0 < f → f ≤ 32 → Charged g (call f inside end) w y
  charged-call l m n = record {
    own = λ k h.
        grown_around (number_under (own_place k) b.edge.only (omega arith)) (call-own s.between f o.function b.function q s.function g k h)
        (number_under (own_place k) closed (omega arith));
    functions = λ k h.
        cell_around (cell_apart b.edge.only (inl (omega arith))) (call-functions s.between f o.function b.function q s.function k h)
        (cell_apart closed (inl (omega arith)));
    edges = λ a c h k i. call-edges a c h k i l m n;
  }

-- A RUN

blank_number : {w : List ℕ} (a : ℕ) → Same 4096 counters_end [] w → 4096 ≤ a → a + 4 ≤ counters_end → number_at w a ≡ 0
unfolding number_at
blank_number a z l h = rw (z.same a l (omega arith), z.same (a + 1) (omega arith) (omega arith), z.same (a + 2) (omega arith) (omega arith), z.same (a + 3) (omega arith) (omega arith))

from_blank : {w w' : List ℕ} (a : ℕ) {n : ℕ} → Same 4096 counters_end [] w → Grown a n w w' → n < 4294967296 → 4096 ≤ a → a + 4 ≤ counters_end → number_at w' a ≡ n
from_blank a z q s l h = q.grown (omega (arith, blank_number a z l h)) ∙ omega (arith, blank_number a z l h)

-- Main's call, from counters that are all 0: the counters are the profile.
module _ {function : ℕ} {t : Trace} {w w' : List ℕ} (p : Charged function (call 0 t end) w w') (z : Same 4096 counters_end [] w) where
  abbrev all : Trace
  all = call 0 t end

  -- a cell that was all 0
  blank_steps : {c l k n : ℕ} → CellGrown c l k n w w' → n < 4294967296 → 4096 ≤ c → c + l + 5 ≤ counters_end → number_at w' (c + l) ≡ n
  blank_steps {c} {l} {k} {n} q s h m =
      let shut : get_or w (c + l + 4) 0 ≡ 0 = z.same (c + l + 4) (omega arith) (omega arith) in
      from_blank (c + l) z (rw shut at q.steps) s (omega arith) (omega arith)

  -- main is opened by none
  calls-main : (a b : ℕ) → 0 < b → length (lengths_over a b (function ∷ []) all) ≡ calls a b all
  calls-main a b h =
      calls-call a b 0 function t ∙ rw (ne_eqb 0 b (omega arith)) (omega arith) ∙ ap length (sym (lengths-main a b t))

  edge-main : (a b : ℕ) → 0 < b → sum (outermost_over a b (function ∷ []) all) ≡ edge a b all
  edge-main a b h =
      edge-call a b 0 function t ∙ rw (ne_eqb 0 b (omega arith)) refl ∙ ap sum (sym (outermost-main a b t)) ∙ sym (edges_add_up_lem a b all)

  pub profiled : steps all < 4294967296 → ((f : ℕ) → f ≤ 32 → entered f all < 4294967296) → Profiled all w'
  profiled small few = record {
    own = λ f h.
        let e : own f all ≡ count (innermost f) (timeline (function ∷ []) all) = count-append (innermost f) (timeline (0 ∷ []) t) [] ∙ (omega arith) ∙ sym (own-call f 0 function t) in
        from_blank (own_place f) z (p.own f h) (omega (arith, own_le f all, inclusive_le f all)) (omega arith) (omega arith) ∙ sym e;
    entered = λ f h. from_blank (entered_place f) z (p.functions f h).number (few f h) (omega arith) (omega arith);
    inclusive = λ f h.
        blank_steps (p.functions f h) (omega (arith, inclusive-outermost f all, inclusive_le f all)) (omega arith) (omega arith) ∙ sym (inclusive-outermost f all);
    calls = λ a b h l m.
        from_blank (edge_calls_place a b) z (p.edges a b h l m).number (omega (arith, calls-main a b l, calls_le a b all, few b m)) (omega arith) (omega arith) ∙ calls-main a b l;
    edges = λ a b h l m.
        blank_steps (p.edges a b h l m) (omega (arith, edge-main a b l, edge_le a b all)) (omega arith) (omega arith) ∙ edge-main a b l;
  }
