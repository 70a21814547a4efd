-- Figures in memory that are those of a trace make the trace's graph.
use Prim.Native.Nat.{ℕ, zero, suc, ◌≤◌, ◌<◌, ◌+◌}
use native.Mathlib.Omega.{arith}
use mathlib.Core.Path.{◌≡◌, refl, ap, ◌∙◌}
use mathlib.Core.List.{map}
use lib.ListN.{length}
use Rattle.rules.specs.Syntax.{Bytes}
use Rattle.rules.specs.Trace.{Trace, steps, own}
use Rattle.rules.specs.Edges.{calls, edge}
use Rattle.rules.specs.Graph.{Figures, edges_from, blocks_from, figures_of, name_of, graph_of}
use Rattle.memory.specs.Layout.{number_at, own_place, inclusive_place, edge_calls_place, edge_steps_place}
use Rattle.text.specs.Names.{functions_of}
use Rattle.callgrind.specs.Ended.{figures_in, graph_in}

-- two accounts of the same figures
record Alike (x y : Figures) : Type 0 where
  own : (f : ℕ) → f ≤ 32 → x.own f ≡ y.own f
  calls : (a b : ℕ) → a ≤ 32 → 0 < b → b ≤ 32 → x.calls a b ≡ y.calls a b
  inclusive : (a b : ℕ) → a ≤ 32 → 0 < b → b ≤ 32 → x.inclusive a b ≡ y.inclusive a b

module _ {x y : Figures} (h : Alike x y) where
  edges_alike : (a b n : ℕ) → a ≤ 32 → 0 < b → b + n ≤ 33 → edges_from x a b n ≡ edges_from y a b n
  unfolding edges_from
  edges_alike a b zero p q l = refl
  edges_alike a b (suc n) p q l =
      rw (h.calls a b p q (omega arith), h.inclusive a b p q (omega arith), edges_alike a (suc b) n p (omega arith) (omega arith))

  blocks_alike : (n a k : ℕ) → n ≤ 32 → a + k ≤ 33 → blocks_from x n a k ≡ blocks_from y n a k
  unfolding blocks_from
  blocks_alike n a zero p l = refl
  blocks_alike n a (suc k) p l =
      rw (h.own a (omega arith), edges_alike a 1 n (omega arith) (omega arith) (omega arith), blocks_alike n (suc a) k p (omega arith))

pub graph_in_memory : (s w : Bytes) (n : ℕ) (t : Trace)
    → ((f : ℕ) → f ≤ 32 → number_at w (own_place f) ≡ own f t)
    → ((a b : ℕ) → a ≤ 32 → 0 < b → b ≤ 32 → number_at w (edge_calls_place a b) ≡ calls a b t)
    → ((a b : ℕ) → a ≤ 32 → 0 < b → b ≤ 32 → number_at w (edge_steps_place a b) ≡ edge a b t)
    → number_at w (inclusive_place 0) ≡ steps t → n ≡ length (functions_of s) → n ≤ 32
    → graph_in s w n ≡ graph_of (functions_of s) t
unfolding graph_in graph_of
graph_in_memory s w n t owns counts costs total e l = (λ i. record {
  steps = total i;
  names = map name_of (functions_of s);
  blocks = (blocks_alike same n 0 (suc n) l (omega arith) ∙ ap (λ (k : ℕ). blocks_from (figures_of t) k 0 (suc k)) e) i;
})
  where
    same : Alike (figures_in w) (figures_of t)
    same = record { own = owns; calls = counts; inclusive = costs }
