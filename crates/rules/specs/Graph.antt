-- The call graph of a run: what each function cost by itself, and what it cost with all it called, over every edge that was met.
use Rattle.std.specs.Prelude.{cond, List, [], ◌∷◌, ◌++◌, map, ℕ, zero, suc, eqb, length}
use Rattle.rules.specs.Syntax.{Bytes, Function}
use Rattle.rules.specs.Trace.{Trace, steps, own}
use Rattle.rules.specs.Edges.{calls, edge}

-- an edge of some caller
pub record Edge : Type 0 where
  pub callee : ℕ
  pub calls : ℕ
  pub inclusive : ℕ

-- a function: its own steps, and its edges in the order of the callees
pub record Block : Type 0 where
  pub own : ℕ
  pub edges : List Edge

pub record Graph : Type 0 where
  pub steps : ℕ
  pub names : List Bytes  -- of the functions 1, 2, ..
  pub blocks : List Block  -- of main and the functions 1, 2, ..

-- FROM FIGURES ------------------------------------------------------------------------------------------------------

-- the figures of functions and of pairs of them, caller first
pub record Figures : Type 0 where
  pub own : ℕ → ℕ
  pub calls : (a b : ℕ) → ℕ
  pub inclusive : (a b : ℕ) → ℕ

-- the edge from a to b, if it was met
abbrev pub edge_if : Figures → (a b : ℕ) → List Edge
edge_if x a b = cond (eqb (x.calls a b) 0) [] (record { callee = b; calls = x.calls a b; inclusive = x.inclusive a b } ∷ [])

-- those to b and the n - 1 functions behind it
unfoldable pub edges_from : Figures → (a b n : ℕ) → List Edge
edges_from x a b zero = []
edges_from x a b (suc n) = edge_if x a b ++ edges_from x a (suc b) n

-- of a program with n functions beside main: the blocks of a and the k - 1 functions behind it
unfoldable pub blocks_from : Figures → (n a k : ℕ) → List Block
blocks_from x n a zero = []
blocks_from x n a (suc k) = record { own = x.own a; edges = edges_from x a 1 n } ∷ blocks_from x n (suc a) k

-- OF A RUN ----------------------------------------------------------------------------------------------------------

abbrev pub figures_of : Trace → Figures
figures_of t = record { own = λ f. own f t; calls = λ a b. calls a b t; inclusive = λ a b. edge a b t }

abbrev pub name_of : Function → Bytes
name_of f = f.name

-- the graph of a trace that a program with these functions made
unfoldable pub graph_of : List Function → Trace → Graph
graph_of functions t = record {
  steps = steps t;
  names = map name_of functions;
  blocks = blocks_from (figures_of t) (length functions) 0 (suc (length functions));
}
