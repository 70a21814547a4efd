-- The call graph that the work memory stands for when a run has ended, and what is asked of the memories to write it.
use Rattle.std.specs.Prelude.{map, ℕ, suc, ◌≤◌, length}
use Rattle.rules.specs.Syntax.{Bytes}
use Rattle.rules.specs.Graph.{Figures, Block, Graph, edges_from, blocks_from, name_of}
use Rattle.memory.specs.Layout.{number_at, own_place, inclusive_place, edge_calls_place, edge_steps_place, counters_end}
use Rattle.text.specs.Names.{functions_of, Tabled}

abbrev pub figures_in : (w : Bytes) → Figures
figures_in w = record {
  own = λ f. number_at w (own_place f);
  calls = λ a b. number_at w (edge_calls_place a b);
  inclusive = λ a b. number_at w (edge_steps_place a b);
}

-- with n functions of the sheet s; main is open throughout, so its inclusive count is the run's steps
unfoldable pub graph_in : (s w : Bytes) → (n : ℕ) → Graph
graph_in s w n = record {
  steps = number_at w (inclusive_place 0);
  names = map name_of (functions_of s);
  blocks = blocks_from (figures_in w) n 0 (suc n);
}

-- the block of function f
abbrev pub block_in : (w : Bytes) → (n f : ℕ) → Block
block_in w n f = record { own = (figures_in w).own f; edges = edges_from (figures_in w) f 1 n }

-- The tables are there, all figures lie in w, and any file fits. The figures themselves may be anything: a number of four bytes has at
-- most ten digits, and with all of them so long a file has less than 65,536 bytes.
pub record Drawable (s w file : Bytes) (n : ℕ) : Type 0 where
  pub tables : Tabled s w n
  pub counters : counters_end ≤ length w
  pub room : 65536 ≤ length file
