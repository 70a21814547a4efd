-- What is proved of the file. The proofs are put together in proofs/Theorems.antt.
use Rattle.std.specs.Prelude.{◌≡◌, true, List, [], ◌∷◌, ◌++◌, map, ℕ, suc, ◌≤◌, length, replicate}
use Rattle.rules.specs.Ascii.{ascii}
use Rattle.rules.specs.Lists.{Every}
use Rattle.rules.specs.Syntax.{Bytes, Program, Function}
use Rattle.rules.specs.Trace.{Trace, end, call, steps, sum, Numbered}
use Rattle.rules.specs.State.{Limits}
use Rattle.rules.specs.Genuine.{MadeBy}
use Rattle.rules.specs.Graph.{Edge, Block, Graph, blocks_from, graph_of}
use Rattle.sheet.specs.Format.{is_name}
use Rattle.memory.specs.Posts.{Written}
use Rattle.callgrind.specs.File.{file_of}
use Rattle.callgrind.specs.Reading.{read_file, totals_read}
use Rattle.callgrind.specs.Within.{ShortNames, Within}

-- SIZE --------------------------------------------------------------------------------------------------------------

-- No file of a run, which makes at most 1,000,000 steps, is longer than 39,752 bytes,
abbrev pub FileFits : Type 0
FileFits = (g : Graph) → Within 1000000 g → length (file_of g) ≤ 39752

-- and whatever the figures of four bytes are, no file is too long for a memory of 65,536.
abbrev pub AnyFileFits : Type 0
AnyFileFits = (g : Graph) → Within 4294967295 g → length (file_of g) ≤ 65536

-- Of the graphs within those limits one has so long a file, which no run comes to: 32 functions with names of 63 bytes, all calling each other and
-- themselves, and every figure 1,000,000.
abbrev pub largest : Graph
largest = record {
  steps = 1000000;
  names = replicate 32 (replicate 63 97);
  blocks = blocks_from (record { own = λ f. 1000000; calls = λ a b. 1000000; inclusive = λ a b. 1000000 }) 32 0 33;
}

abbrev pub LargestFile : Type 0
LargestFile = Within 1000000 largest × (length (file_of largest) ≡ 39752)

-- READING -----------------------------------------------------------------------------------------------------------

-- The file holds the graph: who reads it finds every function with its name, its own cost and its edges,
abbrev pub FileReadsBack : Type 0
FileReadsBack =
    (g : Graph) → Every (λ name. is_name name ≡ true) g.names → length g.blocks ≡ suc (length g.names) → read_file (file_of g) ≡ g

-- and at its end the steps that it began with.
abbrev pub TotalsAreSummary : Type 0
TotalsAreSummary = (g : Graph) → Every (λ name. is_name name ≡ true) g.names → totals_read (file_of g) ≡ g.steps

-- What is written, and where, fixes the later content of the file memory and the length returned.
abbrev pub OneFile : Type 0
OneFile =
    (g : Graph) (file file₁ file₂ : Bytes) (r₁ r₂ : ℕ) → Written 0 (file_of g) file file₁ r₁ → Written 0 (file_of g) file file₂ r₂
    → (file₁ ≡ file₂) × (r₁ ≡ r₂)

-- RUNS --------------------------------------------------------------------------------------------------------------

abbrev pub own_of : Block → ℕ
own_of b = b.own

-- Of a trace under main that enters only the functions 1 to n: the own costs of the blocks add up to the steps.
abbrev pub OwnAddsUp : Type 0
OwnAddsUp =
    (functions : List Function) (t : Trace) → Numbered (length functions) t
    → sum (map own_of (graph_of functions (call 0 t end)).blocks) ≡ (graph_of functions (call 0 t end)).steps

-- And the graph of the trace that a program made is one whose file fits.
abbrev pub EveryGraphWithin : Type 0
EveryGraphWithin =
    (limits : Limits) (program : Program) (t : Trace) → MadeBy limits program t → steps t ≤ 1000000 → ShortNames program.functions
    → Within 1000000 (graph_of program.functions t)

-- EXERCISE A --------------------------------------------------------------------------------------------------------

abbrev pub edge_to : (callee calls inclusive : ℕ) → Edge
edge_to b k n = record { callee = b; calls = k; inclusive = n }

abbrev pub graph_a : Graph
graph_a = record {
  steps = 37;
  names = ascii "f" ∷ [];
  blocks = record { own = 6; edges = edge_to 1 1 31 ∷ [] } ∷ record { own = 31; edges = edge_to 1 2 20 ∷ [] } ∷ [];
}

abbrev pub FileOfExerciseA : Type 0
FileOfExerciseA =
    file_of graph_a
    ≡ ascii "# callgrind format\nversion: 1\ncreator: colis-runner\npositions: line\nevents: Steps\nsummary: 37\n"
    ++ ascii "\nfl=(1) ???\nfn=(1) (main)\nfn=(2) f\n"
    ++ ascii "\nfn=(1)\n0 6\ncfn=(2)\ncalls=1 0\n0 31\n"
    ++ ascii "\nfn=(2)\n0 31\ncfn=(2)\ncalls=2 0\n0 20\n"
    ++ ascii "\ntotals: 37\n"
