-- The file of a call graph, line by line. Main's definition and block come first, so function f has the id f + 1.
use Rattle.std.specs.Prelude.{List, [], ◌∷◌, ◌++◌, ℕ, suc}
use Rattle.rules.specs.Ascii.{ascii}
use Rattle.rules.specs.Syntax.{Bytes}
use Rattle.rules.specs.Graph.{Edge, Block, Graph}
use Rattle.text.specs.Decimal.{decimal}

-- LINES, WITHOUT THEIR ENDS -----------------------------------------------------------------------------------------

abbrev pub summary_line : (steps : ℕ) → Bytes
summary_line steps = ascii "summary: " ++ decimal steps

abbrev pub totals_line : (steps : ℕ) → Bytes
totals_line steps = ascii "totals: " ++ decimal steps

-- a function, by its id; and the id with the name that it stands for
abbrev pub function_line : (id : ℕ) → Bytes
function_line id = ascii "fn=(" ++ decimal id ++ ascii ")"

abbrev pub definition : (id : ℕ) → (name : Bytes) → Bytes
definition id name = ascii "fn=(" ++ decimal id ++ ascii ") " ++ name

-- a cost, at no position
abbrev pub cost_line : (cost : ℕ) → Bytes
cost_line cost = ascii "0 " ++ decimal cost

abbrev pub callee_line : (id : ℕ) → Bytes
callee_line id = ascii "cfn=(" ++ decimal id ++ ascii ")"

abbrev pub calls_line : (calls : ℕ) → Bytes
calls_line calls = ascii "calls=" ++ decimal calls ++ ascii " 0"

-- PARTS -------------------------------------------------------------------------------------------------------------

abbrev pub header : (steps : ℕ) → List Bytes
header steps =
    ascii "# callgrind format"
    ∷ ascii "version: 1"
    ∷ ascii "creator: colis-runner"
    ∷ ascii "positions: line"
    ∷ ascii "events: Steps"
    ∷ summary_line steps
    ∷ []
    ∷ ascii "fl=(1) ???"
    ∷ []

-- no function has this name, and in the order of names it comes first
abbrev pub main_name : Bytes
main_name = ascii "(main)"

unfoldable pub definitions : (id : ℕ) → (names : List Bytes) → List Bytes
definitions id [] = []
definitions id (name ∷ names) = definition id name ∷ definitions (suc id) names

abbrev pub edge_lines : Edge → List Bytes
edge_lines e = callee_line (suc e.callee) ∷ calls_line e.calls ∷ cost_line e.inclusive ∷ []

unfoldable pub edges_lines : List Edge → List Bytes
edges_lines [] = []
edges_lines (e ∷ es) = edge_lines e ++ edges_lines es

-- the own cost stands before the calls: behind a line of calls it would be taken for theirs
abbrev pub block_lines : (id : ℕ) → Block → List Bytes
block_lines id b = [] ∷ function_line id ∷ cost_line b.own ∷ edges_lines b.edges

unfoldable pub blocks_lines : (id : ℕ) → List Block → List Bytes
blocks_lines id [] = []
blocks_lines id (b ∷ bs) = block_lines id b ++ blocks_lines (suc id) bs

abbrev pub ending : (steps : ℕ) → List Bytes
ending steps = [] ∷ totals_line steps ∷ []

-- THE FILE ----------------------------------------------------------------------------------------------------------

unfoldable pub file_lines : Graph → List Bytes
file_lines g = header g.steps ++ definitions 1 (main_name ∷ g.names) ++ blocks_lines 1 g.blocks ++ ending g.steps

-- every line ends in byte 10
unfoldable pub ended : List Bytes → Bytes
ended [] = []
ended (l ∷ ls) = l ++ 10 ∷ ended ls

unfoldable pub file_of : Graph → Bytes
file_of g = ended (file_lines g)
