-- What is proved of the promise of a run that writes its call graph. The proofs are put together in proofs/Theorems.antt.
use Rattle.std.specs.Prelude.{Result, Err, ◌≡◌, [], map, ℕ, suc, ◌≤◌, T, length, get_or, take}
use Rattle.rules.specs.declared.Behaviour.TheVariants.{Failure}
use Rattle.rules.specs.Syntax.{Bytes, Program}
use Rattle.rules.specs.Trace.{Trace, steps, own, sum}
use Rattle.rules.specs.State.{Limits, trace_of, behaviour_number}
use Rattle.rules.specs.Genuine.{MadeBy}
use Rattle.rules.specs.Graph.{Block, edges_from, figures_of, name_of}
use Rattle.sheet.specs.Order.{Inputs}
use Rattle.callgrind.specs.Claims.{own_of}
use Rattle.callgrind.specs.Reading.{read_file, totals_read}
use Rattle.runner.specs.declared.drawing.Drawn.{Drawn}
use Rattle.runner.specs.declared.Refused.{Refused}
use Rattle.runner.specs.declared.Refused.TheVariants as why
use Rattle.runner.specs.Promise.{Answer, wrote, told, Promise}
use Rattle.runner.specs.Ran.{limits_in}
use Rattle.runner.specs.Reading.{read_behaviour}
use Rattle.runner.specs.Claims.{under_limits, raised}
use Rattle.runner.specs.Demands.{Accepted, Bytewise, script, outcome}
use Rattle.runner.specs.Graph.{answer_of, file_size, plain, graph_inputs, GraphPromise}

-- ONE RESULT --------------------------------------------------------------------------------------------------------

-- Equal inputs admit one answer, one length of the file and one content of the three memories.
abbrev pub OneGraph : Type 0
OneGraph =
    (i : Inputs) (r w f r₁ w₁ f₁ r₂ w₂ f₂ : Bytes) (d₁ d₂ : Result Drawn Refused) → GraphPromise i r w f r₁ w₁ f₁ d₁ → GraphPromise i r w f r₂ w₂ f₂ d₂
    → (d₁ ≡ d₂) × (r₁ ≡ r₂) × (w₁ ≡ w₂) × (f₁ ≡ f₂)

-- Unless it is refused by 14, it answers what a plain run answers on the same, and leaves the same in both memories.
abbrev pub GraphLikeRun : Type 0
GraphLikeRun =
    (i : Inputs) (r w f r₁ w₁ f₁ r₂ w₂ : Bytes) (d : Result Drawn Refused) (a : Answer) → GraphPromise i r w f r₁ w₁ f₁ d → Promise (plain i) r w r₂ w₂ a
    → ¬ (d ≡ Err why.File) → (answer_of d ≡ a) × (r₁ ≡ r₂) × (w₁ ≡ w₂)

-- The file does not depend on what the memories held: result, work and file memory r, w and f, or s, v and g of the same lengths.
abbrev pub OldFileIgnored : Type 0
OldFileIgnored =
    (sheet arguments input : Bytes) (loop stack budget : ℕ) (r w f s v g r₁ w₁ f₁ s₁ v₁ g₁ : Bytes) (d₁ d₂ : Result Drawn Refused)
    → length r ≡ length s → length w ≡ length v → length f ≡ length g
    → GraphPromise (graph_inputs sheet arguments input loop stack budget r w f) r w f r₁ w₁ f₁ d₁
    → GraphPromise (graph_inputs sheet arguments input loop stack budget s v g) s v g s₁ v₁ g₁ d₂
    → (d₁ ≡ d₂) × (take (file_size d₁) f₁ ≡ take (file_size d₁) g₁)

-- RAISING A LIMIT ---------------------------------------------------------------------------------------------------

-- Raising a limit is harmless to the file too: if the first run wrote a sheet in which a reader does not find Failure, the second writes the
-- same file.
abbrev pub FileUnharmed : Type 0
FileUnharmed =
    (i : Inputs) (loop stack budget : ℕ) (r w f r₁ w₁ f₁ s v g s₁ v₁ g₁ : Bytes) (d₁ d₂ : Result Drawn Refused) → T (raised i loop stack budget)
    → GraphPromise i r w f r₁ w₁ f₁ d₁ → GraphPromise (under_limits i loop stack budget) s v g s₁ v₁ g₁ d₂
    → (n : ℕ) → told (answer_of d₁) ≡ wrote n → ¬ (read_behaviour (take n r₁) ≡ behaviour_number Failure)
    → (d₂ ≡ d₁) × (take (file_size d₁) g₁ ≡ take (file_size d₁) f₁)

-- SIZE --------------------------------------------------------------------------------------------------------------

-- A file always fits its memory, which has 65,536 bytes or more.
abbrev pub FileFits : Type 0
FileFits = (i : Inputs) (r w f r₁ w₁ f₁ : Bytes) (d : Result Drawn Refused) → GraphPromise i r w f r₁ w₁ f₁ d → file_size d ≤ 39752

-- READING -----------------------------------------------------------------------------------------------------------

-- The block of function f, of n beside main: the steps charged to f, and an edge to each function that f called, in their order, with the calls
-- that f opened and the steps at which at least one of them is open.
pub record BlockRead (t : Trace) (n f : ℕ) (b : Block) : Type 0 where
  pub own : b.own ≡ own f t
  pub edges : b.edges ≡ edges_from (figures_of t) f 1 n

abbrev pub no_block : Block
no_block = record { own = 0; edges = [] }

-- A reader of the bytes finds the call graph of a run of the program p whose trace is t.
pub record GraphRead (limits : Limits) (p : Program) (t : Trace) (bytes : Bytes) : Type 0 where
  -- the trace is one that the program can make under the limits
  pub genuine : MadeBy limits p t
  -- the summary is its steps, and so are the totals at the end; each step is charged to one function
  pub summary : (read_file bytes).steps ≡ steps t
  pub totals : totals_read bytes ≡ steps t
  pub charges : sum (map own_of (read_file bytes).blocks) ≡ steps t
  -- the functions by name, and a block for each, main's first
  pub names : (read_file bytes).names ≡ map name_of p.functions
  pub many : length (read_file bytes).blocks ≡ suc (length p.functions)
  pub blocks : (f : ℕ) → f ≤ length p.functions → BlockRead t (length p.functions) f (get_or (read_file bytes).blocks f no_block)

-- Of inputs that are accepted, as all are on which a run ends: an ended run's file holds the call graph of the rules' trace.
abbrev pub FileReadBack : Type 0
FileReadBack =
    (i : Inputs) (r w f r₁ w₁ f₁ : Bytes) (d : Result Drawn Refused) → Bytewise i → GraphPromise i r w f r₁ w₁ f₁ d → (x : Accepted i) (n : ℕ) → told (answer_of d) ≡ wrote n
    → GraphRead (limits_in i) (script i x) (trace_of (outcome i x)) (take (file_size d) f₁)
