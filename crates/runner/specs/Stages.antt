-- What the inner parts of a run are given: the sizes are right and the work memory was cleared; then the limits, the sheet, the arguments. And
-- what they leave in work memory, which is cleared after them.
use Rattle.std.specs.Prelude.{Result, Ok, Err, IfOk, OnOk, ◌≡◌, ℕ, ◌<◌, ◌≤◌, length, replicate}
use Rattle.rules.specs.Syntax.{Bytes}
use Rattle.rules.specs.Trace.{Trace}
use Rattle.rules.specs.State.{limits_of, trace_of}
use Rattle.rules.specs.Evaluation.{run}
use Rattle.rules.specs.Ruling.{Ruling, ruling}
use Rattle.sheet.specs.Check.{check, accepted}
use Rattle.sheet.specs.Decode.{program}
use Rattle.sheet.specs.Table.{leaves}
use Rattle.sheet.specs.Filled.{Loaded}
use Rattle.sheet.specs.Order.{Inputs}
use Rattle.memory.specs.Layout.{text_at, fields_at, list_place, argument_zero_place}
use Rattle.memory.specs.Profile.{Profiled}
use Rattle.memory.specs.declared.Given.{Given}
use Rattle.sheet.specs.Check.{known_of}
use Rattle.engine.specs.Start.{Started}
use Rattle.runner.specs.declared.Done.{Done}
use Rattle.runner.specs.declared.Refused.{Refused}
use Rattle.runner.specs.Verdict.{verdict, from_rules}
use Rattle.runner.specs.Promise.{Answer, told, tells, result_after}
use Rattle.runner.specs.Ran.{trace_on}

-- right sizes, and a work memory that is all 0
pub record Cleared (r w : Bytes) : Type 0 where
  pub room : 4096 ≤ length r
  pub size : length w ≡ 65536
  pub zeros : w ≡ replicate (length w) 0

-- limits in range, and the tables of an accepted sheet in a memory that was all 0
pub record Sheeted (s i r w : Bytes) (g : Given) (f : ℕ) : Type 0 where
  pub before : Bytes
  pub cleared : Cleared r before
  pub accepts : check s ≡ accepted (known_of s)
  pub tables : w ≡ leaves s (check s) before
  pub functions : f ≡ length (known_of s).functions
  pub slots : g.slots ≡ length (known_of s).variables
  pub unit : g.unit ≡ 64
  pub loops : g.loops ≤ 65535
  pub stack : g.stack ≤ 10
  pub some : 0 < g.budget
  pub budget : g.budget ≤ 1000000
  pub input : length i ≤ 1024

-- the arguments in memory as well
pub record Prepared (s i r w : Bytes) (g : Given) (n f : ℕ) : Type 0 where
  pub room : 4096 ≤ length r
  pub size : length w ≡ 65536
  pub started : Started s i w g n
  pub functions : f ≡ length (known_of s).functions
  pub unit : g.unit ≡ 64
  pub budget : g.budget ≤ 1000000

-- WHAT IS LEFT ------------------------------------------------------------------------------------------------------

-- what an ended run's call graph is drawn from: the tables of its sheet, which has f functions, and the counters of its trace
pub record Left (s : Bytes) (t : Trace) (f : ℕ) (w : Bytes) : Type 0 where
  pub tables : Loaded s (known_of s) w
  pub functions : f ≡ length (known_of s).functions
  pub counters : Profiled t w

-- the ruling on what memory holds
abbrev pub ruling_in : (s i w : Bytes) → Given → (n : ℕ) → Ruling
ruling_in s i w g n =
    ruling (limits_of g.loops g.stack g.budget) (program (known_of s)) (text_at 64 w argument_zero_place) (fields_at 64 w (list_place 64 0) n) i

-- and the trace of that run
abbrev pub trace_in : (s i w : Bytes) → Given → (n : ℕ) → Trace
trace_in s i w g n =
    trace_of (run (limits_of g.loops g.stack g.budget) (program (known_of s)) (text_at 64 w argument_zero_place) (fields_at 64 w (list_place 64 0) n) i)

-- the run itself: answer and result are the rules'
pub record Rendered (o : Ruling) (s : Bytes) (t : Trace) (f : ℕ) (r r' w' : Bytes) (a : Answer) : Type 0 where
  pub answer : told a ≡ tells (from_rules o)
  pub result : r' ≡ result_after (from_rules o) r
  pub size : length w' ≡ 65536
  pub left : OnOk a (Left s t f w')

-- the answer, without how many functions there are
abbrev pub answer_in : Result Done Refused → Answer
answer_in (Ok d) = Ok d.length
answer_in (Err why) = Err why

-- the same by the verdict, of the parts that judge the inputs first
pub record Inner (i : Inputs) (r r' w' : Bytes) (a : Result Done Refused) : Type 0 where
  pub answer : told (answer_in a) ≡ tells (verdict i)
  pub result : r' ≡ result_after (verdict i) r
  pub size : length w' ≡ 65536
  pub left : IfOk a (λ d. Left i.sheet (trace_on i) d.functions w')
