-- What the top of the engine is given and promises: a run of the rules, from the tables and arguments in work memory.
use Rattle.std.specs.Prelude.{Result, Ok, Err, ◌≡◌, List, [], ◌∷◌, ℕ, ◌-◌, ◌<◌, ◌≤◌, length, get_or, drop}
use Rattle.rules.specs.declared.Behaviour.{Behaviour}
use Rattle.rules.specs.declared.Refusal.{Refusal}
use Rattle.rules.specs.Syntax.{Bytes}
use Rattle.rules.specs.Trace.{Trace}
use Rattle.rules.specs.State.{Outcome, ended, refused}
use Rattle.rules.specs.Evaluation.{run}
use Rattle.sheet.specs.Arguments.{arguments, given}
use Rattle.sheet.specs.Decode.{program}
use Rattle.sheet.specs.Filled.{Loaded}
use Rattle.memory.specs.Layout.{Same, Put, text_at, fields_at, list_place, variables_place, argument_zero_place, counters_end}
use Rattle.memory.specs.Posts.{Laid}
use Rattle.memory.specs.Abstract.{state_of, start_scope, Roomy}
use Rattle.memory.specs.Profile.{Profiled}
use Rattle.memory.specs.declared.Given.{Given}
use Rattle.memory.specs.declared.Course.{Course}
use Rattle.rules.specs.declared.Halt.{Halt}
use Rattle.engine.specs.declared.Ended.{Ended}
use Rattle.engine.specs.Meaning.{known_of, limits_given}

-- THE ARGUMENTS -----------------------------------------------------------------------------------------------------

-- an accepted argument sheet of n texts
pub record Takes (s w : Bytes) (u n : ℕ) : Type 0 where
  pub texts : List Bytes
  pub accepted : arguments s ≡ given texts
  pub count : length texts ≡ n
  pub unit : 64 ≤ u
  pub small : u ≤ 256
  pub room : 65536 ≤ length w

-- the texts were put into memory, each behind its length, and no other byte has changed: the first at its place, then the others into list 0
pub record Placed (u : ℕ) (texts : List Bytes) (w w' : Bytes) : Type 0 where
  pub between : Bytes
  pub first : Put argument_zero_place (length (get_or texts 0 []) ∷ get_or texts 0 []) w between
  pub rest : Laid u (list_place u 0) 0 between (drop 1 texts) w'

-- That fixes every byte. The first is main's argument 0, the others its arguments; so tables, counters and variables are as before.
pub record Taken (s : Bytes) (u : ℕ) (w w' : Bytes) : Type 0 where
  pub zero : (texts : List Bytes) → arguments s ≡ given texts → text_at u w' argument_zero_place ≡ get_or texts 0 []
  pub others : (texts : List Bytes) → arguments s ≡ given texts → fields_at u w' (list_place u 0) (length texts - 1) ≡ drop 1 texts
  pub placed : (texts : List Bytes) → arguments s ≡ given texts → Placed u texts w w'
  pub size : length w' ≡ length w
  pub tables : Same 0 3328 w w'
  pub between : Same 4096 (list_place u 0) w w'

-- THE RUN -----------------------------------------------------------------------------------------------------------

-- the sheet's tables and n arguments are in work memory, counters and variables are all 0
pub record Started (s i w : Bytes) (g : Given) (n : ℕ) : Type 0 where
  pub loaded : Loaded s (known_of s) w
  pub roomy : Roomy g w
  pub wide : 64 ≤ g.unit
  pub slots : g.slots ≡ length (known_of s).variables
  pub few : n ≤ 16
  pub input : length i ≤ 1024
  pub loops : g.loops < 65536
  pub stack : g.stack < 16
  pub budget : g.budget < 1048576
  pub counters : Same 4096 counters_end [] w
  pub variables : Same (variables_place g.unit 0) (variables_place g.unit 1) [] w

-- the rules' run of the sheet's program with the arguments that memory holds
abbrev pub run_of : (s i w : Bytes) → Given → (n : ℕ) → Outcome Behaviour
run_of s i w g n = run (limits_given g) (program (known_of s)) (text_at g.unit w argument_zero_place) (fields_at g.unit w (list_place g.unit 0) n) i

-- it ended: memory stands for the state it ended in, the counters are its profile, and the sheet's tables are still there
pub record Finished (i : Bytes) (g : Given) (o : Outcome Behaviour) (b : Behaviour) (c : Course) (w w' : Bytes) : Type 0 where
  pub trace : Trace
  pub eq : o ≡ ended b (state_of i w' g start_scope c) trace
  pub profile : Profiled trace w'
  pub used : c.used ≤ g.budget
  pub size : length w' ≡ length w
  pub tables : Same 0 4096 w w'
  pub length : c.length ≤ 1024

-- it was refused, after what the trace tells
pub record Halted (o : Outcome Behaviour) (why : Refusal) (place : ℕ) (w w' : Bytes) : Type 0 where
  pub trace : Trace
  pub eq : o ≡ refused why place trace
  pub size : length w' ≡ length w

abbrev pub Evaluated : (s i w : Bytes) → Given → (n : ℕ) → (w' : Bytes) → Result Ended Halt → Type 0
Evaluated s i w g n w' (Ok e) = Finished i g (run_of s i w g n) e.behaviour e.course w w'
Evaluated s i w g n w' (Err h) = Halted (run_of s i w g n) h.why h.place w w'
