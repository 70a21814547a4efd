-- What a run is made of: limits and numbers, the state that evaluation carries along, and how one run follows another.
use Rattle.std.specs.Prelude.{Bool, true, false, List, [], ℕ}
use Rattle.rules.specs.declared.Behaviour.{Behaviour}
use Rattle.rules.specs.declared.Behaviour.TheVariants.{Normal, Return, Exit, Failure}
use Rattle.rules.specs.declared.Refusal.{Refusal}
use Rattle.rules.specs.declared.Refusal.TheVariants.{BudgetUsedUp, LongString, LongList, LongStream, ManyHolds}
use Rattle.rules.specs.Syntax.{Bytes}
use Rattle.rules.specs.Trace.{Trace, ◌⨾◌, opened}

-- LIMITS AND NUMBERS ------------------------------------------------------------------------------------------------

pub record Limits : Type 0 where
  pub loop : ℕ  -- bodies that a while may run
  pub stack : ℕ  -- calls open at once
  pub budget : ℕ  -- steps of a run
  pub string : ℕ  -- bytes of a string
  pub list : ℕ  -- fields of a list
  pub stream : ℕ  -- bytes of a stream
  pub holds : ℕ  -- holds open at once

-- the limits of a run: it chooses the first three, the others are the same for all
abbrev pub limits_of : (loop stack budget : ℕ) → Limits
limits_of l s b = record { loop = l; stack = s; budget = b; string = 63; list = 16; stream = 1024; holds = 10 }

-- the same limits but for those that a run chooses
abbrev pub with_limits : Limits → (loop stack budget : ℕ) → Limits
with_limits l loop stack budget = record
    { loop = loop; stack = stack; budget = budget; string = l.string; list = l.list; stream = l.stream; holds = l.holds }

-- the same limits but for the budget
abbrev pub with_budget : Limits → (budget : ℕ) → Limits
with_budget l budget = with_limits l l.loop l.stack budget

-- Refusal numbers: those that the rules can meet.
abbrev pub number : Refusal → ℕ
number BudgetUsedUp = 6
number LongString = 7
number LongList = 8
number LongStream = 9
number ManyHolds = 10

-- The byte that stands for a behaviour in the result sheet (kind 64).
abbrev pub behaviour_number : Behaviour → ℕ
behaviour_number Normal = 0
behaviour_number Return = 1
behaviour_number Exit = 2
behaviour_number Failure = 3

-- STATE -------------------------------------------------------------------------------------------------------------

pub data Value : Type 0 where
  unset : Value
  bytes : Bytes → Value

pub record Variable : Type 0 where
  pub name : Bytes
  pub value : Value
  pub exported : Bool

pub record Context : Type 0 where
  pub variables : List Variable  -- by slot
  pub arguments : List Bytes  -- from argument 1
  pub result : Bool

-- The stream being written: its bytes so far, or, under nooutput, one whose bytes are dropped and not counted.
pub data Stream : Type 0 where
  kept : Bytes → Stream
  dropped : Stream

-- what evaluation carries along
pub record State : Type 0 where
  pub context : Context
  pub input : Bytes  -- what is left of it
  pub output : Stream
  pub used : ℕ  -- steps made

-- what evaluation hands down
pub record Inherited : Type 0 where
  pub condition : Bool  -- under a condition
  pub argument0 : Bytes
  pub holds : ℕ  -- holds open

-- what a string or a list comes to
pub data Evaluated (A : Type 0) : Type 0 where
  error : Evaluated A
  value : A → Evaluated A

-- RUNS --------------------------------------------------------------------------------------------------------------

-- A run is refused, at a record, after what was done up to then; or it ends: with an answer, the state after it and the trace of what it did.
pub data Outcome (A : Type 0) : Type 0 where
  refused : (why : Refusal) (place : ℕ) (before : Trace) → Outcome A
  ended : (answer : A) (after : State) (trace : Trace) → Outcome A

abbrev pub Run : Type 0 → Type 0
Run A = State → Outcome A

-- One run after another, `do a ← m; k a`: the state is handed on, the traces are joined, a refusal stops everything and keeps what was
-- done before it.
abbrev pub after : {B : Type 0} → Trace → Outcome B → Outcome B
after t (refused why place u) = refused why place (t ⨾ u)
after t (ended b s u) = ended b s (t ⨾ u)

abbrev pub and_then : {A B : Type 0} → Outcome A → (A → Run B) → Outcome B
and_then (refused why place t) k = refused why place t
and_then (ended a s t) k = after t (k a s)

unfoldable pub ◌>>=◌ : {A B : Type 0} → Run A → (A → Run B) → Run B
◌>>=◌ m k = λ s. and_then (m s) k

unfoldable pub ◌>>◌ : {A B : Type 0} → Run A → Run B → Run B
◌>>◌ m k = ◌>>=◌ m (λ a. k)

-- an answer, and nothing done
unfoldable pub give : {A : Type 0} → A → Run A
give a = λ s. ended a s Trace.end

unfoldable pub refuse : {A : Type 0} → Refusal → (place : ℕ) → Run A
refuse why place = λ s. refused why place Trace.end

-- something read off the state
unfoldable pub look : {A : Type 0} → (State → A) → Run A
look f = λ s. ended (f s) s Trace.end

-- the state changed
unfoldable pub change : (State → State) → Run (Unit {0})
change f = λ s. ended tt (f s) Trace.end

-- m if the test holds, else k
unfoldable pub choose : {A : Type 0} → Bool → (m k : Run A) → Run A
choose true m k = m
choose false m k = k

-- the trace of m becomes the inside of a call of f, which is still open where m is refused
abbrev pub inside : {A : Type 0} → (f : ℕ) → Outcome A → Outcome A
inside f (refused why place t) = refused why place (opened f t)
inside f (ended a s t) = ended a s (Trace.call f t Trace.end)

unfoldable pub as_call : {A : Type 0} → (f : ℕ) → Run A → Run A
as_call f m = λ s. inside f (m s)

-- the trace of an outcome, and the outcome without it
abbrev pub trace_of : {A : Type 0} → Outcome A → Trace
trace_of (refused why place t) = t
trace_of (ended a s t) = t

abbrev pub without_trace : {A : Type 0} → Outcome A → Outcome A
without_trace (refused why place t) = refused why place Trace.end
without_trace (ended a s t) = ended a s Trace.end

-- PARTS OF THE STATE, READ AND SET ----------------------------------------------------------------------------------

abbrev pub context : State → Context
context s = s.context

abbrev pub set_context : Context → State → State
set_context c s = record { context = c; input = s.input; output = s.output; used = s.used }

abbrev pub input : State → Bytes
input s = s.input

abbrev pub set_input : Bytes → State → State
set_input i s = record { context = s.context; input = i; output = s.output; used = s.used }

abbrev pub output : State → Stream
output s = s.output

abbrev pub set_output : Stream → State → State
set_output o s = record { context = s.context; input = s.input; output = o; used = s.used }

abbrev pub set_used : ℕ → State → State
set_used n s = record { context = s.context; input = s.input; output = s.output; used = n }

-- the bytes written to the stream
abbrev pub kept_bytes : Stream → Bytes
kept_bytes (kept s) = s
kept_bytes dropped = []

abbrev pub written : State → Bytes
written s = kept_bytes s.output

abbrev pub variables : State → List Variable
variables s = s.context.variables

abbrev pub set_variables : List Variable → State → State
set_variables v s = set_context (record { variables = v; arguments = s.context.arguments; result = s.context.result }) s

abbrev pub arguments : State → List Bytes
arguments s = s.context.arguments

abbrev pub set_arguments : List Bytes → State → State
set_arguments a s = set_context (record { variables = s.context.variables; arguments = a; result = s.context.result }) s

abbrev pub result : State → Bool
result s = s.context.result

abbrev pub set_result : Bool → State → State
set_result r s = set_context (record { variables = s.context.variables; arguments = s.context.arguments; result = r }) s
