-- The first three of README's promises, in its order and words, of every run that keeps the promise of `run` (specs/Promise). The fourth speaks of
-- two such runs and is `RaisingHarmless` (specs/Claims). Faults are those of sheet's `Faults`, the program of a good sheet is that of its list of
-- records (sheet's `Programs`): neither knows a walk. Ends and refusals midway are those of the rules' run of that program. That a run ends on
-- every input is no claim of its own: no function is proved unless it ends.
use Rattle.std.specs.Prelude.{◌≡◌, ◌⊎◌, List, [], ℕ, ◌<◌, ◌≤◌, length, get_or, take, drop, replicate}
use Rattle.rules.specs.declared.Behaviour.{Behaviour}
use Rattle.rules.specs.declared.Refusal.{Refusal}
use Rattle.rules.specs.Syntax.{Bytes, Program}
use Rattle.rules.specs.Trace.{Trace, one_if}
use Rattle.rules.specs.State.{State, Outcome, limits_of, trace_of, number, behaviour_number, refused, ended, result, written, variables}
use Rattle.rules.specs.Evaluation.{run}
use Rattle.rules.specs.Ruling.{shown}
use Rattle.sheet.specs.WellFormed.{Item, IsBytes, WellFormed, write}
use Rattle.sheet.specs.Programs.{program_of}
use Rattle.sheet.specs.Faults.{Faulty}
use Rattle.sheet.specs.Claims.{Texts}
use Rattle.sheet.specs.Order.{Inputs, lent}
use Rattle.runner.specs.Promise.{Answer, wrote, refuses, told, Promise}
use Rattle.runner.specs.Reading.{read_behaviour, read_result, read_output, read_variables}
use Rattle.runner.specs.Claims.{ProfileRead}

-- THE INPUTS --------------------------------------------------------------------------------------------------------

-- the result memory is too small, or the work memory of another size than it has to be
pub data ShortMemory (i : Inputs) : Type 0 where
  result_short : i.result_size < 4096 → ShortMemory i
  work_odd : ¬ (i.work_size ≡ 65536) → ShortMemory i

-- memory for a call graph file is lent, and too small
pub data ShortFile (i : Inputs) : Type 0 where
  file_short : (size : ℕ) → i.file ≡ lent size → size < 65536 → ShortFile i

-- a limit, or the standard input, out of range
pub data OddLimits (i : Inputs) : Type 0 where
  loop : 65535 < i.loop → OddLimits i
  stack : 10 < i.stack → OddLimits i
  no_budget : i.budget ≡ 0 → OddLimits i
  budget : 1000000 < i.budget → OddLimits i
  input : 1024 < length i.input → OddLimits i

-- the bytes of a well-formed list of records
pub record Script (s : Bytes) : Type 0 where
  pub records : List Item
  pub good : WellFormed records
  pub is : s ≡ write records

-- one to seventeen texts
pub record Arguments (a : Bytes) : Type 0 where
  pub texts : List Bytes
  pub are : Texts a texts

-- What a run's inputs are refused for, by which number and at which place. A fault counts where none before it in the order is there.
pub data Fault (i : Inputs) : (number place : ℕ) → Type 0 where
  short_memory : ShortMemory i → Fault i 1 0
  short_file : ¬ ShortMemory i → ShortFile i → Fault i 14 0
  odd_limits : ¬ ShortMemory i → ¬ ShortFile i → OddLimits i → Fault i 2 0
  broken_program : {number place : ℕ} → ¬ ShortMemory i → ¬ ShortFile i → ¬ OddLimits i → Faulty i.sheet number place → Fault i number place
  bad_arguments : ¬ ShortMemory i → ¬ ShortFile i → ¬ OddLimits i → Script i.sheet → ¬ Arguments i.arguments → Fault i 5 0

-- Inputs without a fault.
pub record Accepted (i : Inputs) : Type 0 where
  pub memory : ¬ ShortMemory i
  pub file : ¬ ShortFile i
  pub limits : ¬ OddLimits i
  pub script : Script i.sheet
  pub arguments : Arguments i.arguments

-- THE RULES' RUN ----------------------------------------------------------------------------------------------------

-- Of accepted inputs: the program that the records stand for, and what the rules' run of it comes to. Argument 0 is the first text.
module _ (i : Inputs) (x : Accepted i) where
  abbrev pub script : Program
  script = program_of x.script.records

  abbrev pub outcome : Outcome Behaviour
  outcome = run (limits_of i.loop i.stack i.budget) script (get_or x.arguments.texts 0 []) (drop 1 x.arguments.texts) i.input

-- FIRST PROMISE -----------------------------------------------------------------------------------------------------

-- 1 and 14 refuse the size of a memory
abbrev pub OfSize : (number : ℕ) → Type 0
OfSize number = (number ≡ 1) ⊎ (number ≡ 14)

-- r and w are the result and the work memory before, r' and w' after
pub record First (i : Inputs) (r w r' w' : Bytes) (a : Answer) : Type 0 where
  -- refused exactly: by 1 to 5 or 14 at a place if and only if that is the inputs' fault; and inputs are accepted or have one
  pub only_faults : (number place : ℕ) → (number ≤ 5) ⊎ (number ≡ 14) → told a ≡ refuses number place → Fault i number place
  pub every_fault : (number place : ℕ) → Fault i number place → told a ≡ refuses number place
  pub else : ((number place : ℕ) → ¬ Fault i number place) → Accepted i
  -- memory after a refusal: the result memory is as it was; the work memory is all 0, but under 1 and 14, where it is as it was too
  pub nothing_written : (number place : ℕ) → told a ≡ refuses number place → r' ≡ r
  pub cleared : (number place : ℕ) → told a ≡ refuses number place → ¬ OfSize number → w' ≡ replicate (length w) 0
  pub untouched : (number place : ℕ) → told a ≡ refuses number place → OfSize number → w' ≡ w
  -- memory after an end: the work memory is all 0 too, the result memory behind the sheet is as it was
  pub cleared_at_end : (n : ℕ) → told a ≡ wrote n → w' ≡ replicate (length w) 0
  pub rest_kept : (n : ℕ) → told a ≡ wrote n → drop n r' ≡ drop n r

-- SECOND PROMISE ----------------------------------------------------------------------------------------------------

-- a reader of the bytes finds the behaviour b, and of the state s the result, the output and the set variables with their marks
pub record EndRead (b : Behaviour) (s : State) (bytes : Bytes) : Type 0 where
  pub behaviour : read_behaviour bytes ≡ behaviour_number b
  pub result : read_result bytes ≡ one_if (result s)
  pub output : read_output bytes ≡ written s
  pub variables : read_variables bytes ≡ shown (variables s)

-- the run ended, and its sheet at the front of r' tells that end
pub record EndsWith (b : Behaviour) (s : State) (r' : Bytes) (a : Answer) : Type 0 where
  pub size : ℕ
  pub said : told a ≡ wrote size
  pub read : EndRead b s (take size r')

-- the rules give an end
abbrev pub IsEnd : Outcome Behaviour → Type 0
IsEnd (refused why place before) = ⊥
IsEnd (ended b s t) = Unit {0}

-- the rules reach the limit of that number first, at that place
abbrev pub Reaches : (n p : ℕ) → Outcome Behaviour → Type 0
Reaches n p (refused why place before) = (number why ≡ n) × (place ≡ p)
Reaches n p (ended b s t) = ⊥

-- Of inputs that are accepted, on which the rules come to o.
pub record Second (o : Outcome Behaviour) (r' : Bytes) (a : Answer) : Type 0 where
  -- ended exactly: with that end if the rules give it, and only if they give one
  pub ends_so : (b : Behaviour) (s : State) (t : Trace) → o ≡ ended b s t → EndsWith b s r' a
  pub only_ends : (n : ℕ) → told a ≡ wrote n → IsEnd o
  -- refused midway exactly: by the limit that the rules reach first, and only if they reach one
  pub refused_so : (why : Refusal) (place : ℕ) (before : Trace) → o ≡ refused why place before → told a ≡ refuses (number why) place
  pub only_refused : (n p : ℕ) → told a ≡ refuses n p → Reaches n p o

-- THIRD PROMISE -----------------------------------------------------------------------------------------------------

-- Of inputs that are accepted, as all are on which a run ends: an ended run's sheet holds the profile of the rules' trace.
abbrev pub Third : (i : Inputs) → Accepted i → (r' : Bytes) → Answer → Type 0
Third i x r' a = (n : ℕ) → told a ≡ wrote n → ProfileRead i (script i x) (trace_of (outcome i x)) (take n r')

-- THE CLAIMS --------------------------------------------------------------------------------------------------------

-- bytes are below 256
pub record Bytewise (i : Inputs) : Type 0 where
  pub sheet : IsBytes i.sheet
  pub arguments : IsBytes i.arguments

abbrev pub FirstPromise : Type 0
FirstPromise = (i : Inputs) (r w r' w' : Bytes) (a : Answer) → Bytewise i → Promise i r w r' w' a → First i r w r' w' a

abbrev pub SecondPromise : Type 0
SecondPromise = (i : Inputs) (r w r' w' : Bytes) (a : Answer) → Bytewise i → Promise i r w r' w' a → (x : Accepted i) → Second (outcome i x) r' a

abbrev pub ThirdPromise : Type 0
ThirdPromise = (i : Inputs) (r w r' w' : Bytes) (a : Answer) → Bytewise i → Promise i r w r' w' a → (x : Accepted i) → Third i x r' a
