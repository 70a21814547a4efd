-- What is proved of the rules, in one place. The proofs are put together in proofs/Theorems.antt; the tables of cases have their claims
-- beside them.
use Rattle.std.specs.Prelude.{◌≡◌, Bool, true, not, ◌&&◌, List, [], ◌∷◌, ◌++◌, map, ℕ, suc, ◌≤◌, ◌<◌, T, leb, ltb, length, get_or, take}
use Rattle.rules.specs.declared.Behaviour.{Behaviour}
use Rattle.rules.specs.declared.Behaviour.TheVariants.{Failure}
use Rattle.rules.specs.declared.Refusal.{Refusal}
use Rattle.rules.specs.declared.Refusal.TheVariants.{BudgetUsedUp}
use Rattle.rules.specs.Lists.{Every}
use Rattle.rules.specs.Syntax.{Bytes, Program, Str, Lst, Ins}
use Rattle.rules.specs.Trace.{Trace, end, call, steps, first_steps, places, timeline, sum, own, inclusive, entered, outermost, Numbered, NoEmptyCall, Accounted}
use Rattle.rules.specs.State.{Limits, with_limits, with_budget, number, State, Inherited, Evaluated, Outcome, refused, ended, trace_of}
use Rattle.rules.specs.Words.{embedded_value}
use Rattle.rules.specs.Flow.{is_failure}
use Rattle.rules.specs.Evaluation.{eval_ins, eval_str, eval_lst, enter_at, run}
use Rattle.rules.specs.Watched.{Watch, idle, refusing, watched_run}
use Rattle.rules.specs.Ruling.{Ruling, sheet, Sheet, Row, ruling}
use Rattle.rules.specs.Genuine.{Reached, str, lst, ins, Genuine, Unfinished, MadeBy, MadeSoFar}
use Rattle.rules.specs.Fits.{Short, Few, Narrow, Fits, FitsProgram, ShortString, FewFields}

-- what a run is given beside its limits
pub record Given : Type 0 where
  pub program : Program
  pub argument0 : Bytes
  pub arguments : List Bytes
  pub stdin : Bytes

abbrev pub outcome : Limits → Given → Outcome Behaviour
outcome limits g = run limits g.program g.argument0 g.arguments g.stdin

abbrev pub ruling_on : Limits → Given → Ruling
ruling_on limits g = ruling limits g.program g.argument0 g.arguments g.stdin

-- TRACES ------------------------------------------------------------------------------------------------------------

-- Of every trace and function: inclusive is the lengths of the outermost calls added up, not below own and not above the steps.
abbrev pub EveryTraceAccounted : Type 0
EveryTraceAccounted = (t : Trace) (f : ℕ) → (inclusive f t ≡ sum (outermost f t)) × (own f t ≤ inclusive f t) × (inclusive f t ≤ steps t)

-- Of every trace under main that enters only the functions 1 to n, and makes a step in every call: all of `Accounted`.
abbrev pub EveryMainAccounted : Type 0
EveryMainAccounted = (n : ℕ) (t : Trace) → Numbered n t → NoEmptyCall (call 0 t end) → Accounted n (call 0 t end)

-- The beginning of a trace is what its name says: its first n steps, each with the calls that were open when it was made.
abbrev pub EveryBeginning : Type 0
EveryBeginning =
    (n : ℕ) (t : Trace)
    → (places (first_steps n t) ≡ take n (places t)) × ((opened : List ℕ) → timeline opened (first_steps n t) ≡ take n (timeline opened t))

-- RUNS --------------------------------------------------------------------------------------------------------------

-- Of a run that ends: the steps used are those of the trace, within the budget; and the figures are sound.
abbrev pub EveryRunAccounted : Type 0
EveryRunAccounted =
    (limits : Limits) (g : Given) (b : Behaviour) (s : State) (t : Trace) → outcome limits g ≡ ended b s t
    → (s.used ≡ steps t) × (steps t ≤ limits.budget) × Accounted (length g.program.functions) t

-- Of every run, be it refused: the steps of its trace are within the budget; and, if the budget lets any record begin, the figures are sound.
abbrev pub EveryOutcomeAccounted : Type 0
EveryOutcomeAccounted =
    (limits : Limits) (g : Given)
    → (steps (trace_of (outcome limits g)) ≤ limits.budget)
    × (0 < limits.budget → Accounted (length g.program.functions) (trace_of (outcome limits g)))

-- The trace of a run that ends is genuine,
abbrev pub EveryRunGenuine : Type 0
EveryRunGenuine =
    (limits : Limits) (g : Given) (b : Behaviour) (s : State) (t : Trace) → outcome limits g ≡ ended b s t → MadeBy limits g.program t

-- and that of a refused one is, up to the calls that are open at the refusal.
abbrev pub EveryRefusalGenuine : Type 0
EveryRefusalGenuine =
    (limits : Limits) (g : Given) (why : Refusal) (place : ℕ) (t : Trace) → outcome limits g ≡ refused why place t
    → MadeSoFar limits g.program why place t

-- So every call in it is of one of the program's functions and makes a step,
abbrev pub GenuineCalls : Type 0
GenuineCalls =
    (limits : Limits) (program : Program) (left : ℕ) (t : Trace) → Genuine limits program left t
    → Numbered (length program.functions) t × NoEmptyCall t

abbrev pub UnfinishedCalls : Type 0
UnfinishedCalls =
    (limits : Limits) (program : Program) (why : Refusal) (place left : ℕ) (t : Trace) → Unfinished limits program why place left t
    → Numbered (length program.functions) t × NoEmptyCall t

-- and at every step of every run at most as many calls as the stack limit allows are open, beside main.
abbrev pub StackKept : Type 0
StackKept =
    (limits : Limits) (g : Given) → Every (λ opened. length opened ≤ suc limits.stack) (timeline [] (trace_of (outcome limits g)))

-- THE BUDGET --------------------------------------------------------------------------------------------------------

-- the budget did not decide it
abbrev pub NotByBudget : Outcome Behaviour → Type 0
NotByBudget (refused why place t) = ¬ (why ≡ BudgetUsedUp)
NotByBudget (ended b s t) = Unit {0}

-- How the outcome o of a run under some budget and the outcome o' of the same run under the budget B go together.
pub record Settled (B : ℕ) (o o' : Outcome Behaviour) : Type 0 where
  -- more steps than B: o' is refused with 6 at the first step past B, after the steps before it
  pub cut : B < steps (trace_of o) → o' ≡ refused BudgetUsedUp (get_or (places (trace_of o)) B 0) (first_steps B (trace_of o))
  -- no more steps than B, and o is no refusal with 6: o' is the same
  pub kept : steps (trace_of o) ≤ B → NotByBudget o → o' ≡ o

-- Refusal 6 is exact: what a run came to under some budget, be it an end or a refusal, it comes to under any other that its steps fit,
-- unless it was refused with 6; and under a budget that they do not fit it is refused with 6 at the record that would have begun first past
-- that budget. So a run refused with 7 to 10 is refused alike under every larger budget.
abbrev pub BudgetExact : Type 0
BudgetExact = (limits : Limits) (budget : ℕ) (g : Given) → Settled budget (outcome limits g) (outcome (with_budget limits budget) g)

-- the same run with one step more allowed
abbrev pub one_step_more : Limits → Given → Outcome Behaviour
one_step_more limits g = outcome (with_budget limits (suc limits.budget)) g

-- it makes more steps than the budget, and the first of those past it, counted from 0 the one with the budget's number, is the beginning of
-- the record `place`
pub record NextStep (limits : Limits) (g : Given) (place : ℕ) : Type 0 where
  pub made : limits.budget < steps (trace_of (one_step_more limits g))
  pub at : get_or (places (trace_of (one_step_more limits g))) limits.budget 0 ≡ place

-- Refusal 6, exactly: a run is refused with 6 at a record if and only if with one step more allowed its next step is the beginning of that
-- record; and what was done before is what that longer run did before that step, and uses up the budget.
abbrev pub SixExactly : Type 0
SixExactly =
    (limits : Limits) (g : Given) (place : ℕ)
    → ((t : Trace) → outcome limits g ≡ refused BudgetUsedUp place t
    → NextStep limits g place × (steps t ≡ limits.budget) × (t ≡ first_steps limits.budget (trace_of (one_step_more limits g))))
    × (NextStep limits g place → outcome limits g ≡ refused BudgetUsedUp place (first_steps limits.budget (trace_of (one_step_more limits g))))

-- FAILURE -----------------------------------------------------------------------------------------------------------

-- the run under a watch (specs/Watched.antt)
abbrev pub outcome_under : Watch → Limits → Given → Outcome Behaviour
outcome_under watch limits g = watched_run watch limits g.program g.argument0 g.arguments g.stdin

-- Under the idle watch a run is as it is.
abbrev pub Unwatched : Type 0
Unwatched = (limits : Limits) (g : Given) → outcome_under idle limits g ≡ outcome limits g

-- it is a refusal with why, at place
abbrev pub RefusedWith : (why : Refusal) → (place : ℕ) → Outcome Behaviour → Type 0
RefusedWith why place (refused w p t) = (w ≡ why) × (p ≡ place)
RefusedWith why place (ended b s t) = ⊥

-- it is an end in Failure
abbrev pub EndsInFailure : Outcome Behaviour → Type 0
EndsInFailure (refused why place t) = ⊥
EndsInFailure (ended b s t) = b ≡ Failure

-- Inside a run one of the records looked at comes to Failure or an error: whatever number and place a watch on them is set to refuse with, the
-- run is refused with just these.
abbrev pub FailsInside : (looks : ℕ → Bool) → Limits → Given → Type 0
FailsInside looks limits g = (why : Refusal) (place : ℕ) → RefusedWith why place (outcome_under (refusing looks why place) limits g)

-- Failure is never lost: if the evaluation of any record, anywhere inside a run, comes to Failure or an error, the run ends in Failure.
abbrev pub FailureNeverLost : Type 0
FailureNeverLost = (looks : ℕ → Bool) (limits : Limits) (g : Given) → FailsInside looks limits g → EndsInFailure (outcome limits g)

-- And a run that ends in Failure fails inside: a watch on all its records sees it.
abbrev pub FailureSeen : Type 0
FailureSeen = (limits : Limits) (g : Given) → EndsInFailure (outcome limits g) → FailsInside (λ at. true) limits g

-- How the outcome of a run goes together with that under a watch which refuses with why at place.
pub data Watching (why : Refusal) (place : ℕ) : (o o' : Outcome Behaviour) → Type 0 where
  -- the watch changed nothing
  nothing : (o : Outcome Behaviour) → Watching why place o o
  -- it saw Failure or an error: the run ends in Failure, and has made no step since
  failed : (s : State) (t : Trace) → Watching why place (ended Failure s t) (refused why place t)

-- So no step is made after that evaluation: the trace of the run is what was done up to there.
abbrev pub NothingAfterFailure : Type 0
NothingAfterFailure =
    (looks : ℕ → Bool) (why : Refusal) (place : ℕ) (limits : Limits) (g : Given)
    → Watching why place (outcome limits g) (outcome_under (refusing looks why place) limits g)

-- RAISING A LIMIT ---------------------------------------------------------------------------------------------------

-- of the limits that a run chooses none is smaller in l' than in l
abbrev pub no_smaller : (l l' : Limits) → Bool
no_smaller l l' = leb l.loop l'.loop && (leb l.stack l'.stack && leb l.budget l'.budget)

-- what more room leaves as it is: an end that is not Failure; and a refusal, unless with 6
abbrev pub lasting : Outcome Behaviour → Bool
lasting (refused why place t) = ltb 6 (number why)
lasting (ended b s t) = not (is_failure b)

-- Raising a limit is harmless: such an outcome, its trace included, is the same under any loop limit, stack limit and budget that are each at
-- least as large. Every other limit, and whatever else a run is given, is the same for both.
abbrev pub OutcomeLasts : Type 0
OutcomeLasts =
    (limits : Limits) (loop stack budget : ℕ) (g : Given) → T (no_smaller limits (with_limits limits loop stack budget)) → T (lasting (outcome limits g))
    → outcome (with_limits limits loop stack budget) g ≡ outcome limits g

-- VALUES ------------------------------------------------------------------------------------------------------------

-- What a stream comes to, told from its end: a newline there goes, and where any other byte stands there nothing goes.
pub record FromTheEnd (value : Bytes → Bytes) : Type 0 where
  pub nothing : value [] ≡ []
  pub newline : (s : Bytes) → value (s ++ 10 ∷ []) ≡ value s
  pub other : (s : Bytes) (c : ℕ) → ¬ (c ≡ 10) → value (s ++ c ∷ []) ≡ s ++ c ∷ []

-- So it is with the value of an embedded command,
abbrev pub CutFromTheEnd : Type 0
CutFromTheEnd = FromTheEnd embedded_value

-- and with nothing else that a stream could come to.
abbrev pub CutOneWay : Type 0
CutOneWay = (value : Bytes → Bytes) → FromTheEnd value → (s : Bytes) → value s ≡ embedded_value s

-- what the evaluations of a program's records come to, from a state s
pub record EvaluationFits (limits : Limits) (program : Program) (left : ℕ) (h : Inherited) (s : State) : Type 0 where
  pub strings : (x : Str) → Reached program (str x) → (flag : Bool) (v : Evaluated (Bytes × Bool)) (s' : State) (t : Trace)
      → eval_str limits program.functions (enter_at limits program.functions left) x flag h s ≡ ended v s' t
      → ShortString limits v × Fits limits s'
  pub lists : (l : Lst) → Reached program (lst l) → (so_far : List Bytes) → Few limits so_far → (v : Evaluated (List Bytes)) (s' : State) (t : Trace)
      → eval_lst limits program.functions (enter_at limits program.functions left) l so_far h s ≡ ended v s' t
      → FewFields limits v × Fits limits s'
  pub instructions : (i : Ins) → Reached program (ins i) → (b : Behaviour) (s' : State) (t : Trace)
      → eval_ins limits program.functions (enter_at limits program.functions left) i h s ≡ ended b s' t
      → Fits limits s'

-- From a state that fits, the evaluation of any record of the program that ends leaves one that fits, and comes to a string or fields
-- that fit: no value above the string limit, no list above the list limit, no kept stream above the stream limit.
abbrev pub EveryEvaluationFits : Type 0
EveryEvaluationFits =
    (limits : Limits) (program : Program) → FitsProgram limits program → (left : ℕ) (h : Inherited) → Short limits h.argument0
    → (s : State) → Fits limits s → EvaluationFits limits program left h s

-- So does every run, from arguments and input that fit.
abbrev pub EveryRunFits : Type 0
EveryRunFits =
    (limits : Limits) (g : Given) → FitsProgram limits g.program → Short limits g.argument0
    → Few limits g.arguments → Narrow limits g.stdin
    → (b : Behaviour) (s : State) (t : Trace) → outcome limits g ≡ ended b s t → Fits limits s

-- THE RESULT SHEET --------------------------------------------------------------------------------------------------

abbrev pub own_of : Row → ℕ
own_of r = r.own

-- a row holds the figures of its function
pub record RowAccounted (t : Trace) (r : Row) : Type 0 where
  pub times : r.entered ≡ entered r.function t
  pub outermost_add_up : r.inclusive ≡ sum (outermost r.function t)
  pub own_below : r.own ≤ r.inclusive
  pub never_above : r.inclusive ≤ steps t

-- a sheet holds what its run did
pub record SheetAccounted (limits : Limits) (g : Given) (r : Sheet) : Type 0 where
  pub after : State
  pub trace : Trace
  pub ran : outcome limits g ≡ ended r.behaviour after trace
  pub total : r.steps ≡ steps trace
  pub within : r.steps ≤ limits.budget
  pub charges : sum (map own_of r.profile) ≡ r.steps
  pub rows : Every (RowAccounted trace) r.profile

abbrev pub EverySheetAccounted : Type 0
EverySheetAccounted = (limits : Limits) (g : Given) (r : Sheet) → ruling_on limits g ≡ sheet r → SheetAccounted limits g r
