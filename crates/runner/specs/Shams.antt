-- Sham runners, and the inputs at which they are caught. A runner is a function from what it is lent to what it leaves, and a sham is a
-- property of runners. Whatever else such a runner does, and whatever it makes up, it breaks the promise at one of the inputs named.
use Rattle.std.specs.Prelude.{◌≡◌, Bool, true, false, ◌&&◌, ◌||◌, not, cond, List, [], ◌∷◌, ◌++◌, ℕ, suc, ◌<◌, eqb, length, get_or, take, drop, replicate}
use Rattle.rules.specs.Ascii.{ascii}
use Rattle.rules.specs.Lists.{Every}
use Rattle.rules.specs.declared.Behaviour.{Behaviour}
use Rattle.rules.specs.declared.Behaviour.TheVariants.{Normal, Exit, Failure}
use Rattle.rules.specs.Syntax.{Bytes, Ins, Program, empty, field, for}
use Rattle.rules.specs.Trace.{steps, places}
use Rattle.rules.specs.State.{Limits, limits_of, Outcome, trace_of}
use Rattle.rules.specs.Evaluation.{run}
use Rattle.rules.specs.Ruling.{Sheet, Row}
use Rattle.rules.specs.Cases.{row}
use Rattle.sheet.specs.Format.{number, is_instruction}
use Rattle.sheet.specs.Check.{Rec, Known, kind_of, payload_of, record_of}
use Rattle.sheet.specs.Decode.{program, main_body}
use Rattle.sheet.specs.Filled.{str_of, ins_of}
use Rattle.sheet.specs.Arguments.{arguments}
use Rattle.sheet.specs.Order.{Inputs}
use Rattle.sheet.specs.Cases.{rec, txt, sheet_a}
use Rattle.sheet.specs.Check.{known_of}
use Rattle.result.specs.Encoding.{sheet_bytes}
use Rattle.runner.specs.Verdict.{refused, ended, verdict, arguments_in}
use Rattle.runner.specs.Promise.{Answer, wrote, refuses, told, Promise, inputs}
use Rattle.runner.specs.Refusals.{x}

-- RUNNERS -----------------------------------------------------------------------------------------------------------

-- what a runner is lent
pub record Lent : Type 0 where
  pub sheet : Bytes
  pub arguments : Bytes
  pub input : Bytes
  pub loop : ℕ
  pub stack : ℕ
  pub budget : ℕ
  pub result : Bytes
  pub work : Bytes

-- what it answers, and the later content of both memories
pub record Left : Type 0 where
  pub answer : Answer
  pub result : Bytes
  pub work : Bytes

abbrev pub Runner : Type 0
Runner = Lent → Left

abbrev pub inputs_of : Lent → Inputs
inputs_of l = inputs l.sheet l.arguments l.input l.loop l.stack l.budget l.result l.work

-- it does what `run` promises
abbrev pub Keeps : Runner → Lent → Type 0
Keeps f l = Promise (inputs_of l) l.result l.work (f l).result (f l).work (f l).answer

-- it ends with the sheet s at the front of the result memory
pub record Writes (f : Runner) (l : Lent) (s : Sheet) : Type 0 where
  pub answer : told (f l).answer ≡ wrote (length (sheet_bytes s))
  pub sheet : take (length (sheet_bytes s)) (f l).result ≡ sheet_bytes s

-- no runner that is such a sham keeps the promise at all these inputs
abbrev pub Caught : (Runner → Type 0) → List Lent → Type 0
Caught Sham ls = (f : Runner) → Sham f → Every (Keeps f) ls → ⊥

-- RUNS OF THE RULES, on what a runner is lent -----------------------------------------------------------------------

-- the rules end with the sheet s
abbrev pub Ends : Lent → Sheet → Type 0
Ends l s = verdict (inputs_of l) ≡ ended s

abbrev pub known : Lent → Known
known l = known_of l.sheet

-- under limits, and of a program, in place of its own
abbrev pub comes_to : Limits → Program → Lent → Outcome Behaviour
comes_to limits p l =
    run limits p (get_or (arguments_in (arguments l.arguments)) 0 []) (drop 1 (arguments_in (arguments l.arguments))) l.input

abbrev pub whole : Lent → Outcome Behaviour
whole l = comes_to (limits_of l.loop l.stack l.budget) (program (known l)) l

-- with an instruction for main
abbrev pub running : Ins → Lent → Outcome Behaviour
running i l =
    comes_to (limits_of l.loop l.stack l.budget)
    (record { functions = (program (known l)).functions; main = i; slots = (program (known l)).slots }) l

-- a number in the payload of record r
abbrev pub number_in : Known → (r at : ℕ) → ℕ
number_in K r at = number (payload_of K r) at

-- main's first instruction: if main is a sequence, its first part
abbrev pub first_record : Known → ℕ
first_record K = cond (eqb (kind_of K (main_body K)) 18) (number_in K (main_body K) 0) (main_body K)

abbrev pub first_instruction : Lent → Outcome Behaviour
first_instruction l = running (ins_of (known l) (first_record (known l))) l

-- main's first iteration, where main is a for whose list r begins with a field: the for, with that field alone
abbrev pub with_field : Known → (m r : ℕ) → Ins
with_field K m r = for m (record_of K m).slot (field r (str_of K (number_in K r 0)) (empty r)) (ins_of K (number_in K m 4))

abbrev pub first_field : Lent → Outcome Behaviour
first_field l = running (with_field (known l) (main_body (known l)) (number_in (known l) (main_body (known l)) 2)) l

-- the first iteration of every while: where a second would come, Failure
abbrev pub first_iteration : Lent → Outcome Behaviour
first_iteration l = comes_to (limits_of 1 l.stack l.budget) (program (known l)) l

-- the first level of calls: where a call would come inside a call, Failure
abbrev pub first_level : Lent → Outcome Behaviour
first_level l = comes_to (limits_of l.loop 1 l.budget) (program (known l)) l

-- SHAMS -------------------------------------------------------------------------------------------------------------

-- It refuses everything, by any numbers and places.
abbrev pub RefusesAll : Runner → Type 0
RefusesAll f = (l : Lent) → (n : ℕ) × (p : ℕ) × (told (f l).answer ≡ refuses n p)

-- It has a fixed result: whatever ends, ends with the same bytes. What it refuses is its own affair.
abbrev pub FixedResult : Runner → Type 0
FixedResult f = (s : Bytes) × ((l : Lent) (n : ℕ) → told (f l).answer ≡ wrote n → take n (f l).result ≡ s)

-- It does nothing: the result memory is as before. What it answers, and whether it clears the work memory, is its own affair.
abbrev pub DoesNothing : Runner → Type 0
DoesNothing f = (l : Lent) → (f l).result ≡ l.result

-- It does nothing where it refuses: the work memory is as before.
abbrev pub LeavesWork : Runner → Type 0
LeavesWork f = (l : Lent) (n p : ℕ) → told (f l).answer ≡ refuses n p → (f l).work ≡ l.work

-- It runs a part, and invents what is missing. It sees what the part came to (behaviour, state and trace); all of the sheet but the payloads of
-- instructions that did not begin; and all else that it is lent. What the rules refuse is its own affair.
abbrev pub is_among : ℕ → List ℕ → Bool
is_among r [] = false
is_among r (n ∷ ns) = eqb n r || is_among r ns

abbrev pub visible : (began : List ℕ) → (r : ℕ) → List Rec → List Rec
visible began r [] = []
visible began r (c ∷ cs) =
    (record { at = c.at; kind = c.kind; payload = cond (is_instruction c.kind && not (is_among r began)) [] c.payload; slot = c.slot })
    ∷ visible began (suc r) cs

abbrev pub beside_sheet : Lent → Lent
beside_sheet l = record {
  sheet = [];
  arguments = l.arguments;
  input = l.input;
  loop = l.loop;
  stack = l.stack;
  budget = l.budget;
  result = l.result;
  work = l.work;
}

pub record Seen : Type 0 where
  pub came : Outcome Behaviour
  pub records : List Rec
  pub beside : Lent

abbrev pub sees : (part : Lent → Outcome Behaviour) → Lent → Seen
sees part l = record { came = part l; records = visible (places (trace_of (part l))) 0 (known l).records; beside = beside_sheet l }

abbrev pub RunsOnly : (part : Lent → Outcome Behaviour) → Runner → Type 0
RunsOnly part f = (makes_up : Seen → Left) × ((l : Lent) (s : Sheet) → Ends l s → f l ≡ makes_up (sees part l))

-- It charges all to main: in every sheet that it writes the other functions have no step of their own.
abbrev pub Uncharged : Row → Type 0
Uncharged r = 0 < r.function → r.own ≡ 0

abbrev pub ChargesMain : Runner → Type 0
ChargesMain f = (l : Lent) (s : Sheet) → Writes f l s → Every Uncharged s.profile

-- It adds made-up steps: every sheet that it writes tells more steps than the rules make.
abbrev pub AddsSteps : Runner → Type 0
AddsSteps f = (l : Lent) (s : Sheet) → Writes f l s → steps (trace_of (whole l)) < s.steps

-- INPUTS ------------------------------------------------------------------------------------------------------------

unfoldable pub filled : (size byte : ℕ) → Bytes
filled n b = replicate n b

-- no standard input; a result memory of zeros, a work memory of ones
abbrev pub lent : (sheet arguments : Bytes) → (loop stack budget : ℕ) → Lent
lent s a l k b = record { sheet = s; arguments = a; input = []; loop = l; stack = k; budget = b; result = filled 4096 0; work = filled 65536 1 }

-- exercise A; under stack limit 2; under budget 0, which is refused
abbrev pub exercise_a : Lent
exercise_a = lent sheet_a x 0 3 37

abbrev pub shallow_a : Lent
shallow_a = lent sheet_a x 0 2 37

abbrev pub no_budget : Lent
no_budget = lent sheet_a x 0 3 0

-- Pairs that agree in a part and differ after it, by the code of an exit: 0 success, 1 failure.

-- shift 0; exit
abbrev pub then_exit : (code : ℕ) → Lent
then_exit c = lent (rec 30 (0 ∷ []) ++ rec 28 (c ∷ []) ++ rec 18 (0 ∷ 1 ∷ []) ++ rec 33 (2 ∷ [])) x 0 0 100

-- records n to n + 3: shift 1, shift 0, exit, and if shift 1 then shift 0 else exit. With one argument the second time is the exit.
abbrev pub twice : (n code : ℕ) → Bytes
twice n c = rec 30 (1 ∷ []) ++ rec 30 (0 ∷ []) ++ rec 28 (c ∷ []) ++ rec 21 (n ∷ suc n ∷ suc (suc n) ∷ [])

-- while shift 0 do that
abbrev pub while_exit : (code : ℕ) → Lent
while_exit c = lent (twice 0 c ++ rec 27 (1 ∷ 3 ∷ []) ++ rec 33 (4 ∷ [])) (x ++ x) 2 0 100

-- for a in a a do that
abbrev pub for_exit : (code : ℕ) → Lent
for_exit c =
    lent
    (txt (ascii "a") ++ rec 6 [] ++ rec 7 (0 ∷ 1 ∷ []) ++ rec 7 (0 ∷ 2 ∷ []) ++ twice 4 c ++ rec 26 (0 ∷ 3 ∷ 7 ∷ []) ++ rec 33 (8 ∷ []))
    (x ++ x) 0 0 100

-- f is: if shift 1 then f else exit; main is f with an argument
abbrev pub call_exit : (code : ℕ) → Lent
call_exit c =
    lent
    (txt (ascii "f") ++ rec 6 [] ++ rec 30 (1 ∷ []) ++ rec 25 (0 ∷ 1 ∷ []) ++ rec 28 (c ∷ []) ++ rec 21 (2 ∷ 3 ∷ 4 ∷ [])
    ++ rec 32 (0 ∷ 5 ∷ []) ++ rec 7 (0 ∷ 1 ∷ []) ++ rec 25 (0 ∷ 7 ∷ []) ++ rec 33 (8 ∷ []))
    x 0 2 100

-- what they end with
abbrev pub end : Behaviour → (result : Bool) → (steps : ℕ) → List Row → Sheet
end b r n p = record { behaviour = b; result = r; steps = n; output = []; variables = []; profile = p }

abbrev pub end_a : Sheet
end_a = end Normal true 37 (row 0 1 6 37 ∷ row 1 3 31 31 ∷ [])

abbrev pub shallow_end : Sheet
shallow_end = end Failure true 28 (row 0 1 6 28 ∷ row 1 2 22 22 ∷ [])

abbrev pub then_end : (result : Bool) → Sheet
then_end r = end Exit r 3 (row 0 1 3 3 ∷ [])

abbrev pub while_end : (result : Bool) → Sheet
while_end r = end Exit r 9 (row 0 1 9 9 ∷ [])

abbrev pub for_end : (result : Bool) → Sheet
for_end r = record {
  behaviour = Exit;
  result = r;
  steps = 12;
  output = [];
  variables = (record { exported = false; name = ascii "a"; value = ascii "a" }) ∷ [];
  profile = row 0 1 12 12 ∷ [];
}

abbrev pub call_end : (result : Bool) → Sheet
call_end r = end Exit r 11 (row 0 1 4 11 ∷ row 1 2 7 7 ∷ [])

-- CLAIMS ------------------------------------------------------------------------------------------------------------

-- The rules give the inputs named these ends, and refuse one.
pub record NamedInputs : Type 0 where
  pub a : Ends exercise_a end_a
  pub shallow : Ends shallow_a shallow_end
  pub none : verdict (inputs_of no_budget) ≡ refused 2 0
  pub then₀ : Ends (then_exit 0) (then_end true)
  pub then₁ : Ends (then_exit 1) (then_end false)
  pub while₀ : Ends (while_exit 0) (while_end true)
  pub while₁ : Ends (while_exit 1) (while_end false)
  pub for₀ : Ends (for_exit 0) (for_end true)
  pub for₁ : Ends (for_exit 1) (for_end false)
  pub call₀ : Ends (call_exit 0) (call_end true)
  pub call₁ : Ends (call_exit 1) (call_end false)

-- The promise can be kept at every input, so what follows speaks of shams.
abbrev pub PromiseCanBeKept : Type 0
PromiseCanBeKept = (f : Runner) × ((l : Lent) → Keeps f l)

-- At exercise A no other sheet than the rules' is kept: not one with a figure more or less.
abbrev pub OneSheetAtA : Type 0
OneSheetAtA = (f : Runner) (s : Sheet) → Writes f exercise_a s → Keeps f exercise_a → s ≡ end_a

-- The shams, each with the inputs at which it is caught.
abbrev pub RefuserCaught : Type 0
RefuserCaught = Caught RefusesAll (exercise_a ∷ [])

abbrev pub FixedResultCaught : Type 0
FixedResultCaught = Caught FixedResult (exercise_a ∷ shallow_a ∷ [])

abbrev pub IdlerCaught : Type 0
IdlerCaught = Caught DoesNothing (exercise_a ∷ [])

abbrev pub WorkLeftCaught : Type 0
WorkLeftCaught = Caught LeavesWork (no_budget ∷ [])

abbrev pub FirstInstructionCaught : Type 0
FirstInstructionCaught = Caught (RunsOnly first_instruction) (then_exit 0 ∷ then_exit 1 ∷ [])

abbrev pub FirstIterationCaught : Type 0
FirstIterationCaught = Caught (RunsOnly first_iteration) (while_exit 0 ∷ while_exit 1 ∷ [])

abbrev pub FirstFieldCaught : Type 0
FirstFieldCaught = Caught (RunsOnly first_field) (for_exit 0 ∷ for_exit 1 ∷ [])

abbrev pub FirstLevelCaught : Type 0
FirstLevelCaught = Caught (RunsOnly first_level) (call_exit 0 ∷ call_exit 1 ∷ [])

abbrev pub MainChargerCaught : Type 0
MainChargerCaught = Caught ChargesMain (exercise_a ∷ [])

abbrev pub StepAdderCaught : Type 0
StepAdderCaught = Caught AddsSteps (exercise_a ∷ [])
