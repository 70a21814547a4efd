-- What is proved of a run's promise. The proofs are put together in proofs/Theorems.antt.
use Rattle.std.specs.Prelude.{Ok, ◌≡◌, Bool, not, ◌&&◌, ◌||◌, map, ℕ, suc, ◌≤◌, T, eqb, length, get_or, take, drop}
use Rattle.rules.specs.declared.Behaviour.TheVariants.{Failure}
use Rattle.rules.specs.Syntax.{Bytes, Program}
use Rattle.rules.specs.Trace.{Trace, steps, entered, own, inclusive, outermost, sum}
use Rattle.rules.specs.State.{behaviour_number}
use Rattle.rules.specs.Flow.{is_failure}
use Rattle.rules.specs.Genuine.{MadeBy}
use Rattle.rules.specs.Ruling.{Sheet, Row, ruling_of}
use Rattle.rules.specs.Claims.{own_of, no_smaller}
use Rattle.sheet.specs.Order.{Inputs, wrong_limits}
use Rattle.result.specs.Encoding.{sheet_bytes}
use Rattle.runner.specs.Verdict.{Verdict, refused, ended, ruled, verdict}
use Rattle.runner.specs.Promise.{Answer, wrote, refuses, told, Promise, inputs}
use Rattle.runner.specs.Ran.{program_of, limits_in, outcome_on, trace_on, functions_of}
use Rattle.runner.specs.Reading.{items, of_kind, read_behaviour, read_steps, read_rows, no_row}

-- ONE RESULT --------------------------------------------------------------------------------------------------------

-- Every answer says something else.
abbrev pub ToldOnce : Type 0
ToldOnce = (a₁ a₂ : Answer) → told a₁ ≡ told a₂ → a₁ ≡ a₂

-- Equal inputs admit one answer and one content of both memories.
abbrev pub OneResult : Type 0
OneResult =
    (i : Inputs) (r w r₁ w₁ r₂ w₂ : Bytes) (a₁ a₂ : Answer) → Promise i r w r₁ w₁ a₁ → Promise i r w r₂ w₂ a₂
    → (a₁ ≡ a₂) × (r₁ ≡ r₂) × (w₁ ≡ w₂)

-- OLD CONTENT -------------------------------------------------------------------------------------------------------

-- two runs answer alike, and after an end their result memories have the same sheet at the front, each its own old bytes behind it
pub record Alike (a₁ a₂ : Answer) (r r₁ s s₁ : Bytes) : Type 0 where
  pub answer : a₁ ≡ a₂
  pub sheet : (n : ℕ) → told a₁ ≡ wrote n → take n r₁ ≡ take n s₁
  pub tail : (n : ℕ) → told a₁ ≡ wrote n → drop n r₁ ≡ drop n r
  pub tail' : (n : ℕ) → told a₁ ≡ wrote n → drop n s₁ ≡ drop n s

-- The answer and the result sheet do not depend on what the memories held: the result memory r with the work memory w, and s with v.
abbrev pub OldContentIgnored : Type 0
OldContentIgnored =
    (sheet arguments input : Bytes) (loop stack budget : ℕ) (r w s v r₁ w₁ s₁ v₁ : Bytes) (a₁ a₂ : Answer) → length r ≡ length s → length w ≡ length v
    → Promise (inputs sheet arguments input loop stack budget r w) r w r₁ w₁ a₁
    → Promise (inputs sheet arguments input loop stack budget s v) s v s₁ v₁ a₂
    → Alike a₁ a₂ r r₁ s s₁

-- SIZE --------------------------------------------------------------------------------------------------------------

-- The sheet of an ended run always fits the result memory, which has 4,096 bytes or more.
abbrev pub SheetFits : Type 0
SheetFits = (i : Inputs) (s : Sheet) → verdict i ≡ ended s → length (sheet_bytes s) ≤ 3744

-- A run can come to a sheet of that size.
abbrev pub LargestSheet : Type 0
LargestSheet = (i : Inputs) × (s : Sheet) × (verdict i ≡ ended s) × (length (sheet_bytes s) ≡ 3744)

-- THE PROFILE, READ OFF THE BYTES -----------------------------------------------------------------------------------

-- The ruling is read off the rules' run on the inputs.
abbrev pub RuledIsRun : Type 0
RuledIsRun = (i : Inputs) → ruled i ≡ ruling_of (functions_of i) (outcome_on i)

-- The row of function f: how many calls of f the trace has, the steps made while f is the innermost open function, and those at which a call
-- of f, one or more, is open, which are the lengths of its outermost calls added up.
pub record RowRead (t : Trace) (f : ℕ) (r : Row) : Type 0 where
  pub function : r.function ≡ f
  pub entered : r.entered ≡ entered f t
  pub own : r.own ≡ own f t
  pub inclusive : r.inclusive ≡ inclusive f t
  pub outermost : r.inclusive ≡ sum (outermost f t)
  pub own_below : r.own ≤ r.inclusive
  pub never_above : r.inclusive ≤ steps t

-- The bytes hold the profile of a run of the program p on the inputs i, whose trace is t.
pub record ProfileRead (i : Inputs) (p : Program) (t : Trace) (bytes : Bytes) : Type 0 where
  -- the trace is one that the program can make under the limits
  pub genuine : MadeBy (limits_in i) p t
  -- one record has the steps, and they are those of the trace
  pub one : length (of_kind 64 (items bytes)) ≡ 1
  pub total : read_steps bytes ≡ steps t
  pub within : read_steps bytes ≤ i.budget
  -- each is charged to one function
  pub charges : sum (map own_of (read_rows bytes)) ≡ read_steps bytes
  -- a row for each function, main first
  pub many : length (read_rows bytes) ≡ suc (length p.functions)
  pub rows : (f : ℕ) → f ≤ length p.functions → RowRead t f (get_or (read_rows bytes) f no_row)

-- Of every ended run: a reader finds the profile of the rules' run on its inputs in the bytes that it says it wrote.
abbrev pub EveryProfileRead : Type 0
EveryProfileRead = (i : Inputs) (r w r₁ w₁ : Bytes) (n : ℕ) → Promise i r w r₁ w₁ (Ok n) → ProfileRead i (program_of i) (trace_on i) (take n r₁)

-- ONE MEANING -------------------------------------------------------------------------------------------------------

-- Two ended runs whose result memories have the same sheet at the front came to the same end: behaviour, result, steps, output, variables and
-- rows.
abbrev pub SheetFixesEnd : Type 0
SheetFixesEnd =
    (i j : Inputs) (r w r₁ w₁ s v s₁ v₁ : Bytes) (m n : ℕ) → Promise i r w r₁ w₁ (Ok m) → Promise j s v s₁ v₁ (Ok n)
    → take m r₁ ≡ take n s₁ → verdict i ≡ verdict j

-- RAISING A LIMIT ---------------------------------------------------------------------------------------------------

-- the same inputs but for the limits
abbrev pub under_limits : Inputs → (loop stack budget : ℕ) → Inputs
under_limits i loop stack budget = record {
  sheet = i.sheet;
  arguments = i.arguments;
  input = i.input;
  loop = loop;
  stack = stack;
  budget = budget;
  result_size = i.result_size;
  work_size = i.work_size;
  file = i.file;
}

-- none of the limits is smaller, and 2 is not given: they are accepted, and the input is not too long
abbrev pub raised : Inputs → (loop stack budget : ℕ) → Bool
raised i loop stack budget =
    no_smaller (limits_in i) (limits_in (under_limits i loop stack budget)) && not (wrong_limits (under_limits i loop stack budget))

-- what more room leaves as it is: an end that is not Failure; and a refusal, unless with 2 or 6
abbrev pub lasting_verdict : Verdict → Bool
lasting_verdict (refused number place) = not (eqb number 2 || eqb number 6)
lasting_verdict (ended s) = not (is_failure s.behaviour)

-- Raising a limit changes no such verdict.
abbrev pub VerdictLasts : Type 0
VerdictLasts =
    (i : Inputs) (loop stack budget : ℕ) → T (raised i loop stack budget) → T (lasting_verdict (verdict i))
    → verdict (under_limits i loop stack budget) ≡ verdict i

-- Of a run that answers a₁ and leaves r₁ in the result memory, and one under larger limits that answers a₂ and leaves s₁. (What each leaves behind
-- the sheet, and in the work memory, is in its promise.)
pub record Unharmed (a₁ a₂ : Answer) (r₁ s₁ : Bytes) : Type 0 where
  -- if the first wrote a sheet in which a reader does not find Failure, the second answers alike and wrote the same bytes
  pub end : (n : ℕ) → told a₁ ≡ wrote n → ¬ (read_behaviour (take n r₁) ≡ behaviour_number Failure) → (a₂ ≡ a₁) × (take n s₁ ≡ take n r₁)
  -- if it was refused, but not with 2 or 6, so is the second
  pub refusal : (n p : ℕ) → told a₁ ≡ refuses n p → ¬ (n ≡ 2) → ¬ (n ≡ 6) → a₂ ≡ a₁

-- Raising a limit is harmless: two runs whose inputs differ in the limits alone are `Unharmed`, if the second's are accepted and none of them is
-- smaller; whatever the memories held.
abbrev pub RaisingHarmless : Type 0
RaisingHarmless =
    (i : Inputs) (loop stack budget : ℕ) (r w r₁ w₁ s v s₁ v₁ : Bytes) (a₁ a₂ : Answer) → T (raised i loop stack budget)
    → Promise i r w r₁ w₁ a₁ → Promise (under_limits i loop stack budget) s v s₁ v₁ a₂ → Unharmed a₁ a₂ r₁ s₁
