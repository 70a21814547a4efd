-- What a run promises: its answer, and the later content of both lent memories.
use Rattle.std.specs.Prelude.{Result, Ok, Err, ◌≡◌, Bool, cond, ◌||◌, ◌++◌, ℕ, eqb, length, drop, replicate}
use Rattle.rules.specs.State.{number}
use Rattle.rules.specs.Syntax.{Bytes}
use Rattle.sheet.specs.Order.{Inputs, not_lent}
use Rattle.result.specs.Encoding.{sheet_bytes}
use Rattle.sheet.specs.Ready.{fault_number}
use Rattle.runner.specs.declared.Refused.{Refused}
use Rattle.runner.specs.declared.Refused.TheVariants as why
use Rattle.runner.specs.Verdict.{Verdict, refused, ended, verdict}

-- what an answer says: the length of the result sheet, or a refusal's number and place
pub data Told : Type 0 where
  wrote : (length : ℕ) → Told
  refuses : (number place : ℕ) → Told

-- the length of the result sheet, or why there is none
abbrev pub Answer : Type 0
Answer = Result ℕ Refused

abbrev pub refusal_number : Refused → ℕ
refusal_number why.Sizes = 1
refusal_number why.Limits = 2
refusal_number (why.Sheet of) = fault_number of.why
refusal_number why.Arguments = 5
refusal_number (why.Midway halt) = number halt.why
refusal_number why.File = 14

abbrev pub refusal_place : Refused → ℕ
refusal_place why.Sizes = 0
refusal_place why.Limits = 0
refusal_place (why.Sheet of) = of.place
refusal_place why.Arguments = 0
refusal_place (why.Midway halt) = halt.place
refusal_place why.File = 0

abbrev pub told : Answer → Told
told (Ok length) = wrote length
told (Err r) = refuses (refusal_number r) (refusal_place r)

-- what is to be said of a verdict
abbrev pub tells : Verdict → Told
tells (refused number place) = refuses number place
tells (ended sheet) = wrote (length (sheet_bytes sheet))

-- the result sheet at the front, the rest unchanged; nothing after a refusal
abbrev pub result_after : Verdict → Bytes → Bytes
result_after (refused number place) result = result
result_after (ended sheet) result = sheet_bytes sheet ++ drop (length (sheet_bytes sheet)) result

-- 1 and 14 refuse a size
abbrev pub of_size : (number : ℕ) → Bool
of_size number = eqb number 1 || eqb number 14

-- cleared; where a size is refused, untouched
abbrev pub work_after : Verdict → Bytes → Bytes
work_after (refused number place) work = cond (of_size number) work (replicate (length work) 0)
work_after (ended sheet) work = replicate (length work) 0

pub record Promise (i : Inputs) (r w r' w' : Bytes) (a : Answer) : Type 0 where
  pub answer : told a ≡ tells (verdict i)
  pub result : r' ≡ result_after (verdict i) r
  pub work : w' ≡ work_after (verdict i) w

-- the inputs of a run, which is lent no file memory
abbrev pub inputs : (sheet arguments input : Bytes) → (loop stack budget : ℕ) → (result work : Bytes) → Inputs
inputs s a i l k b r w = record {
  sheet = s;
  arguments = a;
  input = i;
  loop = l;
  stack = k;
  budget = b;
  result_size = length r;
  work_size = length w;
  file = not_lent;
}
