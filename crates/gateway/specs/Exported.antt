-- What the exported functions promise: one number for the answer, and the later content of the lent memories.
use Rattle.std.specs.Prelude.{◌≡◌, ℕ, ◌+◌, ◌*◌, ◌≤◌}
use Rattle.rules.specs.Syntax.{Bytes}
use Rattle.sheet.specs.Order.{Inputs}
use Rattle.runner.specs.Verdict.{Verdict, verdict}
use Rattle.runner.specs.Promise.{Told, wrote, refuses, tells, result_after, work_after}
use Rattle.runner.specs.Graph.{file_on, file_after, size_after}

-- the number that says it: the length of the result sheet, or a refusal's number * 2^32 + its place
abbrev pub numbered : Told → ℕ
numbered (wrote length) = length
numbered (refuses number place) = number * 4294967296 + place

-- the number that says what is to be said of a verdict
abbrev pub coded : Verdict → ℕ
coded v = numbered (tells v)

pub record Exported (i : Inputs) (r w r' w' : Bytes) (n : ℕ) : Type 0 where
  pub answer : n ≡ coded (verdict i)
  pub result : r' ≡ result_after (verdict i) r
  pub work : w' ≡ work_after (verdict i) w

-- WITH THE CALL GRAPH ------------------------------------------------------------------------------------------------

-- after an end the number is greater by the file's length * 65,536
abbrev pub graph_coded : Inputs → ℕ
graph_coded i = 65536 * size_after (verdict i) (file_on i) + coded (verdict i)

pub record GraphExported (i : Inputs) (r w f r' w' f' : Bytes) (n : ℕ) : Type 0 where
  pub answer : n ≡ graph_coded i
  pub result : r' ≡ result_after (verdict i) r
  pub work : w' ≡ work_after (verdict i) w
  pub file : f' ≡ file_after (verdict i) (file_on i) f

-- REFUSALS ----------------------------------------------------------------------------------------------------------

-- how far numbers and places go: so the number that says a refusal has 64 bits
pub record Refusable (number place : ℕ) : Type 0 where
  pub first : 1 ≤ number
  pub last : number ≤ 14
  pub record512 : place ≤ 512

-- an answer that is a refusal is one of these
abbrev pub Sayable : Told → Type 0
Sayable (wrote length) = Unit {0}
Sayable (refuses number place) = Refusable number place
