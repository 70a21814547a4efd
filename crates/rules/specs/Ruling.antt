-- The ruling on a run: a refusal's number and place, or the content of the result sheet (docs/FORMATS.md), read off the outcome and its
-- trace.
use Rattle.std.specs.Prelude.{Bool, List, [], ◌∷◌, ℕ, zero, suc, length}
use Rattle.rules.specs.declared.Behaviour.{Behaviour}
use Rattle.rules.specs.Syntax.{Bytes, Program}
use Rattle.rules.specs.Trace.{Trace, steps, entered, own, inclusive}
use Rattle.rules.specs.State.{Limits, number, unset, bytes, Variable, Outcome, refused, ended, written, result}
use Rattle.rules.specs.Evaluation.{run}

-- kind 66: a set variable
pub record Shown : Type 0 where
  pub exported : Bool
  pub name : Bytes
  pub value : Bytes

-- kind 67: a function's figures
pub record Row : Type 0 where
  pub function : ℕ
  pub entered : ℕ
  pub own : ℕ
  pub inclusive : ℕ

-- kinds 64 (behaviour, result, steps), 65 (output), 66 and 67
pub record Sheet : Type 0 where
  pub behaviour : Behaviour
  pub result : Bool
  pub steps : ℕ
  pub output : Bytes
  pub variables : List Shown
  pub profile : List Row

pub data Ruling : Type 0 where
  refusal : (number place : ℕ) → Ruling
  sheet : Sheet → Ruling

-- what kind 66 tells of the variables, in the order of their slots: the unset are left out
abbrev pub shown : List Variable → List Shown
shown [] = []
shown (v ∷ vs) = elim v.value [
  | unset ↦ shown vs
  | bytes s ↦ (record { exported = v.exported; name = v.name; value = s }) ∷ shown vs
]

-- kind 67 for each of `functions` functions, from function f on
abbrev pub profile : (f functions : ℕ) → Trace → List Row
profile f zero t = []
profile f (suc functions) t =
    (record { function = f; entered = entered f t; own = own f t; inclusive = inclusive f t }) ∷ profile (suc f) functions t

abbrev pub ruling_of : (functions : ℕ) → Outcome Behaviour → Ruling
ruling_of functions (refused why place t) = refusal (number why) place
ruling_of functions (ended b s t) = sheet (record {
  behaviour = b;
  result = result s;
  steps = steps t;
  output = written s;
  variables = shown s.context.variables;
  profile = profile 0 (suc functions) t;
})

unfoldable pub ruling : Limits → Program → (argument0 : Bytes) → (arguments : List Bytes) → (stdin : Bytes) → Ruling
ruling limits program argument0 arguments stdin =
    ruling_of (length program.functions) (run limits program argument0 arguments stdin)
