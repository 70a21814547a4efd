-- The rules' run on the inputs of a run, and its trace.
use Rattle.std.specs.Prelude.{List, [], ℕ, length, get_or, drop}
use Rattle.rules.specs.declared.Behaviour.{Behaviour}
use Rattle.rules.specs.Syntax.{Bytes, Program}
use Rattle.rules.specs.Trace.{Trace}
use Rattle.rules.specs.State.{Limits, limits_of, Outcome, trace_of}
use Rattle.rules.specs.Evaluation.{run}
use Rattle.rules.specs.Claims.{Given}
use Rattle.sheet.specs.Decode.{program}
use Rattle.sheet.specs.Arguments.{arguments}
use Rattle.sheet.specs.Order.{Inputs}
use Rattle.sheet.specs.Check.{known_of}
use Rattle.runner.specs.Verdict.{arguments_in}

abbrev pub program_of : Inputs → Program
program_of i = program (known_of i.sheet)

abbrev pub limits_in : Inputs → Limits
limits_in i = limits_of i.loop i.stack i.budget

-- argument 0 first
abbrev pub given_to : Inputs → List Bytes
given_to i = arguments_in (arguments i.arguments)

-- what the rules' run is given beside its limits
abbrev pub given_on : Inputs → Given
given_on i = record { program = program_of i; argument0 = get_or (given_to i) 0 []; arguments = drop 1 (given_to i); stdin = i.input }

abbrev pub outcome_on : Inputs → Outcome Behaviour
outcome_on i = run (limits_in i) (program_of i) (get_or (given_to i) 0 []) (drop 1 (given_to i)) i.input

abbrev pub trace_on : Inputs → Trace
trace_on i = trace_of (outcome_on i)

-- how many functions there are beside main
abbrev pub functions_of : Inputs → ℕ
functions_of i = length (program_of i).functions
