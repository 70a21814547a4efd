-- What the order of refusals and the rules say of a run's inputs.
use Rattle.std.specs.Prelude.{List, [], ℕ, get_or, drop}
use Rattle.rules.specs.Syntax.{Bytes}
use Rattle.rules.specs.State.{limits_of}
use Rattle.rules.specs.Ruling.{Ruling, Sheet, refusal, sheet, ruling}
use Rattle.sheet.specs.Decode.{program}
use Rattle.sheet.specs.Arguments.{Arguments, arguments}
use Rattle.sheet.specs.Arguments as A
use Rattle.sheet.specs.Order.{Inputs, Ruled, rows, first_of}
use Rattle.sheet.specs.Order as O
use Rattle.sheet.specs.Check.{known_of}

-- refused by a number at a place, or ended with what the result sheet holds
pub data Verdict : Type 0 where
  refused : (number place : ℕ) → Verdict
  ended : Sheet → Verdict

-- the arguments of an accepted argument sheet, argument 0 first
abbrev pub arguments_in : Arguments → List Bytes
arguments_in (A.given texts) = texts
arguments_in (A.refused n p) = []

-- the ruling on inputs that no row of the order refuses
unfoldable pub ruled : Inputs → Ruling
ruled i =
    ruling (limits_of i.loop i.stack i.budget) (program (known_of i.sheet))
    (get_or (arguments_in (arguments i.arguments)) 0 []) (drop 1 (arguments_in (arguments i.arguments))) i.input

abbrev pub from_rules : Ruling → Verdict
from_rules (refusal n p) = refused n p
from_rules (sheet s) = ended s

-- the first row that holds, else the rules
abbrev pub decided : Ruled → Ruling → Verdict
decided (O.refused n p) a = refused n p
decided O.passes a = from_rules a

unfoldable pub verdict : Inputs → Verdict
verdict i = decided (first_of (rows i)) (ruled i)
