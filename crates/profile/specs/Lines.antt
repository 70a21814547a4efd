-- The lines that are printed; every one ends in byte 10.
use Rattle.std.specs.Prelude.{Bool, true, false, List, [], ◌∷◌, ◌++◌, ℕ, zero, suc}
use Rattle.rules.specs.declared.Behaviour.{Behaviour}
use Rattle.rules.specs.declared.Behaviour.TheVariants.{Normal, Return, Exit, Failure}
use Rattle.rules.specs.Ascii.{ascii}
use Rattle.rules.specs.Syntax.{Bytes, Function}
use Rattle.rules.specs.Ruling.{Row}
use Rattle.text.specs.Decimal.{decimal}
use Rattle.text.specs.Put.{spaced}
use Rattle.text.specs.Names.{function_name}

abbrev pub line : Bytes
line = 10 ∷ []

-- NOT A RUN ---------------------------------------------------------------------------------------------------------

unfoldable pub bundle_line : Bytes
bundle_line = ascii "bundle" ++ line

unfoldable pub refused_line : (number place : ℕ) → Bytes
refused_line number place = ascii "refused " ++ decimal number ++ ascii " at " ++ decimal place ++ line

-- A PROFILE ---------------------------------------------------------------------------------------------------------

unfoldable pub behaviour_name : Behaviour → Bytes
behaviour_name Normal = ascii "normal"
behaviour_name Return = ascii "return"
behaviour_name Exit = ascii "exit"
behaviour_name Failure = ascii "failure"

unfoldable pub truth_name : Bool → Bytes
truth_name true = ascii "true"
truth_name false = ascii "false"

-- behaviour, result, steps
unfoldable pub end_line : Behaviour → (result : Bool) → (steps : ℕ) → Bytes
end_line behaviour result steps =
    ascii "end " ++ spaced (behaviour_name behaviour) ++ spaced (truth_name result) ++ decimal steps ++ line

-- number, times entered, own, inclusive
unfoldable pub figures : Row → Bytes
figures r =
    ascii "fn " ++ spaced (decimal r.function) ++ spaced (decimal r.entered) ++ spaced (decimal r.own) ++ spaced (decimal r.inclusive)

-- the figures, then the name
unfoldable pub function_line : Row → (name : Bytes) → Bytes
function_line r name = figures r ++ name ++ line

-- main is function 0; a dash stands for its name
unfoldable pub name_of : List Function → (f : ℕ) → Bytes
name_of functions zero = ascii "-"
name_of functions (suc f) = function_name functions (suc f)

-- a line for each row
unfoldable pub function_lines : List Function → List Row → Bytes
function_lines functions [] = []
function_lines functions (r ∷ rs) = function_line r (name_of functions r.function) ++ function_lines functions rs
