-- The names of a sheet's functions, and the tables in the work memory that they are found by.
use Rattle.std.specs.Prelude.{◌≡◌, List, [], ℕ, zero, suc, ◌≤◌, length, get_or}
use Rattle.rules.specs.Syntax.{Bytes, Function, shift}
use Rattle.sheet.specs.Check.{known_of}
use Rattle.sheet.specs.Decode.{program}
use Rattle.sheet.specs.Filled.{Loaded}

abbrev pub functions_of : (s : Bytes) → List Function
functions_of s = (program (known_of s)).functions

-- functions are numbered from 1; main, which is function 0, has no name
unfoldable pub function_name : List Function → (f : ℕ) → Bytes
function_name functions zero = []
function_name functions (suc f) = (get_or functions f (record { name = []; body = shift 0 0 })).name

-- the tables are there, and n functions
pub record Tabled (s w : Bytes) (n : ℕ) : Type 0 where
  pub loaded : Loaded s (known_of s) w
  pub functions : n ≡ length (known_of s).functions
  pub room : 4096 ≤ length w
