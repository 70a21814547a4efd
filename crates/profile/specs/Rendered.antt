-- The lines as the code finds them: the result memory begins with a result sheet, the work memory has the tables that names are found by.
use Rattle.std.specs.Prelude.{◌≡◌, cond, List, [], ◌∷◌, ◌++◌, ℕ, suc, ◌+◌, ◌*◌, ◌-◌, ◌≤◌, eqb, length, get_or, drop}
use Rattle.rules.specs.declared.Behaviour.{Behaviour}
use Rattle.rules.specs.declared.Behaviour.TheVariants.{Normal, Return, Exit, Failure}
use Rattle.rules.specs.Syntax.{Bytes}
use Rattle.rules.specs.Ruling.{Row}
use Rattle.sheet.specs.Check.{check, accepted}
use Rattle.memory.specs.Layout.{number_at, row}
use Rattle.sheet.specs.Check.{known_of}
use Rattle.text.specs.Names.{functions_of}
use Rattle.profile.specs.Lines.{end_line, function_line, name_of}

-- the behaviour that a byte stands for
abbrev pub behaviour_of : ℕ → Behaviour
behaviour_of n = cond (eqb n 0) Normal (cond (eqb n 1) Return (cond (eqb n 2) Exit Failure))

-- kind 64, the first record
unfoldable pub end_in : (r : Bytes) → Bytes
end_in r = end_line (behaviour_of (get_or r 4 0)) (eqb (get_or r 5 0) 1) (number_at r 6)

-- kind 67, the first record of r
abbrev pub row_in : (r : Bytes) → (f : ℕ) → Row
row_in r f = record { function = f; entered = number_at r 6; own = number_at r 10; inclusive = number_at r 14 }

-- the line of function f of the sheet s, by its record in the rows r
unfoldable pub line_in : (s r : Bytes) → (f : ℕ) → Bytes
line_in s r f = function_line (row_in (drop (18 * f) r) f) (name_of (functions_of s) f)

-- one behind the other
unfoldable pub joined : List Bytes → Bytes
joined [] = []
joined (l ∷ ls) = l ++ joined ls

-- n of them
abbrev pub lines_in : (s r : Bytes) → (n : ℕ) → Bytes
lines_in s r n = joined (row n (line_in s r))

-- all of them: the rows are the last records of the n bytes
unfoldable pub profile_in : (s r : Bytes) → (n : ℕ) → Bytes
profile_in s r n = end_in r ++ lines_in s (drop (n - 18 * suc (length (functions_of s))) r) (suc (length (functions_of s)))

-- an accepted sheet, and a result sheet of n bytes with a row for main and each function
pub record Readable (s r : Bytes) (n : ℕ) : Type 0 where
  pub accepts : check s ≡ accepted (known_of s)
  pub rows : 10 + 18 * suc (length (functions_of s)) ≤ n
  pub room : n ≤ length r
