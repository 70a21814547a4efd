-- The result sheet as bytes: the records of kinds 64 to 67, one after the other.
use Rattle.std.specs.Prelude.{Bool, true, false, List, [], ◌∷◌, ◌++◌, ℕ, length}
use Rattle.rules.specs.declared.Behaviour.{Behaviour}
use Rattle.rules.specs.Syntax.{Bytes}
use Rattle.rules.specs.State.{behaviour_number}
use Rattle.rules.specs.Ruling.{Shown, Row, Sheet}
-- numbers are little-endian
pub use Rattle.rules.specs.Numbers.{two_bytes, four_bytes}
-- a record as bytes
pub use Rattle.reader.specs.Records.{record_bytes}

-- true is 1
abbrev pub one_byte : Bool → ℕ
one_byte true = 1
one_byte false = 0

-- kind 64: behaviour, result, steps
unfoldable pub end_record : Behaviour → (result : Bool) → (steps : ℕ) → Bytes
end_record behaviour result steps = record_bytes 64 (behaviour_number behaviour ∷ one_byte result ∷ four_bytes steps)

-- kind 65: the output
unfoldable pub output_record : (output : Bytes) → Bytes
output_record output = record_bytes 65 output

-- kind 66: a set variable: mark, length of its name, name, value
unfoldable pub variable_record : Shown → Bytes
variable_record v = record_bytes 66 (one_byte v.exported ∷ length v.name ∷ v.name ++ v.value)

unfoldable pub variable_records : List Shown → Bytes
variable_records [] = []
variable_records (v ∷ vs) = variable_record v ++ variable_records vs

-- kind 67: a function: its number, times entered, own, inclusive
unfoldable pub row_record : Row → Bytes
row_record r = record_bytes 67 (two_bytes r.function ++ four_bytes r.entered ++ four_bytes r.own ++ four_bytes r.inclusive)

unfoldable pub row_records : List Row → Bytes
row_records [] = []
row_records (r ∷ rs) = row_record r ++ row_records rs

unfoldable pub sheet_bytes : Sheet → Bytes
sheet_bytes s =
    end_record s.behaviour s.result s.steps ++ output_record s.output ++ variable_records s.variables ++ row_records s.profile
