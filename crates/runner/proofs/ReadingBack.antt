-- Reading gives back what was written: the records of a result sheet, the end, the variables and the rows.
use mathlib.Core.Path.{◌≡◌, refl, sym, ap, ◌∙◌}
use mathlib.Core.Bool.{Bool, true, false}
use mathlib.Core.List.{List, [], ◌∷◌, ◌++◌, map, append_assoc}
use Prim.Native.Nat.{ℕ, zero, suc, ◌≤◌}
use native.Mathlib.Omega.{arith}
use lib.Dec.{eqb}
use lib.ListN.{length, get_or, take, drop, length-append}
use lib.Seq.{take-append_seam, drop-append_seam, drop-drop}
use Rattle.rules.specs.Syntax.{Bytes}
use Rattle.rules.specs.State.{behaviour_number}
use Rattle.rules.specs.Ruling.{Shown, Row, Sheet}
use Rattle.rules.proofs.Numbers.{two-read, four_read}
use Rattle.sheet.specs.Format.{number, long_number}
use Rattle.sheet.specs.Table.{words}
use Rattle.sheet.specs.WellFormed.{Item, no_item, write_item, write}
use Rattle.result.specs.Encoding.{two_bytes, four_bytes, one_byte, end_record, output_record, variable_record, variable_records, row_record, row_records, sheet_bytes}
use Rattle.runner.specs.Reading.{front, items_from, items, of_kind, payload_of, row_of, read_rows}
use Rattle.runner.specs.Reading.{read_behaviour, read_result, read_steps, read_output, variable_of, read_variables}

-- RECORDS

item-read : (most : ℕ) (c : Item) (rest : Bytes) → items_from (suc most) (write_item c ++ rest) ≡ c ∷ items_from most rest
unfolding items_from write_item words number
item-read most c rest =
    (λ j. front (write_item c ++ rest) ∷ items_from most (sym (drop-drop (number (write_item c ++ rest) 0) 4 (write_item c ++ rest)) j))
    ∙ (λ j. (record { kind = two-read c.kind j; payload = take (two-read (length c.payload) j) (c.payload ++ rest) })
    ∷ items_from most (drop (two-read (length c.payload) j) (c.payload ++ rest)))
    ∙ (λ j. (record { kind = c.kind; payload = take-append_seam c.payload rest j }) ∷ items_from most (drop-append_seam c.payload rest j))

items-read : (cs : List Item) (most : ℕ) → length cs ≤ most → items_from most (write cs) ≡ cs
unfolding items_from write
items-read [] zero h = refl
items-read [] (suc most) h = refl
items-read (c ∷ cs) zero h = absurd (omega arith)
items-read (c ∷ cs) (suc most) h = item-read most c (write cs) ∙ ap (λ (l : List Item). c ∷ l) (items-read cs most (omega arith))

none-empty : (cs : List Item) → length cs ≤ length (write cs)
unfolding write write_item words
none-empty [] = omega arith
none-empty (c ∷ cs) = let h = none-empty cs in omega (arith, length-append (write_item c) (write cs))

-- THE RECORDS OF A RESULT SHEET

abbrev pub end_item : Sheet → Item
end_item s = record { kind = 64; payload = behaviour_number s.behaviour ∷ one_byte s.result ∷ four_bytes s.steps }

abbrev output_item : Sheet → Item
output_item s = record { kind = 65; payload = s.output }

abbrev variable_item : Shown → Item
variable_item v = record { kind = 66; payload = one_byte v.exported ∷ length v.name ∷ v.name ++ v.value }

abbrev row_item : Row → Item
row_item r = record { kind = 67; payload = two_bytes r.function ++ four_bytes r.entered ++ four_bytes r.own ++ four_bytes r.inclusive }

abbrev sheet_items : Sheet → List Item
sheet_items s = end_item s ∷ output_item s ∷ map variable_item s.variables ++ map row_item s.profile

rows_written : (rs : List Row) → row_records rs ≡ write (map row_item rs)
unfolding row_records row_record write write_item words
rows_written [] = refl
rows_written (r ∷ rs) = ap (λ (l : Bytes). write_item (row_item r) ++ l) (rows_written rs)

tables-written : (vs : List Shown) (rs : List Row) → variable_records vs ++ row_records rs ≡ write (map variable_item vs ++ map row_item rs)
unfolding variable_records variable_record write write_item words
tables-written [] rs = rows_written rs
tables-written (v ∷ vs) rs =
    append_assoc (variable_record v) (variable_records vs) (row_records rs) ∙ ap (λ (l : Bytes). write_item (variable_item v) ++ l) (tables-written vs rs)

sheet-written : (s : Sheet) → sheet_bytes s ≡ write (sheet_items s)
unfolding sheet_bytes end_record output_record write write_item words
sheet-written s =
    append_assoc (end_record s.behaviour s.result s.steps ++ output_record s.output) (variable_records s.variables) (row_records s.profile)
    ∙ append_assoc (end_record s.behaviour s.result s.steps) (output_record s.output) (variable_records s.variables ++ row_records s.profile)
    ∙ ap (λ (l : Bytes). write_item (end_item s) ++ (write_item (output_item s) ++ l)) (tables-written s.variables s.profile)

sheet-read : (s : Sheet) → items (sheet_bytes s) ≡ sheet_items s
unfolding items
sheet-read s =
    ap (λ (b : Bytes). items_from (length b) b) (sheet-written s)
    ∙ items-read (sheet_items s) (length (write (sheet_items s))) (none-empty (sheet_items s))

-- ITS FIGURES

row_read : (r : Row) → row_of (row_item r) ≡ r
unfolding number long_number
row_read r = λ j. record { function = two-read r.function j; entered = four_read r.entered j; own = four_read r.own j; inclusive = four_read r.inclusive j }

only-rows : (rs : List Row) → map row_of (of_kind 67 (map row_item rs)) ≡ rs
only-rows [] = refl
only-rows (r ∷ rs) = λ j. row_read r j ∷ only-rows rs j

no_variables : (vs : List Shown) (cs : List Item) → of_kind 67 (map variable_item vs ++ cs) ≡ of_kind 67 cs
no_variables [] cs = refl
no_variables (v ∷ vs) cs = no_variables vs cs

pub rows-read : (s : Sheet) → read_rows (sheet_bytes s) ≡ s.profile
unfolding read_rows
rows-read s =
    ap (λ (cs : List Item). map row_of (of_kind 67 cs)) (sheet-read s)
    ∙ ap (map row_of) (no_variables s.variables (map row_item s.profile)) ∙ only-rows s.profile

no_ends : (vs : List Shown) (rs : List Row) → of_kind 64 (map variable_item vs ++ map row_item rs) ≡ []
no_ends [] [] = refl
no_ends [] (r ∷ rs) = no_ends [] rs
no_ends (v ∷ vs) rs = no_ends vs rs

pub one_end : (s : Sheet) → of_kind 64 (items (sheet_bytes s)) ≡ end_item s ∷ []
one_end s = ap (of_kind 64) (sheet-read s) ∙ ap (λ (cs : List Item). end_item s ∷ cs) (no_ends s.variables s.profile)

-- THE END

end-payload : (s : Sheet) → payload_of 64 (sheet_bytes s) ≡ (end_item s).payload
unfolding payload_of
end-payload s = ap (λ (cs : List Item). (get_or cs 0 no_item).payload) (one_end s)

pub steps-read : (s : Sheet) → read_steps (sheet_bytes s) ≡ s.steps
unfolding read_steps long_number
steps-read s = ap (λ (p : Bytes). long_number p 2) (end-payload s) ∙ four_read s.steps

pub behaviour-read : (s : Sheet) → read_behaviour (sheet_bytes s) ≡ behaviour_number s.behaviour
unfolding read_behaviour
behaviour-read s = ap (λ (p : Bytes). get_or p 0 0) (end-payload s)

pub result-read : (s : Sheet) → read_result (sheet_bytes s) ≡ one_byte s.result
unfolding read_result
result-read s = ap (λ (p : Bytes). get_or p 1 0) (end-payload s)

pub output-read : (s : Sheet) → read_output (sheet_bytes s) ≡ s.output
unfolding read_output payload_of
output-read s = ap (λ (cs : List Item). (get_or (of_kind 65 cs) 0 no_item).payload) (sheet-read s)

-- VARIABLES

mark-read : (b : Bool) → eqb (one_byte b) 1 ≡ b
mark-read true = refl
mark-read false = refl

variable-read : (v : Shown) → variable_of (variable_item v) ≡ v
variable-read v = λ j. record {
  exported = mark-read v.exported j;
  name = take-append_seam v.name v.value j;
  value = drop-append_seam v.name v.value j;
}

no_rows : (rs : List Row) → map variable_of (of_kind 66 (map row_item rs)) ≡ []
no_rows [] = refl
no_rows (r ∷ rs) = no_rows rs

only-variables : (vs : List Shown) (rs : List Row) → map variable_of (of_kind 66 (map variable_item vs ++ map row_item rs)) ≡ vs
only-variables [] rs = no_rows rs
only-variables (v ∷ vs) rs = λ j. variable-read v j ∷ only-variables vs rs j

pub variables-read : (s : Sheet) → read_variables (sheet_bytes s) ≡ s.variables
unfolding read_variables
variables-read s = ap (λ (cs : List Item). map variable_of (of_kind 66 cs)) (sheet-read s) ∙ only-variables s.variables s.profile
