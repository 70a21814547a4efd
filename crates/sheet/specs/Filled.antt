-- What an evaluator finds in the work memory w and the sheet s, read by record number: the table's entries and the record's own numbers.
use Rattle.std.specs.Prelude.{◌≡◌, true, [], ℕ, suc, ◌+◌, ◌*◌, ◌<◌, length, get_or, take, drop}
use Rattle.rules.specs.Syntax.{Bytes, Str, Lst, Ins, Function}
use Rattle.sheet.specs.Format.{number, is_string, is_list, is_instruction}
use Rattle.sheet.specs.Check.{Known, no_defined, count, record_of, kind_of, variable_names, accepted, check}
use Rattle.sheet.specs.Nodes.{as_string, as_list, as_instruction, lookup}
use Rattle.sheet.specs.Decode.{nodes, main_body}
use Rattle.sheet.specs.Table.{starts_at, marks_at, bodies_at}
use Rattle.sheet.specs.Table as T

-- THE TABLE IN THE WORK MEMORY --------------------------------------------------------------------------------------

-- where record r begins in the sheet
abbrev pub start_of : (w : Bytes) → (r : ℕ) → ℕ
start_of w r = number w (starts_at + 2 * r)

-- its slot, or its function's number
abbrev pub mark_in : (w : Bytes) → (r : ℕ) → ℕ
mark_in w r = number w (marks_at + 2 * r)

-- the body and the name of function f
abbrev pub body_in : (w : Bytes) → (f : ℕ) → ℕ
body_in w f = number w (bodies_at + 4 * f)

abbrev pub named_in : (w : Bytes) → (f : ℕ) → ℕ
named_in w f = number w (bodies_at + 4 * f + 2)

-- the name of slot i
abbrev pub slot_name : (w : Bytes) → (i : ℕ) → Bytes
slot_name w i = take (get_or w (64 * i) 0) (drop (64 * i + 1) w)

-- A RECORD OF THE SHEET ---------------------------------------------------------------------------------------------

-- the number d bytes into record r: at 0 the payload's length, at 2 the kind, from 4 on the payload
abbrev pub in_record : (s w : Bytes) → (r d : ℕ) → ℕ
in_record s w r d = number s (start_of w r + d)

abbrev pub text_in : (s w : Bytes) → (r : ℕ) → Bytes
text_in s w r = take (in_record s w r 0) (drop (start_of w r + 4) s)

-- WHAT IT STANDS FOR ------------------------------------------------------------------------------------------------

abbrev pub str_of : Known → (r : ℕ) → Str
str_of K r = as_string (lookup (nodes K) r)

abbrev pub lst_of : Known → (r : ℕ) → Lst
lst_of K r = as_list (lookup (nodes K) r)

abbrev pub ins_of : Known → (r : ℕ) → Ins
ins_of K r = as_instruction (lookup (nodes K) r)

abbrev pub function_in : (s w : Bytes) → Known → (f : ℕ) → Function
function_in s w K f = record { name = text_in s w (named_in w f); body = ins_of K (body_in w f) }

-- the sorts of records
abbrev pub IsStr : Known → (r : ℕ) → Type 0
IsStr K r = (r < count K) × (is_string (kind_of K r) ≡ true)

abbrev pub IsLst : Known → (r : ℕ) → Type 0
IsLst K r = (r < count K) × (is_list (kind_of K r) ≡ true)

abbrev pub IsIns : Known → (r : ℕ) → Type 0
IsIns K r = (r < count K) × (is_instruction (kind_of K r) ≡ true)

abbrev pub IsText : Known → (r : ℕ) → Type 0
IsText K r = (r < count K) × (kind_of K r ≡ 1)

-- a reference of record r: an earlier record of the sort
abbrev pub StrBelow : Known → (r a : ℕ) → Type 0
StrBelow K r a = (a < r) × IsStr K a

abbrev pub LstBelow : Known → (r a : ℕ) → Type 0
LstBelow K r a = (a < r) × IsLst K a

abbrev pub InsBelow : Known → (r a : ℕ) → Type 0
InsBelow K r a = (a < r) × IsIns K a

abbrev pub TextBelow : Known → (r a : ℕ) → Type 0
TextBelow K r a = (a < r) × IsText K a

-- THE TABLE IS FILLED -----------------------------------------------------------------------------------------------

-- every entry of K's table is in w
pub record Filled (K : Known) (w : Bytes) : Type 0 where
  pub start : (r : ℕ) → r < count K → start_of w r ≡ (record_of K r).at
  pub mark : (r : ℕ) → r < count K → mark_in w r ≡ T.mark K (record_of K r)
  pub main : body_in w 0 ≡ main_body K
  pub body : (f : ℕ) → f < length K.functions → body_in w (suc f) ≡ (get_or K.functions f no_defined).body
  pub named : (f : ℕ) → f < length K.functions → named_in w (suc f) ≡ (get_or K.functions f no_defined).named
  pub size : (i : ℕ) → i < length K.variables → get_or w (64 * i) 0 ≡ length (get_or (variable_names K) i [])
  pub bytes : (i j : ℕ) → i < length K.variables → j < length (get_or (variable_names K) i [])
      → get_or w (64 * i + 1 + j) 0 ≡ get_or (get_or (variable_names K) i []) j 0

-- the sheet is accepted as K, and its table is filled
pub record Loaded (s : Bytes) (K : Known) (w : Bytes) : Type 0 where
  pub accepts : check s ≡ accepted K
  pub filled : Filled K w
