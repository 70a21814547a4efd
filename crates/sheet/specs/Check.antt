-- Which sheets are good, and which are refused with 3 or 4, and where (docs/FORMATS.md).
use Rattle.std.specs.Prelude.{Bool, true, false, ◌&&◌, ◌||◌, not, cond, List, [], ◌∷◌, ◌++◌, map, ℕ, zero, suc, ◌-◌, eqb, leb, ltb, length, get_or}
use Rattle.rules.specs.Syntax.{Bytes}
-- a record's header or payload runs past the end
unfoldable pub use Rattle.reader.specs.Records.{is_cut}
use Rattle.reader.specs.Records as reader
use Rattle.sheet.specs.Format.{number, Wanted, any_number, code, name, string, list, instruction}
use Rattle.sheet.specs.Format.{Shape, no_kind, text, nothing, one, two, three, shape}
use Rattle.sheet.specs.Format.{is_string, is_list, is_instruction, names_variable, is_name, place}

-- WHAT IS KNOWN -----------------------------------------------------------------------------------------------------

pub record Rec : Type 0 where
  pub at : ℕ  -- where it begins in the sheet
  pub kind : ℕ
  pub payload : Bytes
  pub slot : ℕ  -- of the variable that it names; 0 where it names none

pub record Variable : Type 0 where
  pub name : Bytes
  pub named : ℕ  -- the text record

pub record Defined : Type 0 where
  pub name : Bytes
  pub named : ℕ  -- the text record
  pub body : ℕ  -- the instruction record

-- what is known after some records
pub record Known : Type 0 where
  pub records : List Rec
  pub variables : List Variable  -- by slot
  pub functions : List Defined  -- in record order; the first is function 1
  pub end : ℕ  -- where the next record begins

abbrev pub start : Known
start = record { records = []; variables = []; functions = []; end = 0 }

abbrev pub no_rec : Rec
no_rec = record { at = 0; kind = 0; payload = []; slot = 0 }

abbrev pub no_variable : Variable
no_variable = record { name = []; named = 0 }

abbrev pub no_defined : Defined
no_defined = record { name = []; named = 0; body = 0 }

abbrev pub count : Known → ℕ
count K = length K.records

abbrev pub record_of : Known → ℕ → Rec
record_of K r = get_or K.records r no_rec

abbrev pub kind_of : Known → ℕ → ℕ
kind_of K r = (record_of K r).kind

abbrev pub payload_of : Known → ℕ → Bytes
payload_of K r = (record_of K r).payload

abbrev pub variable_names : Known → List Bytes
variable_names K = map (λ v. v.name) K.variables

abbrev pub function_names : Known → List Bytes
function_names K = map (λ f. f.name) K.functions

-- the last record is main
abbrev pub ends_in_main : Known → Bool
ends_in_main K = eqb (kind_of K (count K - 1)) 33

-- ONE RECORD --------------------------------------------------------------------------------------------------------

-- what is referred to stands before, and is of the sort wanted; for a name it is a text that reads as one
unfoldable pub meets : Known → Wanted → (n : ℕ) → Bool
meets K any_number n = true
meets K code n = leb n 2
meets K name n = ltb n (count K) && (eqb (kind_of K n) 1 && is_name (payload_of K n))
meets K string n = ltb n (count K) && is_string (kind_of K n)
meets K list n = ltb n (count K) && is_list (kind_of K n)
meets K instruction n = ltb n (count K) && is_instruction (kind_of K n)

-- the length is right, and so is each part
unfoldable pub right : Known → Shape → Bytes → Bool
right K no_kind p = false
right K text p = leb (length p) 63
right K nothing p = eqb (length p) 0
right K (one a) p = eqb (length p) 2 && meets K a (number p 0)
right K (two a b) p = eqb (length p) 4 && (meets K a (number p 0) && meets K b (number p 2))
right K (three a b c) p = eqb (length p) 6 && (meets K a (number p 0) && (meets K b (number p 2) && meets K c (number p 4)))

-- the record that begins where the known ones end
abbrev pub size_here : Bytes → Known → ℕ
size_here s K = reader.size s K.end

abbrev pub kind_here : Bytes → Known → ℕ
kind_here s K = reader.kind s K.end

abbrev pub payload_here : Bytes → Known → Bytes
payload_here s K = reader.payload s K.end

-- the name of a record whose payload begins with one
abbrev pub named_here : Bytes → Known → ℕ
named_here s K = number (payload_here s K) 0

abbrev pub name_here : Bytes → Known → Bytes
name_here s K = payload_of K (named_here s K)

-- the slot of its variable: that of an earlier record of the same name, else the next one
abbrev pub slot_here : Bytes → Known → ℕ
slot_here s K = place (name_here s K) (variable_names K)

abbrev pub is_function : Bytes → Known → Bool
is_function s K = eqb (kind_here s K) 32

unfoldable pub is_second : Bytes → Known → Bool
is_second s K = is_function s K && ltb (place (name_here s K) (function_names K)) (length K.functions)

-- a 33rd function or a 17th variable
unfoldable pub is_over : Bytes → Known → Bool
is_over s K = is_function s K && leb 32 (length K.functions) || names_variable (kind_here s K) && leb 16 (slot_here s K)

pub data Judgement : Type 0 where
  fine : Judgement
  faulty : Judgement  -- 4
  full : Judgement  -- 3

unfoldable pub judge : Bytes → Known → Judgement
judge s K =
    cond (is_cut s K.end) faulty
    (cond (not (right K (shape (kind_here s K)) (payload_here s K))) faulty
    (cond (is_second s K) faulty
    (cond (is_over s K) full
    fine)))

-- THE RECORDS -------------------------------------------------------------------------------------------------------

abbrev pub record_here : Bytes → Known → Rec
record_here s K = record {
  at = K.end;
  kind = kind_here s K;
  payload = payload_here s K;
  slot = cond (names_variable (kind_here s K)) (slot_here s K) 0;
}

-- a variable that no earlier record names
unfoldable pub is_new : Bytes → Known → Bool
is_new s K = names_variable (kind_here s K) && eqb (slot_here s K) (length K.variables)

abbrev pub variable_here : Bytes → Known → Variable
variable_here s K = record { name = name_here s K; named = named_here s K }

abbrev pub function_here : Bytes → Known → Defined
function_here s K = record { name = name_here s K; named = named_here s K; body = number (payload_here s K) 2 }

-- what is known after it
unfoldable pub next : Bytes → Known → Known
next s K = record {
  records = K.records ++ record_here s K ∷ [];
  variables = cond (is_new s K) (K.variables ++ variable_here s K ∷ []) K.variables;
  functions = cond (is_function s K) (K.functions ++ function_here s K ∷ []) K.functions;
  end = reader.behind s K.end;
}

-- what is known after n records
unfoldable pub known : Bytes → (n : ℕ) → Known
known s zero = start
known s (suc n) = next s (known s n)

-- THE SHEET ---------------------------------------------------------------------------------------------------------

pub data Checked : Type 0 where
  accepted : Known → Checked
  refused : (number place : ℕ) → Checked

-- a fault in a record is 4 and comes before 3
abbrev pub onward : (place : ℕ) → Judgement → Known → (Known → Checked) → Checked
onward r fine K more = more K
onward r faulty K more = refused 4 r
onward r full K more = refused 3 r

-- no byte is left: main has to be the last record
abbrev pub at_end : Known → Checked
at_end K = cond (ends_in_main K) (accepted K) (refused 4 (count K))

abbrev pub while_bytes : Bytes → Known → Checked → Checked
while_bytes s K more = cond (ltb K.end (length s)) more (at_end K)

-- record by record; `left` is how many may still come
unfoldable pub walk : Bytes → (left : ℕ) → Known → Checked
walk s zero K = while_bytes s K (refused 3 (count K))
walk s (suc left) K =
    while_bytes s K
    (cond (ends_in_main K) (refused 4 (count K))
    (onward (count K) (judge s K) (next s K) (walk s left)))

unfoldable pub check : Bytes → Checked
check s = cond (ltb 8192 (length s)) (refused 3 0) (walk s 512 start)

-- what an accepted sheet holds; nothing where it is refused
abbrev pub known_in : Checked → Known
known_in (accepted K) = K
known_in (refused n r) = start

unfoldable pub known_of : Bytes → Known
known_of s = known_in (check s)
