-- Which lists of records are a sheet, said of the list as a whole: no walk and no state. And the bytes of such a list.
use Rattle.std.specs.Prelude.{◌≡◌, true, cond, List, [], ◌∷◌, ◌++◌, map, ℕ, zero, suc, ◌-◌, ◌<◌, ◌≤◌, eqb, length, get_or}
use Rattle.rules.specs.Syntax.{Bytes}
use Rattle.reader.specs.Records.{record_bytes}
use Rattle.sheet.specs.Format.{number, Wanted, any_number, code, name, string, list, instruction, is_string, is_list, is_instruction, is_name, names_variable, place}
use Rattle.sheet.specs.Format.{Shape, no_kind, text, nothing, one, two, three, shape}
use Rattle.sheet.specs.Check.{Rec, Known, accepted, check}

pub record Item : Type 0 where
  pub kind : ℕ
  pub payload : Bytes

-- BYTES -------------------------------------------------------------------------------------------------------------

unfoldable pub write_item : Item → Bytes
write_item c = record_bytes c.kind c.payload

unfoldable pub write : List Item → Bytes
write [] = []
write (c ∷ cs) = write_item c ++ write cs

abbrev pub IsBytes : Bytes → Type 0
IsBytes s = (i : ℕ) → get_or s i 0 < 256

-- the records that a check has read
abbrev pub item_of : Rec → Item
item_of c = record { kind = c.kind; payload = c.payload }

abbrev pub items_of : Known → List Item
items_of K = map item_of K.records

-- RECORDS BY NUMBER -------------------------------------------------------------------------------------------------

abbrev pub no_item : Item
no_item = record { kind = 0; payload = [] }

module _ (rs : List Item) where
  abbrev pub item : (r : ℕ) → Item
  item r = get_or rs r no_item

  abbrev pub kind_at : (r : ℕ) → ℕ
  kind_at r = (item r).kind

  abbrev pub payload_at : (r : ℕ) → Bytes
  payload_at r = (item r).payload

  abbrev pub part_at : (r i : ℕ) → ℕ
  part_at r i = number (payload_at r) i

  -- the name that the first part of record r refers to
  abbrev pub name_at : (r : ℕ) → Bytes
  name_at r = payload_at (part_at r 0)

  -- what a part n of record r has to be; where it refers to a record, to one before r and of the sort wanted
  abbrev pub Refers : (r : ℕ) → Wanted → (n : ℕ) → Type 0
  Refers r any_number n = Unit {0}
  Refers r code n = n ≤ 2
  Refers r name n = (n < r) × (kind_at n ≡ 1) × (is_name (payload_at n) ≡ true)
  Refers r string n = (n < r) × (is_string (kind_at n) ≡ true)
  Refers r list n = (n < r) × (is_list (kind_at n) ≡ true)
  Refers r instruction n = (n < r) × (is_instruction (kind_at n) ≡ true)

  -- the payload is as the table of kinds has it
  abbrev pub Holds : (r : ℕ) → Shape → Type 0
  Holds r no_kind = ⊥
  Holds r text = length (payload_at r) ≤ 63
  Holds r nothing = length (payload_at r) ≡ 0
  Holds r (one a) = (length (payload_at r) ≡ 2) × Refers r a (part_at r 0)
  Holds r (two a b) = (length (payload_at r) ≡ 4) × Refers r a (part_at r 0) × Refers r b (part_at r 2)
  Holds r (three a b c) = (length (payload_at r) ≡ 6) × Refers r a (part_at r 0) × Refers r b (part_at r 2) × Refers r c (part_at r 4)

  -- the names of the functions among the first n records, and those of the variables, each where it is first named
  unfoldable pub functions_to : (n : ℕ) → List Bytes
  functions_to zero = []
  functions_to (suc n) = cond (eqb (kind_at n) 32) (functions_to n ++ name_at n ∷ []) (functions_to n)

  unfoldable pub added : Bytes → List Bytes → List Bytes
  added x xs = cond (eqb (place x xs) (length xs)) (xs ++ x ∷ []) xs

  unfoldable pub variables_to : (n : ℕ) → List Bytes
  variables_to zero = []
  variables_to (suc n) = cond (names_variable (kind_at n)) (added (name_at n) (variables_to n)) (variables_to n)

-- A GOOD LIST -------------------------------------------------------------------------------------------------------

pub record WellFormed (rs : List Item) : Type 0 where
  pub bytes : (r : ℕ) → r < length rs → IsBytes (payload_at rs r)
  pub short : length (write rs) ≤ 8192
  pub few : length rs ≤ 512
  pub holds : (r : ℕ) → r < length rs → Holds rs r (shape (kind_at rs r))
  pub main : kind_at rs (length rs - 1) ≡ 33
  pub one_main : (r : ℕ) → r < length rs → kind_at rs r ≡ 33 → suc r ≡ length rs
  pub apart : (q r : ℕ) → q < r → r < length rs → kind_at rs q ≡ 32 → kind_at rs r ≡ 32 → name_at rs q ≡ name_at rs r → ⊥
  pub functions : length (functions_to rs (length rs)) ≤ 32
  pub variables : length (variables_to rs (length rs)) ≤ 16

-- the bytes of rs are accepted, and read as rs
pub record Reads (rs : List Item) : Type 0 where
  pub known : Known
  pub accepts : check (write rs) ≡ accepted known
  pub items : items_of known ≡ rs
