-- What a reader finds in the bytes of a result sheet: the records, one after another, and the numbers in them. Nothing here says how they are
-- written.
use Rattle.std.specs.Prelude.{cond, List, [], ◌∷◌, map, ℕ, zero, suc, eqb, length, get_or, take, drop}
use Rattle.rules.specs.Syntax.{Bytes}
use Rattle.rules.specs.Ruling.{Shown, Row}
use Rattle.reader.specs.Records as reader
use Rattle.sheet.specs.Format.{number, long_number}
use Rattle.sheet.specs.WellFormed.{Item, no_item}

-- RECORDS -----------------------------------------------------------------------------------------------------------

-- the one at the front, and the bytes behind it
abbrev pub front : Bytes → Item
front bytes = record { kind = reader.kind bytes 0; payload = reader.payload bytes 0 }

abbrev pub behind : Bytes → Bytes
behind bytes = drop (reader.behind bytes 0) bytes

-- at most so many, while a byte is left
unfoldable pub items_from : (most : ℕ) → Bytes → List Item
items_from zero bytes = []
items_from (suc most) [] = []
items_from (suc most) (b ∷ bytes) = front (b ∷ bytes) ∷ items_from most (behind (b ∷ bytes))

-- all of them: none is empty
unfoldable pub items : Bytes → List Item
items bytes = items_from (length bytes) bytes

abbrev pub of_kind : ℕ → List Item → List Item
of_kind k [] = []
of_kind k (c ∷ cs) = cond (eqb c.kind k) (c ∷ of_kind k cs) (of_kind k cs)

-- the payload of the first of a kind
unfoldable pub payload_of : (kind : ℕ) → Bytes → Bytes
payload_of k bytes = (get_or (of_kind k (items bytes)) 0 no_item).payload

-- THE END -----------------------------------------------------------------------------------------------------------

-- kind 64: behaviour (1), result (1), steps (4)
unfoldable pub read_behaviour : Bytes → ℕ
read_behaviour bytes = get_or (payload_of 64 bytes) 0 0

unfoldable pub read_result : Bytes → ℕ
read_result bytes = get_or (payload_of 64 bytes) 1 0

unfoldable pub read_steps : Bytes → ℕ
read_steps bytes = long_number (payload_of 64 bytes) 2

-- kind 65: the output
unfoldable pub read_output : Bytes → Bytes
read_output bytes = payload_of 65 bytes

-- kind 66: mark (1), length of the name (1), name, value
abbrev pub variable_of : Item → Shown
variable_of c = record {
  exported = eqb (get_or c.payload 0 0) 1;
  name = take (get_or c.payload 1 0) (drop 2 c.payload);
  value = drop (get_or c.payload 1 0) (drop 2 c.payload);
}

unfoldable pub read_variables : Bytes → List Shown
read_variables bytes = map variable_of (of_kind 66 (items bytes))

-- FIGURES -----------------------------------------------------------------------------------------------------------

-- kind 67: the function's number in two bytes, then its three figures in four each: how often entered, own, inclusive
abbrev pub row_of : Item → Row
row_of c = record { function = number c.payload 0; entered = long_number c.payload 2; own = long_number c.payload 6; inclusive = long_number c.payload 10 }

unfoldable pub read_rows : Bytes → List Row
read_rows bytes = map row_of (of_kind 67 (items bytes))

abbrev pub no_row : Row
no_row = record { function = 0; entered = 0; own = 0; inclusive = 0 }
