-- A record, as bytes and at a place of a sheet (docs/FORMATS.md).
use Rattle.std.specs.Prelude.{Option, Some, None, Bool, ◌&&◌, ◌||◌, not, cond, ◌++◌, ℕ, ◌+◌, ltb, eqb, length, take, drop}
use Rattle.rules.specs.Syntax.{Bytes}
-- the number in two bytes
unfoldable pub use Rattle.rules.specs.Numbers.{number}
use Rattle.rules.specs.Numbers.{two_bytes}
use Rattle.reader.specs.declared.Bounds.{Bounds}

-- the length of its payload, its kind, two bytes each, and the payload
abbrev pub record_bytes : (kind : ℕ) → (payload : Bytes) → Bytes
record_bytes k p = two_bytes (length p) ++ two_bytes k ++ p

-- AT A PLACE --------------------------------------------------------------------------------------------------------

abbrev pub size : Bytes → (place : ℕ) → ℕ
size s p = number s p

abbrev pub kind : Bytes → (place : ℕ) → ℕ
kind s p = number s (p + 2)

abbrev pub payload : Bytes → (place : ℕ) → Bytes
payload s p = take (size s p) (drop (p + 4) s)

-- where the next one begins
abbrev pub behind : Bytes → (place : ℕ) → ℕ
behind s p = p + 4 + size s p

abbrev pub bounds_at : Bytes → (place : ℕ) → Bounds
bounds_at s p = record { kind = kind s p; from = p + 4; to = behind s p }

-- fewer than 4 bytes are left, or fewer than the payload's length says
unfoldable pub is_cut : Bytes → (place : ℕ) → Bool
is_cut s p = ltb (length s) (p + 4) || ltb (length s) (behind s p)

-- a whole record of kind k begins here
abbrev pub stands : Bytes → (k place : ℕ) → Bool
stands s k p = not (is_cut s p) && eqb (kind s p) k

-- the whole record that begins here, if one does
unfoldable pub next_at : Bytes → (place : ℕ) → Option Bounds
next_at s p = cond (is_cut s p) None (Some (bounds_at s p))
