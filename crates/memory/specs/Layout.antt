-- Where a run keeps what it knows: the areas of the work memory, and what the bytes there stand for.
use Rattle.std.specs.Prelude.{ℕ, zero, suc, ◌+◌, ◌*◌, ◌-◌, ◌%◌, ◌<◌, ◌≤◌, ◌≡◌, ◌⊎◌, Bool, true, false, not, List, [], ◌∷◌, get_or, length, eqb}
use Rattle.rules.specs.Syntax.{Bytes}
use Rattle.rules.specs.State.{Value, unset, bytes, Variable}
use Rattle.rules.specs.Words.{env_line}
-- a number of four bytes
unfoldable pub use Rattle.rules.specs.Numbers.{long_number as number_at}

-- BYTES -------------------------------------------------------------------------------------------------------------

-- n bytes of w from `at` on
unfoldable pub part : List ℕ → ℕ → ℕ → Bytes
part w at zero = []
part w at (suc n) = get_or w at 0 ∷ part w (suc at) n

-- f i, f (i + 1), ..: n of them
unfoldable pub row_from : {A : Type 0} → ℕ → (ℕ → A) → ℕ → List A
row_from zero f i = []
row_from (suc n) f i = f i ∷ row_from n f (suc i)

-- f 0, f 1, ..: n of them
unfoldable pub row : {A : Type 0} → ℕ → (ℕ → A) → List A
row n f = row_from n f 0

-- AS BEFORE ---------------------------------------------------------------------------------------------------------

-- the bytes from a up to e are as before
pub record Same (a e : ℕ) (w w' : List ℕ) : Type 0 where
  pub same : (i : ℕ) → a ≤ i → i < e → get_or w' i 0 ≡ get_or w i 0

-- all bytes but those from a up to e are as before
pub record Only (a e : ℕ) (w w' : List ℕ) : Type 0 where
  pub size : length w' ≡ length w
  pub below : (i : ℕ) → i < a → get_or w' i 0 ≡ get_or w i 0
  pub above : (i : ℕ) → e ≤ i → get_or w' i 0 ≡ get_or w i 0

-- the bytes s were put at `at`, and no other byte has changed: what every copy does
pub record Put (at : ℕ) (s : Bytes) (w w' : List ℕ) : Type 0 where
  pub got : part w' at (length s) ≡ s
  pub only : Only at (at + length s) w w'

-- n bytes at `from` and n at `to` lie in w and do not overlap
pub record Apart (w : List ℕ) (from to n : ℕ) : Type 0 where
  pub in-from : from + n ≤ length w
  pub in-to : to + n ≤ length w
  pub apart : (from + n ≤ to) ⊎ (to + n ≤ from)

-- WHAT BYTES STAND FOR ----------------------------------------------------------------------------------------------

-- A string takes u bytes: u is the string limit and 1. A length byte and so many bytes; modulo u, so that whatever stands there is a string.
abbrev pub text_at : ℕ → List ℕ → ℕ → Bytes
text_at u w a = part w (a + 1) (get_or w a 0 % u)

-- a list of n fields at a
abbrev pub field_at : ℕ → List ℕ → ℕ → ℕ → Bytes
field_at u w a i = text_at u w (a + u * i)

abbrev pub fields_at : ℕ → List ℕ → ℕ → ℕ → List Bytes
fields_at u w a n = row n (field_at u w a)

-- a variable: mark, set, length, bytes
unfoldable pub value_if : Bool → Bytes → Value
value_if true s = unset
value_if false s = bytes s

unfoldable pub value_at : ℕ → List ℕ → ℕ → Value
value_at u w a = value_if (eqb (get_or w (a + 1) 0) 0) (text_at u w (a + 2))

unfoldable pub mark_at : List ℕ → ℕ → Bool
mark_at w a = not (eqb (get_or w a 0) 0)

-- variable x of the level at a; the names stand in a list at 0
unfoldable pub variable_in : ℕ → List ℕ → ℕ → ℕ → Variable
variable_in u w a x = record { name = field_at 64 w 0 x; value = value_at u w (a + (u + 2) * x); exported = mark_at w (a + (u + 2) * x) }

abbrev pub variables_at : ℕ → List ℕ → ℕ → ℕ → List Variable
variables_at u w a n = row n (variable_in u w a)

-- the line of the variable at v with the name at f
abbrev pub line_at : ℕ → List ℕ → (f v : ℕ) → Bytes
line_at u w f v = env_line (text_at 64 w f) (value_at u w v) (mark_at w v)

-- THE AREAS ---------------------------------------------------------------------------------------------------------

-- One after the other, u being the string limit and 1: tables, counters, edges, variables, lists, strings, streams, spill, free.

-- Tables, 4,096 bytes: the slots' names from 0 on, texts of 64 bytes, and what the sheet's check fills in. Argument 0 of main is a text.
abbrev pub argument_zero_place : ℕ
argument_zero_place = 3328

-- Counters, 1,024 bytes, 16 a function: entered, own, inclusive, four bytes each; then a byte, not 0 while an outermost call is open.
abbrev pub counter_place : ℕ → ℕ
counter_place f = 4096 + 16 * f

abbrev pub entered_place : ℕ → ℕ
entered_place f = counter_place f

abbrev pub own_place : ℕ → ℕ
own_place f = counter_place f + 4

abbrev pub inclusive_place : ℕ → ℕ
inclusive_place f = counter_place f + 8

-- Edges, 9,504 bytes, 9 for a pair of a caller a and a callee b, which is not main: calls, steps, four bytes each; then a byte, not 0 while an
-- outermost call over the edge is open.
abbrev pub edge_place : (a b : ℕ) → ℕ
edge_place a b = 5120 + 9 * (32 * a + b - 1)

abbrev pub edge_calls_place : (a b : ℕ) → ℕ
edge_calls_place a b = edge_place a b

abbrev pub edge_steps_place : (a b : ℕ) → ℕ
edge_steps_place a b = edge_place a b + 4

-- where counters and edges end
abbrev pub counters_end : ℕ
counters_end = 14624

-- Variables: 11 context levels of 16.
abbrev pub variables_place : (u v : ℕ) → ℕ
variables_place u v = counters_end + 16 * ((u + 2) * v)

-- Lists: 12 of 16 fields. List 0 is main's arguments, list h + 1 that of hold level h.
abbrev pub list_place : (u h : ℕ) → ℕ
list_place u h = counters_end + 176 * (u + 2) + 16 * (u * h)

-- Strings in work: one a hold level, 11.
abbrev pub string_place : (u h : ℕ) → ℕ
string_place u h = counters_end + 176 * (u + 2) + 192 * u + u * h

-- Streams: 11 of 1,024 bytes. The spill behind the last is what a write may touch before its length is judged.
abbrev pub stream_place : (u k : ℕ) → ℕ
stream_place u k = counters_end + 176 * (u + 2) + 203 * u + 1024 * k

abbrev pub spill_place : ℕ → ℕ
spill_place u = stream_place u 11

-- Free, up to the end: kept for what is to come.
abbrev pub free_place : ℕ → ℕ
free_place u = spill_place u + 16 * (64 + u)

abbrev pub free_bytes : (u size : ℕ) → ℕ
free_bytes u size = size - free_place u
