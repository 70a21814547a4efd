-- The format of sheets (docs/FORMATS.md): numbers, the table of kinds, sorts, names.
use Rattle.std.specs.Prelude.{Bool, true, false, ◌&&◌, ◌||◌, cond, List, [], ◌∷◌, ℕ, suc, eqb, leb}
use Rattle.rules.specs.Syntax.{Bytes}
use Rattle.rules.specs.Words.{same}
-- the number in two bytes, and in four
unfoldable pub use Rattle.rules.specs.Numbers.{number, long_number}

-- KINDS -------------------------------------------------------------------------------------------------------------

-- what the two bytes of a part of a payload have to be
pub data Wanted : Type 0 where
  any_number code name string list instruction : Wanted

-- what a payload has to be
pub data Shape : Type 0 where
  no_kind : Shape
  text : Shape  -- any bytes, up to a string's length
  nothing : Shape
  one : Wanted → Shape
  two : Wanted → Wanted → Shape
  three : Wanted → Wanted → Wanted → Shape

-- the table of kinds
abbrev pub kinds : List (ℕ × Shape)
kinds =
    (1, text)  -- text
    ∷ (2, one name)  -- variable
    ∷ (3, one any_number)  -- argument
    ∷ (4, one instruction)  -- embedded command
    ∷ (5, two string string)  -- join
    ∷ (6, nothing)  -- empty list
    ∷ (7, two string list)  -- field
    ∷ (8, two string list)  -- split
    ∷ (16, two name string)  -- assign
    ∷ (17, one name)  -- export
    ∷ (18, two instruction instruction)  -- sequence
    ∷ (19, one instruction)  -- subshell
    ∷ (20, one instruction)  -- not
    ∷ (21, three instruction instruction instruction)  -- if
    ∷ (22, one instruction)  -- nooutput
    ∷ (23, two instruction instruction)  -- pipe
    ∷ (24, two name list)  -- utility
    ∷ (25, two name list)  -- call
    ∷ (26, three name list instruction)  -- for
    ∷ (27, two instruction instruction)  -- while
    ∷ (28, one code)  -- exit
    ∷ (29, one code)  -- return
    ∷ (30, one any_number)  -- shift
    ∷ (32, two name instruction)  -- function
    ∷ (33, one instruction)  -- main
    ∷ []

abbrev pub shape_in : List (ℕ × Shape) → (kind : ℕ) → Shape
shape_in [] k = no_kind
shape_in (row ∷ rows) k = cond (eqb k row.0) row.1 (shape_in rows k)

unfoldable pub shape : (kind : ℕ) → Shape
shape k = shape_in kinds k

abbrev pub between : (low n high : ℕ) → Bool
between a n b = leb a n && leb n b

-- the sorts, by their range of kinds
abbrev pub is_string : (kind : ℕ) → Bool
is_string k = between 1 k 5

abbrev pub is_list : (kind : ℕ) → Bool
is_list k = between 6 k 8

abbrev pub is_instruction : (kind : ℕ) → Bool
is_instruction k = between 16 k 30

-- the records that name a variable
unfoldable pub names_variable : (kind : ℕ) → Bool
names_variable k = eqb k 2 || (eqb k 16 || (eqb k 17 || eqb k 26))

-- NAMES -------------------------------------------------------------------------------------------------------------

-- a byte that a name may begin with: A to Z, a to z, _
unfoldable pub is_first : (byte : ℕ) → Bool
is_first c = between 65 c 90 || (between 97 c 122 || eqb c 95)

-- a byte that may follow: the same, and 0 to 9
unfoldable pub is_later : (byte : ℕ) → Bool
is_later c = is_first c || between 48 c 57

unfoldable pub all_later : Bytes → Bool
all_later [] = true
all_later (c ∷ cs) = is_later c && all_later cs

unfoldable pub is_name : Bytes → Bool
is_name [] = false
is_name (c ∷ cs) = is_first c && all_later cs

-- where a name stands among names, compared by bytes; their number if it is none of them
unfoldable pub place : (name : Bytes) → List Bytes → ℕ
place x [] = 0
place x (y ∷ ys) = cond (same y x) 0 (suc (place x ys))
