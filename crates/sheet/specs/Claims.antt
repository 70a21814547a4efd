-- What is proved of sheets and argument sheets: which are accepted and as what, which are refused, by which number and at which place. The proofs
-- are put together in proofs/Theorems.antt.
use Rattle.std.specs.Prelude.{◌≡◌, ◌⊎◌, List, [], map, ℕ, ◌<◌, ◌≤◌, length, get_or}
use Rattle.rules.specs.Syntax.{Bytes}
use Rattle.sheet.specs.Check.{Known, accepted, refused, check, known_of}
use Rattle.sheet.specs.Decode.{program}
use Rattle.sheet.specs.Arguments.{arguments, given}
use Rattle.sheet.specs.Arguments as argument
use Rattle.sheet.specs.WellFormed.{Item, write, IsBytes, items_of, WellFormed, Reads}
use Rattle.sheet.specs.Programs.{program_of}
use Rattle.sheet.specs.Faults.{GoodSoFar, EndsInMain, Faulty}

-- SHEETS ------------------------------------------------------------------------------------------------------------

-- Accepted are the bytes of the well-formed lists of records and no others, and the records read are that list.
abbrev pub AcceptedExactly : Type 0
AcceptedExactly =
    ((s : Bytes) (K : Known) → IsBytes s → check s ≡ accepted K → WellFormed (items_of K) × (s ≡ write (items_of K)))
    × ((rs : List Item) → WellFormed rs → IsBytes (write rs) × Reads rs)

-- An accepted sheet is run as the program of its records: what the check knows of it decodes to that.
abbrev pub ProgramOfRecords : Type 0
ProgramOfRecords = (rs : List Item) → WellFormed rs → program (known_of (write rs)) ≡ program_of rs

-- A sheet is refused by the number and at the place of its first fault, and only where it has one.
abbrev pub RefusedExactly : Type 0
RefusedExactly =
    (s : Bytes) (number place : ℕ) → IsBytes s
    → (check s ≡ refused number place → Faulty s number place) × (Faulty s number place → check s ≡ refused number place)

-- So no sheet has two first faults of different number or place,
abbrev pub OneFault : Type 0
OneFault = (s : Bytes) (m n p q : ℕ) → IsBytes s → Faulty s m p → Faulty s n q → (m ≡ n) × (p ≡ q)

-- and no well-formed list has any.
abbrev pub NoFault : Type 0
NoFault = (rs : List Item) (number place : ℕ) → WellFormed rs → Faulty (write rs) number place → ⊥

abbrev pub OnlyThreeOrFour : Type 0
OnlyThreeOrFour = (s : Bytes) (number place : ℕ) → check s ≡ refused number place → ((number ≡ 3) ⊎ (number ≡ 4)) × (place ≤ 512)

-- A well-formed list is one that is good so far, short enough, and ends in main.
abbrev pub WellFormedIsGood : Type 0
WellFormedIsGood =
    (rs : List Item)
    → (WellFormed rs → GoodSoFar rs × (length (write rs) ≤ 8192) × EndsInMain rs)
    × (GoodSoFar rs → length (write rs) ≤ 8192 → EndsInMain rs → WellFormed rs)

-- ARGUMENT SHEETS ---------------------------------------------------------------------------------------------------

abbrev pub text_item : Bytes → Item
text_item b = record { kind = 1; payload = b }

-- 1 to 17 texts of at most 63 bytes, written one after another
pub record Texts (a : Bytes) (texts : List Bytes) : Type 0 where
  pub some : 0 < length texts
  pub few : length texts ≤ 17
  pub short : (i : ℕ) → i < length texts → length (get_or texts i []) ≤ 63
  pub is : a ≡ write (map text_item texts)

-- Accepted are the bytes of such texts, which are the arguments; anything else is refused by 5 at place 0.
pub record ArgumentsExact (a : Bytes) : Type 0 where
  pub given : (texts : List Bytes) → (arguments a ≡ given texts → Texts a texts) × (Texts a texts → arguments a ≡ given texts)
  pub refused : (number place : ℕ) → arguments a ≡ argument.refused number place → (number ≡ 5) × (place ≡ 0) × ((texts : List Bytes) → Texts a texts → ⊥)
  pub else : ((texts : List Bytes) → Texts a texts → ⊥) → arguments a ≡ argument.refused 5 0

abbrev pub ArgumentsExactly : Type 0
ArgumentsExactly = (a : Bytes) → IsBytes a → ArgumentsExact a
