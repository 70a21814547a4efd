-- Which fault of a sheet is its first, with the number (3 or 4) and the place of its refusal, said of the records that stand at the sheet's
-- front: no walk and no state. docs/FORMATS.md has the order.
use Rattle.std.specs.Prelude.{◌≡◌, List, [], ◌∷◌, ◌++◌, ℕ, suc, ◌-◌, ◌<◌, ◌≤◌, length}
use Rattle.rules.specs.Syntax.{Bytes}
use Rattle.sheet.specs.Format.{shape}
use Rattle.sheet.specs.WellFormed.{Item, write_item, write, IsBytes, kind_at, payload_at, name_at, Holds, functions_to, variables_to}

-- GOOD RECORDS ------------------------------------------------------------------------------------------------------

-- What a well-formed list is but for its end: each record is good where it stands, and main can only be the last.
pub record GoodSoFar (rs : List Item) : Type 0 where
  pub bytes : (r : ℕ) → r < length rs → IsBytes (payload_at rs r)
  pub few : length rs ≤ 512
  pub holds : (r : ℕ) → r < length rs → Holds rs r (shape (kind_at rs r))
  pub one_main : (r : ℕ) → r < length rs → kind_at rs r ≡ 33 → suc r ≡ length rs
  pub apart : (q r : ℕ) → q < r → r < length rs → kind_at rs q ≡ 32 → kind_at rs r ≡ 32 → name_at rs q ≡ name_at rs r → ⊥
  pub functions : length (functions_to rs (length rs)) ≤ 32
  pub variables : length (variables_to rs (length rs)) ≤ 16

-- the last record is main
abbrev pub EndsInMain : List Item → Type 0
EndsInMain rs = kind_at rs (length rs - 1) ≡ 33

-- The sheet is not too long, and begins with the good records rs; the bytes `rest` are left behind them.
pub record Begins (s : Bytes) (rs : List Item) (rest : Bytes) : Type 0 where
  pub short : length s ≤ 8192
  pub good : GoodSoFar rs
  pub is : s ≡ write rs ++ rest

-- A byte is left behind rs, where one more record may stand: rs are fewer than 512, and do not end in main.
pub record Continues (s : Bytes) (rs : List Item) (rest : Bytes) : Type 0 where
  pub begins : Begins s rs rest
  pub room : length rs < 512
  pub no_main : EndsInMain rs → ⊥
  pub left : 0 < length rest

-- THE RECORD BEHIND THEM --------------------------------------------------------------------------------------------

-- no whole record stands at the front
abbrev pub CutShort : (rest : Bytes) → Type 0
CutShort rest = (c : Item) (more : Bytes) → rest ≡ write_item c ++ more → ⊥

module _ (rs : List Item) (c : Item) where
  abbrev pub with : List Item
  with = rs ++ c ∷ []

  -- its payload is as the table of kinds has it: length, kind, references, name, code
  abbrev pub Right : Type 0
  Right = Holds with (length rs) (shape c.kind)

  -- it is a function of a name that an earlier function has
  abbrev pub Second : Type 0
  Second = (c.kind ≡ 32) × ((q : ℕ) × (q < length rs) × (kind_at with q ≡ 32) × (name_at with q ≡ name_at with (length rs)))

-- The record c stands whole behind rs.
pub record Next (s : Bytes) (rs : List Item) (c : Item) : Type 0 where
  pub more : Bytes
  pub continues : Continues s rs (write_item c ++ more)

-- THE FIRST FAULT ---------------------------------------------------------------------------------------------------

-- why a sheet is refused, with which number, at which place
pub data Faulty (s : Bytes) : (number place : ℕ) → Type 0 where
  -- the sheet is too long
  too_long : 8192 < length s → Faulty s 3 0
  -- more behind the 512th record, whatever it is
  too_many_records : (rs : List Item) (rest : Bytes) → Begins s rs rest → length rs ≡ 512 → 0 < length rest → Faulty s 3 512
  -- more behind main; the place is where the next record would be
  after_main : (rs : List Item) (rest : Bytes) → Begins s rs rest → length rs < 512 → EndsInMain rs → 0 < length rest → Faulty s 4 (length rs)
  -- the bytes end within a record
  cut_short : (rs : List Item) (rest : Bytes) → Continues s rs rest → CutShort rest → Faulty s 4 (length rs)
  -- a record that is not as the table of kinds has it
  wrong_record : (rs : List Item) (c : Item) → Next s rs c → (Right rs c → ⊥) → Faulty s 4 (length rs)
  -- a function whose name is taken
  second_function : (rs : List Item) (c : Item) → Next s rs c → Right rs c → Second rs c → Faulty s 4 (length rs)
  -- one function too many
  too_many_functions : (rs : List Item) (c : Item) → Next s rs c → Right rs c → (Second rs c → ⊥)
      → 32 < length (functions_to (with rs c) (length (with rs c))) → Faulty s 3 (length rs)
  -- one variable too many
  too_many_variables : (rs : List Item) (c : Item) → Next s rs c → Right rs c → (Second rs c → ⊥)
      → 16 < length (variables_to (with rs c) (length (with rs c))) → Faulty s 3 (length rs)
  -- the records end, and the last is not main; the place is where main would be
  main_missing : (rs : List Item) → Begins s rs [] → (EndsInMain rs → ⊥) → Faulty s 4 (length rs)
