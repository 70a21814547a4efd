-- The order of the refusals that a run's inputs can meet before it begins, 1 to 5 and 14: rows of a number, when it is given, and its place.
-- The first row that holds wins, so a later rule is a row put in at its place.
use Rattle.std.specs.Prelude.{Bool, true, false, ◌||◌, not, cond, List, [], ◌∷◌, ℕ, eqb, leb, ltb, length}
use Rattle.rules.specs.Syntax.{Bytes}
use Rattle.sheet.specs.Format.{shape}
use Rattle.sheet.specs.Check.{Known, start, count, ends_in_main, is_cut, is_second, is_over, right, kind_here, payload_here, Checked, walk}
use Rattle.sheet.specs.Check as C
use Rattle.sheet.specs.Arguments.{Arguments, arguments}
use Rattle.sheet.specs.Arguments as A

pub record Rule : Type 0 where
  pub number : ℕ
  pub given : Bool
  pub place : ℕ

pub data Ruled : Type 0 where
  passes : Ruled
  refused : (number place : ℕ) → Ruled

abbrev pub first_of : List Rule → Ruled
first_of [] = passes
first_of (row ∷ rows) = cond row.given (refused row.number row.place) (first_of rows)

-- at place 0
abbrev pub whenever : (number : ℕ) → (given : Bool) → Rule
whenever n b = record { number = n; given = b; place = 0 }

-- THE INPUTS OF A RUN -----------------------------------------------------------------------------------------------

-- the memory for a call graph file, which only some runs are lent
pub data FileMemory : Type 0 where
  not_lent : FileMemory
  lent : (size : ℕ) → FileMemory  -- of so many bytes

pub record Inputs : Type 0 where
  pub sheet : Bytes
  pub arguments : Bytes
  pub input : Bytes
  pub loop : ℕ
  pub stack : ℕ
  pub budget : ℕ
  pub result_size : ℕ  -- bytes of result memory
  pub work_size : ℕ  -- bytes of work memory
  pub file : FileMemory

abbrev pub wrong_sizes : Inputs → Bool
wrong_sizes i = ltb i.result_size 4096 || not (eqb i.work_size 65536)

abbrev pub is_short : FileMemory → Bool
is_short not_lent = false
is_short (lent size) = ltb size 65536

abbrev pub wrong_limits : Inputs → Bool
wrong_limits i = ltb 65535 i.loop || (ltb 10 i.stack || (eqb i.budget 0 || (ltb 1000000 i.budget || ltb 1024 (length i.input))))

-- what the records of the sheet say, one after another
abbrev pub walked : Checked → Rule
walked (C.accepted K) = record { number = 0; given = false; place = 0 }
walked (C.refused n r) = record { number = n; given = true; place = r }

abbrev pub is_wrong : Arguments → Bool
is_wrong (A.given as') = false
is_wrong (A.refused n r) = true

unfoldable pub rows : Inputs → List Rule
rows i =
    whenever 1 (wrong_sizes i)
    ∷ whenever 14 (is_short i.file)
    ∷ whenever 2 (wrong_limits i)
    ∷ whenever 3 (ltb 8192 (length i.sheet))
    ∷ walked (walk i.sheet 512 start)
    ∷ whenever 5 (is_wrong (arguments i.arguments))
    ∷ []

-- ONE RECORD --------------------------------------------------------------------------------------------------------

-- where the records of K end and a byte is left
unfoldable pub record_rows : Bytes → Known → List Rule
record_rows s K =
    record { number = 3; given = leb 512 (count K); place = count K }
    ∷ record { number = 4; given = ends_in_main K; place = count K }
    ∷ record { number = 4; given = is_cut s K.end; place = count K }
    ∷ record { number = 4; given = not (right K (shape (kind_here s K)) (payload_here s K)); place = count K }
    ∷ record { number = 4; given = is_second s K; place = count K }
    ∷ record { number = 3; given = is_over s K; place = count K }
    ∷ []

-- goes on if no row holds
abbrev pub unless : Ruled → Checked → Checked
unless passes more = more
unless (refused n r) more = C.refused n r

-- what a check says, as a row's verdict
abbrev pub ruled : Checked → Ruled
ruled (C.accepted K) = passes
ruled (C.refused n r) = refused n r

-- one verdict, and another if it passes
abbrev pub and_then : Ruled → Ruled → Ruled
and_then passes more = more
and_then (refused n r) more = refused n r
