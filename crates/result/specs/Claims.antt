-- What is proved of the result sheet. The proofs are put together in proofs/Theorems.antt.
use Rattle.std.specs.Prelude.{◌≡◌, ℕ, suc, ◌≤◌, length}
use Rattle.rules.specs.declared.Behaviour.{Behaviour}
use Rattle.rules.specs.Lists.{Every}
use Rattle.rules.specs.Syntax.{Bytes}
use Rattle.rules.specs.Trace.{Trace, steps}
use Rattle.rules.specs.State.{ended}
use Rattle.rules.specs.Ruling.{Shown, Sheet, sheet, profile, ruling_of}
use Rattle.memory.specs.Abstract.{state_of, start_scope}
use Rattle.memory.specs.Posts.{Written}
use Rattle.memory.specs.Profile.{Profiled}
use Rattle.memory.specs.declared.Given.{Given}
use Rattle.memory.specs.declared.Course.{Course}
use Rattle.result.specs.Encoding.{sheet_bytes}
use Rattle.result.specs.Ended.{rows_in, sheet_in, Writable}

-- SIZE --------------------------------------------------------------------------------------------------------------

-- a name and a value within the string limit
pub record ShortStrings (v : Shown) : Type 0 where
  pub name : length v.name ≤ 63
  pub value : length v.value ≤ 63

-- a sheet within the limits: of a stream, of variables and their strings, of functions and main
pub record Bounded (s : Sheet) : Type 0 where
  pub output : length s.output ≤ 1024
  pub variables : length s.variables ≤ 16
  pub strings : Every ShortStrings s.variables
  pub functions : length s.profile ≤ 33

-- Such a sheet always fits the result memory, which has 4,096 bytes or more.
abbrev pub EverySheetFits : Type 0
EverySheetFits = (s : Sheet) → Bounded s → length (sheet_bytes s) ≤ 3744

-- And what an ended run leaves is such a sheet.
abbrev pub EveryEndFits : Type 0
EveryEndFits =
    (out w : Bytes) (g : Given) (b : Behaviour) (c : Course) (n : ℕ) → Writable out w g c n
    → Bounded (sheet_in w g b c n) × (length (sheet_bytes (sheet_in w g b c n)) ≤ 3744)

-- ONE MEANING -------------------------------------------------------------------------------------------------------

-- The bytes fix everything: behaviour, result, steps, output, variables with their marks, and every function's figures.
abbrev pub BytesFixSheet : Type 0
BytesFixSheet = (s s' : Sheet) → sheet_bytes s ≡ sheet_bytes s' → s ≡ s'

-- What is written, and where, fixes the later content of the result memory and the length returned.
abbrev pub WritingFixed : Type 0
WritingFixed = (a : ℕ) (s out out' out'' : Bytes) (r r' : ℕ) → Written a s out out' r → Written a s out out'' r' → (out' ≡ out'') × (r ≡ r')

-- THE RULES ---------------------------------------------------------------------------------------------------------

-- Counters that are the profile of a trace are written as that profile.
abbrev pub CountersAreProfile : Type 0
CountersAreProfile = (t : Trace) (w : Bytes) (n : ℕ) → Profiled t w → n ≤ 32 → rows_in w 0 (suc n) ≡ profile 0 (suc n) t

-- So the sheet that work memory stands for, when main has ended with the trace t, is the rules' ruling.
abbrev pub EndIsRuling : Type 0
EndIsRuling =
    (t : Trace) (i w : Bytes) (g : Given) (b : Behaviour) (c : Course) (n : ℕ) → Profiled t w → c.used ≡ steps t → n ≤ 32
    → ruling_of n (ended b (state_of i w g start_scope c) t) ≡ sheet (sheet_in w g b c n)
