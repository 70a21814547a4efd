-- What the working functions of a check are given: the table and the array of slots hold the first n records of the sheet s.
use Rattle.std.specs.Prelude.{Option, Some, None, Result, Ok, Err, ◌≡◌, cond, List, [], ◌∷◌, map, ℕ, ◌+◌, ◌*◌, ◌-◌, ◌<◌, ◌≤◌, leb, ltb, eqb, length, get_or, take, drop, set}
use Rattle.rules.specs.Syntax.{Bytes}
use Rattle.reader.specs.Records as reader
use Rattle.sheet.specs.declared.Counts.{Counts}
use Rattle.sheet.specs.declared.Fault.{Fault}
use Rattle.sheet.specs.declared.Fault.TheVariants.{Faulty, Full}
use Rattle.sheet.specs.declared.Refused.{Refused}
use Rattle.sheet.specs.declared.Accepted.{Accepted}
use Rattle.sheet.specs.Format.{number}
use Rattle.sheet.specs.Table.{starts_at, marks_at, bodies_at, table_size, name_written, written, partly, complete, filled, mark}
use Rattle.sheet.specs.Check.{Rec, Known, no_defined, known, record_of, payload_of, kind_of, count, variable_names}
use Rattle.sheet.specs.Check.{Judgement, fine, faulty, full, judge, record_here, named_here, name_here, payload_here, kind_here, is_new, is_function}
use Rattle.sheet.specs.Check.{Checked, accepted, refused}

-- the bytes of record c stand in s
pub record Lies (s : Bytes) (c : Rec) : Type 0 where
  pub room : reader.behind s c.at ≤ length s
  pub kind : c.kind ≡ reader.kind s c.at
  pub payload : c.payload ≡ reader.payload s c.at

pub record Held (s t : Bytes) (n : ℕ) : Type 0 where
  pub small : length s ≤ 8192
  pub room : table_size ≤ length t
  pub few : n ≤ 512
  pub lies : (r : ℕ) → r < n → Lies s (record_of (known s n) r)
  pub offset : (r : ℕ) → r < n → number t (starts_at + 2 * r) ≡ (record_of (known s n) r).at

-- the bytes that an entry of the array of slots spans: a start and a length
abbrev pub span : Bytes → List ℕ → Bytes
span s e = take (get_or e 1 0) (drop (get_or e 0 0) s)

-- the first n entries lie in s
abbrev pub Within : Bytes → List (List ℕ) → ℕ → Type 0
Within s slots n = (i : ℕ) → i < n → get_or (get_or slots i []) 0 0 + get_or (get_or slots i []) 1 0 ≤ length s

-- the array has the names of K's variables
pub record Slotted (s : Bytes) (slots : List (List ℕ)) (K : Known) : Type 0 where
  pub few : length K.variables ≤ 16
  pub within : Within s slots (length K.variables)
  pub names : map (span s) (take (length K.variables) slots) ≡ variable_names K

-- the table has the names of K's functions
pub record Listed (s t : Bytes) (K : Known) : Type 0 where
  pub few : length K.functions ≤ 32
  pub named : (f : ℕ) → f < length K.functions → number t (bodies_at + 4 * f + 6) ≡ (get_or K.functions f no_defined).named
  pub earlier : (f : ℕ) → f < length K.functions → (get_or K.functions f no_defined).named < count K
  pub name : (f : ℕ) → f < length K.functions → payload_of K (get_or K.functions f no_defined).named ≡ (get_or K.functions f no_defined).name

-- the counts that the code carries
abbrev pub counts_of : Known → Counts
counts_of K = record {
  records = count K;
  at = K.end;
  last = kind_of K (count K - 1);
  slots = length K.variables;
  functions = length K.functions;
}

pub record Ready (s t : Bytes) (slots : List (List ℕ)) (c : Counts) : Type 0 where
  pub counts : c ≡ counts_of (known s c.records)
  pub end : c.at ≤ length s
  pub held : Held s t c.records
  pub slotted : Slotted s slots (known s c.records)
  pub listed : Listed s t (known s c.records)
  pub short : (r : ℕ) → r < c.records → kind_of (known s c.records) r ≡ 1 → length (payload_of (known s c.records) r) ≤ 63

-- the number of a fault, and the fault of a number
abbrev pub fault_number : Fault → ℕ
fault_number Full = 3
fault_number Faulty = 4

abbrev pub fault_of : (number : ℕ) → Fault
fault_of n = cond (eqb n 3) Full Faulty

-- a refusal, as the code has it
abbrev pub refused_of : (number place : ℕ) → Refused
refused_of n r = record { why = fault_of n; place = r }

-- a place among n, where it is one
abbrev pub found : (place n : ℕ) → Option ℕ
found i n = cond (ltb i n) (Some i) None

-- the verdict as the code has it: a good record comes with the slot of its variable
abbrev pub verdict_of : Judgement → (slot : ℕ) → Result ℕ Fault
verdict_of fine x = Ok x
verdict_of faulty x = Err Faulty
verdict_of full x = Err Full

abbrev pub slot_verdict : (slot : ℕ) → Result ℕ Fault
slot_verdict i = verdict_of (cond (leb 16 i) full fine) i

abbrev pub function_verdict : (place count : ℕ) → Result ℕ Fault
function_verdict i n = verdict_of (cond (ltb i n) faulty (cond (leb 32 n) full fine)) 0

abbrev pub judged : Bytes → Known → Result ℕ Fault
judged s K = verdict_of (judge s K) (record_here s K).slot

-- WHAT A GOOD RECORD ADDS -------------------------------------------------------------------------------------------

abbrev pub with_variable : Bytes → Known → (t : Bytes) → Bytes
with_variable s K t = cond (is_new s K) (name_written t (length K.variables) (name_here s K)) t

abbrev pub with_function : Bytes → Known → (t : Bytes) → Bytes
with_function s K t = cond (is_function s K) (written t (bodies_at + 4 + 4 * length K.functions) (number (payload_here s K) 2 ∷ named_here s K ∷ [])) t

unfoldable pub entered : Bytes → Known → (t : Bytes) → Bytes
entered s K t =
    written (written (with_function s K (with_variable s K t))
    (starts_at + 2 * count K) (K.end ∷ []))
    (marks_at + 2 * count K) ((record_here s K).slot ∷ [])

-- the span of the payload of record r
abbrev pub span_of : Known → ℕ → List ℕ
span_of K r = ((record_of K r).at + 4) ∷ length (payload_of K r) ∷ []

unfoldable pub spanned : Bytes → Known → List (List ℕ) → List (List ℕ)
spanned s K slots = cond (is_new s K) (set slots (length K.variables) (span_of K (named_here s K))) slots

-- what the code has read of a good record
pub record Entering (s : Bytes) (K : Known) (kind slot named : ℕ) : Type 0 where
  pub good : judge s K ≡ fine
  pub kind_is : kind ≡ kind_here s K
  pub slot_is : slot ≡ (record_here s K).slot
  pub named_is : named ≡ named_here s K

-- how the pass over the records ended, as the code has it
abbrev pub passed_of : Checked → Result Counts Refused
passed_of (accepted K) = Ok (counts_of K)
passed_of (refused n r) = Err (refused_of n r)

-- the table that the pass leaves
abbrev pub passed_table : (s : Bytes) → Checked → (t : Bytes) → Bytes
passed_table s (accepted K) t = partly K t
passed_table s (refused n r) t = partly (known s r) t

-- WHEN ALL RECORDS ARE GOOD -----------------------------------------------------------------------------------------

-- the calls can be resolved
pub record Resolving (s t : Bytes) (n functions : ℕ) : Type 0 where
  pub held : Held s t n
  pub listed : Listed s t (known s n)
  pub functions_is : functions ≡ length (known s n).functions
  pub named : (r : ℕ) → r < n → kind_of (known s n) r ≡ 25 → number (payload_of (known s n) r) 0 < n

-- record r resolved
abbrev pub resolved : Known → (r : ℕ) → (t : Bytes) → Bytes
resolved K r t = cond (eqb (kind_of K r) 25) (written t (marks_at + 2 * r) (mark K (record_of K r) ∷ [])) t

-- every call is marked, whatever the table was before the pass
abbrev pub Marked : Known → (t t' : Bytes) → Type 0
Marked K t t' = (t₀ : Bytes) → t ≡ partly K t₀ → t' ≡ filled K (map (mark K) K.records) t₀

abbrev pub Completed : Known → (t t' : Bytes) → Type 0
Completed K t t' = (t₀ : Bytes) → t ≡ partly K t₀ → t' ≡ complete K t₀

-- the finding of a check as the code has it: the numbers of records, slots and functions, or the refusal
abbrev pub finding_of : Checked → Result Accepted Refused
finding_of (accepted K) = Ok (record { records = count K; slots = length K.variables; functions = length K.functions })
finding_of (refused n r) = Err (refused_of n r)
