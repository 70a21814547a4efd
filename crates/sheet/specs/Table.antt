-- The table that a check leaves for evaluation, in the first 4,096 bytes of the memory lent to it. Numbers have two bytes.
-- At 64 i the name of slot i: its length in one byte, then its bytes, so that a slot's name does not hang on the sheet that named it.
-- At 1,024 where each record begins; at 2,048 each record's mark (the slot of its variable; for a call the number of the function, 0 if unknown);
-- at 3,072 each function's body and name (records), main first.
use Rattle.std.specs.Prelude.{cond, List, [], ◌∷◌, ◌++◌, map, ℕ, suc, ◌+◌, ◌*◌, eqb, ltb, length}
use Rattle.std.proofs.lemmas.List.Edits.{sets}
use Rattle.rules.specs.Syntax.{Bytes}
use Rattle.rules.specs.Numbers.{two_bytes}
use Rattle.sheet.specs.Format.{number, place}
use Rattle.sheet.specs.Check.{Rec, Known, Defined, payload_of, variable_names, function_names, Checked, accepted, refused, known}
use Rattle.sheet.specs.Decode.{main_body}

-- where each part begins
abbrev pub starts_at : ℕ
starts_at = 1024

abbrev pub marks_at : ℕ
marks_at = 2048

abbrev pub bodies_at : ℕ
bodies_at = 3072

abbrev pub table_size : ℕ
table_size = 4096

-- the name of slot i
abbrev pub name_written : Bytes → (i : ℕ) → (name : Bytes) → Bytes
name_written t i x = sets t (64 * i) (length x ∷ x)

-- the names of the slots from i on
unfoldable pub names_written : Bytes → (i : ℕ) → List Bytes → Bytes
names_written t i [] = t
names_written t i (x ∷ xs) = names_written (name_written t i x) (suc i) xs

unfoldable pub words : List ℕ → Bytes
words [] = []
words (x ∷ xs) = two_bytes x ++ words xs

-- numbers written from i on
abbrev pub written : Bytes → (i : ℕ) → List ℕ → Bytes
written t i xs = sets t i (words xs)

-- body and name of each function
unfoldable pub entries : List Defined → List ℕ
entries [] = []
entries (f ∷ fs) = f.body ∷ f.named ∷ entries fs

-- the number of the function of a name, 0 if unknown
abbrev pub function_number : Known → Bytes → ℕ
function_number K x = let i = place x (function_names K) in cond (ltb i (length K.functions)) (suc i) 0

-- the mark of a record when all functions are known
unfoldable pub mark : Known → Rec → ℕ
mark K c = cond (eqb c.kind 25) (function_number K (payload_of K (number c.payload 0))) c.slot

-- the table t after the records of K, with these marks
unfoldable pub filled : Known → (marks : List ℕ) → (t : Bytes) → Bytes
filled K ms t =
    written (written (written (names_written t 0 (variable_names K))
    starts_at (map (λ c. c.at) K.records))
    (bodies_at + 4) (entries K.functions))
    marks_at ms

-- while functions may still come
abbrev pub partly : Known → (t : Bytes) → Bytes
partly K t = filled K (map (λ c. c.slot) K.records) t

abbrev pub complete : Known → (t : Bytes) → Bytes
complete K t = written (filled K (map (mark K) K.records) t) bodies_at (main_body K ∷ 0 ∷ [])

-- the table that a check leaves: a refused sheet's has the records before the place of refusal
unfoldable pub leaves : (s : Bytes) → Checked → (t : Bytes) → Bytes
leaves s (accepted K) t = complete K t
leaves s (refused n r) t = partly (known s r) t
