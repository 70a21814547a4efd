-- What a record of each kind stands for: a string, a list or an instruction of the rules, made of those that earlier records stand for.
use Rattle.std.specs.Prelude.{cond, List, [], ◌∷◌, ℕ, eqb, get_or}
use Rattle.rules.specs.Syntax.{Bytes, Code, success, failure, previous}
use Rattle.rules.specs.Syntax.{Str, text, variable, argument, embedded, join}
use Rattle.rules.specs.Syntax.{Lst, empty, field, split}
use Rattle.rules.specs.Syntax.{Ins, assign, export, sequence, subshell, not, if, nooutput, pipe, utility, call, for, while, exit, return, shift}
use Rattle.sheet.specs.Format.{number}

pub data Node : Type 0 where
  string : Str → Node
  list : Lst → Node
  instruction : Ins → Node
  none : Node  -- a function, main, no record

abbrev pub as_string : Node → Str
as_string (string x) = x
as_string (list x) = text 0 []
as_string (instruction x) = text 0 []
as_string none = text 0 []

abbrev pub as_list : Node → Lst
as_list (string x) = empty 0
as_list (list x) = x
as_list (instruction x) = empty 0
as_list none = empty 0

abbrev pub as_instruction : Node → Ins
as_instruction (string x) = shift 0 0
as_instruction (list x) = shift 0 0
as_instruction (instruction x) = x
as_instruction none = shift 0 0

abbrev pub bytes_of : Str → Bytes
bytes_of (text r b) = b
bytes_of (variable r x) = []
bytes_of (argument r n) = []
bytes_of (embedded r i) = []
bytes_of (join r a b) = []

abbrev pub code_of : ℕ → Code
code_of n = cond (eqb n 0) success (cond (eqb n 1) failure previous)

abbrev pub row_of : (kind : ℕ) → List (ℕ × Node) → Node
row_of k [] = none
row_of k (row ∷ rows) = cond (eqb k row.0) row.1 (row_of k rows)

-- Record r, given the nodes of the earlier records, the slot of the variable that it names, if it names one, and its payload.
module _ (earlier : ℕ → Node) (r slot : ℕ) (payload : Bytes) where
  abbrev pub part : (i : ℕ) → ℕ
  part i = number payload i

  abbrev pub string_at : (i : ℕ) → Str
  string_at i = as_string (earlier (part i))

  abbrev pub list_at : (i : ℕ) → Lst
  list_at i = as_list (earlier (part i))

  abbrev pub instruction_at : (i : ℕ) → Ins
  instruction_at i = as_instruction (earlier (part i))

  abbrev pub name_at : (i : ℕ) → Bytes
  name_at i = bytes_of (string_at i)

  -- the table of kinds once more: what a record of each kind stands for
  unfoldable pub rows : List (ℕ × Node)
  rows =
      (1, string (text r payload))
      ∷ (2, string (variable r slot))
      ∷ (3, string (argument r (part 0)))
      ∷ (4, string (embedded r (instruction_at 0)))
      ∷ (5, string (join r (string_at 0) (string_at 2)))
      ∷ (6, list (empty r))
      ∷ (7, list (field r (string_at 0) (list_at 2)))
      ∷ (8, list (split r (string_at 0) (list_at 2)))
      ∷ (16, instruction (assign r slot (string_at 2)))
      ∷ (17, instruction (export r slot))
      ∷ (18, instruction (sequence r (instruction_at 0) (instruction_at 2)))
      ∷ (19, instruction (subshell r (instruction_at 0)))
      ∷ (20, instruction (not r (instruction_at 0)))
      ∷ (21, instruction (if r (instruction_at 0) (instruction_at 2) (instruction_at 4)))
      ∷ (22, instruction (nooutput r (instruction_at 0)))
      ∷ (23, instruction (pipe r (instruction_at 0) (instruction_at 2)))
      ∷ (24, instruction (utility r (name_at 0) (list_at 2)))
      ∷ (25, instruction (call r (name_at 0) (list_at 2)))
      ∷ (26, instruction (for r slot (list_at 2) (instruction_at 4)))
      ∷ (27, instruction (while r (instruction_at 0) (instruction_at 2)))
      ∷ (28, instruction (exit r (code_of (part 0))))
      ∷ (29, instruction (return r (code_of (part 0))))
      ∷ (30, instruction (shift r (part 0)))
      ∷ []

-- its node
abbrev pub node_of : (earlier : ℕ → Node) → (r slot kind : ℕ) → (payload : Bytes) → Node
node_of earlier r slot kind payload = row_of kind (rows earlier r slot payload)

abbrev pub lookup : List Node → ℕ → Node
lookup ns r = get_or ns r none
