-- The program that a well-formed list of records stands for, said of the list alone: no walk and no state.
use Rattle.std.specs.Prelude.{cond, List, [], ◌∷◌, ◌++◌, ℕ, zero, suc, ◌-◌, eqb, length}
use Rattle.rules.specs.Syntax.{Bytes, Ins, Function, Program}
use Rattle.sheet.specs.Format.{place}
use Rattle.sheet.specs.Nodes.{Node, as_instruction, node_of, lookup}
use Rattle.sheet.specs.WellFormed.{Item, kind_at, payload_at, part_at, name_at, variables_to}

module _ (rs : List Item) where
  -- the names of the variables, in the order in which they are first named
  abbrev pub slot_names : List Bytes
  slot_names = variables_to rs (length rs)

  -- the slot of the variable that record r names, if it names one
  abbrev pub slot_at : (r : ℕ) → ℕ
  slot_at r = place (name_at rs r) slot_names

  -- what the first n records stand for, each by the nodes before it
  unfoldable pub nodes_to : (n : ℕ) → List Node
  nodes_to zero = []
  nodes_to (suc n) = nodes_to n ++ node_of (lookup (nodes_to n)) n (slot_at n) (kind_at rs n) (payload_at rs n) ∷ []

  -- the instruction that record r refers to by the number i bytes into its payload
  abbrev pub body_at : (r i : ℕ) → Ins
  body_at r i = as_instruction (lookup (nodes_to (length rs)) (part_at rs r i))

  -- the functions among the first n records
  unfoldable pub defined_to : (n : ℕ) → List Function
  defined_to zero = []
  defined_to (suc n) = cond (eqb (kind_at rs n) 32) (defined_to n ++ record { name = name_at rs n; body = body_at n 2 } ∷ []) (defined_to n)

  -- main is the last record
  unfoldable pub program_of : Program
  program_of = record { functions = defined_to (length rs); main = body_at (length rs - 1) 0; slots = slot_names }
