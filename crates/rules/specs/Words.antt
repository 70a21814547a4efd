-- What the rules do with bytes, fields, variables and names: plain functions without a state.
use Rattle.std.specs.Prelude.{Bool, true, false, ◌&&◌, ◌||◌, cond, List, [], ◌∷◌, ◌++◌, ℕ, suc, eqb, get_or, set}
use Rattle.rules.specs.Syntax.{Bytes, Slot, Function}
use Rattle.rules.specs.State.{Value, unset, bytes, Variable}

-- BYTES AND FIELDS --------------------------------------------------------------------------------------------------

abbrev pub same : Bytes → Bytes → Bool
same [] [] = true
same [] (y ∷ ys) = false
same (x ∷ xs) [] = false
same (x ∷ xs) (y ∷ ys) = eqb x y && same xs ys

abbrev pub is_non_empty : Bytes → Bool
is_non_empty [] = false
is_non_empty (c ∷ cs) = true

-- Embedded: the value of an embedded command is what it wrote without all bytes 10, the newlines, at its end: a byte stays if it is no
-- newline, or if one behind it stays.
abbrev pub before_kept : ℕ → (kept : Bytes) → Bytes
before_kept c [] = cond (eqb c 10) [] (c ∷ [])
before_kept c (d ∷ ds) = c ∷ d ∷ ds

abbrev pub embedded_value : (stream : Bytes) → Bytes
embedded_value [] = []
embedded_value (c ∷ cs) = before_kept c (embedded_value cs)

-- Split: a string falls apart at every byte 32, 9 or 10, and its empty stretches are left out.
abbrev pub is_blank : ℕ → Bool
is_blank c = eqb c 32 || eqb c 9 || eqb c 10

abbrev pub in_front : ℕ → List Bytes → List Bytes
in_front c [] = (c ∷ []) ∷ []
in_front c (s ∷ ss) = (c ∷ s) ∷ ss

-- all stretches, the empty ones too
abbrev pub pieces : Bytes → List Bytes
pieces [] = [] ∷ []
pieces (c ∷ cs) = cond (is_blank c) ([] ∷ pieces cs) (in_front c (pieces cs))

abbrev pub non_empty : List Bytes → List Bytes
non_empty [] = []
non_empty ([] ∷ ss) = non_empty ss
non_empty ((c ∷ cs) ∷ ss) = (c ∷ cs) ∷ non_empty ss

abbrev pub stretches : Bytes → List Bytes
stretches s = non_empty (pieces s)

-- Echo: a space between any two fields, and byte 10 at the end.
abbrev pub spaced : List Bytes → Bytes
spaced [] = []
spaced (f ∷ []) = f
spaced (f ∷ g ∷ fs) = f ++ 32 ∷ spaced (g ∷ fs)

abbrev pub echoed : List Bytes → Bytes
echoed fs = spaced fs ++ 10 ∷ []

-- Test: two fields, the first -n and the second not empty; or three, = between two that are the same. Nothing else passes.
abbrev pub passes : List Bytes → Bool
passes [] = false
passes (a ∷ []) = false
passes (a ∷ b ∷ []) = same a (45 ∷ 110 ∷ []) && is_non_empty b
passes (a ∷ b ∷ c ∷ []) = same b (61 ∷ []) && same a c
passes (a ∷ b ∷ c ∷ d ∷ more) = false

-- VARIABLES ---------------------------------------------------------------------------------------------------------

abbrev pub unset_variable : (name : Bytes) → Variable
unset_variable n = record { name = n; value = unset; exported = false }

abbrev pub variable_at : Slot → List Variable → Variable
variable_at x vs = get_or vs x (unset_variable [])

-- an unset variable reads as empty
abbrev pub bytes_of : Value → Bytes
bytes_of unset = []
bytes_of (bytes s) = s

abbrev pub read_variable : Slot → List Variable → Bytes
read_variable x vs = bytes_of (variable_at x vs).value

-- a new value, the export mark kept
abbrev pub assigned : Slot → Bytes → List Variable → List Variable
assigned x s vs = let v = variable_at x vs in set vs x (record { name = v.name; value = bytes s; exported = v.exported })

-- the export mark set, the value kept, unset too
abbrev pub marked : Slot → List Variable → List Variable
marked x vs = let v = variable_at x vs in set vs x (record { name = v.name; value = v.value; exported = true })

-- Env: a line NAME=value for each variable that is both set and exported, by slot.
abbrev pub env_line : (name : Bytes) → Value → (exported : Bool) → Bytes
env_line n unset e = []
env_line n (bytes s) false = []
env_line n (bytes s) true = n ++ 61 ∷ s ++ 10 ∷ []

abbrev pub env_lines : List Variable → Bytes
env_lines [] = []
env_lines (v ∷ vs) = env_line v.name v.value v.exported ++ env_lines vs

-- NAMES -------------------------------------------------------------------------------------------------------------

-- the utilities that do something of their own; every other name is Other
pub data Utility : Type 0 where
  True False Echo Test Cat Env Other : Utility

abbrev pub utilities : List (Bytes × Utility)
utilities =
    (116 ∷ 114 ∷ 117 ∷ 101 ∷ [], True)  -- true
    ∷ (102 ∷ 97 ∷ 108 ∷ 115 ∷ 101 ∷ [], False)  -- false
    ∷ (101 ∷ 99 ∷ 104 ∷ 111 ∷ [], Echo)  -- echo
    ∷ (116 ∷ 101 ∷ 115 ∷ 116 ∷ [], Test)  -- test
    ∷ (99 ∷ 97 ∷ 116 ∷ [], Cat)  -- cat
    ∷ (101 ∷ 110 ∷ 118 ∷ [], Env)  -- env
    ∷ []

abbrev pub utility_in : List (Bytes × Utility) → (name : Bytes) → Utility
utility_in [] name = Other
utility_in (u ∷ us) name = cond (same name u.0) u.1 (utility_in us name)

abbrev pub utility_of : (name : Bytes) → Utility
utility_of name = utility_in utilities name

pub data Callee : Type 0 where
  unknown : Callee
  known : (f : ℕ) → Function → Callee

-- the function of a name, with its number; the first of the list has number f
abbrev pub find : (name : Bytes) → (f : ℕ) → List Function → Callee
find name f [] = unknown
find name f (g ∷ gs) = cond (same name g.name) (known f g) (find name (suc f) gs)
