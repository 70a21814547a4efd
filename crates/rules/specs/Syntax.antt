-- The language: what a sheet stands for once it is read. docs/LANGUAGE.md tells what it means, docs/FORMATS.md how a sheet is written.
-- Every node carries `at`, the number of its record. A shared record stands here once for each use.
use Rattle.std.specs.Prelude.{List, ℕ}

-- a text, a name, a value, a stream
abbrev pub Bytes : Type 0
Bytes = List ℕ

-- a variable is known by its slot
abbrev pub Slot : Type 0
Slot = ℕ

-- the codes of exit and return (kinds 28, 29)
pub data Code : Type 0 where
  success failure previous : Code

mutual
  -- strings, kinds 1 to 5
  pub data Str : Type 0 where
    text : (at : ℕ) → Bytes → Str
    variable : (at : ℕ) → Slot → Str
    argument : (at : ℕ) → (number : ℕ) → Str
    embedded : (at : ℕ) → Ins → Str
    join : (at : ℕ) → (left right : Str) → Str

  -- lists, kinds 6 to 8
  pub data Lst : Type 0 where
    empty : (at : ℕ) → Lst
    field : (at : ℕ) → Str → (rest : Lst) → Lst
    split : (at : ℕ) → Str → (rest : Lst) → Lst

  -- instructions, kinds 16 to 30
  pub data Ins : Type 0 where
    assign : (at : ℕ) → Slot → Str → Ins
    export : (at : ℕ) → Slot → Ins
    sequence : (at : ℕ) → (first second : Ins) → Ins
    subshell : (at : ℕ) → Ins → Ins
    not : (at : ℕ) → Ins → Ins
    if : (at : ℕ) → (test then else : Ins) → Ins
    nooutput : (at : ℕ) → Ins → Ins
    pipe : (at : ℕ) → (first second : Ins) → Ins
    utility : (at : ℕ) → (name : Bytes) → Lst → Ins
    call : (at : ℕ) → (name : Bytes) → Lst → Ins
    for : (at : ℕ) → Slot → Lst → (body : Ins) → Ins
    while : (at : ℕ) → (test body : Ins) → Ins
    exit : (at : ℕ) → Code → Ins
    return : (at : ℕ) → Code → Ins
    shift : (at : ℕ) → (number : ℕ) → Ins

-- the record that a node stands for
abbrev pub str_place : Str → ℕ
str_place (text at s) = at
str_place (variable at x) = at
str_place (argument at n) = at
str_place (embedded at i) = at
str_place (join at s t) = at

abbrev pub lst_place : Lst → ℕ
lst_place (empty at) = at
lst_place (field at s l) = at
lst_place (split at s l) = at

abbrev pub ins_place : Ins → ℕ
ins_place (assign at x s) = at
ins_place (export at x) = at
ins_place (sequence at i j) = at
ins_place (subshell at i) = at
ins_place (not at i) = at
ins_place (if at i j k) = at
ins_place (nooutput at i) = at
ins_place (pipe at i j) = at
ins_place (utility at name l) = at
ins_place (call at name l) = at
ins_place (for at x l i) = at
ins_place (while at i j) = at
ins_place (exit at c) = at
ins_place (return at c) = at
ins_place (shift at n) = at

-- kind 32
pub record Function : Type 0 where
  pub name : Bytes
  pub body : Ins

-- The functions stand in record order and are numbered from 1; main is function 0.
pub record Program : Type 0 where
  pub functions : List Function
  pub main : Ins
  pub slots : List Bytes  -- the variables' names, by slot
