-- Every refusal is given: a table of small inputs, each with its number and place by docs/FORMATS.md, under one claim:
-- `EveryRefusalGiven`, at the end. But for what a row is about its inputs are right; the last rows are about the order.
use Rattle.std.specs.Prelude.{◌≡◌, List, [], ◌∷◌, ◌++◌, map, ℕ, zero, suc, ◌+◌, ◌*◌, ◌/◌, ◌%◌, replicate}
use Rattle.rules.specs.Ascii.{ascii}
use Rattle.rules.specs.Syntax.{Bytes}
use Rattle.sheet.specs.Cases.{rec, txt}
use Rattle.sheet.specs.Order.{Inputs, not_lent, lent}
use Rattle.runner.specs.Verdict.{refused, verdict}

pub record RefusalRow : Type 0 where
  pub inputs : Inputs
  pub number : ℕ
  pub place : ℕ

-- INPUTS ------------------------------------------------------------------------------------------------------------

abbrev pub asked : (result_size work_size loop stack budget : ℕ) → (sheet arguments input : Bytes) → Inputs
asked r w l k b s a i = record { sheet = s; arguments = a; input = i; loop = l; stack = k; budget = b; result_size = r; work_size = w; file = not_lent }

-- with file memory of so many bytes
abbrev pub lending : (size : ℕ) → Inputs → Inputs
lending n i = record {
  sheet = i.sheet;
  arguments = i.arguments;
  input = i.input;
  loop = i.loop;
  stack = i.stack;
  budget = i.budget;
  result_size = i.result_size;
  work_size = i.work_size;
  file = lent n;
}

-- memories of the least size; limits that no run below comes to
abbrev pub right : (sheet arguments input : Bytes) → Inputs
right = asked 4096 65536 0 10 100

-- the argument sheet: argument 0 is x, and there is no other; n empty texts
abbrev pub x : Bytes
x = txt (ascii "x")

abbrev pub texts : ℕ → Bytes
texts zero = []
texts (suc n) = txt [] ++ texts n

-- SHEETS

-- an instruction, shift 0; with it as main a run ends after a step
abbrev pub shift0 : Bytes
shift0 = rec 30 (0 ∷ [])

abbrev pub small : Bytes
small = shift0 ++ rec 33 (0 ∷ [])

-- more than a sheet may have
abbrev pub too_long : Bytes
too_long = replicate 8193 0

-- a name of two bytes for each number below 100
abbrev pub named : ℕ → Bytes
named i = (97 + i / 10) ∷ (48 + i % 10) ∷ []

-- n variables: records 2i and 2i + 1 are a name and the variable of that name, for i from `first` on
abbrev pub variables : (n first : ℕ) → Bytes
variables zero i = []
variables (suc n) i = txt (named i) ++ rec 2 ((2 * i) ∷ []) ++ variables n (suc i)

-- n functions after record 0, their body: records 2i + 1 and 2i + 2
abbrev pub functions : (n first : ℕ) → Bytes
functions zero i = []
functions (suc n) i = txt (named i) ++ rec 32 ((1 + 2 * i) ∷ 0 ∷ []) ++ functions n (suc i)

-- not not shift 0: record 2 begins, then 1, then 0
abbrev pub nots : Bytes
nots = shift0 ++ rec 20 (0 ∷ []) ++ rec 20 (1 ∷ []) ++ rec 33 (2 ∷ [])

-- the variable of a name of 32 bytes is set to its name twice over: record 1 joins 64 bytes
abbrev pub long_join : Bytes
long_join = txt (replicate 32 97) ++ rec 5 (0 ∷ 0 ∷ []) ++ rec 16 (0 ∷ 1 ∷ []) ++ rec 33 (2 ∷ [])

-- the variable of a name of 59 bytes is set from an embedded echo of that name and the word echo: record 6 has 64 bytes and a newline
abbrev pub long_embedded : Bytes
long_embedded =
    txt (replicate 59 97) ++ txt (ascii "echo") ++ rec 6 [] ++ rec 7 (1 ∷ 2 ∷ []) ++ rec 7 (0 ∷ 3 ∷ []) ++ rec 24 (1 ∷ 4 ∷ [])
    ++ rec 4 (5 ∷ []) ++ rec 16 (0 ∷ 6 ∷ []) ++ rec 33 (7 ∷ [])

-- n fields of text 0, each in front of the record before, the first of which is `rest`
abbrev pub fields : (n rest : ℕ) → Bytes
fields zero r = []
fields (suc n) r = rec 7 (0 ∷ r ∷ []) ++ fields n (suc r)

-- a utility with 17 fields, from left to right the records 18 to 2
abbrev pub many_fields : Bytes
many_fields = txt (ascii "a") ++ rec 6 [] ++ fields 17 1 ++ rec 24 (0 ∷ 18 ∷ []) ++ rec 33 (19 ∷ [])

-- a utility with one split, record 3, into 17 stretches
abbrev pub many_stretches : Bytes
many_stretches =
    txt (ascii "a") ++ txt (ascii "a b c d e f g h i j k l m n o p q") ++ rec 6 [] ++ rec 8 (1 ∷ 2 ∷ []) ++ rec 24 (0 ∷ 3 ∷ [])
    ++ rec 33 (4 ∷ [])

-- cat, then echo without fields, record 4, which writes a byte; as a program, and embedded
abbrev pub cat_then_echo : Bytes
cat_then_echo = rec 6 [] ++ txt (ascii "cat") ++ rec 24 (1 ∷ 0 ∷ []) ++ txt (ascii "echo") ++ rec 24 (3 ∷ 0 ∷ []) ++ rec 18 (2 ∷ 4 ∷ [])

abbrev pub cat_echo : Bytes
cat_echo = cat_then_echo ++ rec 33 (5 ∷ [])

abbrev pub cat_echo_embedded : Bytes
cat_echo_embedded = cat_then_echo ++ rec 4 (5 ∷ []) ++ rec 16 (1 ∷ 6 ∷ []) ++ rec 33 (7 ∷ [])

-- a subshell around f, which calls itself at record 2: the subshell and nine calls are ten holds
abbrev pub deep : Bytes
deep = txt (ascii "f") ++ rec 6 [] ++ rec 25 (0 ∷ 1 ∷ []) ++ rec 32 (0 ∷ 2 ∷ []) ++ rec 19 (2 ∷ []) ++ rec 33 (4 ∷ [])

-- THE TABLE ---------------------------------------------------------------------------------------------------------

abbrev pub row : Inputs → (number place : ℕ) → RefusalRow
row i n p = record { inputs = i; number = n; place = p }

abbrev pub refusals : List RefusalRow
refusals =
    -- 1: memories
    row (asked 4095 65536 0 0 1 small x []) 1 0
    ∷ row (asked 4096 65535 0 0 1 small x []) 1 0
    ∷ row (asked 4096 65537 0 0 1 small x []) 1 0
    -- 14: file memory
    ∷ row (lending 65535 (right small x [])) 14 0
    -- 2: limits and input
    ∷ row (asked 4096 65536 65536 0 1 small x []) 2 0
    ∷ row (asked 4096 65536 0 11 1 small x []) 2 0
    ∷ row (asked 4096 65536 0 0 0 small x []) 2 0
    ∷ row (asked 4096 65536 0 0 1000001 small x []) 2 0
    ∷ row (right small x (replicate 1025 0)) 2 0
    -- 3: by bytes; the 17th variable; the 33rd function
    ∷ row (right too_long x []) 3 0
    ∷ row (right (variables 17 0) x []) 3 33
    ∷ row (right (shift0 ++ functions 33 0) x []) 3 66
    -- 4: a head or a payload that is not whole, a payload too long, no such kind, itself or another sort referred to, no name, no code
    ∷ row (right (shift0 ++ 0 ∷ 0 ∷ 6 ∷ []) x []) 4 1
    ∷ row (right (shift0 ++ 1 ∷ 0 ∷ 1 ∷ 0 ∷ []) x []) 4 1
    ∷ row (right (shift0 ++ rec 6 (0 ∷ [])) x []) 4 1
    ∷ row (right (shift0 ++ rec 9 []) x []) 4 1
    ∷ row (right (shift0 ++ rec 20 (1 ∷ [])) x []) 4 1
    ∷ row (right (shift0 ++ rec 4 (0 ∷ []) ++ rec 20 (1 ∷ [])) x []) 4 2
    ∷ row (right (txt (ascii "1") ++ rec 17 (0 ∷ [])) x []) 4 1
    ∷ row (right (shift0 ++ rec 28 (3 ∷ [])) x []) 4 1
    -- 4: two functions of one name, a byte behind main, main missing
    ∷ row (right (shift0 ++ txt (ascii "f") ++ rec 32 (1 ∷ 0 ∷ []) ++ rec 32 (1 ∷ 0 ∷ [])) x []) 4 3
    ∷ row (right (small ++ 0 ∷ []) x []) 4 2
    ∷ row (right (shift0 ++ shift0) x []) 4 2
    -- 5: no argument 0, an 18th record, a record of another kind, a text of 64 bytes, one cut short
    ∷ row (right small [] []) 5 0
    ∷ row (right small (texts 18) []) 5 0
    ∷ row (right small (x ++ rec 6 []) []) 5 0
    ∷ row (right small (txt (replicate 64 97)) []) 5 0
    ∷ row (right small (x ++ 1 ∷ 0 ∷ 1 ∷ 0 ∷ []) []) 5 0
    -- 6 to 10, which a run meets
    ∷ row (asked 4096 65536 0 0 1 nots x []) 6 1
    ∷ row (right long_join x []) 7 1
    ∷ row (right long_embedded x []) 7 6
    ∷ row (right many_fields x []) 8 2
    ∷ row (right many_stretches x []) 8 3
    ∷ row (right cat_echo x (replicate 1024 0)) 9 4
    ∷ row (right cat_echo_embedded x (replicate 1024 10)) 9 4  -- though all of it is newlines, which are no part of the value
    ∷ row (right deep x []) 10 2
    -- the order: everything is wrong, and then from row to row one thing fewer
    ∷ row (asked 0 0 65536 11 0 too_long [] (replicate 1025 0)) 1 0
    ∷ row (lending 0 (asked 4095 65536 65536 11 0 too_long [] (replicate 1025 0))) 1 0
    ∷ row (lending 0 (asked 4096 65536 65536 11 0 too_long [] (replicate 1025 0))) 14 0
    ∷ row (lending 65536 (asked 4096 65536 65536 11 0 too_long [] (replicate 1025 0))) 2 0
    ∷ row (asked 4096 65536 65536 11 0 too_long [] (replicate 1025 0)) 2 0
    ∷ row (right too_long [] []) 3 0
    ∷ row (right (shift0 ++ functions 32 0 ++ rec 32 (1 ∷ 0 ∷ [])) [] []) 4 65  -- a 33rd function, and the second of its name
    ∷ row (asked 4096 65536 0 0 1 nots [] []) 5 0
    ∷ []

-- Each row's inputs are refused by its number at its place.
abbrev pub EveryRefusalGiven : Type 0
EveryRefusalGiven = map (λ r. verdict r.inputs) refusals ≡ map (λ r. refused r.number r.place) refusals
