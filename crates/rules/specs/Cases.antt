-- The class exercises that are proved of the rules as one table, under one claim: `Claim`, at the end. The scripts are in exercises/.
use Rattle.std.specs.Prelude.{◌≡◌, Bool, true, false, List, [], ◌∷◌, map, ℕ}
use Rattle.rules.specs.declared.Behaviour.{Behaviour}
use Rattle.rules.specs.declared.Behaviour.TheVariants.{Normal, Exit, Failure}
use Rattle.rules.specs.Syntax.{Bytes, success, Function, Program}
use Rattle.rules.specs.Syntax.{text, argument, embedded}
use Rattle.rules.specs.Syntax.{empty, field}
use Rattle.rules.specs.Syntax.{Ins, assign, sequence, not, if, utility, call, while, exit, shift}
use Rattle.rules.specs.State.{limits_of}
use Rattle.rules.specs.Ruling.{Ruling, refusal, sheet, Shown, Row, ruling}

pub record Case : Type 0 where
  pub program : Program
  pub arguments : List Bytes  -- from argument 1; argument 0 is x
  pub stdin : Bytes
  pub loop : ℕ
  pub stack : ℕ
  pub budget : ℕ
  pub expected : Ruling

-- the ruling
unfoldable pub got : Case → Ruling
got c = ruling (limits_of c.loop c.stack c.budget) c.program (120 ∷ []) c.arguments c.stdin

-- WORDS

abbrev pub the_f : Bytes
the_f = 102 ∷ []  -- f

abbrev pub the_a : Bytes
the_a = 97 ∷ []  -- a

abbrev pub the_b : Bytes
the_b = 98 ∷ []  -- b

abbrev pub the_x : Bytes
the_x = 120 ∷ []  -- x

abbrev pub the_foo : Bytes
the_foo = 102 ∷ 111 ∷ 111 ∷ []  -- foo

abbrev pub the_true : Bytes
the_true = 116 ∷ 114 ∷ 117 ∷ 101 ∷ []  -- true

abbrev pub the_false : Bytes
the_false = 102 ∷ 97 ∷ 108 ∷ 115 ∷ 101 ∷ []  -- false

abbrev pub the_echo : Bytes
the_echo = 101 ∷ 99 ∷ 104 ∷ 111 ∷ []  -- echo

abbrev pub the_test : Bytes
the_test = 116 ∷ 101 ∷ 115 ∷ 116 ∷ []  -- test

abbrev pub the_here : Bytes
the_here = 104 ∷ 101 ∷ 114 ∷ 101 ∷ []  -- here

abbrev pub the_yes : Bytes
the_yes = 121 ∷ 101 ∷ 115 ∷ []  -- yes

abbrev pub the_no : Bytes
the_no = 110 ∷ 111 ∷ []  -- no

abbrev pub the_minus_n : Bytes
the_minus_n = 45 ∷ 110 ∷ []  -- -n

-- EXERCISE A, its records numbered as in exercises/a.listing

abbrev pub body_a : Ins
body_a = if 15
    (utility 11 the_test (field 10 (text 3 the_minus_n) (field 9 (argument 6 1) (empty 8))))
    (call 13 the_f (field 12 (argument 7 2) (empty 8)))
    (utility 14 the_true (empty 8))

abbrev pub exercise_a : Program
exercise_a = record {
  functions = (record { name = the_f; body = body_a }) ∷ [];
  main = call 19 the_f (field 18 (text 1 the_a) (field 17 (text 2 the_b) (empty 8)));
  slots = [];
}

-- FOO: false, and after it an echo of here. Records: texts foo, false, echo, here, yes, no (0 to 5); empty list (6); utility 1 6;
-- field 3 6; utility 2 8; sequence 7 9; function 0 10; call 0 6; field 4 6; utility 2 13; field 5 6; utility 2 15; if 12 14 16; main.

abbrev pub foo : Function
foo = record {
  name = the_foo;
  body = sequence 10 (utility 7 the_false (empty 6)) (utility 9 the_echo (field 8 (text 3 the_here) (empty 6)));
}

abbrev pub if_foo : Program
if_foo = record {
  functions = foo ∷ [];
  main = if 17
      (call 12 the_foo (empty 6))
      (utility 14 the_echo (field 13 (text 4 the_yes) (empty 6)))
      (utility 16 the_echo (field 15 (text 5 the_no) (empty 6)));
  slots = [];
}

abbrev pub bare_foo : Program
bare_foo = record { functions = foo ∷ []; main = call 12 the_foo (empty 6); slots = [] }

-- PROGRAMS OF ONE INSTRUCTION

abbrev pub only : Ins → Program
only i = record { functions = []; main = i; slots = [] }

abbrev pub not_exit : Program
not_exit = only (not 1 (exit 0 success))

-- texts true, empty list, utility 0 1, while 2 2
abbrev pub while_true_true : Program
while_true_true = only (while 3 (utility 2 the_true (empty 1)) (utility 2 the_true (empty 1)))

abbrev pub while_false : Program
while_false = only (while 3 (utility 2 the_false (empty 1)) (utility 2 the_false (empty 1)))

abbrev pub shift1 : Program
shift1 = only (shift 0 1)

-- texts x, false, empty list, utility 1 2, embedded 3, assign 0 4
abbrev pub set_from_false : Program
set_from_false = record {
  functions = [];
  main = assign 5 0 (embedded 4 (utility 3 the_false (empty 2)));
  slots = the_x ∷ [];
}

-- EXPECTED

abbrev pub row : (f entered own inclusive : ℕ) → Row
row f e o i = record { function = f; entered = e; own = o; inclusive = i }

abbrev pub end : Behaviour → (result : Bool) → (steps : ℕ) → (output : Bytes) → List Shown → List Row → Ruling
end b r n o v p = sheet (record { behaviour = b; result = r; steps = n; output = o; variables = v; profile = p })

abbrev pub case : Program → (loop stack budget : ℕ) → Ruling → Case
case p l s b e = record { program = p; arguments = []; stdin = []; loop = l; stack = s; budget = b; expected = e }

-- THE TABLE

abbrev pub cases : List Case
cases =
    case exercise_a 0 3 37 (end Normal true 37 [] [] (row 0 1 6 37 ∷ row 1 3 31 31 ∷ []))
    ∷ case exercise_a 0 3 36 (refusal 6 8)
    ∷ case exercise_a 0 2 37 (end Failure true 28 [] [] (row 0 1 6 28 ∷ row 1 2 22 22 ∷ []))
    -- here, yes
    ∷ case if_foo 0 1 100 (end Normal true 14 (104 ∷ 101 ∷ 114 ∷ 101 ∷ 10 ∷ 121 ∷ 101 ∷ 115 ∷ 10 ∷ []) [] (row 0 1 7 14 ∷ row 1 1 7 7 ∷ []))
    ∷ case bare_foo 0 1 100 (end Exit false 5 [] [] (row 0 1 2 5 ∷ row 1 1 3 3 ∷ []))
    ∷ case not_exit 0 0 100 (end Exit true 2 [] [] (row 0 1 2 2 ∷ []))
    -- a step for the while, two for each of four tests and of three bodies
    ∷ case while_true_true 3 0 100 (end Failure true 15 [] [] (row 0 1 15 15 ∷ []))
    ∷ case while_false 0 0 100 (end Normal true 3 [] [] (row 0 1 3 3 ∷ []))
    ∷ case shift1 0 0 100 (end Exit false 1 [] [] (row 0 1 1 1 ∷ []))
    -- x is empty but set
    ∷ case set_from_false 0 0 100 (end Exit false 4 [] ((record { exported = false; name = the_x; value = [] }) ∷ []) (row 0 1 4 4 ∷ []))
    ∷ []

-- every row's run of the rules is the row's expected ruling
abbrev pub expected : Case → Ruling
expected c = c.expected

abbrev pub Claim : Type 0
Claim = map got cases ≡ map expected cases
