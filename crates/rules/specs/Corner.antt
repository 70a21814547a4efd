-- What a corner is: a small program, where it runs, and as much of its ruling as it is about; and the blocks that the corners are built from.
-- A record's number is told only as the place of a refusal. Where no place is at stake it is 0.
use Rattle.std.specs.Prelude.{Bool, true, false, List, [], ◌∷◌, ◌++◌, ℕ, zero, suc, ◌+◌, replicate}
use Prim.Native.String.{String}
use Rattle.rules.specs.Ascii.{ascii}
use Rattle.rules.specs.Syntax.{Bytes, Slot, Function}
use Rattle.rules.specs.Syntax.{Str, text, variable}
use Rattle.rules.specs.Syntax.{Lst, empty, field}
use Rattle.rules.specs.Syntax.{Ins, assign, export, sequence, subshell, not, while, utility, call}
use Rattle.rules.specs.declared.Behaviour.{Behaviour}
use Rattle.rules.specs.State.{limits_of}
use Rattle.rules.specs.Ruling.{Ruling, refusal, sheet, Sheet, Shown, Row, ruling}
use Rattle.rules.specs.Cases.{row}

-- ANSWERS -----------------------------------------------------------------------------------------------------------

-- what a corner tells of a ruling: a refusal; behaviour, result and output; or the whole sheet
pub data Summary : Type 0 where
  refuses : (number place : ℕ) → Summary
  ends : Behaviour → (result : Bool) → (output : Bytes) → Summary
  whole : Sheet → Summary

-- as much of a ruling as `like` tells of one
abbrev pub told : (like : Summary) → Ruling → Summary
told (refuses n p) (refusal number place) = refuses number place
told (refuses n p) (sheet s) = whole s
told (ends b r o) (refusal number place) = refuses number place
told (ends b r o) (sheet s) = ends s.behaviour s.result s.output
told (whole t) (refusal number place) = refuses number place
told (whole t) (sheet s) = whole s

-- a set variable, without the export mark and with it
abbrev pub holds : (name value : String) → Shown
holds n v = record { exported = false; name = ascii n; value = ascii v }

abbrev pub exports : (name value : String) → Shown
exports n v = record { exported = true; name = ascii n; value = ascii v }

-- a whole sheet
abbrev pub ends_with : Behaviour → (result : Bool) → (steps : ℕ) → (output : Bytes) → List Shown → List Row → Summary
ends_with b r n o v p = whole (record { behaviour = b; result = r; steps = n; output = o; variables = v; profile = p })

-- a whole sheet of a run that enters no function, beside f
abbrev pub ends_after : (steps : ℕ) → Behaviour → (result : Bool) → (output : Bytes) → List Shown → Summary
ends_after n b r o v = ends_with b r n o v (row 0 1 n n ∷ row 1 0 0 0 ∷ [])

-- BLOCKS ------------------------------------------------------------------------------------------------------------

-- n bytes; n newlines
abbrev pub a's : ℕ → Bytes
a's n = replicate n 97

abbrev pub newlines : ℕ → Bytes
newlines n = replicate n 10

-- the variables of every corner: x and y, and from slot 2 on nine of long names
abbrev pub x : Slot
x = 0

abbrev pub y : Slot
y = 1

abbrev pub slots : List Bytes
slots = ascii "x" ∷ ascii "y" ∷ a's 55 ∷ a's 56 ∷ a's 57 ∷ a's 58 ∷ a's 59 ∷ a's 60 ∷ a's 61 ∷ a's 62 ∷ a's 63 ∷ []

-- strings: a text; the value of x; a text of n bytes
abbrev pub word : String → Str
word s = text 0 (ascii s)

abbrev pub in_x : Str
in_x = variable 0 x

abbrev pub long : ℕ → Str
long n = text 0 (a's n)

-- lists: of one, two, three fields; n times the same field in front of a list
abbrev pub nil : Lst
nil = empty 0

abbrev pub one : Str → Lst
one s = field 0 s nil

abbrev pub two : (s t : Str) → Lst
two s t = field 0 s (one t)

abbrev pub three : (s t u : Str) → Lst
three s t u = field 0 s (two t u)

abbrev pub fields : ℕ → Str → Lst → Lst
fields zero s l = l
fields (suc n) s l = field 0 s (fields n s l)

-- instructions: one after the other; x set; a utility of a name; echo of one string or text; cat and env, true and false without fields
infixr 50 ◌▸◌
abbrev pub ◌▸◌ : Ins → Ins → Ins
i ▸ j = sequence 0 i j

abbrev pub put : String → Ins
put s = assign 0 x (word s)

abbrev pub util : String → Lst → Ins
util name l = utility 0 (ascii name) l

abbrev pub say : Str → Ins
say s = util "echo" (one s)

abbrev pub print : String → Ins
print s = say (word s)

abbrev pub cat : Ins
cat = util "cat" nil

abbrev pub env : Ins
env = util "env" nil

abbrev pub true! : Ins
true! = util "true" nil

abbrev pub false! : Ins
false! = util "false" nil

-- ends Normal with a false result
abbrev pub falsely : Ins
falsely = not 0 true!

-- writes under a condition only
abbrev pub if_soft : Ins
if_soft = false! ▸ print "soft"

-- calls: of f with a list and without, of no function
abbrev pub call_with : Lst → Ins
call_with l = call 0 (ascii "f") l

abbrev pub call_f : Ins
call_f = call_with nil

abbrev pub call_unknown : Ins
call_unknown = call 0 (ascii "nosuch") nil

-- Failure: a call of f where the stack limit is 0, which changes nothing; a while where the loop limit is 0, which leaves the result true
abbrev pub stuck : Ins
stuck = call_f

abbrev pub endless : Ins
endless = while 0 true! true!

-- 1,024 bytes of output, and how they read
abbrev pub full : Ins
full = util "echo" (fields 16 (long 63) nil)

abbrev pub full_line : ℕ → Bytes
full_line zero = ascii "\n"
full_line (suc zero) = a's 63 ++ ascii "\n"
full_line (suc (suc n)) = a's 63 ++ ascii " " ++ full_line (suc n)

-- 64 bytes of output and a newline
abbrev pub sixty_four : Ins
sixty_four = util "echo" (two (long 62) (word "a"))

-- one byte of output, a newline; the same by record 7
abbrev pub newline! : Ins
newline! = util "echo" nil

abbrev pub newline7 : Ins
newline7 = utility 7 (ascii "echo") nil

-- n of the variables of long names set to 63 bytes and exported, then an instruction
abbrev pub filled : ℕ → Ins → Ins
filled zero i = i
filled (suc n) i = assign 0 (2 + n) (long 63) ▸ export 0 (2 + n) ▸ filled n i

-- n holds around an instruction
abbrev pub holding : ℕ → Ins → Ins
holding zero i = i
holding (suc n) i = subshell 0 (holding n i)

-- WHERE IT RUNS -----------------------------------------------------------------------------------------------------

pub record Setting : Type 0 where
  pub functions : List Function
  pub loop : ℕ
  pub stack : ℕ
  pub budget : ℕ
  pub arguments : List Bytes  -- from argument 1
  pub stdin : Bytes

abbrev pub function : (name : String) → (body : Ins) → Function
function name i = record { name = ascii name; body = i }

-- f is known and cannot be called; no while may run its body
abbrev pub here : Setting
here = record { functions = function "f" true! ∷ []; loop = 0; stack = 0; budget = 1000; arguments = []; stdin = [] }

-- with these functions and this stack limit; with f alone; with f and g
abbrev pub defining : (stack : ℕ) → List Function → Setting → Setting
defining n functions s = record {
  functions = functions;
  loop = s.loop;
  stack = n;
  budget = s.budget;
  arguments = s.arguments;
  stdin = s.stdin;
}

abbrev pub calling : (stack : ℕ) → (f : Ins) → Setting → Setting
calling n f s = defining n (function "f" f ∷ []) s

abbrev pub calling_both : (stack : ℕ) → (f g : Ins) → Setting
calling_both n f g = defining n (function "f" f ∷ function "g" g ∷ []) here

-- another loop limit; another budget
abbrev pub looping : (loop : ℕ) → Setting → Setting
looping n s = record {
  functions = s.functions;
  loop = n;
  stack = s.stack;
  budget = s.budget;
  arguments = s.arguments;
  stdin = s.stdin;
}

abbrev pub up_to : (budget : ℕ) → Setting → Setting
up_to n s = record {
  functions = s.functions;
  loop = s.loop;
  stack = s.stack;
  budget = n;
  arguments = s.arguments;
  stdin = s.stdin;
}

-- with arguments; with the arguments 1 and 2; with standard input, as bytes and as a text
abbrev pub given : List Bytes → Setting → Setting
given more s = record {
  functions = s.functions;
  loop = s.loop;
  stack = s.stack;
  budget = s.budget;
  arguments = more;
  stdin = s.stdin;
}

abbrev pub one_two : Setting
one_two = given (ascii "1" ∷ ascii "2" ∷ []) here

abbrev pub receiving : Bytes → Setting → Setting
receiving bytes s = record {
  functions = s.functions;
  loop = s.loop;
  stack = s.stack;
  budget = s.budget;
  arguments = s.arguments;
  stdin = bytes;
}

abbrev pub reading : String → Setting → Setting
reading bytes s = receiving (ascii bytes) s

-- CORNERS -----------------------------------------------------------------------------------------------------------

pub record Corner : Type 0 where
  pub setting : Setting
  pub main : Ins
  pub tells : Summary

abbrev pub corner : Setting → (main : Ins) → Summary → Corner
corner s i t = record { setting = s; main = i; tells = t }

abbrev pub expected : Corner → Summary
expected c = c.tells

-- the ruling: argument 0 is name
unfoldable pub found : Corner → Summary
found c = told c.tells (ruling
    (limits_of c.setting.loop c.setting.stack c.setting.budget)
    (record { functions = c.setting.functions; main = c.main; slots = slots })
    (ascii "name")
    c.setting.arguments
    c.setting.stdin)
