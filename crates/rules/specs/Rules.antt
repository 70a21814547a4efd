-- THE RULES: one for each kind of record, over what the record's parts mean. The word before the colon in the comment in front of a rule
-- is the rule's heading in docs/LANGUAGE.md, where it stands in prose, with an example.
-- Each record begins with a step, which is no part of its rule: specs/Evaluation.antt puts it in front, and puts the rules together over
-- the syntax. A rule that can refuse takes the limits and its record `at`; the refusals are in specs/Refusals.antt.
use Rattle.std.specs.Prelude.{Bool, true, false, cond, not as negation, List, [], ◌∷◌, ◌++◌, ℕ, zero, suc, leb, length, get_or, drop}
use Rattle.rules.specs.declared.Behaviour.{Behaviour}
use Rattle.rules.specs.declared.Behaviour.TheVariants.{Normal, Return, Exit, Failure}
use Rattle.rules.specs.Syntax.{Bytes, Slot, Code, success, failure, previous, Function}
use Rattle.rules.specs.State.{Limits, kept, dropped, Inherited, error, value}
use Rattle.rules.specs.State.{Run, ◌>>=◌, ◌>>◌, give, look, change, choose, as_call}
use Rattle.rules.specs.State.{context, set_context, input, set_input, output, set_output, written}
use Rattle.rules.specs.State.{variables, set_variables, arguments, set_arguments, result, set_result}
use Rattle.rules.specs.Words.{embedded_value, stretches, echoed, passes, read_variable, assigned, marked, env_lines}
use Rattle.rules.specs.Words.{Utility, True, False, Echo, Test, Cat, Env, Other, Callee, unknown, known}
use Rattle.rules.specs.Flow.{if_normal, unless_failure, unless_error, returned}
use Rattle.rules.specs.Refusals.{Meaning, StrMeaning, LstMeaning, under_condition, named, made_string, add_fields, write, hold}

-- SETTLE ------------------------------------------------------------------------------------------------------------

-- Settle: only a false result outside every condition makes an Exit.
abbrev pub settle : Inherited → (result : Bool) → Behaviour
settle h true = Normal
settle h false = cond h.condition Normal Exit

-- Being under a condition is inherited: it is part of `h`, which a rule hands to its parts as it is, or as `under_condition h`.

-- a result, then Settle
unfoldable pub finish : Inherited → (result : Bool) → Run Behaviour
finish h r = do
  change (set_result r)
  give (settle h r)

-- a result, then Settle, unless the behaviour is Failure, which stays
unfoldable pub finish_unless_failure : Inherited → Behaviour → (result : Bool) → Run Behaviour
finish_unless_failure h Normal r = finish h r
finish_unless_failure h Return r = finish h r
finish_unless_failure h Exit r = finish h r
finish_unless_failure h Failure r = do
  change (set_result r)
  give Failure

-- a result, then Normal
unfoldable pub end_with : (result : Bool) → Run Behaviour
end_with r = do
  change (set_result r)
  give Normal

-- STRINGS -----------------------------------------------------------------------------------------------------------

-- Every string is given a flag and hands one on; who evaluates an expression starts it with true.

-- Text: its bytes, the flag kept.
unfoldable pub text_rule : Bytes → StrMeaning
text_rule s flag h = give (value (s, flag))

-- Variable: its value, empty if unset; the flag kept.
unfoldable pub variable_rule : Slot → StrMeaning
variable_rule x flag h = do
  vs ← look variables
  give (value (read_variable x vs, flag))

-- Argument: number 0 is inherited, the others are in the context, and beyond the last it is empty; the flag kept.
unfoldable pub argument_rule : (number : ℕ) → StrMeaning
argument_rule n flag h = do
  later ← look arguments
  give (value (get_or (h.argument0 ∷ later) n [], flag))

-- Join: the left string, then the right one with the flag that the left one handed on. An error of either stops it at once.
unfoldable pub join_rule : Limits → (at : ℕ) → (left right : StrMeaning) → StrMeaning
join_rule limits at left right flag h = do
  v ← left flag h
  unless_error v error λ (s, flag₁). do
    w ← right flag₁ h
    unless_error w error λ (t, flag₂). made_string limits at (s ++ t) flag₂

-- Embedded: a hold; what the instruction writes, to a stream of its own, is the value, without the newlines at its end, and the flag is the
-- result it ended with. The context and the stream outside are as before, the input is as the instruction left it. Failure is an error,
-- whatever the length of the value.
unfoldable pub embedded_rule : Limits → (at : ℕ) → (body : Meaning) → StrMeaning
embedded_rule limits at body flag h = do
  inner ← hold limits at h
  before ← look context
  stream ← look output
  change (set_output (kept []))
  b ← body inner
  new ← look written
  r ← look result
  change (set_context before)
  change (set_output stream)
  unless_failure b error (made_string limits at (embedded_value new) r)

-- LISTS -------------------------------------------------------------------------------------------------------------

-- Lists are evaluated from the left: each record takes the fields so far and hands them on.

-- Empty: the end of a list; the fields so far are all there are.
unfoldable pub empty_rule : LstMeaning
empty_rule so_far h = give (value so_far)

-- Field: one string more, then the rest.
unfoldable pub field_rule : Limits → (at : ℕ) → StrMeaning → (rest : LstMeaning) → LstMeaning
field_rule limits at string rest so_far h = do
  v ← string true h
  unless_error v error λ (new, flag). do
    fields ← add_fields limits at so_far (new ∷ [])
    rest fields h

-- Split: the non-empty stretches of the string more, then the rest.
unfoldable pub split_rule : Limits → (at : ℕ) → StrMeaning → (rest : LstMeaning) → LstMeaning
split_rule limits at string rest so_far h = do
  v ← string true h
  unless_error v error λ (new, flag). do
    fields ← add_fields limits at so_far (stretches new)
    rest fields h

-- INSTRUCTIONS ------------------------------------------------------------------------------------------------------
-- Errors: an assign, utility, call or for whose expression is an error ends in Failure and leaves the context as it is.

-- Assign: the variable gets the value and keeps its export mark; the flag is the result, then Settle.
unfoldable pub assign_rule : Slot → StrMeaning → Meaning
assign_rule x string h = do
  v ← string true h
  unless_error v Failure λ (new, flag). do
    vs ← look variables
    change (set_variables (assigned x new vs))
    finish h flag

-- Export: the mark is set, on an unset variable too; true, and Normal.
unfoldable pub export_rule : Slot → Meaning
export_rule x h = do
  vs ← look variables
  change (set_variables (marked x vs))
  end_with true

-- Sequence: the first, and the second if the first is Normal.
unfoldable pub sequence_rule : (first second : Meaning) → Meaning
sequence_rule first second h = do
  b ← first h
  if_normal b (second h)

-- Subshell: a hold; afterwards the context is as before but for the result. Failure stays, everything else settles.
unfoldable pub subshell_rule : Limits → (at : ℕ) → (body : Meaning) → Meaning
subshell_rule limits at body h = do
  inner ← hold limits at h
  before ← look context
  b ← body inner
  r ← look result
  change (set_context before)
  finish_unless_failure h b r

-- Not: the body is under a condition; after Normal the result is turned round, any other behaviour passes through.
unfoldable pub not_rule : (body : Meaning) → Meaning
not_rule body h = do
  b ← body (under_condition h)
  r ← look result
  if_normal b (end_with (negation r))

-- If: the test is under a condition, the branches are as the if is; a test that is not Normal passes through.
unfoldable pub if_rule : (test then else : Meaning) → Meaning
if_rule test then else h = do
  b ← test (under_condition h)
  r ← look result
  if_normal b (choose r (then h) (else h))

-- Nooutput: a hold; what the body writes is dropped, everything else it does stays.
unfoldable pub nooutput_rule : Limits → (at : ℕ) → (body : Meaning) → Meaning
nooutput_rule limits at body h = do
  inner ← hold limits at h
  stream ← look output
  change (set_output dropped)
  b ← body inner
  change (set_output stream)
  give b

-- Pipe: one hold, for both sides. What the first writes goes to a stream between the two. If it is Failure, so is the pipe: the context is
-- as before the pipe, the bytes are gone. Else the second begins with the context before the pipe too, and its input is that stream. At the
-- end only the second's result is left of both contexts, and of the input what the first did not read. Failure of the second stays,
-- everything else settles.
unfoldable pub pipe_rule : Limits → (at : ℕ) → (first second : Meaning) → Meaning
pipe_rule limits at first second h = do
  inner ← hold limits at h
  before ← look context
  stream ← look output
  change (set_output (kept []))
  b ← first inner
  piped ← look written
  rest ← look input
  change (set_context before)
  change (set_output stream)
  unless_failure b Failure do
    change (set_input piped)
    c ← second inner
    r ← look result
    change (set_context before)
    change (set_input rest)
    finish_unless_failure h c r

-- Utilities, on their fields: what each writes and its result, then Settle.
unfoldable pub run_utility : Limits → (at : ℕ) → Utility → (fields : List Bytes) → Meaning
-- true and false: only the result
run_utility limits at True fields h = finish h true
run_utility limits at False fields h = finish h false
-- echo: writes its fields as a line
run_utility limits at Echo fields h = do
  write limits at (echoed fields)
  finish h true
-- test: compares, or asks for a non-empty field
run_utility limits at Test fields h = finish h (passes fields)
-- cat: without fields all of the input goes to the output; with fields false
run_utility limits at Cat [] h = do
  rest ← look input
  change (set_input [])
  write limits at rest
  finish h true
run_utility limits at Cat (f ∷ fs) h = finish h false
-- env: without fields the exported variables; with fields false
run_utility limits at Env [] h = do
  vs ← look variables
  write limits at (env_lines vs)
  finish h true
run_utility limits at Env (f ∷ fs) h = finish h false
-- a name of none of these: nothing is written, false
run_utility limits at Other fields h = finish h false

-- Utility: its list, then what the utility does with the fields.
unfoldable pub utility_rule : Limits → (at : ℕ) → Utility → LstMeaning → Meaning
utility_rule limits at utility list h = do
  v ← list [] h
  unless_error v Failure λ fields. run_utility limits at utility fields h

-- What a call of function f at record `at` does once its arguments are known: the rules for a call take it as a parameter.
abbrev pub Enter : Type 0
Enter = (at f : ℕ) → Function → (arguments : List Bytes) → Meaning

-- Call, of a name that no function has: false, then Settle. Of a function: enter it.
unfoldable pub call_of : Enter → (at : ℕ) → Callee → (arguments : List Bytes) → Meaning
call_of enter at unknown new h = finish h false
call_of enter at (known f function) new h = enter at f function new h

-- Call: its list, then the call with the fields as arguments.
unfoldable pub call_rule : Enter → (at : ℕ) → Callee → LstMeaning → Meaning
call_rule enter at callee list h = do
  v ← list [] h
  unless_error v Failure λ new. call_of enter at callee new h

-- Call, with as many calls open as the stack limit allows: Failure, and no hold is asked for.
unfoldable pub full_stack_rule : Meaning
full_stack_rule h = give Failure

-- Call, entered: a hold; the body has the new arguments, and the function's name as argument 0. Afterwards Return is Normal and the
-- arguments are the caller's again; argument 0 is, being inherited.
unfoldable pub enter_rule : Limits → (at f : ℕ) → (name : Bytes) → (body : Meaning) → (arguments : List Bytes) → Meaning
enter_rule limits at f name body new h = do
  inner ← hold limits at h
  before ← look arguments
  change (set_arguments new)
  b ← as_call f (body (named name inner))
  change (set_arguments before)
  give (returned b)

-- For, field by field: the variable gets the field, mark and result as they are, and the body runs; its result is the next flag, and
-- what is not Normal stops the loop. After the last field the flag is the result.
unfoldable pub for_each : Slot → (body : Run Behaviour) → (flag : Bool) → (fields : List Bytes) → Run Behaviour
for_each x body flag [] = end_with flag
for_each x body flag (f ∷ fs) = do
  vs ← look variables
  change (set_variables (assigned x f vs))
  b ← body
  r ← look result
  if_normal b (for_each x body r fs)

-- For: its list, then a hold, then the fields, the flag being true at first.
unfoldable pub for_rule : Limits → (at : ℕ) → Slot → LstMeaning → (body : Meaning) → Meaning
for_rule limits at x list body h = do
  v ← list [] h
  unless_error v Failure λ fields. do
    inner ← hold limits at h
    for_each x (body inner) true fields

-- While, the test: what is not Normal passes through. After false the loop is over, Normal, its result the flag; true goes on with next.
unfoldable pub while_test : (test : Run Behaviour) → (flag : Bool) → (next : Run Behaviour) → Run Behaviour
while_test test flag next = do
  b ← test
  r ← look result
  if_normal b (choose r next (end_with flag))

-- While, round by round: a true test is Failure if the body may not run again, and else the body runs; what is not Normal passes
-- through, and the body's result is the next flag. The body may run `left` times more.
unfoldable pub while_true : (test body : Run Behaviour) → (flag : Bool) → (left : ℕ) → Run Behaviour
while_true test body flag zero = while_test test flag (give Failure)
while_true test body flag (suc left) = while_test test flag do
  b ← body
  r ← look result
  if_normal b (while_true test body r left)

-- While: tests are under a condition, bodies are as the while is; the flag is true before the first body.
unfoldable pub while_rule : Limits → (test body : Meaning) → Meaning
while_rule limits test body h = while_true (test (under_condition h)) (body h) true limits.loop

-- what exit and return leave as the result: what their code says, or the one before
abbrev pub code_result : Code → (before : Bool) → Bool
code_result success r = true
code_result failure r = false
code_result previous r = r

-- Exit: the result by its code, and Exit, which only a subshell, an embedded command or a pipe ends.
unfoldable pub exit_rule : Code → Meaning
exit_rule code h = do
  r ← look result
  change (set_result (code_result code r))
  give Exit

-- Return: as exit, but that the behaviour is Return, which a call makes Normal.
unfoldable pub return_rule : Code → Meaning
return_rule code h = do
  r ← look result
  change (set_result (code_result code r))
  give Return

-- Shift: if there are n arguments, the first n go, and true; else none goes, and false. Then Settle.
unfoldable pub shift_rule : (number : ℕ) → Meaning
shift_rule n h = do
  before ← look arguments
  choose (leb n (length before))
      (do
        change (set_arguments (drop n before))
        finish h true)
      (finish h false)
