-- What each record means: a step, then the rule of its kind over what its parts mean; then what a call does, and the run of a program.
-- No step is made for a name, for a function's record or for that of main: they are only read.
-- Evaluation needs no fuel: it goes down the syntax, a for down its fields, a while down its rounds left, a call down the levels left on
-- the stack.
use Rattle.std.specs.Prelude.{true, List, [], map, ℕ, zero, suc}
use Rattle.rules.specs.declared.Behaviour.{Behaviour}
use Rattle.rules.specs.Syntax.{Bytes, Function, Program}
use Rattle.rules.specs.Syntax.{Str, str_place, text, variable, argument, embedded, join}
use Rattle.rules.specs.Syntax.{Lst, lst_place, empty, field, split}
use Rattle.rules.specs.Syntax.{Ins, ins_place, assign, export, sequence, subshell, not, if, nooutput, pipe, utility, call, for, while, exit, return, shift}
use Rattle.rules.specs.State.{Limits, kept, State, Outcome, Run, as_call}
use Rattle.rules.specs.Words.{unset_variable, utility_of, find}
use Rattle.rules.specs.Refusals.{Meaning, StrMeaning, LstMeaning, at_top, stepped}
use Rattle.rules.specs.Rules.{Enter, text_rule, variable_rule, argument_rule, join_rule, embedded_rule, empty_rule, field_rule, split_rule}
use Rattle.rules.specs.Rules.{assign_rule, export_rule, sequence_rule, subshell_rule, not_rule, if_rule, nooutput_rule, pipe_rule, utility_rule}
use Rattle.rules.specs.Rules.{call_rule, full_stack_rule, enter_rule, for_rule, while_rule, exit_rule, return_rule, shift_rule}

module _ (limits : Limits) where
  -- THE STEP of a record, in front of its rule
  abbrev str_step : Str → (rule : StrMeaning) → StrMeaning
  str_step s rule = λ flag. stepped limits (str_place s) (rule flag)

  abbrev lst_step : Lst → (rule : LstMeaning) → LstMeaning
  lst_step l rule = λ so_far. stepped limits (lst_place l) (rule so_far)

  abbrev ins_step : Ins → (rule : Meaning) → Meaning
  ins_step i rule = stepped limits (ins_place i) rule

  -- RECORDS, given what a call of a function does
  module _ (functions : List Function) (enter : Enter) where
    -- the rule of each kind, over what the parts mean: each its step, then its rule
    unfoldable mutual
      -- strings, kinds 1 to 5
      pub str_rule : Str → StrMeaning
      str_rule (text at s) = text_rule s
      str_rule (variable at x) = variable_rule x
      str_rule (argument at n) = argument_rule n
      str_rule (embedded at i) = embedded_rule limits at (ins_step i (ins_rule i))
      str_rule (join at s t) = join_rule limits at (str_step s (str_rule s)) (str_step t (str_rule t))

      -- lists, kinds 6 to 8
      pub lst_rule : Lst → LstMeaning
      lst_rule (empty at) = empty_rule
      lst_rule (field at s l) = field_rule limits at (str_step s (str_rule s)) (lst_step l (lst_rule l))
      lst_rule (split at s l) = split_rule limits at (str_step s (str_rule s)) (lst_step l (lst_rule l))

      -- instructions, kinds 16 to 30
      pub ins_rule : Ins → Meaning
      ins_rule (assign at x s) = assign_rule x (str_step s (str_rule s))
      ins_rule (export at x) = export_rule x
      ins_rule (sequence at i j) = sequence_rule (ins_step i (ins_rule i)) (ins_step j (ins_rule j))
      ins_rule (subshell at i) = subshell_rule limits at (ins_step i (ins_rule i))
      ins_rule (not at i) = not_rule (ins_step i (ins_rule i))
      ins_rule (if at i j k) = if_rule (ins_step i (ins_rule i)) (ins_step j (ins_rule j)) (ins_step k (ins_rule k))
      ins_rule (nooutput at i) = nooutput_rule limits at (ins_step i (ins_rule i))
      ins_rule (pipe at i j) = pipe_rule limits at (ins_step i (ins_rule i)) (ins_step j (ins_rule j))
      ins_rule (utility at name l) = utility_rule limits at (utility_of name) (lst_step l (lst_rule l))
      ins_rule (call at name l) = call_rule enter at (find name 1 functions) (lst_step l (lst_rule l))
      ins_rule (for at x l i) = for_rule limits at x (lst_step l (lst_rule l)) (ins_step i (ins_rule i))
      ins_rule (while at i j) = while_rule limits (ins_step i (ins_rule i)) (ins_step j (ins_rule j))
      ins_rule (exit at c) = exit_rule c
      ins_rule (return at c) = return_rule c
      ins_rule (shift at n) = shift_rule n

    -- what a record means
    abbrev pub eval_str : Str → StrMeaning
    eval_str s = str_step s (str_rule s)

    abbrev pub eval_lst : Lst → LstMeaning
    eval_lst l = lst_step l (lst_rule l)

    abbrev pub eval_ins : Ins → Meaning
    eval_ins i = ins_step i (ins_rule i)

  -- CALLS, when `left` more may be opened: inside the body, one fewer
  unfoldable pub enter_at : List Function → (left : ℕ) → Enter
  enter_at functions zero at f function new = full_stack_rule
  enter_at functions (suc left) at f function new =
      enter_rule limits at f function.name (eval_ins functions (enter_at functions left) function.body) new

  -- PROGRAMS
  abbrev pub main : Program → (argument0 : Bytes) → Run Behaviour
  main program argument0 =
      eval_ins program.functions (enter_at program.functions limits.stack)
      program.main (at_top argument0)

-- Context, at the start: no variable set or marked, the arguments, result true.
abbrev pub start : Program → (arguments : List Bytes) → (stdin : Bytes) → State
start program new stdin = record {
  context = record { variables = map unset_variable program.slots; arguments = new; result = true };
  input = stdin;
  output = kept [];
  used = 0;
}

-- The run of a program: all of it is one call of function 0, main, which takes no hold and no part of the stack limit.
unfoldable pub run : Limits → Program → (argument0 : Bytes) → (arguments : List Bytes) → (stdin : Bytes) → Outcome Behaviour
run limits program argument0 new stdin = as_call 0 (main limits program argument0) (start program new stdin)
