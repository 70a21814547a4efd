-- A run, watched: what is 'inside' it. Every record is evaluated by its rule, as in specs/Evaluation.antt, but over parts that are watched; so
-- whatever a rule evaluates, and however often, a watch looks at what it came to. A watch is set on records of one's choice. Where one of them
-- comes to Failure, or to an error, it refuses the run on the spot, with a number and a place that are one's choice too. No rule can catch a
-- refusal, so it shows at the end of the run. Nothing here evaluates a record unwatched: of specs/Evaluation.antt only the first state is taken.
use Rattle.std.specs.Prelude.{Bool, true, false, cond, ◌&&◌, List, ℕ, zero, suc}
use Rattle.rules.specs.declared.Behaviour.{Behaviour}
use Rattle.rules.specs.declared.Refusal.{Refusal}
use Rattle.rules.specs.Syntax.{Bytes, Function, Program}
use Rattle.rules.specs.Syntax.{Str, text, variable, argument, embedded, join}
use Rattle.rules.specs.Syntax.{Lst, empty, field, split}
use Rattle.rules.specs.Syntax.{Ins, assign, export, sequence, subshell, not, if, nooutput, pipe, utility, call, for, while, exit, return, shift}
use Rattle.rules.specs.State.{Limits, Evaluated, error, value, Outcome, refused, ended, as_call}
use Rattle.rules.specs.Words.{utility_of, find}
use Rattle.rules.specs.Flow.{is_failure}
use Rattle.rules.specs.Refusals.{Means, Meaning, StrMeaning, LstMeaning, at_top, stepped}
use Rattle.rules.specs.Rules.{Enter, text_rule, variable_rule, argument_rule, join_rule, embedded_rule, empty_rule, field_rule, split_rule}
use Rattle.rules.specs.Rules.{assign_rule, export_rule, sequence_rule, subshell_rule, not_rule, if_rule, nooutput_rule, pipe_rule, utility_rule}
use Rattle.rules.specs.Rules.{call_rule, full_stack_rule, enter_rule, for_rule, while_rule, exit_rule, return_rule, shift_rule}
use Rattle.rules.specs.Evaluation.{start}

-- THE WATCH ---------------------------------------------------------------------------------------------------------

pub data Watch : Type 0 where
  -- it does nothing: evaluation is as it is (`Unwatched`)
  idle : Watch
  refusing : (looks : ℕ → Bool) (why : Refusal) (place : ℕ) → Watch

-- what it looks for: an instruction that comes to Failure, a string or a list that comes to an error
abbrev pub is_error : {A : Type 0} → Evaluated A → Bool
is_error error = true
is_error (value a) = false

-- what becomes of the outcome of a record
abbrev pub seen : {A : Type 0} → Watch → (bad : A → Bool) → (at : ℕ) → Outcome A → Outcome A
seen idle bad at o = o
seen (refusing looks why place) bad at (refused other p t) = refused other p t
seen (refusing looks why place) bad at (ended a s t) = cond (looks at && bad a) (refused why place t) (ended a s t)

-- EVALUATION UNDER A WATCH ------------------------------------------------------------------------------------------

module _ (watch : Watch) (limits : Limits) where
  -- a record's step, then its rule, watched
  unfoldable pub watched : {A : Type 0} → (bad : A → Bool) → (at : ℕ) → Means A → Means A
  watched bad at rule h = λ s. seen watch bad at (stepped limits at rule h s)

  abbrev watch_str : (at : ℕ) → (rule : StrMeaning) → StrMeaning
  watch_str at rule = λ flag. watched is_error at (rule flag)

  abbrev watch_lst : (at : ℕ) → (rule : LstMeaning) → LstMeaning
  watch_lst at rule = λ so_far. watched is_error at (rule so_far)

  abbrev watch_ins : (at : ℕ) → (rule : Meaning) → Meaning
  watch_ins at rule = watched is_failure at rule

  module _ (functions : List Function) (enter : Enter) where
    unfoldable mutual
      pub watched_str : Str → StrMeaning
      watched_str (text at s) = watch_str at (text_rule s)
      watched_str (variable at x) = watch_str at (variable_rule x)
      watched_str (argument at n) = watch_str at (argument_rule n)
      watched_str (embedded at i) = watch_str at (embedded_rule limits at (watched_ins i))
      watched_str (join at s t) = watch_str at (join_rule limits at (watched_str s) (watched_str t))

      pub watched_lst : Lst → LstMeaning
      watched_lst (empty at) = watch_lst at empty_rule
      watched_lst (field at s l) = watch_lst at (field_rule limits at (watched_str s) (watched_lst l))
      watched_lst (split at s l) = watch_lst at (split_rule limits at (watched_str s) (watched_lst l))

      pub watched_ins : Ins → Meaning
      watched_ins (assign at x s) = watch_ins at (assign_rule x (watched_str s))
      watched_ins (export at x) = watch_ins at (export_rule x)
      watched_ins (sequence at i j) = watch_ins at (sequence_rule (watched_ins i) (watched_ins j))
      watched_ins (subshell at i) = watch_ins at (subshell_rule limits at (watched_ins i))
      watched_ins (not at i) = watch_ins at (not_rule (watched_ins i))
      watched_ins (if at i j k) = watch_ins at (if_rule (watched_ins i) (watched_ins j) (watched_ins k))
      watched_ins (nooutput at i) = watch_ins at (nooutput_rule limits at (watched_ins i))
      watched_ins (pipe at i j) = watch_ins at (pipe_rule limits at (watched_ins i) (watched_ins j))
      watched_ins (utility at name l) = watch_ins at (utility_rule limits at (utility_of name) (watched_lst l))
      watched_ins (call at name l) = watch_ins at (call_rule enter at (find name 1 functions) (watched_lst l))
      watched_ins (for at x l i) = watch_ins at (for_rule limits at x (watched_lst l) (watched_ins i))
      watched_ins (while at i j) = watch_ins at (while_rule limits (watched_ins i) (watched_ins j))
      watched_ins (exit at c) = watch_ins at (exit_rule c)
      watched_ins (return at c) = watch_ins at (return_rule c)
      watched_ins (shift at n) = watch_ins at (shift_rule n)

  -- a call, when `left` more may be opened
  unfoldable pub watched_enter : List Function → (left : ℕ) → Enter
  watched_enter functions zero at f function new = full_stack_rule
  watched_enter functions (suc left) at f function new =
      enter_rule limits at f function.name (watched_ins functions (watched_enter functions left) function.body) new

  -- the run of a program
  unfoldable pub watched_run : Program → (argument0 : Bytes) → (arguments : List Bytes) → (stdin : Bytes) → Outcome Behaviour
  watched_run program argument0 new stdin =
      as_call 0 (watched_ins program.functions (watched_enter program.functions limits.stack) program.main (at_top argument0))
      (start program new stdin)
