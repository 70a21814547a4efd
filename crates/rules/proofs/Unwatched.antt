-- Under a watch that does nothing, evaluation is that of the rules.
-- Assumes nothing.
use mathlib.Core.Path.{◌≡◌, refl}
use mathlib.Core.List.{List}
use Prim.Native.Nat.{ℕ, zero, suc}
use Rattle.rules.specs.Syntax.{Bytes, Function, Program}
use Rattle.rules.specs.Syntax.{Str, text, variable, argument, embedded, join}
use Rattle.rules.specs.Syntax.{Lst, empty, field, split}
use Rattle.rules.specs.Syntax.{Ins, assign, export, sequence, subshell, not, if, nooutput, pipe, utility, call, for, while, exit, return, shift}
use Rattle.rules.specs.State.{Limits, as_call}
use Rattle.rules.specs.Words.{utility_of, find}
use Rattle.rules.specs.Refusals.{at_top, stepped}
use Rattle.rules.specs.Rules.{Enter, join_rule, embedded_rule, field_rule, split_rule}
use Rattle.rules.specs.Rules.{assign_rule, sequence_rule, subshell_rule, not_rule, if_rule, nooutput_rule, pipe_rule, utility_rule}
use Rattle.rules.specs.Rules.{call_rule, enter_rule, for_rule, while_rule}
use Rattle.rules.specs.Evaluation.{ins_rule, eval_ins, eval_str, eval_lst, enter_at, start, run}
use Rattle.rules.specs.Watched.{idle, watched, watched_str, watched_lst, watched_ins, watched_enter, watched_run}

module _ (limits : Limits) (functions : List Function) where
  module _ {enter enter' : Enter} (same : enter ≡ enter') where
    mutual
      unfolding ins_rule watched watched_str watched_lst watched_ins

      str : (s : Str) → watched_str idle limits functions enter s ≡ eval_str limits functions enter' s
      str (text at s) = refl
      str (variable at x) = refl
      str (argument at n) = refl
      str (embedded at i) = λ e flag. stepped limits at (embedded_rule limits at (ins i e) flag)
      str (join at s t) = λ e flag. stepped limits at (join_rule limits at (str s e) (str t e) flag)

      lst : (l : Lst) → watched_lst idle limits functions enter l ≡ eval_lst limits functions enter' l
      lst (empty at) = refl
      lst (field at s l) = λ e so_far. stepped limits at (field_rule limits at (str s e) (lst l e) so_far)
      lst (split at s l) = λ e so_far. stepped limits at (split_rule limits at (str s e) (lst l e) so_far)

      pub ins : (i : Ins) → watched_ins idle limits functions enter i ≡ eval_ins limits functions enter' i
      ins (assign at x s) = λ e. stepped limits at (assign_rule x (str s e))
      ins (export at x) = refl
      ins (sequence at i j) = λ e. stepped limits at (sequence_rule (ins i e) (ins j e))
      ins (subshell at i) = λ e. stepped limits at (subshell_rule limits at (ins i e))
      ins (not at i) = λ e. stepped limits at (not_rule (ins i e))
      ins (if at i j k) = λ e. stepped limits at (if_rule (ins i e) (ins j e) (ins k e))
      ins (nooutput at i) = λ e. stepped limits at (nooutput_rule limits at (ins i e))
      ins (pipe at i j) = λ e. stepped limits at (pipe_rule limits at (ins i e) (ins j e))
      ins (utility at name l) = λ e. stepped limits at (utility_rule limits at (utility_of name) (lst l e))
      ins (call at name l) = λ e. stepped limits at (call_rule (same e) at (find name 1 functions) (lst l e))
      ins (for at x l i) = λ e. stepped limits at (for_rule limits at x (lst l e) (ins i e))
      ins (while at i j) = λ e. stepped limits at (while_rule limits (ins i e) (ins j e))
      ins (exit at c) = refl
      ins (return at c) = refl
      ins (shift at n) = refl

  pub enters : (left : ℕ) → watched_enter idle limits functions left ≡ enter_at limits functions left
  unfolding watched_enter enter_at
  enters zero = refl
  enters (suc left) = λ e at f g new. enter_rule limits at f g.name (ins (enters left) g.body e) new

pub unwatched-run : (limits : Limits) (program : Program) (argument0 : Bytes) (arguments : List Bytes) (stdin : Bytes)
    → watched_run idle limits program argument0 arguments stdin ≡ run limits program argument0 arguments stdin
unfolding watched_run run
unwatched-run limits program argument0 arguments stdin = λ e.
    as_call 0 (ins limits program.functions (enters limits program.functions limits.stack) program.main e (at_top argument0))
    (start program arguments stdin)
