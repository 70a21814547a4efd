-- The tables of specs/RaisingCases.antt hold of the rules, by computation.
-- Assumes nothing.
use mathlib.Core.Path.{refl}
use Rattle.rules.specs.State.{◌>>=◌, ◌>>◌, give, refuse, look, change, choose, as_call}
use Rattle.rules.specs.Flow.{if_normal, unless_failure, unless_error}
use Rattle.rules.specs.Refusals.{begin, stepped, made_string, add_fields, write_to, write, hold}
use Rattle.rules.specs.Rules.{finish, finish_unless_failure, end_with, text_rule, variable_rule, argument_rule, join_rule, embedded_rule, empty_rule, field_rule, split_rule}
use Rattle.rules.specs.Rules.{assign_rule, export_rule, sequence_rule, subshell_rule, not_rule, if_rule, nooutput_rule, pipe_rule, run_utility, utility_rule}
use Rattle.rules.specs.Rules.{call_of, call_rule, full_stack_rule, enter_rule, for_each, for_rule, while_test, while_true, while_rule, exit_rule, return_rule, shift_rule}
use Rattle.rules.specs.Evaluation.{ins_rule, enter_at, run}
use Rattle.rules.specs.Ruling.{ruling}
use Rattle.rules.specs.Watched.{watched, watched_ins, watched_enter, watched_run}
use Rattle.rules.specs.RaisingCases.{PairsClaim, found, WatchesClaim, found_to_see}

pub pairs-hold : PairsClaim
unfolding ◌>>=◌ ◌>>◌ give refuse look change choose as_call finish finish_unless_failure if_normal unless_failure unless_error end_with begin stepped hold made_string add_fields write_to write run_utility for_each while_test while_true call_of text_rule variable_rule argument_rule join_rule embedded_rule empty_rule field_rule split_rule assign_rule export_rule sequence_rule subshell_rule not_rule if_rule nooutput_rule pipe_rule utility_rule call_rule full_stack_rule enter_rule for_rule while_rule exit_rule return_rule shift_rule ins_rule enter_at run ruling found
pairs-hold = refl

pub watches-hold : WatchesClaim
unfolding ◌>>=◌ ◌>>◌ give refuse look change choose as_call finish finish_unless_failure if_normal unless_failure unless_error end_with begin stepped hold made_string add_fields write_to write run_utility for_each while_test while_true call_of text_rule variable_rule argument_rule join_rule embedded_rule empty_rule field_rule split_rule assign_rule export_rule sequence_rule subshell_rule not_rule if_rule nooutput_rule pipe_rule utility_rule call_rule full_stack_rule enter_rule for_rule while_rule exit_rule return_rule shift_rule ins_rule watched watched_ins watched_enter watched_run found_to_see
watches-hold = refl
