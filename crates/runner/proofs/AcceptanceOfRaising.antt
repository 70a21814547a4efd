-- The table of specs/RaisingCases.antt holds, by computation.
-- Assumes nothing.
use mathlib.Core.Path.{refl}
use Rattle.rules.specs.State.{◌>>=◌, ◌>>◌, give, refuse, look, change, choose, as_call}
use Rattle.rules.specs.Flow.{if_normal, unless_failure, unless_error}
use Rattle.rules.specs.Refusals.{begin, stepped, made_string, add_fields, write_to, write, hold}
use Rattle.rules.specs.Rules.{finish, finish_unless_failure, end_with, text_rule, variable_rule, argument_rule, join_rule, embedded_rule, empty_rule, field_rule, split_rule}
use Rattle.rules.specs.Rules.{assign_rule, export_rule, sequence_rule, subshell_rule, not_rule, if_rule, nooutput_rule, pipe_rule, run_utility, utility_rule}
use Rattle.rules.specs.Rules.{call_of, call_rule, full_stack_rule, enter_rule, for_each, for_rule, while_test, while_true, while_rule, exit_rule, return_rule, shift_rule}
use Rattle.rules.specs.Evaluation.{ins_rule, enter_at, run}
use Rattle.rules.specs.Ruling.{ruling}
use Rattle.sheet.specs.Check.{known_of, check, walk, next, judge, is_cut, is_second, is_over, is_new, right, meets}
use Rattle.sheet.specs.Format.{number, shape, names_variable, is_name, all_later, is_first, is_later, place}
use Rattle.sheet.specs.Table.{words}
use Rattle.sheet.specs.Nodes.{rows}
use Rattle.sheet.specs.Decode.{program, nodes, nodes_from, node}
use Rattle.sheet.specs.Cases.{rec, txt, sheet_a}
use Rattle.sheet.specs.Arguments.{arguments, texts, texts_from, is_text}
use Rattle.sheet.specs.Order.{rows as order_rows}
use Rattle.runner.specs.Verdict.{ruled, verdict}
use Rattle.runner.specs.RaisingCases.{RaisingTight, found}

pub raising_tight_lem : RaisingTight
unfolding verdict ruled order_rows known_of arguments texts texts_from is_text check walk next judge is_cut is_second is_over is_new right meets number shape names_variable is_name all_later is_first is_later place words program nodes nodes_from node rows rec txt ◌>>=◌ ◌>>◌ give refuse look change choose as_call finish finish_unless_failure if_normal unless_failure unless_error end_with begin stepped hold made_string add_fields write_to write run_utility for_each while_test while_true call_of text_rule variable_rule argument_rule join_rule embedded_rule empty_rule field_rule split_rule assign_rule export_rule sequence_rule subshell_rule not_rule if_rule nooutput_rule pipe_rule utility_rule call_rule full_stack_rule enter_rule for_rule while_rule exit_rule return_rule shift_rule ins_rule enter_at run ruling sheet_a found
raising_tight_lem = refl
