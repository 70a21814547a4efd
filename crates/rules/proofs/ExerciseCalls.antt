-- The calls of exercise A's run, by computation.
-- Assumes nothing.
use mathlib.Core.Path.{refl}
use Rattle.rules.specs.State.{◌>>=◌, ◌>>◌, give, refuse, look, change, choose, as_call}
use Rattle.rules.specs.Flow.{if_normal, unless_failure, unless_error}
use Rattle.rules.specs.Refusals.{begin, stepped, made_string, add_fields, write_to, write, hold}
use Rattle.rules.specs.Rules.{finish, finish_unless_failure, end_with, text_rule, argument_rule, empty_rule, field_rule}
use Rattle.rules.specs.Rules.{if_rule, run_utility, utility_rule, call_of, call_rule, full_stack_rule, enter_rule}
use Rattle.rules.specs.Evaluation.{ins_rule, enter_at, run}
use Rattle.rules.specs.Intervals.{CallsOfExerciseA, trace_a}

pub calls_of_exercise_a_lem : CallsOfExerciseA
unfolding ◌>>=◌ ◌>>◌ give refuse look change choose as_call finish finish_unless_failure if_normal unless_failure unless_error end_with begin stepped hold made_string add_fields write_to write run_utility call_of text_rule argument_rule empty_rule field_rule if_rule utility_rule call_rule full_stack_rule enter_rule ins_rule enter_at run trace_a
calls_of_exercise_a_lem = (refl, refl, refl, refl)
