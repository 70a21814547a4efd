-- What the rules make of the inputs at which shams are caught, by computation.
-- Assumes nothing.
use mathlib.Core.Path.{◌≡◌, refl, ap, ◌∙◌}
use mathlib.Core.Bool.{true, false}
use mathlib.Core.List.{[]}
use Prim.Native.Nat.{ℕ}
use lib.ListN.{length, length-replicate}
use Rattle.rules.specs.Syntax.{Bytes}
use Rattle.rules.specs.Trace.{steps}
use Rattle.rules.specs.State.{trace_of}
use Rattle.rules.specs.State.{◌>>=◌, ◌>>◌, give, refuse, look, change, choose, as_call}
use Rattle.rules.specs.Flow.{if_normal, unless_failure, unless_error}
use Rattle.rules.specs.Refusals.{begin, stepped, made_string, add_fields, write_to, write, hold}
use Rattle.rules.specs.Rules.{finish, finish_unless_failure, end_with, text_rule, variable_rule, argument_rule, join_rule, embedded_rule, empty_rule, field_rule, split_rule}
use Rattle.rules.specs.Rules.{assign_rule, export_rule, sequence_rule, subshell_rule, not_rule, if_rule, nooutput_rule, pipe_rule, run_utility, utility_rule}
use Rattle.rules.specs.Rules.{call_of, call_rule, full_stack_rule, enter_rule, for_each, for_rule, while_test, while_true, while_rule, exit_rule, return_rule, shift_rule}
use Rattle.rules.specs.Evaluation.{ins_rule, enter_at, run}
use Rattle.rules.specs.Ruling.{Sheet, ruling}
use Rattle.sheet.specs.Check.{check, walk, next, judge, is_cut, is_second, is_over, is_new, right, meets}
use Rattle.sheet.specs.Format.{number, shape, names_variable, is_name, all_later, is_first, is_later, place}
use Rattle.sheet.specs.Table.{words}
use Rattle.sheet.specs.Nodes.{rows}
use Rattle.sheet.specs.Decode.{program, nodes, nodes_from, node}
use Rattle.sheet.specs.Cases.{rec, txt, sheet_a}
use Rattle.sheet.specs.Arguments.{arguments, texts, texts_from, is_text}
use Rattle.sheet.specs.Order.{Inputs, not_lent}
use Rattle.sheet.specs.Order.{rows as order_rows}
use Rattle.sheet.specs.Check.{known_of}
use Rattle.runner.specs.Verdict.{Verdict, refused, ended, ruled, verdict}
use Rattle.runner.specs.Shams.{Lent, inputs_of, sees, whole, first_instruction, first_iteration, first_field, first_level, filled, lent, NamedInputs}
use Rattle.runner.specs.Shams.{exercise_a, shallow_a, no_budget, then_exit, while_exit, for_exit, call_exit}
use Rattle.runner.specs.Shams.{end_a, shallow_end, then_end, while_end, for_end, call_end}

pub filled-length : (n b : ℕ) → length (filled n b) ≡ n
unfolding filled
filled-length n b = length-replicate n b

-- the inputs of a run, the sizes of its memories written out
abbrev sized : Lent → Inputs
sized l = record {
  sheet = l.sheet;
  arguments = l.arguments;
  input = l.input;
  loop = l.loop;
  stack = l.stack;
  budget = l.budget;
  result_size = 4096;
  work_size = 65536;
  file = not_lent;
}

abbrev Comes : Lent → Sheet → Type 0
Comes l s = verdict (sized l) ≡ ended s

pub record Computed : Type 0 where
  a : Comes exercise_a end_a
  shallow : Comes shallow_a shallow_end
  none : verdict (sized no_budget) ≡ refused 2 0
  then₀ : Comes (then_exit 0) (then_end true)
  then₁ : Comes (then_exit 1) (then_end false)
  while₀ : Comes (while_exit 0) (while_end true)
  while₁ : Comes (while_exit 1) (while_end false)
  for₀ : Comes (for_exit 0) (for_end true)
  for₁ : Comes (for_exit 1) (for_end false)
  call₀ : Comes (call_exit 0) (call_end true)
  call₁ : Comes (call_exit 1) (call_end false)
  pub steps_A : steps (trace_of (whole exercise_a)) ≡ 37
  pub first-instruction : sees first_instruction (then_exit 0) ≡ sees first_instruction (then_exit 1)
  pub first_iteration_lem : sees first_iteration (while_exit 0) ≡ sees first_iteration (while_exit 1)
  pub first_field_lem : sees first_field (for_exit 0) ≡ sees first_field (for_exit 1)
  pub first-level : sees first_level (call_exit 0) ≡ sees first_level (call_exit 1)

pub computed : Computed
unfolding verdict ruled order_rows known_of arguments texts texts_from is_text check walk next judge is_cut is_second is_over is_new right meets number shape names_variable is_name all_later is_first is_later place words program nodes nodes_from node rows sheet_a rec txt ◌>>=◌ ◌>>◌ give refuse look change choose as_call finish finish_unless_failure if_normal unless_failure unless_error end_with begin stepped hold made_string add_fields write_to write run_utility for_each while_test while_true call_of text_rule variable_rule argument_rule join_rule embedded_rule empty_rule field_rule split_rule assign_rule export_rule sequence_rule subshell_rule not_rule if_rule nooutput_rule pipe_rule utility_rule call_rule full_stack_rule enter_rule for_rule while_rule exit_rule return_rule shift_rule ins_rule enter_at run ruling
computed = record {
  a = refl;
  shallow = refl;
  none = refl;
  then₀ = refl;
  then₁ = refl;
  while₀ = refl;
  while₁ = refl;
  for₀ = refl;
  for₁ = refl;
  call₀ = refl;
  call₁ = refl;
  steps_A = refl;
  first-instruction = refl;
  first_iteration_lem = refl;
  first_field_lem = refl;
  first-level = refl;
}

-- the memories of every input named have these sizes
by_sizes : (s a : Bytes) (l k b : ℕ) {v : Verdict} → verdict (sized (lent s a l k b)) ≡ v → verdict (inputs_of (lent s a l k b)) ≡ v
by_sizes s a l k b h =
    ap verdict (λ j. record {
      sheet = s;
      arguments = a;
      input = [];
      loop = l;
      stack = k;
      budget = b;
      result_size = filled-length 4096 0 j;
      work_size = filled-length 65536 1 j;
      file = not_lent;
    })
    ∙ h

pub named-inputs : NamedInputs
named-inputs = record {
  a = by_sizes _ _ _ _ _ computed.a;
  shallow = by_sizes _ _ _ _ _ computed.shallow;
  none = by_sizes _ _ _ _ _ computed.none;
  then₀ = by_sizes _ _ _ _ _ computed.then₀;
  then₁ = by_sizes _ _ _ _ _ computed.then₁;
  while₀ = by_sizes _ _ _ _ _ computed.while₀;
  while₁ = by_sizes _ _ _ _ _ computed.while₁;
  for₀ = by_sizes _ _ _ _ _ computed.for₀;
  for₁ = by_sizes _ _ _ _ _ computed.for₁;
  call₀ = by_sizes _ _ _ _ _ computed.call₀;
  call₁ = by_sizes _ _ _ _ _ computed.call₁;
}
