-- The claims of specs/Claims.antt, specs/Refusals.antt and specs/Shams.antt, proved; those of specs/Demands.antt are in proofs/Demands.antt,
-- those of specs/GraphClaims.antt in proofs/GraphTheorems.antt and proofs/GraphReading.antt, those on raising a limit in proofs/Raising.antt.
-- Assumes nothing.
use mathlib.Core.Path.{◌≡◌, sym, ap, ◌∙◌}
use lib.ListN.{take, drop}
use Rattle.result.proofs.Theorems.{every_sheet_fits_lem}
use Rattle.sheet.specs.Order.{not_lent}
use Rattle.runner.specs.Verdict.{verdict}
use Rattle.runner.specs.Promise.{tells, inputs}
use Rattle.runner.specs.Claims.{ToldOnce, OneResult, OldContentIgnored}
use Rattle.runner.specs.Claims.{SheetFits, LargestSheet, RuledIsRun, EveryProfileRead, SheetFixesEnd}
use Rattle.runner.proofs.After.{front, front-is, rest-kept}
use Rattle.runner.proofs.Ending.{ruled-is, sheet_bounded}
use Rattle.runner.proofs.Profiles.{profile-read, end_fixed}
use Rattle.runner.specs.Refusals.{EveryRefusalGiven}
use Rattle.runner.specs.Shams.{NamedInputs, PromiseCanBeKept, OneSheetAtA, RefuserCaught, FixedResultCaught, IdlerCaught, WorkLeftCaught}
use Rattle.runner.specs.Shams.{FirstInstructionCaught, FirstIterationCaught, FirstFieldCaught, FirstLevelCaught, MainChargerCaught, StepAdderCaught}
use Rattle.runner.proofs.Telling as T
use Rattle.runner.proofs.Largest as L
use Rattle.runner.proofs.Refusals as R
use Rattle.runner.proofs.ShamInputs as I
use Rattle.runner.proofs.Shams as S
use Rattle.runner.proofs.Demands.{first-promise, second-promise, third_promise_lem}
use Rattle.runner.proofs.Raising.{verdict-lasts, raising_harmless_lem, file_unharmed_lem}
use Rattle.runner.proofs.AcceptanceOfRaising.{raising_tight_lem}
use Rattle.runner.proofs.GraphTheorems.{one_graph_lem, graph_like_run_lem, old_file_ignored_lem, file-fits}
use Rattle.runner.proofs.GraphReading.{file_read_back_lem}
use Rattle.runner.specs.Proved.{Proved}

pub told-once : ToldOnce
told-once = T.told-once

pub one-result : OneResult
one-result i r w r₁ w₁ r₂ w₂ a₁ a₂ p q = (told-once a₁ a₂ (p.answer ∙ sym q.answer), p.result ∙ sym q.result, p.work ∙ sym q.work)

pub old_content_ignored_lem : OldContentIgnored
old_content_ignored_lem sheet arguments input loop stack budget r w s v r₁ w₁ s₁ v₁ a₁ a₂ e f p q =
    let same : verdict (inputs sheet arguments input loop stack budget r w) ≡ verdict (inputs sheet arguments input loop stack budget s v) =
    λ j. verdict (record { sheet = sheet; arguments = arguments; input = input; loop = loop; stack = stack; budget = budget; result_size = e j; work_size = f j; file = not_lent }) in
    record {
      answer = told-once a₁ a₂ (p.answer ∙ ap tells same ∙ sym q.answer);
      sheet = λ n t.
          ap (take n) p.result ∙ front-is (verdict (inputs sheet arguments input loop stack budget r w)) n r (sym p.answer ∙ t)
          ∙ ap front same
          ∙ sym (ap (take n) q.result ∙ front-is (verdict (inputs sheet arguments input loop stack budget s v)) n s (sym (ap tells same) ∙ sym p.answer ∙ t));
      tail = λ n t. ap (drop n) p.result ∙ rest-kept (verdict (inputs sheet arguments input loop stack budget r w)) n r (sym p.answer ∙ t);
      tail' = λ n t.
          ap (drop n) q.result
          ∙ rest-kept (verdict (inputs sheet arguments input loop stack budget s v)) n s (sym (ap tells same) ∙ sym p.answer ∙ t);
    }

-- THE SHEET OF AN ENDED RUN: its size, the profile read off its bytes, the one end that it stands for

pub sheet-fits : SheetFits
sheet-fits i s e = every_sheet_fits_lem s (sheet_bounded i s e)

pub largest-sheet : LargestSheet
largest-sheet = L.largest-sheet

pub ruled_is_run_lem : RuledIsRun
ruled_is_run_lem = ruled-is

pub every_profile_read_lem : EveryProfileRead
every_profile_read_lem i r w r₁ w₁ n p = profile-read p

pub sheet_fixes_end_lem : SheetFixesEnd
sheet_fixes_end_lem i j r w r₁ w₁ s v s₁ v₁ m n p q e = end_fixed p q e

-- REFUSALS (specs/Refusals.antt)

pub every_refusal_given_lem : EveryRefusalGiven
every_refusal_given_lem = R.every_refusal_given_lem

-- SHAMS (specs/Shams.antt)

pub named-inputs : NamedInputs
named-inputs = I.named-inputs

pub promise_can_be_kept_lem : PromiseCanBeKept
promise_can_be_kept_lem = S.promise_can_be_kept_lem

pub one_sheet_at_A : OneSheetAtA
one_sheet_at_A = S.one_sheet_at_A

pub refuser_caught_lem : RefuserCaught
refuser_caught_lem = S.refuser_caught_lem

pub fixed_result_caught_lem : FixedResultCaught
fixed_result_caught_lem = S.fixed_result_caught_lem

pub idler_caught_lem : IdlerCaught
idler_caught_lem = S.idler_caught_lem

pub work_left_caught_lem : WorkLeftCaught
work_left_caught_lem = S.work_left_caught_lem

pub first_instruction_caught_lem : FirstInstructionCaught
first_instruction_caught_lem = S.first_instruction_caught_lem

pub first_iteration_caught_lem : FirstIterationCaught
first_iteration_caught_lem = S.first_iteration_caught_lem

pub first_field_caught_lem : FirstFieldCaught
first_field_caught_lem = S.first_field_caught_lem

pub first_level_caught_lem : FirstLevelCaught
first_level_caught_lem = S.first_level_caught_lem

pub main_charger_caught_lem : MainChargerCaught
main_charger_caught_lem = S.main_charger_caught_lem

pub step_adder_caught_lem : StepAdderCaught
step_adder_caught_lem = S.step_adder_caught_lem

-- ALL OF THEM

pub proved : Proved
proved = record {
  first_promise = first-promise;
  second_promise = second-promise;
  third_promise = third_promise_lem;
  raising_harmless = raising_harmless_lem;
  verdict_lasts = verdict-lasts;
  file_unharmed = file_unharmed_lem;
  raising_tight = raising_tight_lem;
  told_once = told-once;
  one_result = one-result;
  old_content_ignored = old_content_ignored_lem;
  sheet_fits = sheet-fits;
  largest_sheet = largest-sheet;
  ruled_is_run = ruled_is_run_lem;
  every_profile_read = every_profile_read_lem;
  sheet_fixes_end = sheet_fixes_end_lem;
  one_graph = one_graph_lem;
  graph_like_run = graph_like_run_lem;
  old_file_ignored = old_file_ignored_lem;
  file_fits = file-fits;
  file_read_back = file_read_back_lem;
  every_refusal_given = every_refusal_given_lem;
  named_inputs = named-inputs;
  promise_can_be_kept = promise_can_be_kept_lem;
  one_sheet_at_a = one_sheet_at_A;
  refuser_caught = refuser_caught_lem;
  fixed_result_caught = fixed_result_caught_lem;
  idler_caught = idler_caught_lem;
  work_left_caught = work_left_caught_lem;
  first_instruction_caught = first_instruction_caught_lem;
  first_iteration_caught = first_iteration_caught_lem;
  first_field_caught = first_field_caught_lem;
  first_level_caught = first_level_caught_lem;
  main_charger_caught = main_charger_caught_lem;
  step_adder_caught = step_adder_caught_lem;
}
