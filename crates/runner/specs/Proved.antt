-- Everything that is proved of this crate, a field a claim. The contract of `claims_hold` asks for it, so that a claim cannot lose its proof unnoticed.
use Rattle.runner.specs.Demands.{FirstPromise, SecondPromise, ThirdPromise}
use Rattle.runner.specs.Claims.{ToldOnce, OneResult, OldContentIgnored, SheetFits, LargestSheet, RuledIsRun, EveryProfileRead}
use Rattle.runner.specs.Claims.{SheetFixesEnd, VerdictLasts, RaisingHarmless}
use Rattle.runner.specs.GraphClaims.{OneGraph, GraphLikeRun, OldFileIgnored, FileUnharmed, FileFits, FileReadBack}
use Rattle.runner.specs.Refusals.{EveryRefusalGiven}
use Rattle.runner.specs.RaisingCases.{RaisingTight}
use Rattle.runner.specs.Shams.{NamedInputs, PromiseCanBeKept, OneSheetAtA, RefuserCaught, FixedResultCaught, IdlerCaught}
use Rattle.runner.specs.Shams.{WorkLeftCaught, FirstInstructionCaught, FirstIterationCaught, FirstFieldCaught}
use Rattle.runner.specs.Shams.{FirstLevelCaught, MainChargerCaught, StepAdderCaught}

pub record Proved : Type 0 where
  -- the four promises
  pub first_promise : FirstPromise
  pub second_promise : SecondPromise
  pub third_promise : ThirdPromise
  pub raising_harmless : RaisingHarmless
  -- the fourth, of the verdict and of the file; and that what it leaves out can change
  pub verdict_lasts : VerdictLasts
  pub file_unharmed : FileUnharmed
  pub raising_tight : RaisingTight
  -- one result, old content, the result sheet
  pub told_once : ToldOnce
  pub one_result : OneResult
  pub old_content_ignored : OldContentIgnored
  pub sheet_fits : SheetFits
  pub largest_sheet : LargestSheet
  pub ruled_is_run : RuledIsRun
  pub every_profile_read : EveryProfileRead
  pub sheet_fixes_end : SheetFixesEnd
  -- a run that writes its call graph
  pub one_graph : OneGraph
  pub graph_like_run : GraphLikeRun
  pub old_file_ignored : OldFileIgnored
  pub file_fits : FileFits
  pub file_read_back : FileReadBack
  -- the table of refusals
  pub every_refusal_given : EveryRefusalGiven
  -- shams
  pub named_inputs : NamedInputs
  pub promise_can_be_kept : PromiseCanBeKept
  pub one_sheet_at_a : OneSheetAtA
  pub refuser_caught : RefuserCaught
  pub fixed_result_caught : FixedResultCaught
  pub idler_caught : IdlerCaught
  pub work_left_caught : WorkLeftCaught
  pub first_instruction_caught : FirstInstructionCaught
  pub first_iteration_caught : FirstIterationCaught
  pub first_field_caught : FirstFieldCaught
  pub first_level_caught : FirstLevelCaught
  pub main_charger_caught : MainChargerCaught
  pub step_adder_caught : StepAdderCaught
