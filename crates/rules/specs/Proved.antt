-- Everything that is proved of this crate, a field a claim. The contract of `claims_hold` asks for it, so that a claim cannot lose its proof unnoticed.
use Rattle.rules.specs.Cases.{Claim}
use Rattle.rules.specs.Corners.{CornersClaim}
use Rattle.rules.specs.EdgeCases.{EdgeCasesClaim}
use Rattle.rules.specs.RaisingCases.{PairsClaim, WatchesClaim}
use Rattle.rules.specs.Claims.{EveryTraceAccounted, EveryMainAccounted, EveryBeginning, EveryRunAccounted}
use Rattle.rules.specs.Claims.{EveryOutcomeAccounted, EveryRunGenuine, EveryRefusalGenuine, GenuineCalls, UnfinishedCalls}
use Rattle.rules.specs.Claims.{StackKept, BudgetExact, SixExactly, Unwatched, FailureNeverLost, FailureSeen, NothingAfterFailure, OutcomeLasts}
use Rattle.rules.specs.Claims.{CutFromTheEnd, CutOneWay, EveryEvaluationFits, EveryRunFits, EverySheetAccounted}
use Rattle.rules.specs.Intervals.{CallsInRange, CallsMakeSteps, CallsInOrder, NestedOrApart, TimelineOfCalls, OwnOfCalls}
use Rattle.rules.specs.Intervals.{InclusiveBySteps, LengthsOfCalls, InclusiveOfCalls, CountedOnce, OutermostOfCalls}
use Rattle.rules.specs.Intervals.{CallsOfExerciseA}
use Rattle.rules.specs.Edges.{EdgesAddUp, EdgesBounded, EveryCallOverOneEdge, EdgesIntoAddUp, EdgesOfExerciseA}

pub record Proved : Type 0 where
  -- the tables of cases
  pub claim : Claim
  pub corners_claim : CornersClaim
  pub edge_cases_claim : EdgeCasesClaim
  pub pairs_claim : PairsClaim
  pub watches_claim : WatchesClaim
  -- traces, runs, the budget, Failure, raising a limit, values, the result sheet
  pub every_trace_accounted : EveryTraceAccounted
  pub every_main_accounted : EveryMainAccounted
  pub every_beginning : EveryBeginning
  pub every_run_accounted : EveryRunAccounted
  pub every_outcome_accounted : EveryOutcomeAccounted
  pub every_run_genuine : EveryRunGenuine
  pub every_refusal_genuine : EveryRefusalGenuine
  pub genuine_calls : GenuineCalls
  pub unfinished_calls : UnfinishedCalls
  pub stack_kept : StackKept
  pub budget_exact : BudgetExact
  pub six_exactly : SixExactly
  pub unwatched : Unwatched
  pub failure_never_lost : FailureNeverLost
  pub failure_seen : FailureSeen
  pub nothing_after_failure : NothingAfterFailure
  pub outcome_lasts : OutcomeLasts
  pub cut_from_the_end : CutFromTheEnd
  pub cut_one_way : CutOneWay
  pub every_evaluation_fits : EveryEvaluationFits
  pub every_run_fits : EveryRunFits
  pub every_sheet_accounted : EverySheetAccounted
  -- calls as intervals
  pub calls_in_range : CallsInRange
  pub calls_make_steps : CallsMakeSteps
  pub calls_in_order : CallsInOrder
  pub nested_or_apart : NestedOrApart
  pub timeline_of_calls : TimelineOfCalls
  pub own_of_calls : OwnOfCalls
  pub inclusive_by_steps : InclusiveBySteps
  pub lengths_of_calls : LengthsOfCalls
  pub inclusive_of_calls : InclusiveOfCalls
  pub counted_once : CountedOnce
  pub outermost_of_calls : OutermostOfCalls
  pub calls_of_exercise_a : CallsOfExerciseA
  -- edges: the calls that one function makes of another
  pub edges_add_up : EdgesAddUp
  pub edges_bounded : EdgesBounded
  pub every_call_over_one_edge : EveryCallOverOneEdge
  pub edges_into_add_up : EdgesIntoAddUp
  pub edges_of_exercise_a : EdgesOfExerciseA
