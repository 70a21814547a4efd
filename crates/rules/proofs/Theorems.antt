-- The claims of specs/Claims.antt, and with those of the other files all of specs/Proved.antt, proved.
-- Assumes nothing.
use mathlib.Core.Path.{subst}
use Rattle.rules.specs.Genuine.{MadeBy}
use Rattle.rules.specs.Fits.{Fits}
use Rattle.rules.specs.Claims.{EveryTraceAccounted, EveryMainAccounted, EveryBeginning, EveryRunAccounted, EveryOutcomeAccounted}
use Rattle.rules.specs.Claims.{EveryRunGenuine, EveryRefusalGenuine, GenuineCalls, UnfinishedCalls, StackKept}
use Rattle.rules.specs.Claims.{BudgetExact, SixExactly, Unwatched, NothingAfterFailure, EveryEvaluationFits, EveryRunFits, EverySheetAccounted}
use Rattle.rules.specs.Cases.{Claim}
use Rattle.rules.proofs.CasesHold.{cases-hold}
use Rattle.rules.proofs.Outcomes.{Ends}
use Rattle.rules.proofs.Traces.{accounted, inclusive-outermost, inclusive_le, own_le}
use Rattle.rules.proofs.Beginnings.{places-first, timeline-first}
use Rattle.rules.proofs.Budget.{run_exact}
use Rattle.rules.proofs.Six.{six_from, six_to}
use Rattle.rules.proofs.Unwatched.{unwatched-run}
use Rattle.rules.proofs.Losing.{run-watched, failure_never_lost_lem, failure-seen}
use Rattle.rules.proofs.Raising.{outcome-lasts}
use Rattle.rules.proofs.Genuineness.{genuine-numbered, genuine-filled, unfinished-numbered, unfinished-filled, Made, run-made, run-genuine, run_open}
use Rattle.rules.proofs.Embedded.{cut_from_the_end_lem, cut_one_way_lem}
use Rattle.rules.proofs.Fitting.{evaluation_fits, run_fits}
use Rattle.rules.proofs.Accounting.{run_accounted, outcome_accounted, sheet_accounted}
use Rattle.rules.proofs.AcceptanceOfCorners.{corners-hold}
use Rattle.rules.proofs.AcceptanceOfRaising.{pairs-hold, watches-hold}
use Rattle.rules.proofs.Intervals.{in_range, make_steps, in_order, nested_or_apart_lem, timeline_of_calls_lem, own_of_calls_lem, inclusive_by_steps_lem, lengths_of_calls_lem}
use Rattle.rules.proofs.OutermostCalls.{inclusive_of_calls_lem, counted-once, outermost_of_calls_lem}
use Rattle.rules.proofs.ExerciseCalls.{calls_of_exercise_a_lem}
use Rattle.rules.proofs.Edges.{edges_add_up_lem, edges_bounded_lem, every_call_over_one_edge_lem}
use Rattle.rules.proofs.EdgesInto.{edges_into_add_up_lem}
use Rattle.rules.proofs.EdgeCasesHold.{edge_cases_hold, edges_of_exercise_a_lem}
use Rattle.rules.specs.Proved.{Proved}

pub the_cases : Claim
the_cases = cases-hold

pub every_trace_accounted_lem : EveryTraceAccounted
every_trace_accounted_lem t f = (inclusive-outermost f t, own_le f t, inclusive_le f t)

pub every_main_accounted_lem : EveryMainAccounted
every_main_accounted_lem = accounted

pub every_beginning_lem : EveryBeginning
every_beginning_lem n t = (places-first n t, timeline-first n t)

pub every_run_accounted_lem : EveryRunAccounted
every_run_accounted_lem limits g = run_accounted limits g

pub every_outcome_accounted_lem : EveryOutcomeAccounted
every_outcome_accounted_lem = outcome_accounted

pub every_run_genuine_lem : EveryRunGenuine
every_run_genuine_lem limits g b s t e =
    subst (Ends (λ _ _. MadeBy limits g.program)) e (run-genuine limits g.program g.argument0 g.arguments g.stdin)

pub every_refusal_genuine_lem : EveryRefusalGenuine
every_refusal_genuine_lem limits g why place t e = subst (Made limits g.program) e (run-made limits g.program g.argument0 g.arguments g.stdin)

pub genuine-calls : GenuineCalls
genuine-calls limits program left t h = (genuine-numbered limits program t h, genuine-filled limits program t h)

pub unfinished-calls : UnfinishedCalls
unfinished-calls limits program why place left t h = (unfinished-numbered limits program t h, unfinished-filled limits program t h)

pub stack-kept : StackKept
stack-kept limits g = run_open limits g.program g.argument0 g.arguments g.stdin

pub budget_exact_lem : BudgetExact
budget_exact_lem limits budget g = run_exact limits budget g.program g.argument0 g.arguments g.stdin

pub six_exactly_lem : SixExactly
six_exactly_lem limits g place = (six_from limits g place, six_to limits g place)

pub unwatched : Unwatched
unwatched limits g = unwatched-run limits g.program g.argument0 g.arguments g.stdin

pub nothing_after_failure_lem : NothingAfterFailure
nothing_after_failure_lem = run-watched

pub every_evaluation_fits_lem : EveryEvaluationFits
every_evaluation_fits_lem limits program fits left h n s f = evaluation_fits limits program fits left h n s f

pub every_run_fits_lem : EveryRunFits
every_run_fits_lem limits g fits n a i b s t e =
    subst (Ends (λ _ s _. Fits limits s)) e (run_fits limits g.program g.argument0 g.arguments g.stdin fits n a i)

pub every_sheet_accounted_lem : EverySheetAccounted
every_sheet_accounted_lem = sheet_accounted

-- ALL OF THEM

pub proved : Proved
proved = record {
  claim = the_cases;
  corners_claim = corners-hold;
  edge_cases_claim = edge_cases_hold;
  pairs_claim = pairs-hold;
  watches_claim = watches-hold;
  every_trace_accounted = every_trace_accounted_lem;
  every_main_accounted = every_main_accounted_lem;
  every_beginning = every_beginning_lem;
  every_run_accounted = every_run_accounted_lem;
  every_outcome_accounted = every_outcome_accounted_lem;
  every_run_genuine = every_run_genuine_lem;
  every_refusal_genuine = every_refusal_genuine_lem;
  genuine_calls = genuine-calls;
  unfinished_calls = unfinished-calls;
  stack_kept = stack-kept;
  budget_exact = budget_exact_lem;
  six_exactly = six_exactly_lem;
  unwatched = unwatched;
  failure_never_lost = failure_never_lost_lem;
  failure_seen = failure-seen;
  nothing_after_failure = nothing_after_failure_lem;
  outcome_lasts = outcome-lasts;
  cut_from_the_end = cut_from_the_end_lem;
  cut_one_way = cut_one_way_lem;
  every_evaluation_fits = every_evaluation_fits_lem;
  every_run_fits = every_run_fits_lem;
  every_sheet_accounted = every_sheet_accounted_lem;
  calls_in_range = in_range;
  calls_make_steps = make_steps;
  calls_in_order = in_order;
  nested_or_apart = nested_or_apart_lem;
  timeline_of_calls = timeline_of_calls_lem;
  own_of_calls = own_of_calls_lem;
  inclusive_by_steps = inclusive_by_steps_lem;
  lengths_of_calls = lengths_of_calls_lem;
  inclusive_of_calls = inclusive_of_calls_lem;
  counted_once = counted-once;
  outermost_of_calls = outermost_of_calls_lem;
  calls_of_exercise_a = calls_of_exercise_a_lem;
  edges_add_up = edges_add_up_lem;
  edges_bounded = edges_bounded_lem;
  every_call_over_one_edge = every_call_over_one_edge_lem;
  edges_into_add_up = edges_into_add_up_lem;
  edges_of_exercise_a = edges_of_exercise_a_lem;
}
