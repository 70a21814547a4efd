-- The measures of the cycle: three times the steps left, one more for a part of a rule, two more for a rule: neither makes a step of its own.
use Rattle.std.proofs.Common.{◌-◌, ◌+◌, ◌*◌}
use Rattle.words.specs.Words.{budget_of, pace_of, scope_of, course_of}
use Rattle.engine.specs.Lending.{given}
use Rattle.engine.proofs.Loops.{Turned}
use Rattle.engine.proofs.Walks.{Walked}
use Rattle.engine.proofs.+evaluators.Given as goal

abbrev pub decreases-assign : goal.decreases-assign
decreases-assign l = 3 * (budget_of l.lent.now.limits - (pace_of l.pace).used) + 2

abbrev pub decreases-branch : goal.decreases-branch
decreases-branch l = 3 * (budget_of l.lent.now.limits - (pace_of l.pace).used) + 2

abbrev pub decreases-ctx::call : goal.decreases-ctx::call
decreases-ctx::call l = 3 * (budget_of l.lent.now.limits - (pace_of l.pace).used) + 2

abbrev pub decreases-ctx::each : goal.decreases-ctx::each
decreases-ctx::each l = 3 * (budget_of l.lent.now.limits - (pace_of l.pace).used) + 1

abbrev pub decreases-ctx::enter : goal.decreases-ctx::enter
decreases-ctx::enter l = 3 * (budget_of l.lent.now.limits - (pace_of l.pace).used) + 1

abbrev pub decreases-ctx::into : goal.decreases-ctx::into
decreases-ctx::into l = 3 * (budget_of l.lent.now.limits - (pace_of l.pace).used) + 1

abbrev pub decreases-ctx::nooutput : goal.decreases-ctx::nooutput
decreases-ctx::nooutput l = 3 * (budget_of l.lent.now.limits - (pace_of l.pace).used) + 2

abbrev pub decreases-ctx::pipe : goal.decreases-ctx::pipe
decreases-ctx::pipe l = 3 * (budget_of l.lent.now.limits - (pace_of l.pace).used) + 2

abbrev pub decreases-ctx::subshell : goal.decreases-ctx::subshell
decreases-ctx::subshell l = 3 * (budget_of l.lent.now.limits - (pace_of l.pace).used) + 2

abbrev pub decreases-ctx::walk : goal.decreases-ctx::walk
decreases-ctx::walk l = 3 * (budget_of l.lent.now.limits - (pace_of l.pace).used) + 2

abbrev pub decreases-instr : goal.decreases-instr
decreases-instr l = 3 * (budget_of l.lent.now.limits - (pace_of l.pace).used)

abbrev pub decreases-lst::field : goal.decreases-lst::field
decreases-lst::field l = 3 * (budget_of l.lent.now.limits - (pace_of l.pace).used) + 2

abbrev pub decreases-lst::list : goal.decreases-lst::list
decreases-lst::list l = 3 * (budget_of l.lent.now.limits - (pace_of l.pace).used)

abbrev pub decreases-lst::split : goal.decreases-lst::split
decreases-lst::split l = 3 * (budget_of l.lent.now.limits - (pace_of l.pace).used) + 2

abbrev pub decreases-negate : goal.decreases-negate
decreases-negate l = 3 * (budget_of l.lent.now.limits - (pace_of l.pace).used) + 2

abbrev pub decreases-repeat : goal.decreases-repeat
decreases-repeat l = 3 * (budget_of l.lent.now.limits - (pace_of l.pace).used) + 2

abbrev pub decreases-sequence : goal.decreases-sequence
decreases-sequence l = 3 * (budget_of l.lent.now.limits - (pace_of l.pace).used) + 2

abbrev pub decreases-tool::utility : goal.decreases-tool::utility
decreases-tool::utility l = 3 * (budget_of l.lent.now.limits - (pace_of l.pace).used) + 2

abbrev pub decreases-txt::embed : goal.decreases-txt::embed
decreases-txt::embed l = 3 * (budget_of l.lent.now.limits - (pace_of l.pace).used) + 2

abbrev pub decreases-txt::join : goal.decreases-txt::join
decreases-txt::join l = 3 * (budget_of l.lent.now.limits - (pace_of l.pace).used) + 2

abbrev pub decreases-txt::string : goal.decreases-txt::string
decreases-txt::string l = 3 * (budget_of l.lent.now.limits - (pace_of l.pace).used)

abbrev pub invariant-ctx::each-loop-i : goal.invariant-ctx::each-loop-i
invariant-ctx::each-loop-i l =
    Walked l.lent.sheet.now l.lent.stdin.now l.initial.work (given l.lent) (scope_of l.scope) (course_of l.initial.pace l.initial.feed) l.x l.b l.m l.work (course_of l.pace l.feed) l.flag l.i

abbrev pub invariant-repeat-loop-test : goal.invariant-repeat-loop-test
invariant-repeat-loop-test l =
    Turned l.lent.sheet.now l.lent.stdin.now l.initial.work (given l.lent) (scope_of l.scope) (course_of l.initial.pace l.initial.feed) l.r l.a l.b l.work (course_of l.pace l.feed) l.flag l.left

abbrev pub decreases-repeat-loop-test : goal.decreases-repeat-loop-test
decreases-repeat-loop-test l = l.left
