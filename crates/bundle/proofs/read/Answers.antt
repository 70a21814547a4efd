use mathlib.Core.Path.{sym, ◌∙◌}
use native.Mathlib.Omega.{arith}
use Rattle.bundle.proofs.Judging.{over, no_limits, odd_limits_lem, no_sheet, no_arguments, no_input, more, all}
use Rattle.bundle.proofs.read.Goals as goal

pub returns-then-bytes-gt-MOST_BYTES : goal.returns-then-bytes-gt-MOST_BYTES
returns-then-bytes-gt-MOST_BYTES c = over _ (omega arith)

pub returns-in_err-limits : goal.returns-in_err-limits
returns-in_err-limits c = c.from_residual.ensures ∙ no_limits _ (sym c.in_err-limits.was ∙ c.find.ensures)

pub returns-then-limits-ne14 : goal.returns-then-limits-ne14
returns-then-limits-ne14 c = odd_limits_lem _ (sym c.in_ok-limits.was ∙ c.find.ensures) (λ e. omega (arith, c.if-limits-ne14.true, e))

pub returns-in_err-sheet : goal.returns-in_err-sheet
returns-in_err-sheet c = c.from_residual-in_err-sheet.ensures ∙ no_sheet _ (sym c.in_ok-limits.was ∙ c.find.ensures) (sym c.in_err-sheet.was ∙ c.find-2.ensures)

pub returns-in_err-arguments : goal.returns-in_err-arguments
returns-in_err-arguments c = c.from_residual-in_err-arguments.ensures ∙ no_arguments _ (sym c.in_ok-limits.was ∙ c.find.ensures) (sym c.in_ok-sheet.was ∙ c.find-2.ensures) (sym c.in_err-arguments.was ∙ c.find-3.ensures)

pub returns-in_err-input : goal.returns-in_err-input
returns-in_err-input c = c.from_residual-in_err-input.ensures ∙ no_input _ (sym c.in_ok-limits.was ∙ c.find.ensures) (sym c.in_ok-sheet.was ∙ c.find-2.ensures) (sym c.in_ok-arguments.was ∙ c.find-3.ensures) (sym c.in_err-input.was ∙ c.find-4.ensures)

pub returns-then-input-bytes : goal.returns-then-input-bytes
returns-then-input-bytes c = more _ (sym c.in_ok-limits.was ∙ c.find.ensures) (sym c.in_ok-sheet.was ∙ c.find-2.ensures) (sym c.in_ok-arguments.was ∙ c.find-3.ensures) (sym c.in_ok-input.was ∙ c.find-4.ensures) (λ e. omega (arith, c.if-input-bytes.true, e))

pub returns : goal.returns
returns c = all _ (sym c.in_ok-limits.was ∙ c.find.ensures) (sym c.in_ok-sheet.was ∙ c.find-2.ensures) (sym c.in_ok-arguments.was ∙ c.find-3.ensures) (sym c.in_ok-input.was ∙ c.find-4.ensures) c.if-bytes-gt-MOST_BYTES.false (omega (arith, c.if-limits-ne14.false)) (omega (arith, c.if-input-bytes.false))
    (λ j. record { loops = c.wide_number.ensures.0 j; stack = c.number_at.ensures.0 j; budget = c.wide_number-2.ensures.0 j })
