use mathlib.Core.Path.{sym, ◌∙◌}
use Rattle.std.proofs.lemmas.Result.{err_from_is_err_and}
use Rattle.runner.proofs.Beginning.{limits-answer, sheet-answer, sheeted}
use Rattle.runner.proofs.limited.Goals as goal

pub returns-then-wrong_limits : goal.returns-then-wrong_limits
returns-then-wrong_limits c = limits-answer c.requires _ _ _ _ _ _ (sym c.wrong_limits.ensures ∙ c.if-wrong_limits.true)

pub returns-in_err-found : goal.returns-in_err-found
returns-in_err-found c =
    let p = err_from_is_err_and c.from_residual.result c.from_residual.ensures.1 in
    rw (p.1, p.2)
    (sheet-answer c.requires _ _ _ _ _ _ (sym c.wrong_limits.ensures ∙ c.if-wrong_limits.false) c.in_err-found.ensures.table_after
    c.in_err-found.field-0.0 c.in_err-found.ensures.number)

pub checked-requires : goal.checked-requires
checked-requires c =
    sheeted c.requires _ c.args.arguments.now _ _ _ _ (sym c.wrong_limits.ensures ∙ c.if-wrong_limits.false) c.in_ok-found.ensures.table_after
    c.in_ok-found.found c.in_ok-found.ensures.value
