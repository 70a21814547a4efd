use mathlib.Core.Path.{sym, ◌∙◌}
use native.Mathlib.Omega.{arith}
use Rattle.std.proofs.lemmas.Result.{err_from_is_err_and}
use Rattle.runner.proofs.Preparing.{gives, takes, prepared}
use Rattle.runner.proofs.Answering.{no_arguments, ran, halted}
use Rattle.runner.proofs.checked.Goals as goal

pub returns-in_err-n : goal.returns-in_err-n
returns-in_err-n c =
    let p = err_from_is_err_and c.from_residual.result c.from_residual.ensures.1 in
    rw (p.1, p.2) (no_arguments c.requires _ _ c.in_err-n.ensures.value c.check_arguments.ensures.value)

pub take_arguments-requires : goal.take_arguments-requires
take_arguments-requires c = takes c.requires (gives _ _ (sym c.in_ok-n.ensures.ok_part ∙ c.check_arguments.ensures.value))

pub overflow_sub-n : goal.overflow_sub-n
overflow_sub-n c = omega (arith, (gives _ _ (sym c.in_ok-n.ensures.ok_part ∙ c.check_arguments.ensures.value)).some)

pub ready-requires : goal.ready-requires
ready-requires c = prepared c.requires (gives _ _ (sym c.in_ok-n.ensures.ok_part ∙ c.check_arguments.ensures.value)) c.take_arguments.ensures

pub returns-in_err-length : goal.returns-in_err-length
returns-in_err-length c =
    let p = err_from_is_err_and c.from_residual-in_err-length.result c.from_residual-in_err-length.ensures.1 in
    rw (p.1, p.2)
    (halted c.requires _ (gives _ _ (sym c.in_ok-n.ensures.ok_part ∙ c.check_arguments.ensures.value)) c.take_arguments.ensures c.in_err-length.ensures)

pub returns : goal.returns
returns c =
    ran c.requires _ (gives _ _ (sym c.in_ok-n.ensures.ok_part ∙ c.check_arguments.ensures.value)) c.take_arguments.ensures c.in_ok-length.ensures
