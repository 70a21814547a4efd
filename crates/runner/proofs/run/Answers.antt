use Rattle.std.proofs.lemmas.Result.{err_from_is_err_and}
use Rattle.runner.proofs.Beginning.{sizes_small, sizes_odd, kept}
use Rattle.runner.proofs.run.Goals as goal
use Rattle.runner.proofs.run.Goals.{then-res-lt-RESULT_BYTES-via-then-res-lt-RESULT_BYTES, then-res-lt-RESULT_BYTES-via-else-res-lt-RESULT_BYTES+then-work-ne-WORK_BYTES}

pub returns-then-res-lt-RESULT_BYTES : goal.returns-then-res-lt-RESULT_BYTES
returns-then-res-lt-RESULT_BYTES c =
    elim c.then-res-lt-RESULT_BYTES.branch [
      | then-res-lt-RESULT_BYTES-via-then-res-lt-RESULT_BYTES w ↦ sizes_small _ _ _ _ _ _ _ _ w.if-res-lt-RESULT_BYTES.true
      | then-res-lt-RESULT_BYTES-via-else-res-lt-RESULT_BYTES+then-work-ne-WORK_BYTES w ↦ sizes_odd _ _ _ _ _ _ _ _ w.if-res-lt-RESULT_BYTES.false w.if-work-ne-WORK_BYTES.true
    ]

pub returns-in_err-done : goal.returns-in_err-done
returns-in_err-done c =
    let p = err_from_is_err_and c.from_residual.result c.from_residual.ensures.1 in
    rw (p.1, p.2)
    (kept _ _ _ _ _ _ _ _ c.if-res-lt-RESULT_BYTES.false c.if-work-ne-WORK_BYTES.false c.clear.ensures c.in_err-done.ensures c.clear-2.ensures)
