use Rattle.std.proofs.lemmas.Result.{err_from_is_err_and}
use Rattle.runner.proofs.Rendering.{writable, ends, halts}
use Rattle.runner.proofs.ready.Goals as goal

pub returns-in_err-end : goal.returns-in_err-end
returns-in_err-end c =
    let p = err_from_is_err_and c.from_residual.result c.from_residual.ensures.1 in
    rw (p.1, p.2) (halts c.requires c.in_err-end.ensures)

pub write-requires : goal.write-requires
write-requires c = writable c.requires c.in_ok-end.ensures

pub returns : goal.returns
returns c = ends c.requires c.in_ok-end.ensures c.write.ensures
