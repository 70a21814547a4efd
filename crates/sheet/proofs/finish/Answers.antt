use mathlib.Core.Path.{ap, ◌∙◌}
use Rattle.rules.specs.Syntax.{Bytes}
use Rattle.sheet.specs.Format.{number}
use Rattle.sheet.specs.Check.{known}
use Rattle.sheet.proofs.Finished.{completed, main-is}
use Rattle.sheet.proofs.finish.Goals as goal

pub returns-clause-completed : goal.returns-clause-completed
returns-clause-completed c =
    let s = c.args.sheet.now in
    let n = c.args.c.records in
    let body = main-is s n c.number-body.result (c.number-body.ensures.0 ∙ ap (λ (p : Bytes). number p 0) c.payload.ensures) in
    completed (known s n) c.args.table.now _ _ _ c.number-body.result body c.calls.ensures c.put.ensures c.put-2.ensures
