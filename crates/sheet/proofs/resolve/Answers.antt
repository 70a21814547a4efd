use mathlib.Core.Path.{sym, ap, ◌∙◌}
use Rattle.rules.specs.Syntax.{Bytes}
use Rattle.sheet.specs.Format.{number, place}
use Rattle.sheet.specs.Check.{known, payload_of, function_names}
use Rattle.sheet.proofs.Marks.{resolved-call, found-some, found-none}
use Rattle.sheet.proofs.resolve.Goals.{in-Some, in-None}
use Rattle.sheet.proofs.resolve.Goals as goal

pub returns : goal.returns
returns c =
    let K = known c.args.sheet.now c.args.n in
    let called = c.payload-2.ensures ∙ ap (payload_of K) (c.number-name.ensures.0 ∙ ap (λ (p : Bytes). number p 0) c.payload.ensures) in
    c.put.ensures
    ∙ resolved-call K c.args.table.now c.args.r c.match-find_function.number _ c.args.count (sym c.kind.ensures ∙ c.if-kind-ne-CALL.false) c.requires.0.functions_is
    (elim c.match-find_function.branch [ in-Some w ↦ w.number-is ∙ found-some _ _ _ w.in-Some.ensures | in-None w ↦ w.number-is ∙ found-none _ _ w.in-None.ensures ])
    (ap (λ (x : Bytes). place x (function_names K)) called)
