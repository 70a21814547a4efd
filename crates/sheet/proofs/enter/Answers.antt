use mathlib.Core.Path.{◌≡◌, sym, ◌∙◌, ap}
use native.Mathlib.Omega.{arith}
use Prim.Native.Nat.{ℕ, ◌+◌}
use lib.ListN.{take, drop}
use borrow.Author.Tests.{eq-eqb}
use Rattle.rules.specs.Syntax.{Bytes}
use Rattle.sheet.specs.Format.{number}
use Rattle.sheet.specs.Check.{known}
use Rattle.sheet.proofs.Records.{count-known}
use Rattle.sheet.proofs.Judged.{at-end, functions-count, taken_is}
use Rattle.sheet.proofs.Sound.{fine-room, fine-functions, slot_small}
use Rattle.sheet.proofs.Entered.{entered-counts, entered_table}
use Rattle.sheet.proofs.enter.Goals as goal

pub slice_bounds-part-end : goal.slice_bounds-part-end
slice_bounds-part-end c = omega (arith, fine-room c.args.sheet.now (known c.args.sheet.now c.args.c.records) c.requires.records_value.0, at-end c.requires.ready, ap (number c.args.sheet.now) (at-end c.requires.ready), c.number-size.ensures.0)

pub enter_function-functions-requires-clause-count_bound : goal.enter_function-functions-requires-clause-count_bound
enter_function-functions-requires-clause-count_bound c e =
    let s = c.args.sheet.now in
    let f : c.args.c.functions ≡ _ = functions-count c.requires.ready in
    let is = eq-eqb _ 32 (sym (c.number-kind.ensures.0 ∙ ap (λ (a : ℕ). number s (a + 2)) (at-end c.requires.ready)) ∙ e) in
    let m = fine-functions s (known s c.args.c.records) c.requires.records_value.0 is in
    omega arith

pub put-requires-2 : goal.put-requires-2
put-requires-2 c = omega (arith, slot_small c.args.sheet.now (known c.args.sheet.now c.args.c.records) c.requires.records_value.0, c.requires.records_value.1, c.requires.records_value.2, c.requires.ready.held.room, c.put.auto, c.enter_function-functions.auto, c.enter_variable-variables.auto)

pub returns-clause-value : goal.returns-clause-value
returns-clause-value c =
    let s = c.args.sheet.now in
    let n = c.args.c.records in
    entered-counts s (known s n) n c.args.c.at c.number-size.result c.number-kind.result c.enter_variable-variables.result
    c.args.c.functions c.enter_function-functions.result (sym (count-known s n)) (at-end c.requires.ready) c.number-size.ensures.0
    c.number-kind.ensures.0 c.enter_variable-variables.ensures.value c.enter_function-functions.ensures.value (functions-count c.requires.ready)

pub returns-clause-table_after : goal.returns-clause-table_after
returns-clause-table_after c =
    let s = c.args.sheet.now in
    let n = c.args.c.records in
    let at = c.args.c.at in
    let size = c.number-size.result in
    -- the part that is read is the payload
    let part = taken_is s at size c.number-size.ensures.0 ∙ ap (λ (a : ℕ). take (number s a) (drop (a + 4) s)) (at-end c.requires.ready) in
    entered_table s (known s n) n at size c.number-kind.result c.enter_variable-variables.result c.args.c.functions c.enter_function-functions.result
    (sym (count-known s n)) (at-end c.requires.ready) c.number-size.ensures.0 c.number-kind.ensures.0 c.enter_variable-variables.ensures.value
    c.enter_function-functions.ensures.value (functions-count c.requires.ready) c.args.table.now _ _ _ _ c.args.slot c.number-r.result c.number-body.result
    (c.number-r.ensures.0 ∙ ap (λ (p : Bytes). number p 0) part) (c.number-body.ensures.0 ∙ ap (λ (p : Bytes). number p 2) part)
    c.requires.records_value.1 c.enter_variable-variables.ensures.table_after c.enter_function-functions.ensures.table_after c.put.ensures c.put-2.ensures
