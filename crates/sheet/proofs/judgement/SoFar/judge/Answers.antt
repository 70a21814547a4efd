use mathlib.Core.Path.{◌≡◌, sym, ◌∙◌}
use native.Mathlib.Omega.{arith}
use Rattle.std.proofs.lemmas.Result.{err_from_is_err_and}
use Rattle.sheet.specs.declared.Fault.TheVariants.{Faulty}
use Rattle.sheet.specs.Earlier.{known_at}
use Rattle.sheet.proofs.Records.{count-known}
use Rattle.sheet.proofs.Judged.{cut_short_lem, begins, inside, coded-wrong, coded-variable, coded-function, coded-other, name-first, name-function}
use Rattle.sheet.proofs.judgement.SoFar.judge.Goals as goal

pub returns-in_err-bounds : goal.returns-in_err-bounds
returns-in_err-bounds c =
    let p = err_from_is_err_and c.from_residual.result c.from_residual.ensures.1 in
    let none = c.in_err-bounds.ensures.ok_part in
    let told = rw none at c.in_err-bounds.ensures.value in
    let why : c.in_err-bounds.field-0.0 ≡ Faulty = cc in
    rw (p.1, p.2, why) (sym (cut_short_lem c.args.self.ready (sym none ∙ c.next_record.ensures)))

pub slice_bounds-part-count : goal.slice_bounds-part-count
slice_bounds-part-count c = begins c.args.self.ready (sym c.in_ok-bounds.ensures.ok_part ∙ c.next_record.ensures)

pub slice_bounds-part-start : goal.slice_bounds-part-start
slice_bounds-part-start c = begins c.args.self.ready (sym c.in_ok-bounds.ensures.ok_part ∙ c.next_record.ensures)

pub slice_bounds-part-end : goal.slice_bounds-part-end
slice_bounds-part-end c = inside c.args.self.ready (sym c.in_ok-bounds.ensures.ok_part ∙ c.next_record.ensures)

pub returns-then-not-right : goal.returns-then-not-right
returns-then-not-right c =
    let wrong = rw c.earlier.ensures.known at (sym c.right.ensures ∙ c.if-not-right.true) in
    sym (coded-wrong c.args.self.ready (sym c.in_ok-bounds.ensures.ok_part ∙ c.next_record.ensures) wrong)

pub variable-requires : goal.variable-requires
variable-requires c =
    let good = rw c.earlier.ensures.known at (sym c.right.ensures ∙ c.if-not-right.false) in
    omega (arith, c.number-r.ensures.0, name-first (known_at c.args.self) _ _ good (sym c.names_variable.ensures ∙ c.if-names_variable.true), count-known c.args.self.sheet.now c.args.self.counts.records)

pub returns-then-names_variable : goal.returns-then-names_variable
returns-then-names_variable c =
    let good = rw c.earlier.ensures.known at (sym c.right.ensures ∙ c.if-not-right.false) in
    c.variable.ensures ∙ sym (coded-variable c.args.self.ready (sym c.in_ok-bounds.ensures.ok_part ∙ c.next_record.ensures) good _ c.number-r.ensures.0 (sym c.names_variable.ensures ∙ c.if-names_variable.true))

pub function-requires : goal.function-requires
function-requires c =
    let good = rw c.earlier.ensures.known at (sym c.right.ensures ∙ c.if-not-right.false) in
    omega (arith, c.number-r.ensures.0, name-function (known_at c.args.self) _ _ good c.if-bounds-eq-FUNCTION.true, count-known c.args.self.sheet.now c.args.self.counts.records)

pub returns-then-bounds-eq-FUNCTION : goal.returns-then-bounds-eq-FUNCTION
returns-then-bounds-eq-FUNCTION c =
    let good = rw c.earlier.ensures.known at (sym c.right.ensures ∙ c.if-not-right.false) in
    c.function.ensures ∙ sym (coded-function c.args.self.ready (sym c.in_ok-bounds.ensures.ok_part ∙ c.next_record.ensures) good _ c.number-r.ensures.0 c.if-bounds-eq-FUNCTION.true)

pub returns-else-bounds-eq-FUNCTION : goal.returns-else-bounds-eq-FUNCTION
returns-else-bounds-eq-FUNCTION c =
    let good = rw c.earlier.ensures.known at (sym c.right.ensures ∙ c.if-not-right.false) in
    sym (coded-other c.args.self.ready (sym c.in_ok-bounds.ensures.ok_part ∙ c.next_record.ensures) good (sym c.names_variable.ensures ∙ c.if-names_variable.false) c.if-bounds-eq-FUNCTION.false)
