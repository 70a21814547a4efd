use mathlib.Core.Path.{◌∙◌, ap}
use Prim.Native.Nat.{◌+◌, ◌*◌}
use mathlib.Core.List.{[], ◌∷◌}
use borrow.Author.Tests.{eq-eqb}
use Rattle.rules.specs.Syntax.{Bytes}
use Rattle.sheet.specs.Table.{written}
use Rattle.sheet.proofs.Entered.{written-two}
use Rattle.sheet.proofs.enter_function.Goals as goal

pub returns-clause-table_after : goal.returns-clause-table_after
returns-clause-table_after c =
    rw (eq-eqb c.args.kind 32 c.if-kind-ne-FUNCTION.false)
    (c.put-2.ensures
    ∙ ap (λ (b : Bytes). written b (3076 + 4 * c.args.count + 2) (c.args.r ∷ [])) c.put.ensures
    ∙ written-two c.args.table.now (3076 + 4 * c.args.count) c.args.body c.args.r)
