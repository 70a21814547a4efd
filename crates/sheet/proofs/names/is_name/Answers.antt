use mathlib.Core.Path.{◌≡◌, refl, sym, ap, ◌∙◌}
use mathlib.Core.Bool.{◌&&◌}
use mathlib.Core.List.{[], ◌∷◌}
use borrow.Author.Rules.{rules}
use Rattle.std.proofs.Common.{tests}
use Rattle.std.specs.List.{list_all}
use Rattle.std.proofs.lemmas.Iterator.{YieldsList-from_slice}
use Rattle.std.proofs.lemmas.Iterator.Search.{all_from_yields_List}
use Rattle.rules.specs.Syntax.{Bytes}
use Rattle.sheet.specs.Format.{is_name, is_later, all_later}
use Rattle.sheet.proofs.names.is_name.Goals as goal

later_all : (b : Bytes) → list_all is_later b ≡ all_later b
unfolding all_later
later_all [] = refl
later_all (c ∷ b) = ap (λ t. is_later c && t) (later_all b)

pub returns-then-is_first : goal.returns-then-is_first
unfolding is_name
returns-then-is_first c =
    let first = sym c.is_first.ensures ∙ c.if-is_first.true in
    let all = all_from_yields_List is_later _ _ c.all.result c.all.ensures.ran (YieldsList-from_slice c.in-Some.rest.now cc) (λ x b q k. search (rules, tests)) in
    rw (c.in-Some.ensures.cases.0, first) (all ∙ later_all c.in-Some.rest.now)
