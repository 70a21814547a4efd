use borrow.Author.Rules.{rules}
use Rattle.bundle.proofs.Standing.{kept}
use Rattle.bundle.proofs.find.Goals as goal

pub returns : goal.returns
returns c = kept _ _ _ (λ x t k. search rules) c.next_record.ensures c.filter.ensures
