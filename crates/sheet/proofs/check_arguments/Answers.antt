use Rattle.sheet.proofs.ArgumentLaws.{given-none, given-more, given_is, five-none, five-more}
use Rattle.sheet.proofs.check_arguments.Goals as goal

pub returns-then-t-eq0-clause-value : goal.returns-then-t-eq0-clause-value
returns-then-t-eq0-clause-value c = given-none _ _ c.read_texts-t.ensures c.if-t-eq0.true

pub returns-then-t-eq0-clause-number : goal.returns-then-t-eq0-clause-number
returns-then-t-eq0-clause-number c = five-none _ _ c.read_texts-t.ensures c.if-t-eq0.true

pub returns-then-t-sheet-clause-value : goal.returns-then-t-sheet-clause-value
returns-then-t-sheet-clause-value c = given-more _ _ c.read_texts-t.ensures c.if-t-eq0.false c.if-t-sheet.true

pub returns-then-t-sheet-clause-number : goal.returns-then-t-sheet-clause-number
returns-then-t-sheet-clause-number c = five-more _ _ c.read_texts-t.ensures c.if-t-eq0.false c.if-t-sheet.true

pub returns-clause-value : goal.returns-clause-value
returns-clause-value c = given_is _ _ c.read_texts-t.ensures c.if-t-eq0.false c.if-t-sheet.false
