use mathlib.Core.Path.{sym, ◌∙◌}
use Rattle.sheet.proofs.ArgumentLaws.{text-cut, text-kind, text-begins, text-is}
use Rattle.sheet.proofs.texts.is_text.Goals as goal

pub returns-in_default : goal.returns-in_default
returns-in_default c = sym (text-cut _ _ (sym c.in_default.is ∙ c.next_record.ensures))

pub returns-then-bounds-ne-TEXT : goal.returns-then-bounds-ne-TEXT
returns-then-bounds-ne-TEXT c = sym (text-kind _ _ c.in-Some.ensures c.if-bounds-ne-TEXT.true)

pub overflow_sub-result : goal.overflow_sub-result
overflow_sub-result c = text-begins _ _ c.in-Some.ensures

pub returns : goal.returns
returns c = sym (text-is _ _ c.in-Some.ensures c.if-bounds-ne-TEXT.false)
