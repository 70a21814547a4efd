use native.Mathlib.Omega.{arith}
use mathlib.Core.Path.{sym, ◌∙◌}
use Rattle.sheet.proofs.ArgumentLaws.{reading-start, reading-next, reading_stop, reading-end}
use Rattle.sheet.proofs.texts.read_texts.Goals as goal

pub loop-n-init : goal.loop-n-init
loop-n-init c = reading-start _

pub returns-then-not-is_text : goal.returns-then-not-is_text
returns-then-not-is_text c = reading_stop c.loop-n.invariant c.loop-n-test.true (sym c.is_text.ensures ∙ c.if-not-is_text.true)

pub loop-n-preserved : goal.loop-n-preserved
loop-n-preserved c =
    reading-next c.loop-n.invariant _ c.loop-n-test.true
    (sym c.is_text.ensures ∙ c.if-not-is_text.false) c.number.ensures.0

pub returns : goal.returns
returns c = reading-end c.loop-n.invariant (omega arith)
