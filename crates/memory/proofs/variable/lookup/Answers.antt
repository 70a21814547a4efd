use mathlib.Core.Path.{◌∙◌}
use Rattle.memory.proofs.Texts.{looked-text, looked-unset, looked-set}
use Rattle.memory.proofs.variable.lookup.Goals as goal

pub returns-in-Text : goal.returns-in-Text
returns-in-Text c = looked-text _ _ _ _ _ c.in-Text.is c.requires

pub returns-then-work-slot-eq0 : goal.returns-then-work-slot-eq0
returns-then-work-slot-eq0 c = looked-unset _ _ _ _ c.in-Variable.is c.if-work-slot-eq0.true

pub returns-else-work-slot-eq0 : goal.returns-else-work-slot-eq0
returns-else-work-slot-eq0 c = c.text.ensures.0 ∙ looked-set _ _ _ _ c.in-Variable.is c.if-work-slot-eq0.false
