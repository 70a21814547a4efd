use Rattle.hexlines.proofs.Digits.{digit_figure, digit_letter}
use Rattle.hexlines.proofs.digit.Goals as goal

pub returns-then-low-lt10 : goal.returns-then-low-lt10
returns-then-low-lt10 c = digit_figure _ c.if-low-lt10.true

pub returns-else-low-lt10 : goal.returns-else-low-lt10
returns-else-low-lt10 c = digit_letter _ c.if-low-lt10.false
