use native.Mathlib.Omega.{arith}
use mathlib.Core.Path.{sym, ◌∙◌}
use Rattle.hexlines.proofs.Scanning.{number-full, number_more, number-end}
use Rattle.hexlines.proofs.decimal.Goals as goal

pub returns-then-n-ge100000000000000000 : goal.returns-then-n-ge100000000000000000
returns-then-n-ge100000000000000000 c = sym (number-full _ c.loop-c.c-index c.loop-c.n (omega arith) (omega arith)) ∙ c.loop-c.invariant

pub loop-c-preserved : goal.loop-c-preserved
loop-c-preserved c = number_more c.args.text.now c.loop-c.c-index c.loop-c.n _ (omega arith) (omega arith) (c.from.ensures ∙ c.nibble.ensures.0) ∙ c.loop-c.invariant

pub returns : goal.returns
returns c = sym (number-end _ c.loop-c.c-index c.loop-c.n (omega arith)) ∙ c.loop-c.invariant
