use Prim.Native.Nat.{◌+◌, ◌-◌}
use native.Mathlib.Omega.{arith}
use mathlib.Core.Path.{◌≡◌, ◌∙◌}
use Rattle.hexlines.proofs.Digits.{value_figure, value_letter, value_none}
use Rattle.hexlines.proofs.nibble.Goals as goal

pub returns-in-48-to-57 : goal.returns-in-48-to-57
returns-in-48-to-57 c = (value_figure _ (omega arith) (omega arith), omega arith)

pub returns-in-97-to-102 : goal.returns-in-97-to-102
returns-in-97-to-102 c = (let e : c.args.c - 97 + 10 ≡ c.args.c - 87 = omega arith in e ∙ value_letter _ (omega arith) (omega arith), omega arith)

pub returns-in_default : goal.returns-in_default
returns-in_default c = (value_none _ (λ a b. omega arith) (λ a b. omega arith), omega arith)

pub returns-in_default-2 : goal.returns-in_default-2
returns-in_default-2 c = (value_none _ (λ a b. omega arith) (λ a b. omega arith), omega arith)

pub returns-in_default-3 : goal.returns-in_default-3
returns-in_default-3 c = (value_none _ (λ a b. omega arith) (λ a b. omega arith), omega arith)
