use native.Mathlib.Omega.{arith}
use Rattle.words.proofs.Digits.{as_bit, scope_made}
use Rattle.words.proofs.scope.scope.Goals as goal

pub overflow_add-number-2 : goal.overflow_add-number-2
overflow_add-number-2 c = omega (arith, as_bit _ c.from.ensures, as_bit _ c.from-2.ensures, as_bit _ c.from-3.ensures, c.requires)

pub overflow_add-number-3 : goal.overflow_add-number-3
overflow_add-number-3 c = omega (arith, as_bit _ c.from.ensures, as_bit _ c.from-2.ensures, as_bit _ c.from-3.ensures, c.requires)

pub returns : goal.returns
returns c =
    let s = c.requires in
    let f = as_bit _ c.from.ensures in
    let g = as_bit _ c.from-2.ensures in
    let h = as_bit _ c.from-3.ensures in
    scope_made _ _ _ _ _ _ _ _ _ _ _ _ f.0 g.0 h.0 f.1 g.1 h.1 s.0 s.1 s.2 s.3 s.4 s.5
