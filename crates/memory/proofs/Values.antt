-- The value of an embedded command, read off the end of the stream that it wrote.
-- Assumes nothing.
use Prim.Native.Nat.{ℕ, ◌+◌, ◌-◌, ◌<◌}
use native.Mathlib.Omega.{arith}
use mathlib.Core.Path.{◌≡◌, refl, sym, ap, ◌∙◌}
use mathlib.Core.List.{List, [], ◌∷◌, ◌++◌}
use lib.ListN.{get_or}
use Rattle.rules.specs.Words.{embedded_value}
use Rattle.rules.proofs.Embedded.{value-newline, value-other}
use Rattle.memory.specs.Layout.{part}
use Rattle.memory.proofs.Parts.{part-more}

-- a part that is not empty, by its last byte
part-last : (w : List ℕ) (a n : ℕ) → 0 < n → part w a n ≡ part w a (n - 1) ++ get_or w (a + n - 1) 0 ∷ []
part-last w a n h =
    let e : n ≡ (n - 1) + 1 = omega arith in
    let d : a + (n - 1) ≡ a + n - 1 = omega arith in
    ap (part w a) e ∙ part-more w a (n - 1) ∙ ap (λ k. part w a (n - 1) ++ get_or w k 0 ∷ []) d

pub value_none : (w : List ℕ) (a : ℕ) → embedded_value (part w a 0) ≡ part w a 0
unfolding part
value_none w a = refl

pub value_shorter : (w : List ℕ) (a n : ℕ) → 0 < n → get_or w (a + n - 1) 0 ≡ 10 → embedded_value (part w a n) ≡ embedded_value (part w a (n - 1))
value_shorter w a n h e = ap embedded_value (part-last w a n h) ∙ ap (λ c. embedded_value (part w a (n - 1) ++ c ∷ [])) e ∙ value-newline (part w a (n - 1))

pub value-whole : (w : List ℕ) (a n : ℕ) → 0 < n → ¬ (get_or w (a + n - 1) 0 ≡ 10) → embedded_value (part w a n) ≡ part w a n
value-whole w a n h e = ap embedded_value (part-last w a n h) ∙ value-other (part w a (n - 1)) _ e ∙ sym (part-last w a n h)
