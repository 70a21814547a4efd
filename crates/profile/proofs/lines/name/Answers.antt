use Prim.Native.Nat.{ℕ, zero, suc}
use native.Mathlib.Omega.{arith}
use mathlib.Core.Path.{◌≡◌, refl}
use mathlib.Core.List.{List}
use Rattle.rules.specs.Syntax.{Function}
use Rattle.text.specs.declared.page.Page.{Page}
use Rattle.text.specs.Put.{Fitted}
use Rattle.text.specs.Names.{function_name}
use Rattle.text.proofs.Ends.{fitted, wrote_end}
use Rattle.profile.specs.Lines.{name_of}
use Rattle.profile.proofs.lines.name.Goals as goal

named : (functions : List Function) (f : ℕ) {p q : Page} → (f ≡ 0 → ⊥) → Fitted 63 (function_name functions f) p q → Fitted 63 (name_of functions f) p q
unfolding name_of
named functions zero h w = absurd (h refl)
named functions (suc f) h w = w

pub returns-then-f-eq0 : goal.returns-then-f-eq0
unfolding name_of
returns-then-f-eq0 c = rw c.if-f-eq0.true (fitted c.word.ensures (omega (arith, wrote_end c.word.ensures)))

pub returns-else-f-eq0 : goal.returns-else-f-eq0
returns-else-f-eq0 c = named _ _ c.if-f-eq0.false c.write.ensures
