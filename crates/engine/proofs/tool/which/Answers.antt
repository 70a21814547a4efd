use native.Mathlib.Omega.{arith}
use mathlib.Core.Path.{◌≡◌, refl, ap}
use mathlib.Core.Bool.{Bool, true, false}
use mathlib.Core.List.{[], ◌∷◌}
use lib.ListN.{length, get_or}
use Rattle.rules.specs.Syntax.{Bytes}
use Rattle.rules.specs.Words.{Other, same, utility_of}
use Rattle.rules.proofs.Slices.{same-is}
use Rattle.engine.proofs.tool.which.Goals as goal

-- a name that differs from each of the six is no utility's
not-same : (n t : Bytes) → (n ≡ t → ⊥) → same n t ≡ false
not-same n t h = go (same n t) refl
  where
    go : (b : Bool) → same n t ≡ b → b ≡ false
    go true e = absurd (h (same-is n t e))
    go false e = refl

other : (n : Bytes) → (n ≡ 116 ∷ 114 ∷ 117 ∷ 101 ∷ [] → ⊥) → (n ≡ 102 ∷ 97 ∷ 108 ∷ 115 ∷ 101 ∷ [] → ⊥) → (n ≡ 101 ∷ 99 ∷ 104 ∷ 111 ∷ [] → ⊥) → (n ≡ 116 ∷ 101 ∷ 115 ∷ 116 ∷ [] → ⊥)
    → (n ≡ 99 ∷ 97 ∷ 116 ∷ [] → ⊥) → (n ≡ 101 ∷ 110 ∷ 118 ∷ [] → ⊥) → Other ≡ utility_of n
other n a b c d e f = rw (not-same n _ a, not-same n _ b, not-same n _ c, not-same n _ d, not-same n _ e, not-same n _ f) refl

-- what bytes that are equal have in common
alike : {n t : Bytes} → n ≡ t → (length n ≡ length t) × (get_or n 0 0 ≡ get_or t 0 0) × (get_or n 1 0 ≡ get_or t 1 0) × (get_or n 2 0 ≡ get_or t 2 0) × (get_or n 3 0 ≡ get_or t 3 0) × (get_or n 4 0 ≡ get_or t 4 0)
alike h = (ap length h, ap (λ l. get_or l 0 0) h, ap (λ l. get_or l 1 0) h, ap (λ l. get_or l 2 0) h, ap (λ l. get_or l 3 0) h, ap (λ l. get_or l 4 0) h)

pub returns-in_default : goal.returns-in_default
returns-in_default c = other c.args.name.now (λ h. omega (arith, alike h)) (λ h. omega (arith, alike h)) (λ h. omega (arith, alike h)) (λ h. omega (arith, alike h)) (λ h. omega (arith, alike h)) (λ h. omega (arith, alike h))

pub returns-in_default-5 : goal.returns-in_default-5
returns-in_default-5 c = other c.args.name.now (λ h. omega (arith, alike h)) (λ h. omega (arith, alike h)) (λ h. omega (arith, alike h)) (λ h. omega (arith, alike h)) (λ h. omega (arith, alike h)) (λ h. omega (arith, alike h))

pub returns-in_default-6 : goal.returns-in_default-6
returns-in_default-6 c = other c.args.name.now (λ h. omega (arith, alike h)) (λ h. omega (arith, alike h)) (λ h. omega (arith, alike h)) (λ h. omega (arith, alike h)) (λ h. omega (arith, alike h)) (λ h. omega (arith, alike h))

pub returns-in_default-14 : goal.returns-in_default-14
returns-in_default-14 c = other c.args.name.now (λ h. omega (arith, alike h)) (λ h. omega (arith, alike h)) (λ h. omega (arith, alike h)) (λ h. omega (arith, alike h)) (λ h. omega (arith, alike h)) (λ h. omega (arith, alike h))

pub returns-in_default-15 : goal.returns-in_default-15
returns-in_default-15 c = other c.args.name.now (λ h. omega (arith, alike h)) (λ h. omega (arith, alike h)) (λ h. omega (arith, alike h)) (λ h. omega (arith, alike h)) (λ h. omega (arith, alike h)) (λ h. omega (arith, alike h))

pub returns-in_default-20 : goal.returns-in_default-20
returns-in_default-20 c = other c.args.name.now (λ h. omega (arith, alike h)) (λ h. omega (arith, alike h)) (λ h. omega (arith, alike h)) (λ h. omega (arith, alike h)) (λ h. omega (arith, alike h)) (λ h. omega (arith, alike h))

pub returns-in_default-21 : goal.returns-in_default-21
returns-in_default-21 c = other c.args.name.now (λ h. omega (arith, alike h)) (λ h. omega (arith, alike h)) (λ h. omega (arith, alike h)) (λ h. omega (arith, alike h)) (λ h. omega (arith, alike h)) (λ h. omega (arith, alike h))
