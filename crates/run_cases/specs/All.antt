-- A memory of one byte over and over.
use Rattle.std.specs.Prelude.{Bool, true, ◌&&◌, List, [], ◌∷◌, ℕ, eqb}

unfoldable pub all : (byte : ℕ) → List ℕ → Bool
all b [] = true
all b (x ∷ s) = eqb x b && all b s
