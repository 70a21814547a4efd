-- What is proved of the engine's promises. The proofs are in proofs/Theorems.antt.
use Rattle.std.specs.Prelude.{◌≡◌, ℕ}
use Rattle.rules.specs.Syntax.{Bytes}
use Rattle.engine.specs.Start.{Takes, Taken}

-- ONE RESULT --------------------------------------------------------------------------------------------------------

-- An accepted argument sheet admits one later work memory.
abbrev pub OneTaken : Type 0
OneTaken = (s w x y : Bytes) (u n : ℕ) → Takes s w u n → Taken s u w x → Taken s u w y → x ≡ y
