-- What is proved of the numbers. The proofs are in proofs/Theorems.antt.
use Rattle.std.specs.Prelude.{◌≡◌, ℕ, ◌+◌}
use Rattle.words.specs.Words.{Number, pace_in}

-- ONE RESULT --------------------------------------------------------------------------------------------------------

-- A maker's promise admits one number, whatever the number stands for.
abbrev pub OneNumber : {N A : Type 0} → (of : N → A) → Type 0
OneNumber {N} {A} of = (what : A) (n r s : N) → Number of what n r → Number of what n s → r ≡ s

-- The parts alone would admit many: a pace has no digits from 2^32 on.
abbrev pub PartsAdmitMany : Type 0
PartsAdmitMany = (n : ℕ) → pace_in (n + 4294967296) ≡ pace_in n
