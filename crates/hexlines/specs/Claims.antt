-- What is proved of the definitions. The proofs are put together in proofs/Theorems.antt.
use Rattle.std.specs.Prelude.{◌≡◌, List, ℕ, ◌<◌, length, get_or}
use Rattle.hexlines.specs.Hex.{decoded, encoded}

-- What is encoded comes back.
abbrev pub RoundTrip : Type 0
RoundTrip = (s : List ℕ) → ((i : ℕ) → i < length s → get_or s i 0 < 256) → decoded (encoded s) ≡ s
