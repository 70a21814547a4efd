-- Numbers as the records of a sheet and of a result sheet have them: low byte first.
use Rattle.std.specs.Prelude.{[], ◌∷◌, ℕ, ◌+◌, ◌*◌, ◌/◌, ◌%◌, get_or}
use Rattle.rules.specs.Syntax.{Bytes}

-- WRITTEN -----------------------------------------------------------------------------------------------------------

abbrev pub two_bytes : ℕ → Bytes
two_bytes n = n % 256 ∷ n / 256 ∷ []

abbrev pub four_bytes : ℕ → Bytes
four_bytes n = n % 256 ∷ n / 256 % 256 ∷ n / 65536 % 256 ∷ n / 16777216 ∷ []

-- READ --------------------------------------------------------------------------------------------------------------

-- the number in the two bytes at i; a byte past the end is 0
unfoldable pub number : Bytes → (i : ℕ) → ℕ
number s i = get_or s i 0 + 256 * get_or s (i + 1) 0

-- the number in the four bytes at i
unfoldable pub long_number : Bytes → (i : ℕ) → ℕ
long_number s i = get_or s i 0 + 256 * get_or s (i + 1) 0 + 65536 * get_or s (i + 2) 0 + 16777216 * get_or s (i + 3) 0
