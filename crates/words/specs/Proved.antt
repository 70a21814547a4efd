-- Everything that is proved of this crate, a field a claim. The contract of `claims_hold` asks for it, so that a claim cannot lose its proof unnoticed.
use Rattle.std.specs.Prelude.{ℕ}
use Rattle.words.specs.Words.{given_of, scope_of, pace_of, feed_of, end_of}
use Rattle.words.specs.Claims.{OneNumber, PartsAdmitMany}

pub record Proved : Type 0 where
  pub limits : (unit : ℕ) → OneNumber (given_of unit)
  pub scopes : OneNumber scope_of
  pub paces : OneNumber pace_of
  pub feeds : OneNumber feed_of
  pub ends : OneNumber end_of
  pub parts_admit_many : PartsAdmitMany
