-- Everything that is proved of this crate, a field a claim. The contract of `claims_hold` asks for it, so that a claim cannot lose its proof unnoticed.
use Rattle.hexlines.specs.Claims.{RoundTrip}

pub record Proved : Type 0 where
  pub round_trip : RoundTrip
