-- Everything that is proved of this crate, a field a claim. The contract of `claims_hold` asks for it, so that a claim cannot lose its proof unnoticed.
use Rattle.text.specs.Claims.{DecimalReadsBack, DecimalIsDigits, NoLeadingZero}

pub record Proved : Type 0 where
  pub decimal_reads_back : DecimalReadsBack
  pub decimal_is_digits : DecimalIsDigits
  pub no_leading_zero : NoLeadingZero
