-- Everything that is proved of this crate, a field a claim. The contract of `claims_hold` asks for it, so that a claim cannot lose its proof unnoticed.
use Rattle.result.specs.Claims.{EverySheetFits, EveryEndFits, BytesFixSheet, WritingFixed, CountersAreProfile, EndIsRuling}

pub record Proved : Type 0 where
  pub every_sheet_fits : EverySheetFits
  pub every_end_fits : EveryEndFits
  pub bytes_fix_sheet : BytesFixSheet
  pub writing_fixed : WritingFixed
  pub counters_are_profile : CountersAreProfile
  pub end_is_ruling : EndIsRuling
