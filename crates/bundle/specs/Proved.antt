-- Everything that is proved of this crate, a field a claim. The contract of `claims_hold` asks for it, so that a claim cannot lose its proof unnoticed.
use Rattle.bundle.specs.Claims.{OneResult, AnswerTellsBundle, PartsLocated, WrittenIsRead, FittingIsBytes, NothingElseIsRead}

pub record Proved : Type 0 where
  pub one_result : OneResult
  pub answer_tells_bundle : AnswerTellsBundle
  pub parts_located : PartsLocated
  pub written_is_read : WrittenIsRead
  pub fitting_is_bytes : FittingIsBytes
  pub nothing_else_is_read : NothingElseIsRead
