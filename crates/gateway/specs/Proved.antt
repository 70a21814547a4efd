-- Everything that is proved of this crate, a field a claim. The contract of `claims_hold` asks for it, so that a claim cannot lose its proof unnoticed.
use Rattle.gateway.specs.Claims.{OneNumber, EveryRefusalRead, PlainUpToTen, EveryEndSmall, NumberFixesAnswer, OneGraphNumber, EveryGraphRefusalRead, EveryGraphEndRead}

pub record Proved : Type 0 where
  pub one_number : OneNumber
  pub every_refusal_read : EveryRefusalRead
  pub plain_up_to_ten : PlainUpToTen
  pub every_end_small : EveryEndSmall
  pub number_fixes_answer : NumberFixesAnswer
  -- with the call graph
  pub one_graph_number : OneGraphNumber
  pub every_graph_refusal_read : EveryGraphRefusalRead
  pub every_graph_end_read : EveryGraphEndRead
