-- Everything that is proved of this crate, a field a claim. The contract of `claims_hold` asks for it, so that a claim cannot lose its proof unnoticed.
use Rattle.sheet.specs.Claims.{AcceptedExactly, ProgramOfRecords, RefusedExactly, OneFault, NoFault, OnlyThreeOrFour, WellFormedIsGood}
use Rattle.sheet.specs.Claims.{ArgumentsExactly}

pub record Proved : Type 0 where
  pub accepted_exactly : AcceptedExactly
  pub program_of_records : ProgramOfRecords
  pub refused_exactly : RefusedExactly
  pub one_fault : OneFault
  pub no_fault : NoFault
  pub only_three_or_four : OnlyThreeOrFour
  pub well_formed_is_good : WellFormedIsGood
  pub arguments_exactly : ArgumentsExactly
