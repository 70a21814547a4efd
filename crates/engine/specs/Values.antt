-- What an instruction, a string and a list come to, with the course that they leave.
use Rattle.std.specs.Prelude.{Bool, ℕ}
use Rattle.rules.specs.declared.Behaviour.{Behaviour}
use Rattle.rules.specs.declared.Refusal.{Refusal}
use Rattle.memory.specs.declared.Course.{Course}

-- what an instruction or a run comes to
pub data RunEnd : Type 0 where
  Ended : Behaviour → Course → RunEnd
  Refused : (why : Refusal) → (place : ℕ) → RunEnd

pub data Text : Type 0 where
  Value : (length : ℕ) → (flag : Bool) → Course → Text
  Error : Course → Text
  Refused : (why : Refusal) → (place : ℕ) → Text

pub data Listing : Type 0 where
  Fields : (count : ℕ) → Course → Listing
  Error : Course → Listing
  Refused : (why : Refusal) → (place : ℕ) → Listing
