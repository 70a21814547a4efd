-- How a rule goes on from what a part of it came to.
use Rattle.std.specs.Prelude.{Bool, true, false}
use Rattle.rules.specs.declared.Behaviour.{Behaviour}
use Rattle.rules.specs.declared.Behaviour.TheVariants.{Normal, Return, Exit, Failure}
use Rattle.rules.specs.State.{Evaluated, error, value, Run, give}

-- next after Normal; any other behaviour passes through
unfoldable pub if_normal : Behaviour → (next : Run Behaviour) → Run Behaviour
if_normal Normal next = next
if_normal Return next = give Return
if_normal Exit next = give Exit
if_normal Failure next = give Failure

-- next unless Failure, which gives the answer a
unfoldable pub unless_failure : {A : Type 0} → Behaviour → (a : A) → (next : Run A) → Run A
unless_failure Normal a next = next
unless_failure Return a next = next
unless_failure Exit a next = next
unless_failure Failure a next = give a

-- next with the value, unless an error, which gives the answer b
unfoldable pub unless_error : {A B : Type 0} → Evaluated A → (b : B) → (next : A → Run B) → Run B
unless_error error b next = give b
unless_error (value a) b next = next a

-- Return ends at the call, which is then Normal
abbrev pub returned : Behaviour → Behaviour
returned Normal = Normal
returned Return = Normal
returned Exit = Exit
returned Failure = Failure

-- what code asks of a behaviour

abbrev pub is_normal : Behaviour → Bool
is_normal Normal = true
is_normal Return = false
is_normal Exit = false
is_normal Failure = false

abbrev pub is_failure : Behaviour → Bool
is_failure Normal = false
is_failure Return = false
is_failure Exit = false
is_failure Failure = true
