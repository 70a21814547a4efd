-- What the numbers stand for. Every part is a digit: the number divided by what the parts below it take, then its remainder.
use Rattle.std.specs.Prelude.{Bool, true, false, ◌≡◌, ℕ, ◌+◌, ◌*◌, ◌/◌, ◌%◌, ◌<◌, eqb}
use Rattle.memory.specs.declared.Given.{Given}
use Rattle.memory.specs.Scope.{Scope}
use Rattle.memory.specs.declared.Course.{Course}
use Rattle.words.specs.declared.LimitsNumber.{LimitsNumber}
use Rattle.words.specs.declared.ScopeNumber.{ScopeNumber}
use Rattle.words.specs.declared.PaceNumber.{PaceNumber}
use Rattle.words.specs.declared.scope.Parts.{Parts}
use Rattle.words.specs.declared.FeedNumber.{FeedNumber}

-- a flag as a digit
abbrev pub bit : Bool → ℕ
bit true = 1
bit false = 0

-- What a maker of a number promises of its result r: it is the number n, and `of` reads the parts from it that callers use.
pub record Number {N A : Type 0} (of : N → A) (what : A) (n r : N) : Type 0 where
  pub parts : of r ≡ what
  pub number : r ≡ n

-- LIMITS --------------------------------------------------------------------------------------------------------------

unfoldable pub budget_of : LimitsNumber → ℕ
budget_of n = n.number % 1048576

unfoldable pub loops_of : LimitsNumber → ℕ
loops_of n = n.number / 1048576 % 65536

unfoldable pub stack_of : LimitsNumber → ℕ
stack_of n = n.number / 68719476736 % 16

unfoldable pub slots_of : LimitsNumber → ℕ
slots_of n = n.number / 1099511627776 % 32

unfoldable pub limits_number : (loops stack budget slots : ℕ) → LimitsNumber
limits_number l s b n = record { number = b + 1048576 * l + 68719476736 * s + 1099511627776 * n }

-- what a run is given; the unit stands beside the limits
abbrev pub given_of : (unit : ℕ) → LimitsNumber → Given
given_of u n = record { loops = loops_of n; stack = stack_of n; budget = budget_of n; unit = u; slots = slots_of n }

-- SCOPE ---------------------------------------------------------------------------------------------------------------

abbrev pub scope_with : (condition dropped piped : Bool) → (holds level stream streams calls function : ℕ) → Scope
scope_with c d p h l o n k f = record { condition = c; holds = h; calls = k; function = f; level = l; stream = o; streams = n; dropped = d; piped = p }

-- the scope that a number stands for
abbrev pub scope_in : ℕ → Scope
scope_in n = scope_with (eqb (n % 2) 1) (eqb (n / 2 % 2) 1) (eqb (n / 4 % 2) 1) (n / 8 % 16) (n / 128 % 16) (n / 2048 % 16) (n / 32768 % 16) (n / 524288 % 32) (n / 16777216 % 64)

unfoldable pub scope_of : ScopeNumber → Scope
scope_of s = scope_in s.number

unfoldable pub scope_number : (condition dropped piped : Bool) → (holds level stream streams calls function : ℕ) → ScopeNumber
scope_number c d p h l o n k f = record { number = bit c + 2 * bit d + 4 * bit p + (8 * h + 128 * l + 2048 * o + 32768 * n) + 524288 * k + 16777216 * f }

-- the number of a scope, and what a move of scopes promises
abbrev pub number_of_scope : Scope → ScopeNumber
number_of_scope e = scope_number e.condition e.dropped e.piped e.holds e.level e.stream e.streams e.calls e.function

abbrev pub IsScope : Scope → (r : ScopeNumber) → Type 0
IsScope e r = Number scope_of e (number_of_scope e) r

-- the parts as code has them, and what each is below
abbrev pub as_scope : Parts → Scope
as_scope p = scope_with p.condition p.dropped p.piped p.holds p.level p.stream p.streams p.calls p.function

abbrev pub Fit : Parts → Type 0
Fit p = (p.holds < 16) × (p.level < 16) × (p.stream < 16) × (p.streams < 16) × (p.calls < 32) × (p.function < 64)

-- COURSE: a pace and a feed -------------------------------------------------------------------------------------------

pub record Pace : Type 0 where
  pub used : ℕ
  pub result : Bool
  pub length : ℕ

abbrev pub pace_with : (used : ℕ) → (result : Bool) → (length : ℕ) → Pace
pace_with u r l = record { used = u; result = r; length = l }

abbrev pub pace_in : ℕ → Pace
pace_in n = pace_with (n % 1048576) (eqb (n / 1048576 % 2) 1) (n / 2097152 % 2048)

unfoldable pub pace_of : PaceNumber → Pace
pace_of p = pace_in p.number

unfoldable pub pace_number : (used : ℕ) → (result : Bool) → (length : ℕ) → PaceNumber
pace_number u r l = record { number = u + 1048576 * bit r + 2097152 * l }

abbrev pub IsPace : Pace → (r : PaceNumber) → Type 0
IsPace p r = Number pace_of p (pace_number p.used p.result p.length) r

pub record Feed : Type 0 where
  pub arguments : ℕ
  pub count : ℕ
  pub from : ℕ
  pub rest : ℕ

abbrev pub feed_with : (arguments count from rest : ℕ) → Feed
feed_with a n f r = record { arguments = a; count = n; from = f; rest = r }

abbrev pub feed_in : ℕ → Feed
feed_in n = feed_with (n / 32 % 1048576) (n % 32) (n / 68719476736 % 1048576) (n / 33554432 % 2048)

unfoldable pub feed_of : FeedNumber → Feed
feed_of f = feed_in f.number

unfoldable pub feed_number : (arguments count from rest : ℕ) → FeedNumber
feed_number a n f r = record { number = n + 32 * a + 33554432 * r + 68719476736 * f }

abbrev pub IsFeed : Feed → (r : FeedNumber) → Type 0
IsFeed f r = Number feed_of f (feed_number f.arguments f.count f.from f.rest) r

-- what both come to
abbrev pub course : Pace → Feed → Course
course p f = record {
  used = p.used;
  result = p.result;
  arguments = f.arguments;
  count = f.count;
  from = f.from;
  rest = f.rest;
  length = p.length;
}

abbrev pub course_of : PaceNumber → FeedNumber → Course
course_of p f = course (pace_of p) (feed_of f)

-- THE END OF A STRING OR A LIST -----------------------------------------------------------------------------------------

pub record End : Type 0 where
  pub kind : ℕ
  pub flag : Bool
  pub size : ℕ
  pub rest : ℕ
  pub pace : Pace

abbrev pub end_with : (kind : ℕ) → (flag : Bool) → (size rest : ℕ) → Pace → End
end_with k b n r p = record { kind = k; flag = b; size = n; rest = r; pace = p }

-- the pace is what stands above the other parts
unfoldable pub end_of : ℕ → End
end_of n = end_with (n % 4) (eqb (n / 4 % 2) 1) (n / 8 % 512) (n / 4096 % 2048) (pace_in (n / 8388608))

-- of the pace, the digits that a pace has
unfoldable pub end_number : (kind : ℕ) → (flag : Bool) → (size rest : ℕ) → PaceNumber → ℕ
end_number k b n r p = k + 4 * bit b + (8 * n + 4096 * r) + 8388608 * (p.number % 4294967296)
