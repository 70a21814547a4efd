-- What the ends of evaluations stand for, and what is asked of a behaviour or an answer.
use Rattle.std.specs.Prelude.{Option, Some, None, Result, Ok, Err, Bool, true, false, cond, ◌≡◌, ℕ, zero, suc, ◌≤◌, eqb}
use Rattle.rules.specs.declared.Behaviour.{Behaviour}
use Rattle.rules.specs.declared.Behaviour.TheVariants.{Normal, Return, Exit, Failure}
pub use Rattle.rules.specs.Flow.{is_normal, is_failure}
use Rattle.rules.specs.Rules.{code_result}
use Rattle.sheet.specs.Nodes.{code_of}
use Rattle.memory.specs.Scope.{Scope}
use Rattle.memory.specs.declared.Course.{Course}
use Rattle.engine.specs.Values.{RunEnd}
use Rattle.rules.specs.declared.Halt.{Halt}
use Rattle.rules.specs.declared.Refusal.{Refusal}
use Rattle.rules.specs.declared.Refusal.TheVariants.{BudgetUsedUp, LongString, LongList, LongStream, ManyHolds}
use Rattle.rules.specs.Words.{Utility}
use Rattle.engine.specs.declared.tool.Tool.{Tool}
use Rattle.engine.specs.declared.tool.Tool.TheVariants as tool
use Rattle.engine.specs.Moves.{with_result, with_length, resulted, refed}
use Rattle.engine.specs.Values.{Text, Listing}
use Rattle.engine.specs.declared.Ending.{Ending}
use Rattle.engine.specs.declared.Made.{Made}
use Rattle.engine.specs.declared.Made.TheVariants as made
use Rattle.words.specs.Words.{Pace, Feed, End, end_of, course, course_of}

-- WHAT THE ENDS STAND FOR: numbers are a course; in the one number of a string or a list a pace and the rest of the input (below)

abbrev pub answered : Result Ending Halt → RunEnd
answered (Ok e) = RunEnd.Ended e.behaviour (course_of e.pace e.feed)
answered (Err h) = RunEnd.Refused h.why h.place

abbrev pub texted : Result Made Halt → Text
texted (Ok (made.Value n flag p f)) = Text.Value n flag (course_of p f)
texted (Ok (made.Error p f)) = Text.Error (course_of p f)
texted (Err h) = Text.Refused h.why h.place

-- THE SAME AS ONE NUMBER: its kind is 0 for a value, 1 for an error; a refusal's number and place stand as its size and rest

abbrev pub refusal_of : (number : ℕ) → Refusal
refusal_of n = cond (eqb n 6) BudgetUsedUp (cond (eqb n 7) LongString (cond (eqb n 8) LongList (cond (eqb n 9) LongStream ManyHolds)))

-- it leaves of the feed before it all but the rest of the input
abbrev pub leaving : Feed → Pace → (rest : ℕ) → Course
leaving f p rest = course p (refed rest f)

abbrev pub said : Feed → End → (kind : ℕ) → Text
said f e zero = Text.Value e.size e.flag (leaving f e.pace e.rest)
said f e (suc zero) = Text.Error (leaving f e.pace e.rest)
said f e (suc (suc k)) = Text.Refused (refusal_of e.size) e.rest

unfoldable pub worded : Feed → (end : ℕ) → Text
worded f n = said f (end_of n) (end_of n).kind

-- the same of a list: the size is how many fields there are
abbrev pub as_listing : Text → Listing
as_listing (Text.Value n flag c) = Listing.Fields n c
as_listing (Text.Error c) = Listing.Error c
as_listing (Text.Refused why place) = Listing.Refused why place

abbrev pub counted : Feed → (end : ℕ) → Listing
counted f n = as_listing (worded f n)

-- the number says this end, whatever the feed before it
abbrev pub Says : (end : ℕ) → (Feed → Text) → Type 0
Says n t = (f : Feed) → t f ≡ worded f n

-- WHAT IS ASKED: of an answer what the rules ask of a behaviour

abbrev pub ended_normal : RunEnd → Bool
ended_normal (RunEnd.Ended b c) = is_normal b
ended_normal (RunEnd.Refused why place) = false

-- SETTLE, and how an answer is made of it

abbrev pub settled : (condition result : Bool) → Behaviour
settled condition true = Normal
settled condition false = cond condition Normal Exit

abbrev pub finished : Scope → Course → (result : Bool) → RunEnd
finished e c r = RunEnd.Ended (settled e.condition r) (with_result r c)

-- Failure stays
abbrev pub finished_unless_failure : Scope → Behaviour → Course → RunEnd
finished_unless_failure e Normal c = finished e c c.result
finished_unless_failure e Return c = finished e c c.result
finished_unless_failure e Exit c = finished e c c.result
finished_unless_failure e Failure c = RunEnd.Ended Failure c

-- exit and return set the result, or keep it
abbrev pub coded : Course → (code : ℕ) → Course
coded c code = with_result (code_result (code_of code) c.result) c

abbrev pub coded_pace : Pace → (code : ℕ) → Pace
coded_pace p code = resulted (code_result (code_of code) p.result) p

-- LOOPS

-- a while that runs its body no more: at the loop limit Failure, after a false test the flag is the result
abbrev pub loop_over : Course → (flag : Bool) → RunEnd
loop_over c flag = cond c.result (RunEnd.Ended Failure c) (RunEnd.Ended Normal (with_result flag c))

-- UTILITIES

abbrev pub to_utility : Tool → Utility
to_utility tool.True = Utility.True
to_utility tool.False = Utility.False
to_utility tool.Echo = Utility.Echo
to_utility tool.Test = Utility.Test
to_utility tool.Cat = Utility.Cat
to_utility tool.Env = Utility.Env
to_utility tool.Other = Utility.Other

-- a length that was measured is one of a stream
abbrev pub Measured : Option ℕ → Type 0
Measured size = (n : ℕ) → size ≡ Some n → n ≤ 1024

-- what was written counts, unless the stream would be too long
abbrev pub wrote_of : Scope → Course → (r : ℕ) → Option ℕ → RunEnd
wrote_of e c r (Some n) = finished e (with_length n c) true
wrote_of e c r None = RunEnd.Refused LongStream r
