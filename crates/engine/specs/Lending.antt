-- The contracts of the evaluators: what specs/Post.antt says, over what a run lends them (l), over work memory before and after (w, w'), and over
-- the numbers of scope, pace and feed.
use Rattle.std.specs.Prelude.{Result, Bool, ℕ}
use Rattle.rules.specs.Syntax.{Bytes}
use Rattle.rules.specs.Words.{Utility}
use Rattle.rules.specs.declared.Behaviour.{Behaviour}
use Rattle.rules.specs.declared.Halt.{Halt}
use Rattle.memory.specs.declared.Given.{Given}
use Rattle.words.specs.declared.ScopeNumber.{ScopeNumber}
use Rattle.words.specs.declared.PaceNumber.{PaceNumber}
use Rattle.words.specs.declared.FeedNumber.{FeedNumber}
use Rattle.words.specs.Words.{given_of, scope_of, course_of, feed_of}
use Rattle.engine.specs.declared.Lent.{Lent}
use Rattle.engine.specs.declared.Ending.{Ending}
use Rattle.engine.specs.Ends.{answered, worded, counted}
use Rattle.engine.specs.Post as post

-- what a run is given
abbrev pub given : Lent → Given
given l = given_of l.unit.bytes l.limits

-- WHAT IS ASKED -------------------------------------------------------------------------------------------------------

abbrev pub Ready : Lent → (w : Bytes) → ScopeNumber → PaceNumber → FeedNumber → Type 0
Ready l w e p f = post.Ready l.sheet.now l.stdin.now w (given l) (scope_of e) (course_of p f)

abbrev pub Instruction : Lent → (r : ℕ) → Type 0
Instruction l r = post.Instruction l.sheet.now r

abbrev pub String : Lent → (r : ℕ) → Type 0
String l r = post.String l.sheet.now r

abbrev pub ListOf : Lent → (r : ℕ) → Type 0
ListOf l r = post.ListOf l.sheet.now r

abbrev pub OfKind : Lent → (w : Bytes) → (r kind : ℕ) → Type 0
OfKind l w r k = post.OfKind l.sheet.now w r k

abbrev pub Leaves : Lent → (w : Bytes) → (r : ℕ) → Behaviour → Type 0
Leaves l w r b = post.Leaves l.sheet.now w r b

-- a pipe's second side, a call that can be opened, a for over m fields, a utility with m fields
abbrev pub Into : Lent → ScopeNumber → (b n : ℕ) → Type 0
Into l e b n = post.Into l.sheet.now (scope_of e) b n

abbrev pub Enters : Lent → ScopeNumber → (f m : ℕ) → Type 0
Enters l e f m = post.Enters l.sheet.now (given l) (scope_of e) f m

abbrev pub Iterates : Lent → ScopeNumber → (x b m : ℕ) → Type 0
Iterates l e x b m = post.Iterates l.sheet.now (scope_of e) x b m

abbrev pub Acts : Lent → (w : Bytes) → ScopeNumber → PaceNumber → FeedNumber → (r m : ℕ) → Type 0
Acts l w e p f r m = post.Acts l.stdin.now w (given l) (scope_of e) (course_of p f) r m

-- WHAT IS PROMISED ----------------------------------------------------------------------------------------------------

-- an instruction: with its step, and by its rule alone
abbrev pub InsDone : Lent → (w : Bytes) → ScopeNumber → PaceNumber → FeedNumber → (r : ℕ) → (w' : Bytes) → Result Ending Halt → Type 0
InsDone l w e p f r w' a = post.InsDone l.sheet.now l.stdin.now w (given l) (scope_of e) (course_of p f) r w' (answered a)

abbrev pub InsRuled : Lent → (w : Bytes) → ScopeNumber → PaceNumber → FeedNumber → (r : ℕ) → (w' : Bytes) → Result Ending Halt → Type 0
InsRuled l w e p f r w' a = post.InsRuled l.sheet.now l.stdin.now w (given l) (scope_of e) (course_of p f) r w' (answered a)

-- a string behind the first n bytes of the one in work, its end as a number
abbrev pub StrDone : Lent → (w : Bytes) → ScopeNumber → PaceNumber → FeedNumber → (r : ℕ) → (flag : Bool) → (n : ℕ) → (w' : Bytes) → (end : ℕ) → Type 0
StrDone l w e p f r flag n w' a = post.StrDone l.sheet.now l.stdin.now w (given l) (scope_of e) (course_of p f) r flag n w' (worded (feed_of f) a)

abbrev pub StrRuled : Lent → (w : Bytes) → ScopeNumber → PaceNumber → FeedNumber → (r : ℕ) → (flag : Bool) → (n : ℕ) → (w' : Bytes) → (end : ℕ) → Type 0
StrRuled l w e p f r flag n w' a = post.StrRuled l.sheet.now l.stdin.now w (given l) (scope_of e) (course_of p f) r flag n w' (worded (feed_of f) a)

-- a list behind m fields
abbrev pub LstDone : Lent → (w : Bytes) → ScopeNumber → PaceNumber → FeedNumber → (r m : ℕ) → (w' : Bytes) → (end : ℕ) → Type 0
LstDone l w e p f r m w' a = post.LstDone l.sheet.now l.stdin.now w (given l) (scope_of e) (course_of p f) r m w' (counted (feed_of f) a)

abbrev pub LstRuled : Lent → (w : Bytes) → ScopeNumber → PaceNumber → FeedNumber → (r m : ℕ) → (w' : Bytes) → (end : ℕ) → Type 0
LstRuled l w e p f r m w' a = post.LstRuled l.sheet.now l.stdin.now w (given l) (scope_of e) (course_of p f) r m w' (counted (feed_of f) a)

-- parts of rules
abbrev pub Piped : Lent → (w : Bytes) → ScopeNumber → PaceNumber → FeedNumber → (b n : ℕ) → (w' : Bytes) → Result Ending Halt → Type 0
Piped l w e p f b n w' a = post.Piped l.sheet.now l.stdin.now w (given l) (scope_of e) (course_of p f) b n w' (answered a)

abbrev pub Entered : Lent → (w : Bytes) → ScopeNumber → PaceNumber → FeedNumber → (r g m : ℕ) → (w' : Bytes) → Result Ending Halt → Type 0
Entered l w e p f r g m w' a = post.Entered l.sheet.now l.stdin.now w (given l) (scope_of e) (course_of p f) r g m w' (answered a)

abbrev pub Iterated : Lent → (w : Bytes) → ScopeNumber → PaceNumber → FeedNumber → (x b m : ℕ) → (w' : Bytes) → Result Ending Halt → Type 0
Iterated l w e p f x b m w' a = post.Iterated l.sheet.now l.stdin.now w (given l) (scope_of e) (course_of p f) x b m w' (answered a)

abbrev pub Acted : Lent → (w : Bytes) → ScopeNumber → PaceNumber → FeedNumber → (r : ℕ) → Utility → (m : ℕ) → (w' : Bytes) → Result Ending Halt → Type 0
Acted l w e p f r u m w' a = post.Acted l.stdin.now w (given l) (scope_of e) (course_of p f) r u m w' (answered a)
