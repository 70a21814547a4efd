-- How scopes, paces and feeds change from one evaluation to the next.
use Rattle.std.specs.Prelude.{Bool, true, false, ℕ, ◌+◌}
use Rattle.memory.specs.Scope.{Scope}
use Rattle.words.specs.Words.{Pace, Feed, pace_with, feed_with, scope_with}

-- SCOPES: condition, dropped, piped, holds, level, stream, streams, calls, function -------------------------------------

-- under a condition
abbrev pub tested : Scope → Scope
tested e = scope_with true e.dropped e.piped e.holds e.level e.stream e.streams e.calls e.function

-- with one hold more: for
abbrev pub held : Scope → Scope
held e = scope_with e.condition e.dropped e.piped (e.holds + 1) e.level e.stream e.streams e.calls e.function

-- with variables of its own as well: subshell
abbrev pub apart : Scope → Scope
apart e = scope_with e.condition e.dropped e.piped (e.holds + 1) (e.level + 1) e.stream e.streams e.calls e.function

-- with a fresh stream to write as well: an embedded command, a pipe's first side
abbrev pub caught : Scope → Scope
caught e = scope_with e.condition false e.piped (e.holds + 1) (e.level + 1) e.streams (e.streams + 1) e.calls e.function

-- with that stream to read: a pipe's second side
abbrev pub fed : Scope → Scope
fed e = scope_with e.condition e.dropped true (e.holds + 1) (e.level + 1) e.stream (e.streams + 1) e.calls e.function

-- nothing written is kept: nooutput
abbrev pub silent : Scope → Scope
silent e = scope_with e.condition true e.piped (e.holds + 1) e.level e.stream e.streams e.calls e.function

-- in a call of f
abbrev pub within : ℕ → Scope → Scope
within f e = scope_with e.condition e.dropped e.piped (e.holds + 1) e.level e.stream e.streams (e.calls + 1) f

-- PACES: steps used, result, length of the stream that is written -------------------------------------------------------

abbrev pub resulted : Bool → Pace → Pace
resulted b p = pace_with p.used b p.length

abbrev pub lengthened : ℕ → Pace → Pace
lengthened n p = pace_with p.used p.result n

-- the result and the stream from before
abbrev pub resumed : (before after : Pace) → Pace
resumed p r = pace_with r.used p.result p.length

-- FEEDS: where the arguments stand and how many, where the input is and how much is left --------------------------------

abbrev pub argued : (a n : ℕ) → Feed → Feed
argued a n f = feed_with a n f.from f.rest

-- the arguments from before
abbrev pub kept_arguments : (before after : Feed) → Feed
kept_arguments f h = feed_with f.arguments f.count h.from h.rest

-- the input as a string left it
abbrev pub refed : ℕ → Feed → Feed
refed n f = feed_with f.arguments f.count f.from n

-- the input read to its end
abbrev pub drained : Feed → Feed
drained f = refed 0 f

-- n bytes to read at a
abbrev pub supplied : (a n : ℕ) → Feed → Feed
supplied a n f = feed_with f.arguments f.count a n
