-- How courses change from one evaluation to the next; scopes, paces and feeds change as `words` says.
use Rattle.std.specs.Prelude.{Bool, ℕ, ◌+◌}
use Rattle.memory.specs.declared.Course.{Course}
use Rattle.words.specs.Words.{Pace, Feed, pace_with, feed_with, course}
pub use Rattle.words.specs.Moves.{tested, held, apart, caught, fed, silent, within, resulted, lengthened, resumed, argued, kept_arguments, refed, drained, supplied}

-- COURSES: a pace and a feed --------------------------------------------------------------------------------------------

abbrev pub pace_in : Course → Pace
pace_in c = pace_with c.used c.result c.length

abbrev pub feed_in : Course → Feed
feed_in c = feed_with c.arguments c.count c.from c.rest

-- a step made
abbrev pub stepped : Course → Course
stepped c = course (pace_with (c.used + 1) c.result c.length) (feed_in c)

abbrev pub with_result : Bool → Course → Course
with_result b c = course (resulted b (pace_in c)) (feed_in c)

-- the stream that is written has n bytes
abbrev pub with_length : ℕ → Course → Course
with_length n c = course (lengthened n (pace_in c)) (feed_in c)

abbrev pub with_arguments : (a n : ℕ) → Course → Course
with_arguments a n c = course (pace_in c) (argued a n (feed_in c))

abbrev pub emptied : Course → Course
emptied c = course (pace_in c) (drained (feed_in c))

-- a pipe's second side
abbrev pub fed_by : (a n : ℕ) → Course → Course
fed_by a n c = course (pace_in c) (supplied a n (feed_in c))

-- after a subshell: the arguments from before
abbrev pub left : (before after : Course) → Course
left c d = course (pace_in d) (kept_arguments (feed_in c) (feed_in d))

-- after an embedded command or a pipe's first side: the context and the stream from before, the input as it was left
abbrev pub back : (before after : Course) → Course
back c d = course (resumed (pace_in c) (pace_in d)) (kept_arguments (feed_in c) (feed_in d))

-- after a pipe: the input that the first side left, the arguments from before
abbrev pub joined : (between after : Course) → Course
joined c d = course (pace_in d) (feed_in c)
