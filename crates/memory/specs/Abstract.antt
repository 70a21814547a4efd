-- The rules' state that the bytes of work memory stand for, and what an evaluation leaves as it was.
use Rattle.std.specs.Prelude.{ℕ, ◌+◌, ◌*◌, ◌<◌, ◌≤◌, ◌≡◌, ◌⊎◌, Bool, true, false, List, length}
use Rattle.rules.specs.Syntax.{Bytes}
use Rattle.rules.specs.State.{State, Stream, kept, dropped}
use Rattle.memory.specs.Layout.{part, Same, fields_at, variables_at, variables_place, list_place, string_place, stream_place, free_place}
use Rattle.memory.specs.declared.Given.{Given}
use Rattle.memory.specs.Scope.{Scope}
use Rattle.memory.specs.declared.Course.{Course}

-- THE STATE ---------------------------------------------------------------------------------------------------------

-- under nooutput, a stream whose bytes are dropped
unfoldable pub stream_if : Bool → Bytes → Stream
stream_if true s = dropped
stream_if false s = kept s

-- what is left of the input: of the standard input, or of a pipe's stream
unfoldable pub input_if : (piped : Bool) → (stdin work : List ℕ) → (from rest : ℕ) → Bytes
input_if false stdin work from rest = part stdin from rest
input_if true stdin work from rest = part work from rest

unfoldable pub state_of : (stdin work : List ℕ) → Given → Scope → Course → State
state_of i w g e c = record {
  context = record {
    variables = variables_at g.unit w (variables_place g.unit e.level) g.slots;
    arguments = fields_at g.unit w c.arguments c.count;
    result = c.result;
  };
  input = input_if e.piped i w c.from c.rest;
  output = stream_if e.dropped (part w (stream_place g.unit e.stream) c.length);
  used = c.used;
}

-- WITHIN THE AREAS --------------------------------------------------------------------------------------------------

-- the run's sizes
pub record Roomy (g : Given) (w : List ℕ) : Type 0 where
  pub unit : 0 < g.unit
  pub small : g.unit ≤ 256
  pub slots : g.slots ≤ 16
  pub room : free_place g.unit ≤ length w

-- a scope within the areas
pub record Placed (e : Scope) : Type 0 where
  pub level : e.level ≤ e.holds
  pub holds : e.holds ≤ 10
  pub stream : e.stream < e.streams
  pub streams : e.streams ≤ e.holds + 1
  pub function : e.function ≤ 32

-- a course within them; the stream that is read is not the one that is written
pub record Fits (i : List ℕ) (g : Given) (e : Scope) (c : Course) : Type 0 where
  pub stdin : e.piped ≡ false → c.from + c.rest ≤ length i
  pub from : e.piped ≡ true → stream_place g.unit 0 ≤ c.from
  pub to : e.piped ≡ true → c.from + c.rest ≤ stream_place g.unit e.streams
  pub apart : e.piped ≡ true → (c.from + c.rest ≤ stream_place g.unit e.stream) ⊎ (stream_place g.unit e.stream + 1024 ≤ c.from)
  pub rest : c.rest ≤ 1024
  pub length : c.length ≤ 1024
  pub count : c.count ≤ 16
  pub low : list_place g.unit 0 ≤ c.arguments
  pub high : c.arguments + g.unit * c.count ≤ list_place g.unit (e.holds + 1)

-- AS BEFORE ---------------------------------------------------------------------------------------------------------

-- What an evaluation in a scope, with n bytes in the stream it writes, leaves as it was: the tables; what levels below its own
-- keep; the lists and strings of the holds around it; the other streams in use, and what is written of its own.
pub record Kept (g : Given) (e : Scope) (n : ℕ) (w w' : List ℕ) : Type 0 where
  pub size : length w' ≡ length w
  pub tables : Same 0 4096 w w'
  pub variables : Same (variables_place g.unit 0) (variables_place g.unit e.level) w w'
  pub lists : Same (list_place g.unit 0) (list_place g.unit (e.holds + 1)) w w'
  pub strings : Same (string_place g.unit 0) (string_place g.unit e.holds) w w'
  pub written : Same (stream_place g.unit 0) (stream_place g.unit e.stream + n) w w'
  pub others : Same (stream_place g.unit e.stream + 1024) (stream_place g.unit e.streams) w w'

-- the bytes that the state is made of are as before
pub record Unchanged (g : Given) (e : Scope) (c : Course) (w w' : List ℕ) : Type 0 where
  pub names : Same 0 1024 w w'
  pub variables : Same (variables_place g.unit e.level) (variables_place g.unit e.level + 16 * (g.unit + 2)) w w'
  pub arguments : Same c.arguments (c.arguments + g.unit * c.count) w w'
  pub input : e.piped ≡ true → Same c.from (c.from + c.rest) w w'
  pub output : Same (stream_place g.unit e.stream) (stream_place g.unit e.stream + c.length) w w'

-- THE START ---------------------------------------------------------------------------------------------------------

-- main's scope
abbrev pub start_scope : Scope
start_scope = record { condition = false; holds = 0; calls = 0; function = 0; level = 0; stream = 0; streams = 1; dropped = false; piped = false }

-- its course, with n arguments and a standard input of m bytes
abbrev pub start_course : (u n m : ℕ) → Course
start_course u n m = record { used = 0; result = true; arguments = list_place u 0; count = n; from = 0; rest = m; length = 0 }
