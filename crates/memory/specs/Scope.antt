-- What evaluation hands down.
use Rattle.std.specs.Prelude.{Bool, ℕ}

pub record Scope : Type 0 where
  -- under a condition
  pub condition : Bool
  -- open holds, open calls, the innermost function
  pub holds : ℕ
  pub calls : ℕ
  pub function : ℕ
  -- the context level, the stream that is written, how many streams are in use
  pub level : ℕ
  pub stream : ℕ
  pub streams : ℕ
  -- under nooutput; reading a pipe's stream
  pub dropped : Bool
  pub piped : Bool
