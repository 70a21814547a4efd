-- What is printed for the bytes of a bundle, and what printing leaves in the memories lent to it.
use Rattle.std.specs.Prelude.{◌≡◌, ◌++◌, ℕ, length, drop, replicate}
use Rattle.rules.specs.Syntax.{Bytes}
use Rattle.sheet.specs.Decode.{program}
use Rattle.sheet.specs.Order.{FileMemory, Inputs, not_lent}
use Rattle.sheet.specs.Check.{known_of}
use Rattle.runner.specs.Verdict.{Verdict, refused, ended, verdict}
use Rattle.runner.specs.Promise.{result_after}
use Rattle.bundle.specs.Contents.{Contents, Bundled, wrong, holds, bundled}
use Rattle.profile.specs.Lines.{bundle_line, refused_line, end_line, function_lines}

-- the run that a bundle asks for, with or without file memory
abbrev pub inputs_of : FileMemory → Contents → Inputs
inputs_of f c = record {
  sheet = c.sheet;
  arguments = c.arguments;
  input = c.input;
  loop = c.loop;
  stack = c.stack;
  budget = c.budget;
  result_size = 4096;
  work_size = 65536;
  file = f;
}

-- a refusal, or the profile: the end and a line for every function, main first
unfoldable pub verdict_text : (sheet : Bytes) → Verdict → Bytes
verdict_text sheet (refused number place) = refused_line number place
verdict_text sheet (ended s) =
    end_line s.behaviour s.result s.steps ++ function_lines (program (known_of sheet)).functions s.profile

abbrev pub bundle_text : Bundled → Bytes
bundle_text wrong = bundle_line
bundle_text (holds c) = verdict_text c.sheet (verdict (inputs_of not_lent c))

unfoldable pub printed : Bytes → Bytes
printed b = bundle_text (bundled b)

-- without a bundle there is no run, and both memories are as before
abbrev pub result_left : FileMemory → Bundled → Bytes → Bytes
result_left f wrong r = r
result_left f (holds c) r = result_after (verdict (inputs_of f c)) r

-- after a run work memory is cleared, whatever its end
abbrev pub work_left : Bundled → Bytes → Bytes
work_left wrong w = w
work_left (holds c) w = replicate (length w) 0

-- the text stands at the front of the text memory, the rest of it unchanged
pub record Prints (b r w t r' w' t' : Bytes) (n : ℕ) : Type 0 where
  pub text : t' ≡ printed b ++ drop (length (printed b)) t
  pub length : n ≡ length (printed b)
  pub result : r' ≡ result_left not_lent (bundled b) r
  pub work : w' ≡ work_left (bundled b) w
