-- What is drawn for the bytes of a bundle, and what drawing leaves in the memories lent to it.
use Rattle.std.specs.Prelude.{◌≡◌, ◌++◌, ℕ, length, drop}
use Rattle.rules.specs.Syntax.{Bytes}
use Rattle.sheet.specs.Order.{FileMemory, lent}
use Rattle.runner.specs.Verdict.{Verdict, refused, ended, verdict}
use Rattle.runner.specs.Graph.{file_on}
use Rattle.bundle.specs.Contents.{Bundled, wrong, holds, bundled}
use Rattle.profile.specs.Lines.{bundle_line, refused_line}
use Rattle.profile.specs.Printed.{inputs_of, result_left, work_left}

-- the memory for the text is the run's file memory
abbrev pub text_memory : FileMemory
text_memory = lent 65536

-- a refusal, or the file
abbrev pub verdict_drawn : Verdict → (file : Bytes) → Bytes
verdict_drawn (refused number place) file = refused_line number place
verdict_drawn (ended s) file = file

abbrev pub bundle_drawn : Bundled → Bytes
bundle_drawn wrong = bundle_line
bundle_drawn (holds c) = verdict_drawn (verdict (inputs_of text_memory c)) (file_on (inputs_of text_memory c))

unfoldable pub drawn : Bytes → Bytes
drawn b = bundle_drawn (bundled b)

-- the text stands at the front of its memory, the rest of it unchanged
pub record Draws (b r w t r' w' t' : Bytes) (n : ℕ) : Type 0 where
  pub text : t' ≡ drawn b ++ drop (length (drawn b)) t
  pub length : n ≡ length (drawn b)
  pub result : r' ≡ result_left text_memory (bundled b) r
  pub work : w' ≡ work_left (bundled b) w
