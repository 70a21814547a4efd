-- What is proved of the text beside its promise. The proofs are put together in proofs/Theorems.antt.
use Rattle.std.specs.Prelude.{◌≡◌, true, [], ◌∷◌, ◌++◌, ℕ, ◌≤◌, length, get_or}
use Rattle.rules.specs.declared.Behaviour.TheVariants.{Normal}
use Rattle.rules.specs.Ascii.{ascii}
use Rattle.rules.specs.Syntax.{Bytes, shift}
use Rattle.rules.specs.Ruling.{Row, Sheet}
use Rattle.sheet.specs.Order.{not_lent}
use Rattle.runner.specs.Verdict.{refused, ended, verdict}
use Rattle.runner.specs.Graph.{file_on}
use Rattle.bundle.specs.Contents.{Contents, wrong, holds, bundled}
use Rattle.profile.specs.Lines.{bundle_line, refused_line, end_line, function_lines}
use Rattle.profile.specs.Printed.{inputs_of, verdict_text, printed, Prints}
use Rattle.profile.specs.Drawn.{drawn, Draws}

-- ONE RESULT --------------------------------------------------------------------------------------------------------

-- Equal inputs admit one text and one content of all three memories.
abbrev pub OneText : Type 0
OneText =
    (b r w t r₁ w₁ t₁ r₂ w₂ t₂ : Bytes) (n₁ n₂ : ℕ) → Prints b r w t r₁ w₁ t₁ n₁ → Prints b r w t r₂ w₂ t₂ n₂
    → (n₁ ≡ n₂) × (r₁ ≡ r₂) × (w₁ ≡ w₂) × (t₁ ≡ t₂)

-- The text lies in the text memory.
abbrev pub TextFits : Type 0
TextFits = (b r w t r' w' t' : Bytes) (n : ℕ) → Prints b r w t r' w' t' n → n ≤ length t'

-- The same of a drawing,
abbrev pub OneDrawing : Type 0
OneDrawing =
    (b r w t r₁ w₁ t₁ r₂ w₂ t₂ : Bytes) (n₁ n₂ : ℕ) → Draws b r w t r₁ w₁ t₁ n₁ → Draws b r w t r₂ w₂ t₂ n₂
    → (n₁ ≡ n₂) × (r₁ ≡ r₂) × (w₁ ≡ w₂) × (t₁ ≡ t₂)

-- which lies in its memory too.
abbrev pub DrawingFits : Type 0
DrawingFits = (b r w t r' w' t' : Bytes) (n : ℕ) → Draws b r w t r' w' t' n → n ≤ length t'

-- TWO TEXTS ---------------------------------------------------------------------------------------------------------

-- What is printed and what is drawn: the same line, or the profile and the file of one run. A file begins with byte 35, so it is neither line.
pub data Agree (b : Bytes) : Type 0 where
  no_bundle : bundled b ≡ wrong → printed b ≡ bundle_line → drawn b ≡ bundle_line → Agree b
  no_end : (c : Contents) (number place : ℕ) → bundled b ≡ holds c → verdict (inputs_of not_lent c) ≡ refused number place
      → printed b ≡ refused_line number place → drawn b ≡ refused_line number place → Agree b
  an_end : (c : Contents) (s : Sheet) → bundled b ≡ holds c → verdict (inputs_of not_lent c) ≡ ended s
      → printed b ≡ verdict_text c.sheet (ended s) → drawn b ≡ file_on (inputs_of not_lent c) → get_or (drawn b) 0 0 ≡ 35 → Agree b

-- They agree on all bytes: the memory for the file is never too short.
abbrev pub DrawnLikePrinted : Type 0
DrawnLikePrinted = (b : Bytes) → Agree b

-- LINES -------------------------------------------------------------------------------------------------------------

abbrev pub figures_of : (function entered own inclusive : ℕ) → Row
figures_of f e o i = record { function = f; entered = e; own = o; inclusive = i }

-- The lines of exercise A's figures.
abbrev pub ExerciseA : Type 0
ExerciseA =
    end_line Normal true 37 ++ function_lines ((record { name = ascii "f"; body = shift 0 0 }) ∷ []) (figures_of 0 1 6 37 ∷ figures_of 1 3 31 31 ∷ [])
    ≡ ascii "end normal true 37\nfn 0 1 6 37 -\nfn 1 3 31 31 f\n"
