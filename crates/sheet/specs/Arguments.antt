-- The argument sheet (docs/FORMATS.md): texts, one to seventeen of them, argument 0 in front. Whatever else it is, it is refused with 5.
use Rattle.std.specs.Prelude.{Option, Some, None, Bool, ◌&&◌, cond, List, [], ◌∷◌, ◌++◌, map, ℕ, zero, suc, eqb, leb, ltb, length}
use Rattle.rules.specs.Syntax.{Bytes}
use Rattle.sheet.specs.declared.texts.Front.{Front}
use Rattle.reader.specs.Records as reader
-- the text at a place
pub use Rattle.reader.specs.Records.{payload as text_at}

-- a whole record of kind 1 begins here, of 0 to 63 bytes
unfoldable pub is_text : Bytes → (at : ℕ) → Bool
is_text s at = reader.stands s 1 at && leb (reader.size s at) 63

-- the texts read: where each begins, and where the last ends
pub record Texts : Type 0 where
  pub starts : List ℕ
  pub end : ℕ

abbrev pub no_texts : Texts
no_texts = record { starts = []; end = 0 }

abbrev pub next_text : Bytes → Texts → Texts
next_text s R = record { starts = R.starts ++ R.end ∷ []; end = reader.behind s R.end }

-- one text after another; `left` is how many may still come
unfoldable pub texts_from : Bytes → (left : ℕ) → Texts → Texts
texts_from s zero R = R
texts_from s (suc left) R = cond (is_text s R.end) (texts_from s left (next_text s R)) R

unfoldable pub texts : Bytes → Texts
texts s = texts_from s 17 no_texts

pub data Arguments : Type 0 where
  given : List Bytes → Arguments
  refused : (number place : ℕ) → Arguments

-- at least one, and nothing after them
unfoldable pub arguments : Bytes → Arguments
arguments s =
    cond (ltb 0 (length (texts s).starts) && eqb (texts s).end (length s))
    (given (map (text_at s) (texts s).starts))
    (refused 5 0)

-- the answer as the code has it: how many arguments, or that there is a refusal, which is always the one above
abbrev pub given_of : Arguments → Option ℕ
given_of (given as') = Some (length as')
given_of (refused n r) = None

abbrev pub counted_of : Texts → Front
counted_of R = record { count = length R.starts; end = R.end }

-- the state of the code after n texts
unfoldable pub texts_known : Bytes → (n : ℕ) → Texts
texts_known s zero = no_texts
texts_known s (suc n) = next_text s (texts_known s n)
