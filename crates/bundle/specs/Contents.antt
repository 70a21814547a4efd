-- What a bundle holds (docs/FORMATS.md): the limits, the sheet, the arguments and the input of one run.
use Rattle.std.specs.Prelude.{Bool, ◌&&◌, cond, ℕ, eqb, leb, length}
use Rattle.rules.specs.Syntax.{Bytes}
use Rattle.sheet.specs.Format.{number, long_number}
-- a whole record of a kind begins at a place; its payload; the place behind it
pub use Rattle.reader.specs.Records.{stands, payload, behind}

pub record Contents : Type 0 where
  pub loop : ℕ
  pub stack : ℕ
  pub budget : ℕ
  pub sheet : Bytes
  pub arguments : Bytes
  pub input : Bytes

-- what bytes are as a bundle
pub data Bundled : Type 0 where
  wrong : Bundled
  holds : Contents → Bundled

-- the limits are the first record; where the others begin, and the end
abbrev pub sheet_at : Bytes → ℕ
sheet_at b = behind b 0

abbrev pub arguments_at : Bytes → ℕ
arguments_at b = behind b (sheet_at b)

abbrev pub input_at : Bytes → ℕ
input_at b = behind b (arguments_at b)

abbrev pub end_at : Bytes → ℕ
end_at b = behind b (input_at b)

-- no more than 16,384 bytes: the four records, by rising kind, up to the last byte
unfoldable pub is_bundle : Bytes → Bool
is_bundle b =
    leb (length b) 16384
    && (stands b 80 0 && (eqb (number b 0) 10
    && (stands b 81 (sheet_at b)
    && (stands b 82 (arguments_at b)
    && (stands b 83 (input_at b)
    && eqb (end_at b) (length b))))))

-- in kind 80 the loop limit and the budget have four bytes, the stack limit between them two
unfoldable pub contents : Bytes → Contents
contents b = record {
  loop = long_number b 4;
  stack = number b 8;
  budget = long_number b 10;
  sheet = payload b (sheet_at b);
  arguments = payload b (arguments_at b);
  input = payload b (input_at b);
}

unfoldable pub bundled : Bytes → Bundled
bundled b = cond (is_bundle b) (holds (contents b)) wrong
