-- What reading a bundle promises.
use Rattle.std.specs.Prelude.{◌≡◌, Option, Some, None, cond, ℕ, ◌+◌, ◌-◌, ◌≤◌, length, take, drop}
use Rattle.std.specs.Borrow.{Bor}
use Rattle.rules.specs.Syntax.{Bytes}
use Rattle.rules.specs.declared.limits.Limits.{Limits}
use Rattle.reader.specs.declared.Bounds.{Bounds}
use Rattle.reader.specs.Records.{bounds_at}
use Rattle.sheet.specs.Format.{number, long_number}
use Rattle.bundle.specs.Contents.{Contents, holds, bundled, is_bundle, sheet_at, arguments_at, input_at, end_at, stands}
use Rattle.bundle.specs.declared.Parts.{Parts}

-- bytes, and where they lie
abbrev pub Slice : Type 0
Slice = Bor Bytes

-- the slice from one place in it up to another
abbrev pub part : Slice → (from to : ℕ) → Slice
part s from to = record {
  ref_ptr = (s.ref_ptr.0, from + s.ref_ptr.1);
  now = take (to - from) (drop from s.now);
}

-- the contents that the parts tell
abbrev pub contents_at : Parts → Contents
contents_at p = record {
  loop = p.limits.loops;
  stack = p.limits.stack;
  budget = p.limits.budget;
  sheet = p.sheet.now;
  arguments = p.arguments.now;
  input = p.input.now;
}

abbrev pub limits_of : Bytes → Limits
limits_of b = record { loops = long_number b 4; stack = number b 8; budget = long_number b 10 }

-- what stands in a bundle, and where
unfoldable pub parts_of : Slice → Parts
parts_of s = record {
  limits = limits_of s.now;
  sheet = part s (sheet_at s.now + 4) (arguments_at s.now);
  arguments = part s (arguments_at s.now + 4) (input_at s.now);
  input = part s (input_at s.now + 4) (end_at s.now);
}

unfoldable pub answer_to : Slice → Option Parts
answer_to s = cond (is_bundle s.now) (Some (parts_of s)) None

abbrev pub Read : Slice → Option Parts → Type 0
Read s a = a ≡ answer_to s

-- For callers: the parts tell what the bundle holds.
pub record Located (b : Bytes) (p : Parts) : Type 0 where
  pub contents : bundled b ≡ holds (contents_at p)

-- They lie in it, one after the other.
pub record Placed (s : Slice) (p : Parts) : Type 0 where
  pub sheet : p.sheet ≡ part s (sheet_at s.now + 4) (arguments_at s.now)
  pub arguments : p.arguments ≡ part s (arguments_at s.now + 4) (input_at s.now)
  pub input : p.input ≡ part s (input_at s.now + 4) (end_at s.now)
  pub sheet-ends : sheet_at s.now + 4 ≤ arguments_at s.now
  pub arguments-end : arguments_at s.now + 4 ≤ input_at s.now
  pub input-ends : input_at s.now + 4 ≤ end_at s.now
  pub inside : end_at s.now ≤ length s.now

-- ONE RECORD --------------------------------------------------------------------------------------------------------

-- the whole record of that kind, if it is there
abbrev pub found : Bytes → (kind at : ℕ) → Option Bounds
found b kind at = cond (stands b kind at) (Some (bounds_at b at)) None
