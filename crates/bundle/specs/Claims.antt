-- What is proved of bundles. The proofs are put together in proofs/Theorems.antt.
use Rattle.std.specs.Prelude.{◌≡◌, Option, Some, None, option_map, ◌+◌, ◌-◌, ◌<◌, ◌≤◌, length}
use Rattle.rules.specs.Syntax.{Bytes}
use Rattle.sheet.specs.WellFormed.{IsBytes}
use Rattle.bundle.specs.Contents.{Contents, Bundled, wrong, holds, bundled}
use Rattle.bundle.specs.declared.Parts.{Parts}
use Rattle.bundle.specs.Promise.{Slice, contents_at, Read, Located, Placed}
use Rattle.bundle.specs.Encoding.{bundle_bytes}

-- ONE RESULT --------------------------------------------------------------------------------------------------------

-- the slice that stands in t where x stands in s
abbrev pub moved : (s t x : Slice) → Slice
moved s t x = record { ref_ptr = (t.ref_ptr.0, x.ref_ptr.1 - s.ref_ptr.1 + t.ref_ptr.1); now = x.now }

abbrev pub parts_moved : (s t : Slice) → Parts → Parts
parts_moved s t p = record { limits = p.limits; sheet = moved s t p.sheet; arguments = moved s t p.arguments; input = moved s t p.input }

-- Equal bytes admit one answer, wherever they lie: where the parts stand in them too, be they empty or not.
abbrev pub OneResult : Type 0
OneResult = (s t : Slice) (a₁ a₂ : Option Parts) → s.now ≡ t.now → Read s a₁ → Read t a₂ → a₂ ≡ option_map (parts_moved s t) a₁

-- what an answer tells of the bytes
abbrev pub told : Option Parts → Bundled
told None = wrong
told (Some p) = holds (contents_at p)

-- It tells what they are as a bundle,
abbrev pub AnswerTellsBundle : Type 0
AnswerTellsBundle = (s : Slice) (a : Option Parts) → Read s a → told a ≡ bundled s.now

-- and its parts lie in the bytes.
abbrev pub PartsLocated : Type 0
PartsLocated = (s : Slice) (p : Parts) → Read s (Some p) → Located s.now p × Placed s p

-- ENCODING ----------------------------------------------------------------------------------------------------------

-- what a bundle has room for
pub record Fits (c : Contents) : Type 0 where
  pub loop : c.loop < 4294967296
  pub stack : c.stack < 65536
  pub budget : c.budget < 4294967296
  pub sheet : IsBytes c.sheet
  pub arguments : IsBytes c.arguments
  pub input : IsBytes c.input
  pub whole : length (bundle_bytes c) ≤ 16384

-- What is written within 16,384 bytes is read back,
abbrev pub WrittenIsRead : Type 0
WrittenIsRead = (c : Contents) → length (bundle_bytes c) ≤ 16384 → bundled (bundle_bytes c) ≡ holds c

-- and can be written where it fits.
abbrev pub FittingIsBytes : Type 0
FittingIsBytes = (c : Contents) → Fits c → IsBytes (bundle_bytes c)

-- Anything else is not a bundle.
abbrev pub NothingElseIsRead : Type 0
NothingElseIsRead = (b : Bytes) (c : Contents) → IsBytes b → bundled b ≡ holds c → Fits c × (b ≡ bundle_bytes c)
