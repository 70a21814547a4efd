-- Where the next thing goes: how long what is written can be.
use Prim.Native.Nat.{ℕ, ◌≤◌, ◌<◌, ◌+◌}
use native.Mathlib.Omega.{arith}
use mathlib.Core.Path.{◌≡◌, refl, ◌∙◌}
use mathlib.Core.List.{[], ◌∷◌, ◌++◌}
use lib.ListN.{length, length-append}
use Rattle.rules.specs.Syntax.{Bytes}
use Rattle.memory.specs.Posts.{Written}
use Rattle.memory.proofs.Writing.{written_none, written_then}
use Rattle.text.specs.Decimal.{decimal}
use Rattle.text.specs.declared.page.Page.{Page}
use Rattle.text.specs.Put.{spaced, Wrote, Fitted}
use Rattle.text.proofs.Digits.{at_most_ten, at_most_twenty}

-- ONE BEHIND THE OTHER

pub wrote_none : (p : Page) → Wrote [] p p
wrote_none p = record { memory = refl; written = written_none p.at p.bytes.now }

pub wrote_then : {s t : Bytes} {p q r : Page} → Wrote s p q → Wrote t q r → Wrote (s ++ t) p r
wrote_then a b = record { memory = b.memory ∙ a.memory; written = written_then a.written b.written }

-- the page p is q now, which ends at most n bytes later and lies in memory as long
abbrev pub Ends : (n : ℕ) (p q : Page) → Type 0
Ends n p q = (q.at ≤ p.at + n) × (length q.bytes.now ≡ length p.bytes.now)

pub wrote_end : {s : Bytes} {p q : Page} → Wrote s p q → Ends (length s) p q
wrote_end a = (omega (arith, a.written.end), a.written.put.only.size)

-- what was written on an empty page stands at the front of its memory
pub wrote_front : {s t : Bytes} {p q : Page} → Wrote s p q → p.bytes.now ≡ t → p.at ≡ 0 → Written 0 s t q.bytes.now q.at
wrote_front a b f = rw (f, b) at a.written

-- NUMBERS

pub number_ends : {p q : Page} (n : ℕ) → Wrote (decimal n) p q → n < 4294967296 → Ends 10 p q
number_ends n a h = omega (arith, wrote_end a, at_most_ten n h)

pub number_long : {p q : Page} (n : ℕ) → Wrote (decimal n) p q → n < 18446744073709551616 → Ends 20 p q
number_long n a h = omega (arith, wrote_end a, at_most_twenty n h)

pub field_ends : {p q : Page} (n : ℕ) → Wrote (spaced (decimal n)) p q → n < 4294967296 → Ends 11 p q
field_ends n a h = omega (arith, wrote_end a, length-append (decimal n) (32 ∷ []), at_most_ten n h)

-- WHAT IS WRITTEN

pub fitted : {n : ℕ} {s : Bytes} {p q : Page} → Wrote s p q → q.at ≤ p.at + n → Fitted n s p q
fitted a h = record { wrote = a; short = omega (arith, a.written.end) }

pub fitted_end : {n : ℕ} {s : Bytes} {p q : Page} → Fitted n s p q → Ends n p q
fitted_end a = omega (arith, wrote_end a.wrote, a.short)
