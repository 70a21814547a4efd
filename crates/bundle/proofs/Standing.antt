-- One record: what the tests of its place, kind and length come to.
use mathlib.Core.Path.{◌≡◌, refl, ap, ◌∙◌}
use mathlib.Core.Bool.{Bool, true, false, cond}
use Prim.Native.Nat.{ℕ, ◌≤◌}
use native.Mathlib.Omega.{arith}
use lib.ListN.{length}
use lib.Dec.{eqb}
use Rattle.std.specs.Prelude.{Option, Some, None, MatchOption}
use Rattle.std.specs.Bool.{then_some}
use Rattle.rules.specs.Syntax.{Bytes}
use Rattle.reader.specs.declared.Bounds.{Bounds}
use Rattle.reader.specs.Records.{next_at, bounds_at}
use Rattle.reader.proofs.Whole.{Whole as Whole·Whole, whole_is, cut_stands, whole-stands, stands-inside}
use Rattle.bundle.specs.Contents.{stands}
use Rattle.bundle.specs.Promise.{found}

-- what is known of a record that stands
pub record Whole (b : Bytes) (kind at : ℕ) (h : Bounds) : Type 0 where
  pub stands : stands b kind at ≡ true
  pub is : h ≡ bounds_at b at
  pub inside : h.to ≤ length b

-- a filter, by the test that its closure makes
filtered : {A : Type 0} {Gives : A → Bool → Type 0} (test : A → Bool) → ((x : A) (t : Bool) → Gives x t → t ≡ test x) → (o r : Option A)
    → MatchOption o (r ≡ None) (λ x. (t : Bool) × Gives x t × (r ≡ then_some t x))
    → MatchOption o (r ≡ None) (λ x. r ≡ then_some (test x) x)
filtered test h None r e = e
filtered test h (Some x) r (t, g, e) = e ∙ ap (λ (u : Bool). then_some u x) (h x t g)

module _ (b : Bytes) (kind at : ℕ) where
  pub kept : {Gives : Bounds → Bool → Type 0} → ((x : Bounds) (t : Bool) → Gives x t → t ≡ eqb x.kind kind) → {o r : Option Bounds} → o ≡ next_at b at
      → MatchOption o (r ≡ None) (λ x. (t : Bool) × Gives x t × (r ≡ then_some t x)) → r ≡ found b kind at
  kept h {o} {r} e m = go o e (filtered (λ x. eqb x.kind kind) h o r m)
    where
      go : (o : Option Bounds) → o ≡ next_at b at → MatchOption o (r ≡ None) (λ x. r ≡ then_some (eqb x.kind kind) x) → r ≡ found b kind at
      go None e p = p ∙ rw (cut_stands b at kind e)
      go (Some x) e p = p ∙ if (eqb x.kind kind) (whole-stands b at kind e) (whole_is b at e)
        where
          same : Whole·Whole b at x → x ≡ bounds_at b at
          same w = λ j. record { kind = w.kind j; from = w.from j; to = w.to j }

          if : (t : Bool) → stands b kind at ≡ t → Whole·Whole b at x → then_some t x ≡ found b kind at
          if true q w = rw q (ap Some (same w))
          if false q w = rw q

  missing_if : (t : Bool) (h : Bounds) → None ≡ cond t (Some h) None → t ≡ false
  missing_if true h q = absurd (let z : ◌≡◌ {A = ℕ} 0 1 = cc in omega arith)
  missing_if false h q = refl

  pub missing : None ≡ found b kind at → stands b kind at ≡ false
  missing = missing_if (stands b kind at) (bounds_at b at)

  stands-if : (t : Bool) (h k : Bounds) → Some h ≡ cond t (Some k) None → (t ≡ true) × (h ≡ k)
  stands-if true h k q = (refl, cc)
  stands-if false h k q = absurd (let z : ◌≡◌ {A = ℕ} 0 1 = cc in omega arith)

  pub stands-whole : {h : Bounds} → Some h ≡ found b kind at → Whole b kind at h
  stands-whole {h} q =
      let f = stands-if (stands b kind at) h (bounds_at b at) q in
      let e = ap (λ (x : Bounds). x.to) f.1 in
      record { stands = f.0; is = f.1; inside = omega (arith, stands-inside b at kind f.0, e) }
