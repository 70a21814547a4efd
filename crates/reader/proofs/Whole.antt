-- What a place answers, and what is known of the record there.
use mathlib.Core.Path.{◌≡◌, refl, sym, ap, ◌∙◌}
use mathlib.Core.Bool.{Bool, true, false, not, cond}
use Prim.Native.Nat.{ℕ, ◌+◌, ◌-◌, ◌<◌, ◌≤◌}
use native.Mathlib.Omega.{arith}
use lib.Dec.{ltb, eqb}
use lib.ListN.{length, take, drop}
use borrow.Author.Tests.{lt-ltb, le-ltb, ltb-false, eq-eqb, eqb-true}
use Rattle.std.proofs.lemmas.Bool.{and_parts, or_parts, not-true}
use Rattle.rules.specs.Syntax.{Bytes}
use Rattle.reader.specs.declared.Bounds.{Bounds}
use Rattle.std.specs.Prelude.{Some, None}
use Rattle.reader.specs.Records.{number, size, kind, behind, bounds_at, is_cut, stands, next_at}

-- FROM THE TESTS TO THE ANSWER

module _ (s : Bytes) (p : ℕ) where
  pub no_header : length s < p + 4 → None ≡ next_at s p
  unfolding next_at is_cut
  no_header h = rw (lt-ltb (length s) (p + 4) h)

  module _ (h : p + 4 ≤ length s) where
    pub no_payload : length s < p + 4 + size s p → None ≡ next_at s p
    unfolding next_at is_cut
    no_payload l = rw (le-ltb (length s) (p + 4) h, lt-ltb (length s) (p + 4 + size s p) l)

    pub all_there : (kind n : ℕ) → kind ≡ number s (p + 2) → n ≡ size s p → p + 4 + n ≤ length s
        → Some (record { kind = kind; from = p + 4; to = p + 4 + n }) ≡ next_at s p
    unfolding next_at is_cut
    all_there kind n ek en l = rw (ek, en, le-ltb (length s) (p + 4) h, le-ltb (length s) (p + 4 + size s p) (omega (arith, en)))

-- FROM THE ANSWER TO WHAT A CALLER KNOWS

pub record Whole (s : Bytes) (p : ℕ) (b : Bounds) : Type 0 where
  pub kind : b.kind ≡ number s (p + 2)
  pub from : b.from ≡ p + 4
  pub to : b.to ≡ p + 4 + size s p
  pub begins : b.from ≤ b.to
  pub inside : b.to ≤ length s
  pub long : b.to - b.from ≡ size s p
  pub payload : take (b.to - b.from) (drop b.from s) ≡ take (size s p) (drop (p + 4) s)

cut-if : (t : Bool) (b : Bounds) → None ≡ cond t None (Some b) → t ≡ true
cut-if true b e = refl
cut-if false b e = absurd (let z : ◌≡◌ {A = ℕ} 0 1 = cc in omega arith)

whole-if : (t : Bool) (b b' : Bounds) → Some b ≡ cond t None (Some b') → (t ≡ false) × (b ≡ b')
whole-if true b b' e = absurd (let z : ◌≡◌ {A = ℕ} 0 1 = cc in omega arith)
whole-if false b b' e = (refl, cc)

module _ (s : Bytes) (p : ℕ) where
  pub cut-is : None ≡ next_at s p → is_cut s p ≡ true
  unfolding next_at
  cut-is e = cut-if (is_cut s p) (bounds_at s p) e

  pub whole_is : {b : Bounds} → Some b ≡ next_at s p → Whole s p b
  unfolding next_at is_cut
  whole_is {b} e =
      let q = whole-if (is_cut s p) b (bounds_at s p) e in
      let f : b.from ≡ p + 4 = ap (λ (x : Bounds). x.from) q.1 in
      let t : b.to ≡ p + 4 + size s p = ap (λ (x : Bounds). x.to) q.1 in
      let i = ltb-false (length s) (p + 4 + size s p) (or_parts (ltb (length s) (p + 4)) _ q.0).1 in
      let l : b.to - b.from ≡ size s p = omega (arith, f, t) in
      record {
        kind = ap (λ (x : Bounds). x.kind) q.1;
        from = f;
        to = t;
        begins = omega (arith, f, t);
        inside = omega (arith, t, i);
        long = l;
        payload = ap (λ (n : ℕ). take n (drop b.from s)) l ∙ ap (λ (n : ℕ). take (size s p) (drop n s)) f;
      }

-- WHERE A RECORD OF A KIND STANDS

module _ (s : Bytes) (p k : ℕ) where
  pub cut_stands : None ≡ next_at s p → stands s k p ≡ false
  cut_stands e = rw (cut-is s p e)

  pub whole-stands : {b : Bounds} → Some b ≡ next_at s p → stands s k p ≡ eqb b.kind k
  unfolding next_at
  whole-stands {b} e =
      let q = whole-if (is_cut s p) b (bounds_at s p) e in
      rw q.0 (ap (λ (x : Bounds). eqb x.kind k) (sym q.1))

  pub stands-kind : stands s k p ≡ true → kind s p ≡ k
  stands-kind e = eqb-true (kind s p) k (and_parts (not (is_cut s p)) (eqb (kind s p) k) e).1

  pub stands-inside : stands s k p ≡ true → behind s p ≤ length s
  unfolding is_cut
  stands-inside e =
      ltb-false (length s) (behind s p) (or_parts (ltb (length s) (p + 4)) _ (not-true _ (and_parts (not (is_cut s p)) (eqb (kind s p) k) e).0)).1

  pub stands_there : behind s p ≤ length s → kind s p ≡ k → stands s k p ≡ true
  unfolding is_cut
  stands_there l e = rw (le-ltb (length s) (p + 4) (omega (arith, l)), le-ltb (length s) (behind s p) l, eq-eqb (kind s p) k e)
