-- The end of a check: what an accepted and a refused pass give.
use mathlib.Core.Path.{◌≡◌, refl, sym, ap, ◌∙◌, subst}
use mathlib.Core.Bool.{true, false}
use mathlib.Core.List.{[], ◌∷◌}
use Prim.Native.Nat.{ℕ, zero, suc, ◌-◌, ◌<◌, ◌≤◌}
use native.Mathlib.Omega.{arith}
use lib.ListN.{length, length-map}
use borrow.Author.Tests.{lt-ltb, le-ltb}
use Rattle.std.specs.Prelude.{Ok, Err}
use Rattle.std.proofs.lemmas.Bool.{false≢true}
use Rattle.rules.specs.Syntax.{Bytes}
use Rattle.sheet.specs.declared.Counts.{Counts}
use Rattle.sheet.specs.declared.Accepted.{Accepted}
use Rattle.sheet.specs.declared.Refused.{Refused}
use Rattle.sheet.specs.Format.{number}
use Rattle.sheet.specs.Table.{written, partly, complete, leaves}
use Rattle.sheet.specs.Decode.{main_body}
use Rattle.sheet.specs.Check.{Rec, Known, Checked, accepted, refused, known, start, count, payload_of, ends_in_main, walk, check}
use Rattle.sheet.specs.Ready.{Held, Listed, Resolving, Marked, Completed, counts_of, refused_of, passed_of, passed_table, finding_of}
use Rattle.sheet.proofs.Records.{count-known}
use Rattle.sheet.proofs.Judged.{name-call}
use Rattle.sheet.proofs.Sound.{Sound}
use Rattle.sheet.proofs.Going.{slots_of, held-filled, listed-filled, partly-start}
use Rattle.sheet.proofs.Entered.{written-two}
use Rattle.sheet.proofs.Marks.{Whole, whole}

pub completed : (K : Known) (t t₁ t₂ t₃ : Bytes) (body : ℕ) → body ≡ main_body K → Marked K t t₁ → t₂ ≡ written t₁ 3072 (body ∷ []) → t₃ ≡ written t₂ 3074 (0 ∷ []) → Completed K t t₃
completed K t t₁ t₂ t₃ body b m e₂ e₃ = λ u q.
    e₃ ∙ ap (λ (x : Bytes). written x 3074 (0 ∷ [])) e₂ ∙ written-two t₁ 3072 body 0
    ∙ ap (λ (k : ℕ). written t₁ 3072 (k ∷ 0 ∷ [])) b ∙ ap (λ (x : Bytes). written x 3072 (main_body K ∷ 0 ∷ [])) (m u q)

-- the code's number for main's record
pub main-is : (s : Bytes) (n body : ℕ) → body ≡ number (payload_of (known s n) (n - 1)) 0 → body ≡ main_body (known s n)
main-is s n body e = e ∙ ap (λ (k : ℕ). number (payload_of (known s n) (k - 1)) 0) (sym (count-known s n))

pub check-long : (s : Bytes) → 8192 < length s → check s ≡ refused 3 0
unfolding check
check-long s h = rw (lt-ltb 8192 (length s) h)

pub check-short : (s : Bytes) → length s ≤ 8192 → check s ≡ walk s 512 start
unfolding check
check-short s h = rw (le-ltb 8192 (length s) h)

pub long_finding : (s t : Bytes) → 8192 < length s → (Err (refused_of 3 0) ≡ finding_of (check s)) × (t ≡ leaves s (check s) t)
unfolding leaves known
long_finding s t h = rw (check-long s h) (refl, partly-start t)

-- REFUSED

-- what a refused pass found, the check finds too
pub refused_finding : (s t₀ t : Bytes) (e : Refused) → length s ≤ 8192 → Err e ≡ passed_of (walk s 512 start) → t ≡ passed_table s (walk s 512 start) t₀
    → (Err e ≡ finding_of (check s)) × (t ≡ leaves s (check s) t₀)
unfolding leaves
refused_finding s t₀ t e h p q = rw (check-short s h) (go (walk s 512 start) p q)
  where
    go : (w : Checked) → Err e ≡ passed_of w → t ≡ passed_table s w t₀ → (Err e ≡ finding_of w) × (t ≡ leaves s w t₀)
    go (accepted K) a b = let z : ◌≡◌ {A = ℕ} 0 1 = cc in absurd (omega arith)
    go (refused n r) a b = (let x : e ≡ refused_of n r = cc in ap Err x, b)

-- ACCEPTED

pub record Kept (w : Checked) (c : Counts) : Type 0 where
  pub of : Known
  pub accepts : w ≡ accepted of
  pub counts : c ≡ counts_of of

pub told-good : (w : Checked) (c : Counts) → Ok c ≡ passed_of w → Kept w c
told-good (accepted K) c e = record { of = K; accepts = refl; counts = cc }
told-good (refused k r) c e = let z : ◌≡◌ {A = ℕ} 0 1 = cc in absurd (omega arith)

module _ (s t₀ t : Bytes) (c : Counts) (small : length s ≤ 8192) (room : 4096 ≤ length t₀) (e : Ok c ≡ passed_of (walk s 512 start)) (q : t ≡ passed_table s (walk s 512 start) t₀) where
  k : Kept (walk s 512 start) c
  k = told-good (walk s 512 start) c e

  w : Whole s k.of
  w = whole s k.of k.accepts

  records_is : c.records ≡ w.n
  records_is = ap (λ (x : Counts). x.records) k.counts ∙ ap count w.is ∙ count-known s w.n

  known_is : k.of ≡ known s c.records
  known_is = w.is ∙ ap (known s) (sym records_is)

  sound : Sound s c.records
  sound = subst (Sound s) (sym records_is) w.sound

  few : c.records ≤ 512
  few = let a = w.few in let b = records_is in omega arith

  pub good_table : t ≡ partly (known s c.records) t₀
  good_table = q ∙ ap (λ (x : Checked). passed_table s x t₀) k.accepts ∙ ap (λ (K : Known). partly K t₀) known_is

  marks : length (slots_of (known s c.records)) ≡ c.records
  marks = length-map (known s c.records).records (λ (c : Rec). c.slot) ∙ count-known s c.records

  pub good_resolving : Resolving s t c.records c.functions
  good_resolving = record {
    held = subst (λ (b : Bytes). Held s b c.records) (sym good_table) (held-filled s t₀ c.records (slots_of (known s c.records)) sound few room marks small);
    listed = subst (λ (b : Bytes). Listed s b (known s c.records)) (sym good_table) (listed-filled s t₀ c.records (slots_of (known s c.records)) sound few room marks);
    functions_is = ap (λ (x : Counts). x.functions) k.counts ∙ ap (λ (K : Known). length K.functions) known_is;
    named = λ r l f. let m = name-call (known s r) _ _ (sound.rights r l) f in omega (arith, count-known s r);
  }

  pub good-some : 0 < c.records
  unfolding known
  good-some = go c.records (ap ends_in_main (sym known_is) ∙ w.main)
    where
      go : (n : ℕ) → ends_in_main (known s n) ≡ true → 0 < n
      go zero m = absurd (false≢true (none m))
        where
          none : ends_in_main (known s 0) ≡ true → false ≡ true
          none m = m
      go (suc n) m = omega arith

  pub good_finding : (a : Accepted) (t' : Bytes) → a ≡ record { records = c.records; slots = c.slots; functions = c.functions } → Completed (known s c.records) t t'
      → (Ok a ≡ finding_of (check s)) × (t' ≡ leaves s (check s) t₀)
  unfolding leaves
  good_finding a t' ea m =
      rw (check-short s small ∙ k.accepts)
      (ap Ok (ea ∙ ap (λ (x : Counts). record { records = x.records; slots = x.slots; functions = x.functions }) k.counts), m t₀ good_table ∙ ap (λ (K : Known). complete K t₀) (sym known_is))
