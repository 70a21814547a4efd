-- Bytes that were put into memory fix the whole later memory: two memories that keep such a promise are equal.
-- Assumes nothing.
use Prim.Native.Nat.{ℕ, ◌<◌, ◌+◌, ◌-◌}
use native.Mathlib.Omega.{arith}
use native.Mathlib.Decide.{dec_lt}
use mathlib.Core.Path.{◌≡◌, refl, sym, ap, ◌∙◌}
use mathlib.Core.List.{List, [], ◌∷◌, ◌++◌}
use lib.ListN.{length, get_or, take, length-append}
use lib.Seq.{ext_get_or, take-append_seam}
use Rattle.rules.specs.Syntax.{Bytes}
use Rattle.memory.specs.Layout.{Put}
use Rattle.memory.specs.Posts.{Laid, none, behind}
use Rattle.memory.proofs.Texts.{put-at}

pub put_fixed : {a : ℕ} {s u v w : List ℕ} → Put a s u v → Put a s u w → v ≡ w
put_fixed {a} {s} {u} {v} {w} p q = ext_get_or 0 v w (p.only.size ∙ sym q.only.size) (λ i h. at i (dec_lt i a) (dec_lt i (a + length s)))
  where
    at : (i : ℕ) → Dec (i < a) → Dec (i < a + length s) → get_or v i 0 ≡ get_or w i 0
    at i (yes h) k = p.only.below i h ∙ sym (q.only.below i h)
    at i (no h) (no k) = p.only.above i (omega arith) ∙ sym (q.only.above i (omega arith))
    at i (no h) (yes k) =
        let d : a + (i - a) ≡ i = omega arith in
        rw d at (put-at a s (i - a) p (omega arith) ∙ sym (put-at a s (i - a) q (omega arith)))

-- FIELDS ------------------------------------------------------------------------------------------------------------

last-is : {A : Type 0} (d : A) (xs : List A) (x : A) → get_or (xs ++ x ∷ []) (length xs) d ≡ x
last-is d [] x = refl
last-is d (y ∷ xs) x = last-is d xs x

-- lists that end in one field each and are equal are equal before it
ends_alike : (ss ts : List Bytes) (s t : Bytes) → ss ++ s ∷ [] ≡ ts ++ t ∷ [] → (ss ≡ ts) × (s ≡ t)
ends_alike ss ts s t e =
    let n : length ss ≡ length ts = omega (arith, ap length e, length-append ss (s ∷ []), length-append ts (t ∷ [])) in
    (sym (take-append_seam ss (s ∷ [])) ∙ (λ i. take (n i) (e i)) ∙ take-append_seam ts (t ∷ []), sym (last-is [] ss s) ∙ (λ i. get_or (e i) (n i) []) ∙ last-is [] ts t)

pub laid_fixed : {u a m : ℕ} {w x y : List ℕ} {ss ts : List Bytes} → Laid u a m w ss x → Laid u a m w ts y → ss ≡ ts → x ≡ y
laid_fixed none none e = refl
laid_fixed none (behind {ss = ts} {s = t} q r) e = absurd (omega (arith, ap length e, length-append ts (t ∷ [])))
laid_fixed (behind {ss = ss} {s = s} p r) none e = absurd (omega (arith, ap length e, length-append ss (s ∷ [])))
laid_fixed (behind {ss = ss} {s = s} p r) (behind {ss = ts} {s = t} q z) e =
    let k = ends_alike ss ts s t e in
    put_fixed (rw (k.0, k.1, laid_fixed p q k.0) at r) z
