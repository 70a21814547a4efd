-- Parts of memory, what is as before, and bytes that were put somewhere: the laws that all operations share.
use Prim.Native.Nat.{ℕ, zero, suc, ◌≤◌, ◌<◌, ◌+◌}
use native.Mathlib.Omega.{arith}
use native.Mathlib.Nat.{add-zero}
use native.Mathlib.Numerals.{add-one}
use mathlib.Core.Path.{◌≡◌, refl, ap, ◌∙◌}
use mathlib.Core.List.{List, [], ◌∷◌, ◌++◌}
use lib.ListN.{length, get_or, set, take, drop, length-set, length-append}
use lib.Seq.{sets, get_or-set_same, get_or-set_other, drop-cons, take-suc, length-take-le}
use mathlib.Core.Logic.{◌⊎◌, ⊎_elim}
use Rattle.memory.specs.Layout.{part, Same, Only, Put}

-- PARTS

pub part_length : (w : List ℕ) (a n : ℕ) → length (part w a n) ≡ n
unfolding part
part_length w a zero = refl
part_length w a (suc n) = ap suc (part_length w (suc a) n)

pub part_at : (w : List ℕ) (a n i : ℕ) → i < n → get_or (part w a n) i 0 ≡ get_or w (a + i) 0
unfolding part
part_at w a zero i h = absurd (omega arith)
part_at w a (suc n) zero h = rw add-zero
part_at w a (suc n) (suc i) h = part_at w (suc a) n i (omega arith) ∙ ap (λ k. get_or w k 0) (omega arith)

pub part_add : (w : List ℕ) (a n m : ℕ) → part w a (n + m) ≡ part w a n ++ part w (a + n) m
unfolding part
part_add w a zero m = let e : zero + m ≡ m = omega arith in let d : a + zero ≡ a = omega arith in rw (e, d)
part_add w a (suc n) m = let e : suc n + m ≡ suc (n + m) = omega arith in let d : a + suc n ≡ suc a + n = omega arith in rw (e, d) (ap (λ l. get_or w a 0 ∷ l) (part_add w (suc a) n m))

pub part-one : (w : List ℕ) (a : ℕ) → part w a 1 ≡ get_or w a 0 ∷ []
unfolding part
part-one w a = refl

pub part-more : (w : List ℕ) (a n : ℕ) → part w a (n + 1) ≡ part w a n ++ get_or w (a + n) 0 ∷ []
part-more w a n = part_add w a n 1 ∙ ap (λ l. part w a n ++ l) (part-one w (a + n))

-- a part of a slice that code has taken
pub part_slice : (w : List ℕ) (a n : ℕ) → a + n ≤ length w → take n (drop a w) ≡ part w a n
unfolding part
part_slice w a zero h = refl
part_slice w a (suc n) h = rw (drop-cons w a 0 (omega arith)) (ap (λ l. get_or w a 0 ∷ l) (part_slice w (suc a) n (omega arith)))

-- AS BEFORE

pub same_refl : (a e : ℕ) (w : List ℕ) → Same a e w w
same_refl a e w = record { same = λ i h k. refl }

pub same_trans : {a e : ℕ} {u v w : List ℕ} → Same a e u v → Same a e v w → Same a e u w
same_trans p q = record { same = λ i h k. q.same i h k ∙ p.same i h k }

pub same-within : {a e : ℕ} {u v : List ℕ} (b f : ℕ) → a ≤ b → f ≤ e → Same a e u v → Same b f u v
same-within b f h k p = record { same = λ i x y. p.same i (omega arith) (omega arith) }

pub only_refl : (a e : ℕ) (w : List ℕ) → Only a e w w
only_refl a e w = record { size = refl; below = λ i h. refl; above = λ i h. refl }

pub only_trans : {a e : ℕ} {u v w : List ℕ} → Only a e u v → Only a e v w → Only a e u w
only_trans p q =
    record { size = q.size ∙ p.size; below = λ i h. q.below i h ∙ p.below i h; above = λ i h. q.above i h ∙ p.above i h }

pub only_wider : {a e : ℕ} {u v : List ℕ} (b f : ℕ) → b ≤ a → e ≤ f → Only a e u v → Only b f u v
only_wider b f h k p = record { size = p.size; below = λ i x. p.below i (omega arith); above = λ i x. p.above i (omega arith) }

pub under : {a e : ℕ} {u v : List ℕ} (b f : ℕ) → f ≤ a → Only a e u v → Same b f u v
under b f h p = record { same = λ i x y. p.below i (omega arith) }

pub over : {a e : ℕ} {u v : List ℕ} (b f : ℕ) → e ≤ b → Only a e u v → Same b f u v
over b f h p = record { same = λ i x y. p.above i (omega arith) }

-- a part that is as before
pub part_same : {b f : ℕ} {u v : List ℕ} (a n : ℕ) → b ≤ a → a + n ≤ f → Same b f u v → part v a n ≡ part u a n
unfolding part
part_same a zero h k p = refl
part_same {b} {f} {u} {v} a (suc n) h k p =
    rw (p.same a h (omega arith)) (ap (λ l. get_or u a 0 ∷ l) (part_same (suc a) n (omega arith) (omega arith) p))

-- PUT

pub put-none : (a : ℕ) (w : List ℕ) → Put a [] w w
unfolding part
put-none a w = record { got = refl; only = only_refl _ _ w }

pub put_one : (w : List ℕ) (a b : ℕ) → a < length w → Put a (b ∷ []) w (set w a b)
unfolding part
put_one w a b h =
    record {
      got = rw (get_or-set_same w a b 0 h);
      only =
          record {
            size = length-set w a b;
            below = λ i x. get_or-set_other w a i b 0 (λ z. omega arith);
            above = λ i x. get_or-set_other w a i b 0 (λ z. omega arith);
          };
    }

-- what is put right after what was put
pub put_then : {a b : ℕ} {s t : List ℕ} {u v w : List ℕ} → b ≡ a + length s → Put a s u v → Put b t v w → Put a (s ++ t) u w
put_then {a} {b} {s} {t} {u} {v} {w} e p q =
    record {
      got =
          rw (length-append s t, part_add w a (length s) (length t))
          (rw (part_same {u = v} {v = w} a (length s) (omega arith) (omega arith) (under a (a + length s) (omega arith) q.only), p.got, ← e, q.got) refl);
      only =
          rw (length-append s t)
          (only_trans (only_wider a (a + (length s + length t)) (omega arith) (omega arith) p.only)
          (only_wider a (a + (length s + length t)) (omega arith) (omega arith) q.only));
    }

pub put-more : {a : ℕ} {s : List ℕ} {u v : List ℕ} (i b : ℕ) → length s ≡ i → a + i < length v → Put a s u v → Put a (s ++ b ∷ []) u (set v (a + i) b)
put-more {a} {s} {u} {v} i b e h p = put_then (omega arith) p (put_one v (a + i) b h)

-- s stored byte by byte
pub sets-put : (s w : List ℕ) (a : ℕ) → a + length s ≤ length w → Put a s w (sets w a s)
sets-put [] w a h = put-none a w
sets-put (b ∷ s) w a h = put_then (omega arith) (put_one w a b (omega arith)) (sets-put s (set w a b) (suc a) (omega (arith, length-set w a b)))

-- one more byte of s
pub take_put : (s : List ℕ) (i : ℕ) {a : ℕ} {u v : List ℕ} → Put a (take i s) u v → i < length s → a + i < length v → Put a (take (i + 1) s) u (set v (a + i) (get_or s i 0))
take_put s i p h k = rw (add-one i, take-suc s i 0 h) (put-more i (get_or s i 0) (length-take-le i s (omega arith)) k p)

-- one more byte from another place
pub part-put : (b i : ℕ) {a : ℕ} {u v : List ℕ} → Put a (part u b i) u v → (b + i < a) ⊎ (a ≤ b) → a + i < length v → Put a (part u b (i + 1)) u (set v (a + i) (get_or v (b + i) 0))
part-put b i {a} {u} {v} p o k =
    let e : get_or v (b + i) 0 ≡ get_or u (b + i) 0 = ⊎_elim (λ h. p.only.below (b + i) h) (λ h. p.only.above (b + i) (omega (arith, part_length u b i))) o in
    rw (part-more u b i, e) (put-more i (get_or u (b + i) 0) (part_length u b i) k p)

pub put-nothing : (a b : ℕ) (w : List ℕ) → Put a (part w b 0) w w
unfolding part
put-nothing a b w = put-none a w

-- a part that lies apart from what is new
pub part_away : {a e : ℕ} {u v : List ℕ} (b n : ℕ) → Only a e u v → (b + n ≤ a) ⊎ (e ≤ b) → part v b n ≡ part u b n
part_away b n p o =
    ⊎_elim (λ h. part_same b n (omega arith) (omega arith) (under b (b + n) h p)) (λ h. part_same b n (omega arith) (omega arith) (over b (b + n) h p)) o
