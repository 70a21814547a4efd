-- What unchanged or moved bytes stand for is unchanged: texts, fields, numbers; and a text that was put.
use Prim.Native.Nat.{ℕ, zero, suc, ◌≤◌, ◌<◌, ◌+◌, ◌*◌, ◌-◌, ◌%◌, min}
use native.Mathlib.Omega.{arith}
use native.Mathlib.Nat.{mod-lt, mod-eq_of_lt, mul-suc, mul-le-mul_left}
use native.Mathlib.Numerals.{add-one}
use mathlib.Core.Path.{◌≡◌, refl, sym, ap, ◌∙◌, subst}
use mathlib.Core.List.{List, [], ◌∷◌, ◌++◌}
use lib.ListN.{length, get_or, set, take, drop}
use Rattle.rules.specs.Syntax.{Bytes}
use Rattle.memory.specs.Layout.{part, Same, Put, text_at, field_at, fields_at, number_at, value_at, value_if}
use Rattle.memory.specs.Posts.{Added, Appended, Longer, InReach, four_bytes, looked}
use Rattle.memory.specs.declared.Source.{Source}
use Rattle.memory.specs.declared.Source.TheVariants.{Text, Variable}
use native.Mathlib.Decide.{dec_le}
use lib.Seq.{length-take-le, take-append-add, take_all, take_at}
use Rattle.memory.proofs.Parts.{under, part_length, part_same, part_add, part_at, only_wider, part_away, part_slice, put_one, put_then}
use mathlib.Core.Logic.{◌⊎◌}
use borrow.Author.Tests.{ne_eqb}
use Rattle.memory.proofs.Rows.{row_same, row_more}

-- the n bytes at b of v are those at a of u
pub record Like (a b n : ℕ) (u v : List ℕ) : Type 0 where
  pub like : (i : ℕ) → i < n → get_or v (b + i) 0 ≡ get_or u (a + i) 0

pub like_same : {b f : ℕ} {u v : List ℕ} (a n : ℕ) → Same b f u v → b ≤ a → a + n ≤ f → Like a a n u v
like_same a n p h k = record { like = λ i l. p.same (a + i) (omega arith) (omega arith) }

pub like_within : {a b n : ℕ} {u v : List ℕ} (k m : ℕ) → Like a b n u v → k + m ≤ n → Like (a + k) (b + k) m u v
like_within {a} {b} {n} {u} {v} k m p h = record { like = λ i l. ap (λ j. get_or v j 0) (omega arith) ∙ p.like (k + i) (omega arith) ∙ ap (λ j. get_or u j 0) (omega arith) }

pub like_at : {a b n : ℕ} {u v : List ℕ} → Like a b n u v → 0 < n → get_or v b 0 ≡ get_or u a 0
like_at {a} {b} {n} {u} {v} p h = let x : b + 0 ≡ b = omega arith in let y : a + 0 ≡ a = omega arith in rw (x, y) at (p.like 0 h)

pub part_like : {a b : ℕ} {u v : List ℕ} (n : ℕ) → Like a b n u v → part v b n ≡ part u a n
unfolding part
part_like zero p = refl
part_like {a} {b} {u} {v} (suc n) p =
    rw (like_at p (omega arith))
    (ap (λ l. get_or u a 0 ∷ l)
    (let q : Like (a + 1) (b + 1) n u v = like_within 1 n p (omega arith) in part_like n (rw (add-one a, add-one b) at q)))

-- L * k, for an unknown L
pub step : (L k n : ℕ) → k < n → L * k + L ≤ L * n
step L k n h = subst (λ (j : ℕ). j ≤ L * n) (mul-suc L k) (mul-le-mul_left L h)

pub text_like : {a b : ℕ} {u v : List ℕ} (L : ℕ) → Like a b L u v → 0 < L → text_at L v b ≡ text_at L u a
text_like {a} {b} {u} {v} L p h = rw (like_at p h) (part_like (get_or u a 0 % L) (like_within 1 (get_or u a 0 % L) p (omega (arith, mod-lt (get_or u a 0) h))))

pub number_like : {a b : ℕ} {u v : List ℕ} → Like a b 4 u v → number_at v b ≡ number_at u a
unfolding number_at
number_like p = rw (like_at p (omega arith), p.like 1 (omega arith), p.like 2 (omega arith), p.like 3 (omega arith))

-- what was put, from its first byte on
pub put_head : (a b : ℕ) (s : Bytes) {u v : List ℕ} → Put a (b ∷ s) u v → get_or v a 0 ≡ b
unfolding part
put_head a b s p = cc p.got

pub put-tail : (a b : ℕ) (s : Bytes) {u v : List ℕ} → Put a (b ∷ s) u v → part v (a + 1) (length s) ≡ s
unfolding part
put-tail a b s p = rw (add-one a) (cc p.got)

pub text-put : (L a : ℕ) (s : Bytes) {u v : List ℕ} → Put a (length s ∷ s) u v → length s < L → text_at L v a ≡ s
text-put L a s p h = let e : length s % L ≡ length s = mod-eq_of_lt h in rw (put_head a (length s) s p, e) (put-tail a (length s) s p)

-- a list that is as before, and one that has a field more
pub fields_like : {a b : ℕ} {u v : List ℕ} (L n : ℕ) → 0 < L → Like a b (L * n) u v → fields_at L v b n ≡ fields_at L u a n
fields_like L n z p = row_same n _ _ (λ k h. text_like L (like_within (L * k) L p (step L k n h)) z)

pub added : (L a i : ℕ) (s : Bytes) {u v : List ℕ} → Put (a + L * i) (length s ∷ s) u v → length s < L → Added L a i s u v
added L a i s {u} {v} p h =
    record {
      fields =
          row_more i (field_at L v a)
          ∙ rw (text-put L (a + L * i) s p h, fields_like L i (omega arith) (like_same a (L * i) (under a (a + L * i) (omega arith) p.only) (omega arith) (omega arith)));
      put = p;
      only = record { size = p.only.size; below = p.only.below; above = λ j l. p.only.above j (omega arith) };
    }

pub put-at : (a : ℕ) (s : Bytes) (i : ℕ) {u v : List ℕ} → Put a s u v → i < length s → get_or v (a + i) 0 ≡ get_or s i 0
put-at a s i {u} {v} p h = sym (part_at v a (length s) i h) ∙ ap (λ l. get_or l i 0) p.got

pub put_second : (a b x y : ℕ) (s : Bytes) {u v : List ℕ} → Put a (x ∷ y ∷ s) u v → b ≡ a + 1 → get_or v b 0 ≡ y
unfolding part
put_second a b x y s p e = rw (e, add-one a) (cc p.got)

pub put_third : (a b x y : ℕ) (s : Bytes) {u v : List ℕ} → Put a (x ∷ y ∷ s) u v → b ≡ a + 2 → part v b (length s) ≡ s
unfolding part
put_third a b x y s p e = let d : b ≡ suc (suc a) = omega arith in rw d (cc p.got)

-- the string in work: what is put behind it, as far as there is room
pub appended : (L a n m : ℕ) (s : Bytes) {u v : List ℕ} → Put (a + n) (take m s) u v → n ≤ L → m ≡ min (L - n) (length s) → Appended L a n s u v (n + m)
appended L a n m s {u} {v} p h e =
    let l : length (take m s) ≡ m = length-take-le m s (omega arith) in
    record {
      kept =
          part_add v a n m
          ∙ rw (part_same {u = u} {v = v} a n (omega arith) (omega arith) (under a (a + n) (omega arith) p.only), rw l at p.got)
          (sym (room ∙ ap (λ t. part u a n ++ t) (short (dec_le (L - n) (length s)))));
      fits = omega arith;
      only = only_wider (a + n) (a + (n + m)) (omega arith) (omega arith) p.only;
    }
  where
    room : take L (part u a n ++ s) ≡ part u a n ++ take (L - n) s
    room = let d : L ≡ length (part u a n) + (L - n) = omega (arith, part_length u a n) in ap (λ k. take k (part u a n ++ s)) d ∙ take-append-add (part u a n) s (L - n)

    short : Dec (L - n ≤ length s) → take (L - n) s ≡ take m s
    short (yes q) = let z : L - n ≡ m = omega arith in rw z
    short (no q) = take_all (L - n) s (omega arith) ∙ sym (take_all m s (omega arith))

pub take_part : (w : List ℕ) (a k n : ℕ) → k ≤ n → take k (part w a n) ≡ part w a k
take_part w a k n h =
    let e : n ≡ k + (n - k) = omega arith in
    rw (e, part_add w a k (n - k)) (take_at (part w a k) (part w (a + k) (n - k)) k (part_length w a k))

pub longer : (a n : ℕ) (s : Bytes) {u v : List ℕ} → Put (a + n) s u v → n + length s ≤ 1024 → Longer a n s u v (n + length s)
longer a n s {u} {v} p h =
    record {
      fits = h;
      count = refl;
      bytes = part_add v a n (length s) ∙ rw (part_same {u = u} {v = v} a n (omega arith) (omega arith) (under a (a + n) (omega arith) p.only), p.got);
      only = p.only;
    }

pub stored : (a n : ℕ) {u v : List ℕ} → Put a (four_bytes n) u v → n < 4294967296 → number_at v a ≡ n
unfolding number_at
stored a n {u} {v} p h =
    let e : get_or v a 0 ≡ n % 256 = put_head a _ _ p in
    rw (e, put-at a (four_bytes n) 1 p (omega arith), put-at a (four_bytes n) 2 p (omega arith), put-at a (four_bytes n) 3 p (omega arith)) (omega arith)

-- a length byte, then so many bytes of another place
pub texted : (a b n : ℕ) {u v : List ℕ} → Put (a + 1) (part (set u a n) b n) (set u a n) v → (b + n ≤ a) ⊎ (a + 1 ≤ b) → a < length u → Put a (n ∷ part u b n) u v
texted a b n {u} {v} p o h =
    let q : Put a (n ∷ []) u (set u a n) = put_one u a n h in
    let e : part (set u a n) b n ≡ part u b n = part_away b n q.only o in
    put_then (omega arith) q (rw e at p)

pub counted-text : (a n : ℕ) (w : List ℕ) (b : ℕ) {u v : List ℕ} → Put a (n ∷ part w b n) u v → Put a (length (part w b n) ∷ part w b n) u v
counted-text a n w b {u} {v} p = subst (λ (k : ℕ). Put a (k ∷ part w b n) u v) (sym (part_length w b n)) p

pub appended_part : (L a n k b m : ℕ) {u v : List ℕ} → Put (a + n) (part u b k) u v → n ≤ L → k ≡ min (L - n) m → Appended L a n (part u b m) u v (n + k)
appended_part L a n k b m {u} {v} p h e = appended L a n k (part u b m) (rw (take_part u b k m (omega arith)) p) h (rw (part_length u b m) e)

pub longer-part : (a n b m : ℕ) {u v : List ℕ} → Put (a + n) (part u b m) u v → n + m ≤ 1024 → Longer a n (part u b m) u v (n + m)
longer-part a n b m {u} {v} p h = subst (λ (k : ℕ). Longer a n (part u b m) u v (n + k)) (part_length u b m) (longer a n (part u b m) p (rw (part_length u b m) h))

-- a text or a variable read in place
module _ (L : ℕ) (sheet work : List ℕ) {source : Source} where
  pub looked-text : (at n : ℕ) → source ≡ Text at n → InReach L sheet work source → take (at + n - at) (drop at sheet) ≡ looked L sheet work source
  unfolding looked
  looked-text at n e h = let d : at + n - at ≡ n = omega arith in rw (e, d) (part_slice sheet at n (rw e at h))

  pub looked-unset : (slot : ℕ) → source ≡ Variable slot → get_or work (slot + 1) 0 ≡ 0 → ◌≡◌ {A = List ℕ} [] (looked L sheet work source)
  unfolding looked value_at value_if
  looked-unset slot e h = rw (e, h)

  pub looked-set : (slot : ℕ) → source ≡ Variable slot → (get_or work (slot + 1) 0 ≡ 0 → ⊥) → text_at L work (slot + 2) ≡ looked L sheet work source
  unfolding looked value_at value_if
  looked-set slot e h = rw (e, ne_eqb _ _ h)

pub mul_more : (L k : ℕ) → L * (k + 1) ≡ L * k + L
mul_more L k = rw (add-one k) (mul-suc L k)
