-- Split: the rules' stretches, found from the front.
use Prim.Native.Nat.{ℕ, zero, suc, ◌≤◌, ◌<◌, ◌+◌, ◌*◌, ◌-◌}
use native.Mathlib.Omega.{arith}
use native.Mathlib.Decide.{dec_lt}
use native.Mathlib.Nat.{add-zero, mul-le-mul_left, mul_comm}
use Rattle.memory.proofs.Texts.{step}
use mathlib.Core.Path.{◌≡◌, refl, sym, ap, ◌∙◌}
use mathlib.Core.Bool.{Bool, true, false, true≢false}
use mathlib.Core.List.{List, [], ◌∷◌, ◌++◌, append_assoc, append-nil}
use lib.ListN.{length, get_or, length-append}
use Rattle.rules.specs.Syntax.{Bytes}
use Rattle.rules.specs.Words.{is_blank, pieces, non_empty, stretches}
use Rattle.memory.specs.Layout.{part, Only, Put, fields_at}
use Rattle.memory.specs.Posts.{Run, Added, Grown, Laid, none, behind}
use Rattle.memory.proofs.Parts.{part_add, part_away, only_refl, only_trans, only_wider}
use mathlib.Core.Logic.{inr}

-- blanks in front
skip : (s : List ℕ) (i n : ℕ) (t : Bytes) → ((j : ℕ) → i ≤ j → j < i + n → is_blank (get_or s j 0) ≡ true) → stretches (part s i n ++ t) ≡ stretches t
unfolding part
skip s i zero t q = refl
skip s i (suc n) t q = rw (q i (omega arith) (omega arith)) (skip s (suc i) n t (λ j x y. q j (omega arith) (omega arith)))

pub skipped : {s : List ℕ} {i e r : ℕ} → Run true s i e r → stretches (part s i (e - i)) ≡ stretches (part s r (e - r))
skipped {s} {i} {e} {r} p =
    let f : i ≤ r = p.from in let t : r ≤ e = p.to in
    let d : e - i ≡ (r - i) + (e - r) = omega arith in
    let g : i + (r - i) ≡ r = omega arith in
    rw (d, part_add s i (r - i) (e - r), g) (skip s i (r - i) (part s r (e - r)) (λ j x y. p.all j x (omega arith)))

-- a stretch in front: what follows it is nothing, or begins with a blank
record Edge (t : Bytes) : Type 0 where
  rest : List Bytes
  begins : pieces t ≡ [] ∷ rest
  same : non_empty rest ≡ stretches t

edge : (s : List ℕ) (j m : ℕ) → (0 < m → is_blank (get_or s j 0) ≡ true) → Edge (part s j m)
unfolding part
edge s j zero q = record { rest = []; begins = refl; same = refl }
edge s j (suc m) q = record { rest = pieces (part s (suc j) m); begins = rw (q (omega arith)); same = rw (q (omega arith)) }

whole : (s : List ℕ) (k n : ℕ) (t : Bytes) (rest : List Bytes) → ((j : ℕ) → k ≤ j → j < k + n → is_blank (get_or s j 0) ≡ false) → pieces t ≡ [] ∷ rest → pieces (part s k n ++ t) ≡ part s k n ∷ rest
unfolding part
whole s k zero t rest q e = e
whole s k (suc n) t rest q e = rw (q k (omega arith) (omega arith), whole s (suc k) n t rest (λ j x y. q j (omega arith) (omega arith)) e)

front : (s : List ℕ) (k n : ℕ) (t : Bytes) → 0 < n → ((j : ℕ) → k ≤ j → j < k + n → is_blank (get_or s j 0) ≡ false) → Edge t → stretches (part s k n ++ t) ≡ part s k n ∷ stretches t
unfolding part
front s k zero t h q e = absurd (omega arith)
front s k (suc n) t h q e = ap non_empty (whole s k (suc n) t e.rest q e.begins) ∙ ap (λ l. part s k (suc n) ∷ l) e.same

pub stretched : {s : List ℕ} {k e j : ℕ} → Run false s k e j → k < j → stretches (part s k (e - k)) ≡ part s k (j - k) ∷ stretches (part s j (e - j))
stretched {s} {k} {e} {j} p h =
    let t : j ≤ e = p.to in
    let d : e - k ≡ (j - k) + (e - j) = omega arith in
    let g : k + (j - k) ≡ j = omega arith in
    rw (d, part_add s k (j - k) (e - j), g)
    (front s k (j - k) (part s j (e - j)) (omega arith) (λ i x y. p.all i x (omega arith)) (edge s j (e - j) (λ z. p.stops (omega arith))))

-- it is not empty where no blank stands
pub moved : {s : List ℕ} {k e j : ℕ} → Run false s k e j → k < e → is_blank (get_or s k 0) ≡ false → k < j
moved {s} {k} {e} {j} p h b = go (dec_lt k j)
  where
    go : Dec (k < j) → k < j
    go (yes z) = z
    go (no z) =
        let f : k ≤ j = p.from in let d : j ≡ k = omega arith in
        let x : is_blank (get_or s k 0) ≡ true = rw d at (p.stops (omega arith)) in
        let y : true ≡ false = sym x ∙ b in
        absurd (true≢false y)

pub no_stretch : (s : List ℕ) (k e : ℕ) → e ≤ k → stretches (part s k (e - k)) ≡ []
unfolding part
no_stretch s k e h = let d : e - k ≡ 0 = omega arith in rw d

-- COUNTING

-- one stretch and the blanks after it
pub counted : {s : List ℕ} {k e j r : ℕ} (n t : ℕ) → Run false s k e j → Run true s j e r → k < e → is_blank (get_or s k 0) ≡ false
    → n + length (stretches (part s k (e - k))) ≡ t → n + 1 + length (stretches (part s r (e - r))) ≡ t
counted {s} {k} {e} {j} {r} n t p q h b i = omega (arith, i, ap length (stretched p (moved p h b)), ap length (skipped q))

-- ADDING

-- w has got the stretches up to k: n fields at a, of m at first in w₀; the bytes from i to e lie above the list
pub record Adding (L : ℕ) (w₀ : List ℕ) (a m i e : ℕ) (w : List ℕ) (n k : ℕ) : Type 0 where
  pub from : i ≤ k
  pub to : k ≤ e
  pub done : List Bytes
  pub many : n ≡ m + length done
  pub split : done ++ stretches (part w₀ k (e - k)) ≡ stretches (part w₀ i (e - i))
  pub fields : fields_at L w a n ≡ fields_at L w₀ a m ++ done
  pub laid : Laid L a m w₀ done w
  pub only : Only (a + L * m) (a + 16 * L) w₀ w

run_same : {b : Bool} {u v : List ℕ} {k e j : ℕ} (a : ℕ) → ((i : ℕ) → a ≤ i → get_or v i 0 ≡ get_or u i 0) → a ≤ k → Run b v k e j → Run b u k e j
run_same {k = k} {j = j} a q h p =
    record { from = p.from; to = p.to; all = λ i x y. rw (sym (q i (omega arith))) (p.all i x y); stops = λ z. rw (sym (q j (omega (arith, p.from)))) (p.stops z) }

pub adding-none : (L : ℕ) (w : List ℕ) (a m i e : ℕ) → i ≤ e → Adding L w a m i e w m i
adding-none L w a m i e h = record {
  from = omega arith;
  to = h;
  done = [];
  many = omega arith;
  split = refl;
  fields = sym (append-nil (fields_at L w a m));
  laid = none;
  only = only_refl _ _ w;
}

left : {L : ℕ} {w₀ w : List ℕ} {a m i e n k : ℕ} → Adding L w₀ a m i e w n k → n + length (stretches (part w₀ k (e - k))) ≡ m + length (stretches (part w₀ i (e - i)))
left {w₀ = w₀} {e = e} {k = k} p = omega (arith, p.many, ap length p.split, length-append p.done (stretches (part w₀ k (e - k))))

-- one more, from b to j, while some are left
module _ {L : ℕ} {w₀ w : List ℕ} {a m i e n k b j : ℕ} (p : Adding L w₀ a m i e w n k) (q : Run true w k e b) (s : Run false w b e j) (o : a + 16 * L ≤ i) (h : n < m + length (stretches (part w₀ i (e - i)))) where
  q₀ : Run true w₀ k e b
  q₀ = run_same (a + 16 * L) p.only.above (omega (arith, p.from)) q

  s₀ : Run false w₀ b e j
  s₀ = run_same (a + 16 * L) p.only.above (omega (arith, p.from, q.from)) s

  more : b < e
  more = go (dec_lt b e)
    where
      go : Dec (b < e) → b < e
      go (yes z) = z
      go (no z) = absurd (omega (arith, left p, ap length (skipped q₀), ap length (no_stretch w₀ b e (omega arith))))

  stretch : stretches (part w₀ k (e - k)) ≡ part w₀ b (j - b) ∷ stretches (part w₀ j (e - j))
  stretch = skipped q₀ ∙ stretched s₀ (moved s₀ more (q₀.stops more))

  pub adding-more : {w' : List ℕ} → Added L a n (part w b (j - b)) w w' → n < 16 → Adding L w₀ a m i e w' (n + 1) j
  adding-more {w'} d n16 =
      let t = part w₀ b (j - b) in
      let z : part w b (j - b) ≡ t = part_away b (j - b) p.only (inr (omega (arith, p.from, q.from))) in
      let put : Put (a + L * (m + length p.done)) (length t ∷ t) w w' = rw (p.many, z) at d.put in
      record {
        from = omega (arith, p.from, q.from, s.from);
        to = s.to;
        done = p.done ++ t ∷ [];
        many = omega (arith, p.many, length-append p.done (t ∷ []));
        split = append_assoc p.done (t ∷ []) (stretches (part w₀ j (e - j))) ∙ ap (λ l. p.done ++ l) (sym stretch) ∙ p.split;
        fields = d.fields ∙ rw (z, p.fields) (append_assoc (fields_at L w₀ a m) p.done (t ∷ []));
        laid = behind p.laid put;
        only = only_trans p.only (only_wider (a + L * m) (a + 16 * L) (omega (arith, mul-le-mul_left L (many-more p))) (omega (arith, step L n 16 n16, mul_comm L 16)) d.only);
      }
    where
      many-more : Adding L w₀ a m i e w n k → m ≤ n
      many-more p = omega (arith, p.many)

-- ONE FIELD

pub one-grown : {u a i : ℕ} {s : Bytes} {w w' : List ℕ} → i < 16 → Added u a i s w w' → Grown u a i (s ∷ []) w w' (i + 1)
one-grown {u} {a} {i} {s} {w} {w'} h d = record {
  fields = d.fields;
  count = omega arith;
  laid = behind {ss = []} {s = s} {v = w} {w' = w'} none (rw (add-zero i) d.put);
  only = only_wider (a + u * i) (a + 16 * u) (omega arith) (omega (arith, step u i 16 h, mul_comm u 16)) d.only;
}
