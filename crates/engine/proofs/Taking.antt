-- The texts of an argument sheet, walked one after another into work memory: argument 0, then the other arguments as a list.
-- Assumes nothing.
use Prim.Native.Nat.{ℕ, zero, suc, ◌≤◌, ◌<◌, ◌+◌, ◌*◌, ◌-◌}
use native.Mathlib.Numerals.{add-one}
use native.Mathlib.Omega.{arith}
use native.Mathlib.Decide.{ℕ_discrete}
use mathlib.Core.Path.{◌≡◌, refl, sym, ap, ◌∙◌, subst}
use mathlib.Core.Bool.{Bool, true, false, ◌&&◌, cond}
use mathlib.Core.List.{List, [], ◌∷◌, ◌++◌, map}
use lib.Dec.{eqb, ltb}
use lib.ListN.{length, get_or, take, drop, length-append, length-map, length-drop}
use lib.Seq.{length-take-le}
use borrow.Author.Tests.{ltb-true}
use Rattle.rules.specs.Syntax.{Bytes}
use Rattle.sheet.specs.Format.{number}
use Rattle.sheet.specs.Arguments.{is_text, Texts, texts_from, texts, texts_known, Arguments, given, refused, arguments}
use Rattle.sheet.specs.Arguments as sheet
use Rattle.sheet.proofs.ArgumentLaws.{text-short, text-inside}
use Rattle.memory.specs.Layout.{Same, Put, fields_at, list_place}
use Rattle.memory.specs.Posts.{Added, Laid, none, behind}
use Rattle.memory.proofs.Rows.{row-none}
use Rattle.memory.proofs.Texts.{like_same, text_like, text-put}
use Rattle.engine.specs.Start.{Takes, Taken}

-- THE WALK

-- the first n texts
abbrev pub first : (s : Bytes) → (n : ℕ) → List Bytes
first s n = map (sheet.text_at s) (texts_known s n).starts

-- where text n begins
abbrev pub from : (s : Bytes) → (n : ℕ) → ℕ
from s n = (texts_known s n).end

map-append : {A B : Type 0} (f : A → B) (xs ys : List A) → map f (xs ++ ys) ≡ map f xs ++ map f ys
map-append f [] ys = refl
map-append f (x ∷ xs) ys = ap (λ l. f x ∷ l) (map-append f xs ys)

first_more : (s : Bytes) (n : ℕ) → first s (n + 1) ≡ first s n ++ sheet.text_at s (from s n) ∷ []
unfolding texts_known
first_more s n = rw (add-one n) (map-append (sheet.text_at s) (texts_known s n).starts (from s n ∷ []))

from_more : (s : Bytes) (n : ℕ) → from s (n + 1) ≡ from s n + 4 + number s (from s n)
unfolding texts_known
from_more s n = rw (add-one n) refl

first-none : (s : Bytes) → first s 0 ≡ []
unfolding texts_known
first-none s = refl

from-none : (s : Bytes) → from s 0 ≡ 0
unfolding texts_known
from-none s = refl

first-length : (s : Bytes) (n : ℕ) → length (first s n) ≡ n
unfolding texts_known
first-length s zero = refl
first-length s (suc n) = rw (map-append (sheet.text_at s) (texts_known s n).starts (from s n ∷ [])) (simp length-append (omega (arith, first-length s n)))

-- the walk goes on for some texts, and stops
record Walk (s : Bytes) (j left : ℕ) (R : Texts) : Type 0 where
  count : ℕ
  is : R ≡ texts_known s count
  high : count ≤ j + left
  each : (k : ℕ) → j ≤ k → k < count → is_text s (from s k) ≡ true

walk : (s : Bytes) (left j : ℕ) → Walk s j left (texts_from s left (texts_known s j))
unfolding texts_from texts_known
walk s zero j = record { count = j; is = refl; high = omega arith; each = λ k l h. absurd (omega arith) }
walk s (suc left) j = go (is_text s (from s j)) refl (walk s left (suc j))
  where
    at : (k n : ℕ) → is_text s (from s j) ≡ true → ((k : ℕ) → suc j ≤ k → k < n → is_text s (from s k) ≡ true) → j ≤ k → k < n → Dec (k ≡ j) → is_text s (from s k) ≡ true
    at k n e f l h (yes z) = rw z e
    at k n e f l h (no z) = f k (omega (arith, z)) h

    go : (b : Bool) → is_text s (from s j) ≡ b → Walk s (suc j) left (texts_from s left (texts_known s (suc j)))
        → Walk s j (suc left) (cond b (texts_from s left (texts_known s (suc j))) (texts_known s j))
    go true e r = record { count = r.count; is = r.is; high = omega (arith, r.high); each = λ k l h. at k r.count e r.each l h (ℕ_discrete k j) }
    go false e r = record { count = j; is = refl; high = omega arith; each = λ k l h. absurd (omega arith) }

-- AN ACCEPTED SHEET

abbrev list_of : Arguments → List Bytes
list_of (given list) = list
list_of (refused n r) = []

abbrev is_given : Arguments → ℕ
is_given (given list) = 1
is_given (refused n r) = 0

module _ (s : Bytes) (list : List Bytes) (accepted : arguments s ≡ given list) where
  unrefused : (b : Bool) (xs : List Bytes) → cond b (given xs) (refused 5 0) ≡ given list → xs ≡ list
  unrefused true xs e = ap list_of e
  unrefused false xs e = let z : ◌≡◌ {A = ℕ} 0 1 = ap is_given e in absurd (omega arith)

  some : (b c : Bool) (xs : List Bytes) → cond (b && c) (given xs) (refused 5 0) ≡ given list → b ≡ true
  some true c xs e = refl
  some false c xs e = let z : ◌≡◌ {A = ℕ} 0 1 = ap is_given e in absurd (omega arith)

  steps_of : Walk s 0 17 (texts s)
  unfolding texts texts_known
  steps_of = walk s 17 0

  are-texts : map (sheet.text_at s) (texts s).starts ≡ list
  unfolding arguments
  are-texts = unrefused (ltb 0 (length (texts s).starts) && eqb (texts s).end (length s)) _ accepted

  are-first : first s steps_of.count ≡ list
  are-first = ap (λ (R : Texts). map (sheet.text_at s) R.starts) (sym steps_of.is) ∙ are-texts

  count-is : steps_of.count ≡ length list
  count-is = sym (first-length s steps_of.count) ∙ ap length are-first

  pub are-known : first s (length list) ≡ list
  are-known = subst (λ (n : ℕ). first s n ≡ list) count-is are-first

  pub few-texts : length list ≤ 17
  few-texts = omega (arith, steps_of.high, count-is)

  pub some-text : 0 < length list
  unfolding arguments
  some-text =
      let e : 0 < length (texts s).starts = ltb-true 0 (length (texts s).starts) (some (ltb 0 (length (texts s).starts)) (eqb (texts s).end (length s)) _ accepted) in
      omega (arith, e, length-map (texts s).starts (sheet.text_at s), ap length are-texts)

  here : (k : ℕ) → k < length list → is_text s (from s k) ≡ true
  here k h = steps_of.each k (omega arith) (omega (arith, count-is))

  pub short : (k : ℕ) → k < length list → number s (from s k) ≤ 63
  short k h = text-short s (from s k) (here k h)

  pub whole : (k : ℕ) → k < length list → from s k + 4 + number s (from s k) ≤ length s
  whole k h = text-inside s (from s k) (here k h)

-- INTO MEMORY

-- the slice of a text
cut : (s : Bytes) (a m : ℕ) → take (a + m - a) (drop a s) ≡ take m (drop a s)
cut s a m = let e : a + m - a ≡ m = omega arith in rw e refl

pub cut-length : (s : Bytes) (a m : ℕ) → a + m ≤ length s → length (take (a + m - a) (drop a s)) ≡ m
cut-length s a m h = ap length (cut s a m) ∙ length-take-le m (drop a s) (simp length-drop (omega arith))

drop_head : {A : Type 0} (xs ys : List A) → 0 < length xs → drop 1 (xs ++ ys) ≡ drop 1 xs ++ ys
drop_head [] ys h = absurd (omega arith)
drop_head (x ∷ xs) ys h = refl

get_head : {A : Type 0} (d : A) (xs ys : List A) → 0 < length xs → get_or (xs ++ ys) 0 d ≡ get_or xs 0 d
get_head d [] ys h = absurd (omega arith)
get_head d (x ∷ xs) ys h = refl

first-is : (s : Bytes) (n : ℕ) → get_or (first s (n + 1)) 0 [] ≡ sheet.text_at s 0
first-is s zero = ap (λ (l : List Bytes). get_or l 0 []) (first_more s 0) ∙ rw (first-none s, from-none s) refl
first-is s (suc n) =
    ap (λ (l : List Bytes). get_or l 0 []) (first_more s (suc n))
    ∙ get_head [] (first s (suc n)) _ (omega (arith, first-length s (suc n)))
    ∙ ap (λ (k : ℕ). get_or (first s k) 0 []) (sym (add-one n))
    ∙ first-is s n

-- so far: k texts are read, up to `at`, and all but the first stand in list 0
pub record Taking (s : Bytes) (u n : ℕ) (w₀ w : Bytes) (at k : ℕ) : Type 0 where
  pub place : at ≡ from s k
  pub near : at ≤ 67 * k
  pub low : 0 < k
  pub high : k ≤ n
  pub fields : fields_at u w (list_place u 0) (k - 1) ≡ drop 1 (first s k)
  pub laid : Laid u (list_place u 0) 0 w₀ (drop 1 (first s k)) w
  pub size : length w ≡ length w₀
  pub below : Same 0 (list_place u 0) w₀ w

module _ {s w : Bytes} {u n : ℕ} (t : Takes s w u n) where
  pub count-few : n ≤ 17
  count-few = omega (arith, few-texts s t.texts t.accepted, t.count)

  positive : 0 < n
  positive = omega (arith, some-text s t.texts t.accepted, t.count)

  pub first_short : number s 0 ≤ 63
  first_short = subst (λ (a : ℕ). number s a ≤ 63) (from-none s) (short s t.texts t.accepted 0 (omega (arith, positive, t.count)))

  pub first-whole : 4 + number s 0 ≤ length s
  first-whole = subst (λ (a : ℕ). a + 4 + number s a ≤ length s) (from-none s) (whole s t.texts t.accepted 0 (omega (arith, positive, t.count)))

  module _ {at k : ℕ} {w₀ v : Bytes} (h : Taking s u n w₀ v at k) (more : k < n) where
    pub next-short : number s at ≤ 63
    next-short = rw h.place (short s t.texts t.accepted k (omega (arith, t.count)))

    pub next-whole : at + 4 + number s at ≤ length s
    next-whole = rw h.place (whole s t.texts t.accepted k (omega (arith, t.count)))

    pub taking_next : {x : Bytes} (size a : ℕ) → size ≡ number s at → a ≡ list_place u 0
        → Added u a (k - 1) (take (at + 4 + size - (at + 4)) (drop (at + 4) s)) v x → Taking s u n w₀ x (at + 4 + size) (k + 1)
    taking_next {x} size a e l p = record {
      place = ap (λ (m : ℕ). at + 4 + m) e ∙ ap (λ (m : ℕ). m + 4 + number s m) h.place ∙ sym (from_more s k);
      near = omega (arith, next-short, h.near);
      low = omega arith;
      high = omega arith;
      fields =
          let z : k + 1 - 1 ≡ k - 1 + 1 = omega (arith, h.low) in
          ap (fields_at u x (list_place u 0)) z ∙ added.fields ∙ ap (λ (l : List Bytes). l ++ sheet.text_at s (from s k) ∷ []) h.fields ∙ sym more-is;
      laid =
          let z : 0 + length (drop 1 (first s k)) ≡ k - 1 = omega (arith, length-drop 1 (first s k), first-length s k) in
          subst (λ (l : List Bytes). Laid u (list_place u 0) 0 w₀ l x) (sym more-is) (behind h.laid (rw z added.put));
      size = p.only.size ∙ h.size;
      below = record { same = λ j y q. p.only.below j (omega arith) ∙ h.below.same j y q };
    }
      where
        text-is : take (at + 4 + size - (at + 4)) (drop (at + 4) s) ≡ sheet.text_at s (from s k)
        text-is = cut s (at + 4) size ∙ ap (λ (m : ℕ). take m (drop (at + 4) s)) e ∙ ap (sheet.text_at s) h.place

        added : Added u (list_place u 0) (k - 1) (sheet.text_at s (from s k)) v x
        added = rw (l, text-is) at p

        more-is : drop 1 (first s (k + 1)) ≡ drop 1 (first s k) ++ sheet.text_at s (from s k) ∷ []
        more-is = ap (drop 1) (first_more s k) ∙ drop_head (first s k) _ (omega (arith, first-length s k, h.low))

  -- argument 0
  module _ {size : ℕ} {v : Bytes} (e : size ≡ number s 0) (p : Put 3328 (length (take (4 + size - 4) (drop 4 s)) ∷ take (4 + size - 4) (drop 4 s)) w v) where
    text-is : take (4 + size - 4) (drop 4 s) ≡ sheet.text_at s 0
    text-is = cut s 4 size ∙ ap (λ (m : ℕ). take m (drop 4 s)) e

    text-size : length (take (4 + size - 4) (drop 4 s)) ≤ 63
    text-size = omega (arith, cut-length s 4 size (omega (arith, first-whole)), first_short)

    pub taking_first : Taking s u n v v (4 + size) 1
    taking_first = record {
      place = ap (λ (m : ℕ). 4 + m) e ∙ sym (from_more s 0 ∙ ap (λ (a : ℕ). a + 4 + number s a) (from-none s));
      near = omega (arith, first_short);
      low = omega arith;
      high = positive;
      fields = row-none _ ∙ sym none_yet;
      laid = subst (λ (l : List Bytes). Laid u (list_place u 0) 0 v l v) (sym none_yet) none;
      size = refl;
      below = record { same = λ j y q. refl };
    }
      where
        none_yet : drop 1 (first s 1) ≡ []
        none_yet = ap (drop 1) (first_more s 0) ∙ rw (first-none s) refl

    module _ {x : Bytes} {at k : ℕ} (h : Taking s u n v x at k) (over-all : n ≤ k) where
      pub taken_size : length x ≡ length w
      taken_size = h.size ∙ p.only.size

      all_of : (list : List Bytes) → arguments s ≡ given list → length list ≡ k
      all_of list a = ap length (ap list_of (sym a ∙ t.accepted)) ∙ t.count ∙ omega (arith, h.high)

      first-at : (m : ℕ) → 0 < m → get_or (first s m) 0 [] ≡ sheet.text_at s 0
      first-at zero l = absurd (omega arith)
      first-at (suc m) l = ap (λ (i : ℕ). get_or (first s i) 0 []) (sym (add-one m)) ∙ first-is s m

      zero_is : (list : List Bytes) → arguments s ≡ given list → take (4 + size - 4) (drop 4 s) ≡ get_or list 0 []
      zero_is list a = text-is ∙ sym (first-at (length list) (some-text s list a)) ∙ ap (λ (l : List Bytes). get_or l 0 []) (are-known s list a)

      others-are : (list : List Bytes) → arguments s ≡ given list → drop 1 (first s k) ≡ drop 1 list
      others-are list a = ap (λ (m : ℕ). drop 1 (first s m)) (sym (all_of list a)) ∙ ap (drop 1) (are-known s list a)

      pub taken : Taken s u w x
      taken = record {
        zero = λ list a.
            text_like u (like_same 3328 u h.below (omega arith) (omega (arith, t.small))) (omega (arith, t.unit))
            ∙ text-put u 3328 _ p (omega (arith, text-size, t.unit))
            ∙ zero_is list a;
        others = λ list a. ap (λ (m : ℕ). fields_at u x (list_place u 0) (m - 1)) (all_of list a) ∙ h.fields ∙ others-are list a;
        placed = λ list a. record {
          between = v;
          first = subst (λ (l : Bytes). Put 3328 (length l ∷ l) w v) (zero_is list a) p;
          rest = subst (λ (l : List Bytes). Laid u (list_place u 0) 0 v l x) (others-are list a) h.laid;
        };
        size = taken_size;
        tables = record { same = λ j y q. h.below.same j y (omega arith) ∙ p.only.below j q };
        between = record { same = λ j y q. h.below.same j (omega arith) q ∙ p.only.above j (omega (arith, text-size)) };
      }
