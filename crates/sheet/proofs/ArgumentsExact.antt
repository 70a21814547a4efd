-- Which argument sheets are accepted: the bytes of 1 to 17 texts, and no others.
use mathlib.Core.Path.{◌≡◌, refl, sym, ap, ◌∙◌, subst}
use mathlib.Core.Bool.{Bool, true, false, ◌&&◌, cond}
use mathlib.Core.List.{List, [], ◌∷◌, ◌++◌, map, append-nil}
use Prim.Native.Nat.{ℕ, zero, suc, ◌+◌, ◌-◌, ◌<◌, ◌≤◌}
use native.Mathlib.Numerals.{add-one}
use native.Mathlib.Omega.{arith}
use lib.Dec.{eqb, ltb}
use lib.ListN.{length, get_or, take, drop, length-append, length-map, length-drop}
use lib.Seq.{take-suc, take-length, take-add, length-take-le}
use borrow.Author.Tests.{eq-eqb, le-leb, lt-ltb, ltb-true, eqb-true}
use Rattle.std.proofs.lemmas.List.{map-append}
use Rattle.std.proofs.lemmas.Bool.{and_parts}
use Rattle.rules.specs.Syntax.{Bytes}
use Rattle.reader.proofs.Whole.{stands-kind, stands_there}
use Rattle.sheet.specs.Format.{number}
use Rattle.sheet.specs.Check.{Known, known, next, is_cut}
use Rattle.sheet.specs.Arguments.{is_text, texts_from, texts, texts_known, text_at, Arguments, arguments, given}
use Rattle.sheet.specs.Arguments as argument
use Rattle.sheet.specs.WellFormed.{Item, write, write_item, IsBytes, item}
use Rattle.sheet.specs.Claims.{text_item, Texts, ArgumentsExact}
use Rattle.sheet.proofs.ArgumentLaws.{text-short as short-text, text-stands, text-inside}
use Rattle.sheet.proofs.Sound.{below}
use Rattle.sheet.proofs.NameLaws.{all_add}
use Rattle.sheet.proofs.Written.{write_snoc, record_written}
use Rattle.sheet.proofs.ReadBack.{from, size-at, kind-at, payload-at, from-room, end-at}

-- A WHOLE TEXT

record Whole (s : Bytes) (at : ℕ) : Type 0 where
  kind : number s (at + 2) ≡ 1
  short : number s at ≤ 63
  room : at + 4 + number s at ≤ length s

whole-text : (s : Bytes) (at : ℕ) → is_text s at ≡ true → Whole s at
whole-text s at e = record { kind = stands-kind s at 1 (text-stands s at e); short = short-text s at e; room = text-inside s at e }

text-whole : (s : Bytes) (at : ℕ) → Whole s at → is_text s at ≡ true
unfolding is_text
text-whole s at w = rw (stands_there s at 1 w.room w.kind, le-leb (number s at) 63 w.short)

-- THE TEXTS READ

module _ (s : Bytes) where
  -- the first n are texts
  abbrev Reads : ℕ → Type 0
  Reads n = (m : ℕ) → m < n → is_text s (texts_known s m).end ≡ true

  abbrev read : ℕ → List Bytes
  read n = map (text_at s) (texts_known s n).starts

  read_next : (n : ℕ) → read (suc n) ≡ read n ++ text_at s (texts_known s n).end ∷ []
  unfolding texts_known
  read_next n = map-append (text_at s) (texts_known s n).starts ((texts_known s n).end ∷ [])

  read-many : (n : ℕ) → length (read n) ≡ n
  unfolding texts_known
  read-many zero = refl
  read-many (suc n) = ap length (read_next n) ∙ length-append (read n) (text_at s (texts_known s n).end ∷ []) ∙ add-one (length (read n)) ∙ ap suc (read-many n)

  starts-many : (n : ℕ) → length (texts_known s n).starts ≡ n
  starts-many n = sym (length-map (texts_known s n).starts (text_at s)) ∙ read-many n

  -- where the walk ends
  record Ended (R : argument.Texts) : Type 0 where
    n : ℕ
    few : n ≤ 17
    reads : Reads n
    is : R ≡ texts_known s n

  ended : (left n : ℕ) → n + left ≡ 17 → Reads n → Ended (texts_from s left (texts_known s n))
  unfolding texts_from texts_known
  ended zero n e h = record { n = n; few = omega arith; reads = h; is = refl }
  ended (suc left) n e h = go (λ q. ended left (suc n) (omega arith) (below (λ (m : ℕ). is_text s (texts_known s m).end ≡ true) n h q)) (is_text s (texts_known s n).end) refl
    where
      go : (is_text s (texts_known s n).end ≡ true → Ended (texts_from s left (texts_known s (suc n)))) → (b : Bool) → is_text s (texts_known s n).end ≡ b
          → Ended (cond b (texts_from s left (texts_known s (suc n))) (texts_known s n))
      go f true q = f q
      go f false q = record { n = n; few = omega arith; reads = h; is = refl }

  all-ended : Ended (texts s)
  unfolding texts texts_known
  all-ended = ended 17 0 refl (λ m l. absurd (omega arith))

  walked : (n : ℕ) → n ≤ 17 → Reads n → texts s ≡ texts_from s (17 - n) (texts_known s n)
  unfolding texts texts_known texts_from
  walked zero l h = refl
  walked (suc n) l h =
      let a : 17 - n ≡ suc (17 - suc n) = omega arith in
      walked n (omega arith) (λ m k. h m (omega arith)) ∙ ap (λ (k : ℕ). texts_from s k (texts_known s n)) a ∙ rw (h n (omega arith))

  -- FROM THE ANSWER TO THE TEXTS

  -- as one more record of a sheet
  at-end : ℕ → Known
  at-end p = record { records = []; variables = []; functions = []; end = p }

  text-written : (p : ℕ) → IsBytes s → Whole s p → take (4 + number s p) (drop p s) ≡ write_item (text_item (text_at s p))
  unfolding at-end
  text-written p b w = record_written s (at-end p) b w.room ∙ ap (λ (k : ℕ). write_item (record { kind = k; payload = text_at s p })) w.kind

  written : (n : ℕ) → IsBytes s → Reads n → take (texts_known s n).end s ≡ write (map text_item (read n))
  unfolding texts_known write
  written zero b h = refl
  written (suc n) b h =
      let p : ℕ = (texts_known s n).end in
      let e : (texts_known s n).end + 4 + number s (texts_known s n).end ≡ (texts_known s n).end + (4 + number s (texts_known s n).end) = omega arith in
      ap (λ (k : ℕ). take k s) e ∙ take-add (texts_known s n).end (4 + number s (texts_known s n).end) s
      ∙ (λ i. written n b (λ m l. h m (omega arith)) i ++ text-written (texts_known s n).end b (whole-text s (texts_known s n).end (h n (omega arith))) i)
      ∙ sym (write_snoc (map text_item (read n)) (text_item (text_at s (texts_known s n).end)))
      ∙ ap write (sym (map-append text_item (read n) ((text_at s (texts_known s n).end) ∷ [])))
      ∙ ap (λ (l : List Bytes). write (map text_item l)) (sym (read_next n))

  text-short : (p : ℕ) → Whole s p → length (text_at s p) ≤ 63
  text-short p w =
      let r = w.room in
      let z : length (text_at s p) ≡ number s p = length-take-le (number s p) (drop (p + 4) s) (simp length-drop (omega arith)) in
      omega (arith, w.short)

  short-all : (n : ℕ) → Reads n → (i : ℕ) → i < length (read n) → length (get_or (read n) i []) ≤ 63
  unfolding texts_known
  short-all zero h i l = absurd (omega arith)
  short-all (suc n) h i l =
      subst (λ (ts : List Bytes). (j : ℕ) → j < length ts → length (get_or ts j []) ≤ 63) (sym (read_next n))
      (all_add (λ (t : Bytes). length t ≤ 63) [] (read n) (text_at s (texts_known s n).end) (short-all n (λ m k. h m (omega arith)))
      (text-short (texts_known s n).end (whole-text s (texts_known s n).end (h n (omega arith))))) i l

  abbrev test : Bool
  test = ltb 0 (length (texts s).starts) && eqb (texts s).end (length s)

  good-texts : IsBytes s → test ≡ true → Texts s (map (text_at s) (texts s).starts)
  good-texts b e =
      let h = all-ended in
      let some = ltb-true 0 (length (texts s).starts) (and_parts (ltb 0 (length (texts s).starts)) _ e).0 in
      let end : (texts s).end ≡ length s = eqb-true _ _ (and_parts (ltb 0 (length (texts s).starts)) _ e).1 in
      let end' : (texts_known s h.n).end ≡ length s = ap (λ (R : argument.Texts). R.end) (sym h.is) ∙ end in
      let many = read-many h.n in
      subst (λ (R : argument.Texts). Texts s (map (text_at s) R.starts)) (sym h.is)
      (record {
        some = let z = ap (λ (R : argument.Texts). length R.starts) h.is in omega (arith, starts-many h.n);
        few = omega (arith, h.few);
        short = short-all h.n h.reads;
        is = sym (take-length s) ∙ ap (λ (k : ℕ). take k s) (sym end') ∙ written h.n b h.reads;
      })

  -- FROM THE TEXTS TO THE ANSWER

  -- texts end where records do
  same_end : (n : ℕ) → (texts_known s n).end ≡ (known s n).end
  unfolding texts_known known next
  same_end zero = refl
  same_end (suc n) = ap (λ (k : ℕ). k + 4 + number s k) (same_end n)

item-text : (ts : List Bytes) (n : ℕ) → n < length ts → item (map text_item ts) n ≡ text_item (get_or ts n [])
item-text [] n l = absurd (omega arith)
item-text (t ∷ ts) zero l = refl
item-text (t ∷ ts) (suc n) l = item-text ts n (omega arith)

module _ (s : Bytes) (ts : List Bytes) (h : Texts s ts) where
  abbrev rs : List Item
  rs = map text_item ts

  is : s ≡ write rs ++ []
  is = h.is ∙ sym (append-nil (write rs))

  count : length rs ≡ length ts
  count = length-map ts text_item

  end_of : (n : ℕ) → n ≤ length ts → (texts_known s n).end ≡ from s rs [] is n
  end_of n l = same_end s n ∙ end-at s rs [] is n (omega (arith, count))

  whole-at : (n : ℕ) → n < length ts → Whole s (texts_known s n).end
  whole-at n l =
      let k : n < length rs = omega (arith, count) in
      let t = item-text ts n l in
      subst (Whole s) (sym (end_of n (omega arith))) (record {
        kind = kind-at s rs [] is n k ∙ ap (λ (c : Item). c.kind) t;
        short = let z = h.short n l in omega (arith, size-at s rs [] is n k, ap (λ (c : Item). length c.payload) t);
        room = let z = from-room s rs [] is n k in omega (arith, size-at s rs [] is n k);
      })

  reads : (n : ℕ) → n ≤ length ts → Reads s n
  reads n l m k = text-whole s (texts_known s m).end (whole-at m (omega arith))

  read_back : (n : ℕ) → n ≤ length ts → read s n ≡ take n ts
  unfolding texts_known
  read_back zero l = refl
  read_back (suc n) l =
      let p : text_at s (texts_known s n).end ≡ get_or ts n [] = ap (text_at s) (end_of n (omega arith)) ∙ payload-at s rs [] is n (omega (arith, count)) ∙ ap (λ (c : Item). c.payload) (item-text ts n l) in
      read_next s n ∙ (λ i. read_back n (omega arith) i ++ p i ∷ []) ∙ sym (take-suc ts n [] l)

  end-last : (texts_known s (length ts)).end ≡ length s
  end-last =
      end_of (length ts) (omega arith) ∙ ap (λ (k : ℕ). length (write (take k rs))) (sym count)
      ∙ ap (λ (l : List Item). length (write l)) (take-length rs) ∙ sym (ap length h.is)

  texts-are : texts s ≡ texts_known s (length ts)
  unfolding texts_from is_text is_cut
  texts-are = walked s (length ts) h.few (reads (length ts) (omega arith)) ∙ go (17 - length ts)
    where
      go : (k : ℕ) → texts_from s k (texts_known s (length ts)) ≡ texts_known s (length ts)
      go zero = refl
      go (suc k) = rw (lt-ltb (length s) ((texts_known s (length ts)).end + 4) (let e = end-last in omega arith))

  given-texts : arguments s ≡ given ts
  unfolding arguments
  given-texts =
      let a : 0 < length (texts_known s (length ts)).starts = omega (arith, starts-many s (length ts), h.some) in
      rw (texts-are, lt-ltb 0 (length (texts_known s (length ts)).starts) a, eq-eqb (texts_known s (length ts)).end (length s) end-last)
      (ap given (read_back (length ts) (omega arith) ∙ take-length ts))

-- BOTH WAYS

never : {A : Type 0} {ts : List Bytes} {k p : ℕ} → given ts ≡ argument.refused k p → A
never e = let z : ◌≡◌ {A = ℕ} 0 1 = cc in absurd (omega arith)

module _ (a : Bytes) (b : IsBytes a) where
  is-given : (ts : List Bytes) → arguments a ≡ given ts → Texts a ts
  unfolding arguments
  is-given ts = go (test a) refl
    where
      go : (v : Bool) → test a ≡ v → cond v (given (map (text_at a) (texts a).starts)) (argument.refused 5 0) ≡ given ts → Texts a ts
      go true t e = let x : map (text_at a) (texts a).starts ≡ ts = cc in subst (Texts a) x (good-texts a b t)
      go false t e = never (sym e)

  is_five : (k p : ℕ) → arguments a ≡ argument.refused k p → (k ≡ 5) × (p ≡ 0)
  unfolding arguments
  is_five k p = go (test a)
    where
      go : (v : Bool) → cond v (given (map (text_at a) (texts a).starts)) (argument.refused 5 0) ≡ argument.refused k p → (k ≡ 5) × (p ≡ 0)
      go true e = never e
      go false e = let x : k ≡ 5 = cc in let y : p ≡ 0 = cc in (x, y)

  else_five : ((ts : List Bytes) → Texts a ts → ⊥) → arguments a ≡ argument.refused 5 0
  unfolding arguments
  else_five h = go (test a) refl
    where
      go : (v : Bool) → test a ≡ v → cond v (given (map (text_at a) (texts a).starts)) (argument.refused 5 0) ≡ argument.refused 5 0
      go true t = absurd (h (map (text_at a) (texts a).starts) (good-texts a b t))
      go false t = refl

  pub arguments_exact : ArgumentsExact a
  arguments_exact = record {
    given = λ ts. (is-given ts, given-texts a ts);
    refused = λ k p e. let z = is_five k p e in (z.0, z.1, λ ts h. never (sym (given-texts a ts h) ∙ e));
    else = else_five;
  }
