-- Laws on what is known after some records, and on the judgement of one record's parts.
use mathlib.Core.Path.{◌≡◌, refl, sym, ap, ◌∙◌}
use mathlib.Core.Bool.{Bool, true, false, ◌&&◌}
use mathlib.Core.List.{List, [], map}
use Prim.Native.Nat.{ℕ, zero, suc, ◌+◌, ◌*◌, ◌-◌, ◌<◌, ◌≤◌}
use native.Mathlib.Numerals.{add-one}
use native.Mathlib.Omega.{arith}
use lib.Dec.{eqb, leb, ltb, leb-zero}
use lib.ListN.{length, get_or, take, drop, length-append, length-map, get_or-map}
use lib.Seq.{drop-cons, get_or-take, length-take-le}
use lib.ListN.{drop_of_length-le}
use borrow.Author.Tests.{eq-eqb, ne_eqb, leb-true, leb-false}
use Rattle.std.specs.Prelude.{Option, Some, None}
use Rattle.std.specs.Cmp.Lexicographic.{pointwise}
use Rattle.std.proofs.lemmas.Bool.Decides.{Decides-eqb}
use Rattle.std.proofs.lemmas.Slice.Eq.{slice_eq-Decides}
use Rattle.rules.specs.Syntax.{Bytes}
use Rattle.rules.specs.Words.{same}
use Rattle.rules.proofs.Slices.{compared}
use Rattle.sheet.specs.declared.kinds.Layout.{Layout}
use Rattle.sheet.specs.Format.{number, place, Wanted, Shape, between, is_name}
use Rattle.sheet.specs.Format.{any_number, code, name, string, list, instruction, no_kind, text, nothing, one, two, three}
use Rattle.sheet.specs.Check.{Rec, Known, Defined, no_defined, known, next, count, kind_of, payload_of, function_names, meets, right}
use Rattle.sheet.specs.Codes.{layout, want, meets_want}
use Rattle.sheet.specs.Ready.{Lies, Listed, span}

pub count-known : (s : Bytes) (n : ℕ) → count (known s n) ≡ n
unfolding known next
count-known s zero = refl
count-known s (suc n) = simp length-append (add-one (count (known s n)) ∙ ap suc (count-known s n))

-- the part of the sheet that is a record's payload
pub part-is : (s : Bytes) (c : Rec) (at size : ℕ) → Lies s c → at ≡ c.at → size ≡ number s at → take ((at + 4 + size) - (at + 4)) (drop (at + 4) s) ≡ c.payload
part-is s c at size l e f = let d : (at + 4 + size) - (at + 4) ≡ size = omega arith in rw (d, f, e) (sym l.payload)

-- A PART

module _ (s : Bytes) (n r : ℕ) where
  pub meets-name : (ltb r n && (eqb (kind_of (known s n) r) 1 && is_name (payload_of (known s n) r))) ≡ meets (known s n) name r
  unfolding meets
  meets-name = ap (λ (k : ℕ). ltb r k && (eqb (kind_of (known s n) r) 1 && is_name (payload_of (known s n) r))) (sym (count-known s n))

  pub meets-string : (ltb r n && between 1 (kind_of (known s n) r) 5) ≡ meets (known s n) string r
  unfolding meets
  meets-string = ap (λ (k : ℕ). ltb r k && between 1 (kind_of (known s n) r) 5) (sym (count-known s n))

  pub meets-list : (ltb r n && between 6 (kind_of (known s n) r) 8) ≡ meets (known s n) list r
  unfolding meets
  meets-list = ap (λ (k : ℕ). ltb r k && between 6 (kind_of (known s n) r) 8) (sym (count-known s n))

  pub meets-instruction : (ltb r n && between 16 (kind_of (known s n) r) 30) ≡ meets (known s n) instruction r
  unfolding meets
  meets-instruction = ap (λ (k : ℕ). ltb r k && between 16 (kind_of (known s n) r) 30) (sym (count-known s n))

-- A PAYLOAD

and_false : (b : Bool) → (b && false) ≡ false
and_false true = refl
and_false false = refl

and_true : (b : Bool) → (b && true) ≡ b
and_true true = refl
and_true false = refl

-- exactly n is at least n and at most n
eqb_both : (a n : ℕ) → eqb a n ≡ (leb n a && leb a n)
eqb_both a n = go (leb n a) (leb a n) refl refl
  where
    go : (x y : Bool) → leb n a ≡ x → leb a n ≡ y → eqb a n ≡ (x && y)
    go true true p q = let h = leb-true n a p in let k = leb-true a n q in eq-eqb a n (omega arith)
    go true false p q = let k = leb-false a n q in ne_eqb a n (λ e. omega arith)
    go false true p q = let k = leb-false n a p in ne_eqb a n (λ e. omega arith)
    go false false p q = let k = leb-false n a p in ne_eqb a n (λ e. omega arith)

meets-want : (K : Known) (w : Wanted) (n : ℕ) → meets_want K (want w) n ≡ meets K w n
meets-want K any_number n = refl
meets-want K code n = refl
meets-want K name n = refl
meets-want K string n = refl
meets-want K list n = refl
meets-want K instruction n = refl

and_assoc : (a b c : Bool) → ((a && b) && c) ≡ (a && (b && c))
and_assoc true b c = refl
and_assoc false b c = refl

-- as the code tests it
abbrev pub tested : Known → Layout → Bytes → Bool
tested K l p =
    leb l.least (length p)
    && (leb (length p) l.most
    && (meets_want K l.first (number p 0)
    && (meets_want K l.second (number p 2)
    && meets_want K l.third (number p 4))))

abbrev pub tested_as : Known → Option Layout → Bytes → Bool
tested_as K None p = false
tested_as K (Some l) p = tested K l p

pub right_is : (K : Known) (sh : Shape) (p : Bytes) → right K sh p ≡ tested_as K (layout sh) p
unfolding right
right_is K no_kind p = refl
right_is K text p = sym (rw (leb-zero (length p)) (and_true _))
right_is K nothing p = rw (eqb_both (length p) 0) (ap (λ b. leb 0 (length p) && b) (sym (and_true _)))
right_is K (one a) p = rw (eqb_both (length p) 2, meets-want, and_assoc, and_true)
right_is K (two a b) p = rw (eqb_both (length p) 4, meets-want K a, meets-want K b, and_assoc, and_true)
right_is K (three a b c) p = rw (eqb_both (length p) 6, meets-want K a, meets-want K b, meets-want K c, and_assoc)

-- THE PLACE OF A NAME

module _ (x : Bytes) (xs : List Bytes) (i : ℕ) where
  pub place_here : i < length xs → same (get_or xs i []) x ≡ true → i + place x (drop i xs) ≡ i
  unfolding place
  place_here l e = rw (drop-cons xs i [] l, e) (omega arith)

  pub place-more : i < length xs → same (get_or xs i []) x ≡ false → i + place x (drop i xs) ≡ i + 1 + place x (drop (i + 1) xs)
  unfolding place
  place-more l e = rw (drop-cons xs i [] l, e, add-one i) (omega arith)

  pub place_end : length xs ≤ i → i + place x (drop i xs) ≡ i
  unfolding place
  place_end l = rw (drop_of_length-le xs l) (omega arith)

-- an entry of the array of slots
pub span-at : (s : Bytes) (slots : List (List ℕ)) (n i : ℕ) → i < n → get_or (map (span s) (take n slots)) i [] ≡ span s (get_or slots i [])
span-at s slots n i h = get_or-map (span s) (take n slots) i [] ∙ ap (span s) (get_or-take n slots i [] h)

pub span-part : (s : Bytes) (e : List ℕ) (from size : ℕ) → from ≡ get_or e 0 0 → size ≡ get_or e 1 0 → take ((from + size) - from) (drop from s) ≡ span s e
span-part s e from size p q = let d : (from + size) - from ≡ size = omega arith in rw (d, p, q)

pub spans_length : (s : Bytes) (slots : List (List ℕ)) (n : ℕ) → n ≤ length slots → length (map (span s) (take n slots)) ≡ n
spans_length s slots n h = simp (length-map, length-take-le) refl

-- what `==` said of two slices, in the words of the rules
told_same : (x y : Bytes) (b : Bool) → b ≡ pointwise eqb x y → b ≡ same x y
told_same x y b e = compared (slice_eq-Decides Decides-eqb x y b e)

-- what a comparison of names said of the entry i
pub span_same : (s : Bytes) (slots : List (List ℕ)) (n i from size : ℕ) (x : Bytes) (b : Bool) → i < n → from ≡ get_or (get_or slots i []) 0 0 → size ≡ get_or (get_or slots i []) 1 0
    → b ≡ pointwise eqb (take ((from + size) - from) (drop from s)) x → same (get_or (map (span s) (take n slots)) i []) x ≡ b
span_same s slots n i from size x b h p q e =
    ap (λ y. same y x) (span-at s slots n i h ∙ sym (span-part s (get_or slots i []) from size p q))
    ∙ sym (told_same (take ((from + size) - from) (drop from s)) x b e)

-- the text that names the function i, as the table has it
module _ (s t : Bytes) (n : ℕ) (l : Listed s t (known s n)) (i r : ℕ) (h : i < length (known s n).functions) (e : r ≡ number t (3078 + 4 * i)) where
  listed_is : r ≡ (get_or (known s n).functions i no_defined).named
  listed_is = let k : 3078 + 4 * i ≡ 3072 + 4 * i + 6 = omega arith in e ∙ ap (number t) k ∙ l.named i h

  pub listed-earlier : r < n
  listed-earlier = let m = l.earlier i h in omega (arith, listed_is, count-known s n)

  pub listed-inside : i < length (function_names (known s n))
  listed-inside = omega (arith, length-map (known s n).functions (λ (f : Defined). f.name))

  -- what a comparison said of its name
  pub listed_same : (p x : Bytes) (b : Bool) → p ≡ payload_of (known s n) r → b ≡ pointwise eqb p x → same (get_or (function_names (known s n)) i []) x ≡ b
  listed_same p x b g q =
      ap (λ y. same y x)
      (get_or-map (λ (f : Defined). f.name) (known s n).functions i no_defined ∙ sym (g ∙ ap (payload_of (known s n)) listed_is ∙ l.name i h))
      ∙ sym (told_same p x b q)
