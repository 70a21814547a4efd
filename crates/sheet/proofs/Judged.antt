-- Laws on the judgement of one record: what each test of the code says of `judge`.
use mathlib.Core.Path.{◌≡◌, refl, sym, ap, ◌∙◌}
use mathlib.Core.Logic.{◌⊎◌, ⊎_elim, inl, inr}
use mathlib.Core.Bool.{Bool, true, false, ◌&&◌, ◌||◌, cond}
use mathlib.Core.List.{List, map}
use Prim.Native.Nat.{ℕ, ◌+◌, ◌-◌, ◌<◌, ◌≤◌}
use native.Mathlib.Omega.{arith}
use lib.Dec.{eqb, leb, ltb}
use lib.ListN.{length, take, drop}
use borrow.Author.Tests.{eq-eqb, ne_eqb, le-ltb, ltb-true, eqb-true}
use Rattle.std.specs.Prelude.{Some, None, Ok, Err}
use Rattle.std.proofs.lemmas.Bool.{and_parts, false≢true, or_cases}
use Rattle.rules.specs.Syntax.{Bytes}
use Rattle.reader.specs.declared.Bounds.{Bounds}
use Rattle.reader.specs.Records.{next_at}
use Rattle.reader.proofs.Whole.{Whole, cut-is, whole_is}
use Rattle.sheet.specs.declared.Counts.{Counts}
use Rattle.sheet.specs.declared.Fault.TheVariants.{Faulty}
use Rattle.sheet.specs.Format.{number, place, shape, names_variable, Wanted, name, string, list, instruction, one, two, three}
use Rattle.sheet.specs.Check.{Known, known, count, payload_of, kind_of, variable_names, function_names, meets, right, judge, is_cut, is_second, is_over, fine, faulty, full}
use Rattle.sheet.specs.Ready.{Ready, Within, span, judged, verdict_of, slot_verdict, function_verdict}

-- BOOLS: std's laws under the names that the crates above cite

pub and_left : (a b : Bool) → (a && b) ≡ true → a ≡ true
and_left a b e = (and_parts a b e).0

pub and_right : (a b : Bool) → (a && b) ≡ true → b ≡ true
and_right a b e = (and_parts a b e).1

pub false_true : false ≡ true → ⊥
false_true = false≢true

-- KINDS

pub variable-cases : (k : ℕ) → names_variable k ≡ true → (k ≡ 2) ⊎ ((k ≡ 16) ⊎ ((k ≡ 17) ⊎ (k ≡ 26)))
unfolding names_variable
variable-cases k e =
    ⊎_elim (λ a. inl (eqb-true k 2 a)) (λ x. inr (
    ⊎_elim (λ a. inl (eqb-true k 16 a)) (λ y. inr (
    ⊎_elim (λ a. inl (eqb-true k 17 a)) (λ z. inr (eqb-true k 26 z)) (or_cases (eqb k 17) (eqb k 26) y))) (or_cases (eqb k 16) _ x))) (or_cases (eqb k 2) _ e)

pub variable_not_function : (k : ℕ) → names_variable k ≡ true → eqb k 32 ≡ false
unfolding names_variable
variable_not_function k e =
    ne_eqb k 32 (λ f. false≢true (ap names_variable (sym f) ∙ e))

pub function_not_variable : (k : ℕ) → k ≡ 32 → names_variable k ≡ false
unfolding names_variable
function_not_variable k e = ap names_variable e

over-is : (a b : Bool) → verdict_of (cond a faulty (cond (b || false) full fine)) 0 ≡ verdict_of (cond a faulty (cond b full fine)) 0
over-is a true = refl
over-is a false = refl

right-one : (K : Known) (a : Wanted) (p : Bytes) → right K (one a) p ≡ true → meets K a (number p 0) ≡ true
unfolding right
right-one K a p e = (and_parts (eqb (length p) 2) (meets K a (number p 0)) e).1

right-two : (K : Known) (a b : Wanted) (p : Bytes) → right K (two a b) p ≡ true → meets K a (number p 0) ≡ true
unfolding right
right-two K a b p e = (and_parts (meets K a (number p 0)) (meets K b (number p 2)) (and_parts (eqb (length p) 4) (meets K a (number p 0) && meets K b (number p 2)) e).1).0

right-three : (K : Known) (a b c : Wanted) (p : Bytes) → right K (three a b c) p ≡ true → meets K a (number p 0) ≡ true
unfolding right
right-three K a b c p e =
    (and_parts (meets K a (number p 0)) (meets K b (number p 2) && meets K c (number p 4)) (and_parts (eqb (length p) 6) (meets K a (number p 0) && (meets K b (number p 2) && meets K c (number p 4))) e).1).0

-- A record that names a variable or a function begins with the number of an earlier text.
pub meets-earlier : (K : Known) (n : ℕ) → meets K name n ≡ true → n < count K
unfolding meets
meets-earlier K n e = ltb-true n (count K) (and_parts (ltb n (count K)) _ e).0

pub meets-text : (K : Known) (n : ℕ) → meets K name n ≡ true → kind_of K n ≡ 1
unfolding meets
meets-text K n e = eqb-true (kind_of K n) 1 (and_parts (eqb (kind_of K n) 1) _ (and_parts (ltb n (count K)) _ e).1).0

module _ (K : Known) (k : ℕ) (p : Bytes) (r : right K (shape k) p ≡ true) where
  at-kind : (j : ℕ) → k ≡ j → right K (shape j) p ≡ true
  at-kind j e = rw e at r

  pub variable-name : names_variable k ≡ true → meets K name (number p 0) ≡ true
  unfolding shape
  variable-name v =
      (⊎_elim (λ e. right-one K name p (at-kind 2 e))
      (⊎_elim (λ e. right-two K name string p (at-kind 16 e))
      (⊎_elim (λ e. right-one K name p (at-kind 17 e))
      (λ e. right-three K name list instruction p (at-kind 26 e)))) (variable-cases k v))

  pub name-first : names_variable k ≡ true → number p 0 < count K
  name-first v = meets-earlier K (number p 0) (variable-name v)

  pub name-text : names_variable k ≡ true → kind_of K (number p 0) ≡ 1
  name-text v = meets-text K (number p 0) (variable-name v)

  pub function-name : k ≡ 32 → meets K name (number p 0) ≡ true
  unfolding shape
  function-name e = right-two K name instruction p (at-kind 32 e)

  pub function-body : k ≡ 32 → meets K instruction (number p 2) ≡ true
  unfolding shape right
  function-body e = (and_parts (meets K name (number p 0)) _ (and_parts (eqb (length p) 4) _ (at-kind 32 e)).1).1

  pub name-function : k ≡ 32 → number p 0 < count K
  name-function e = meets-earlier K (number p 0) (function-name e)

  pub name-call : k ≡ 25 → number p 0 < count K
  unfolding shape
  name-call e = meets-earlier K (number p 0) (right-two K name list p (at-kind 25 e))

-- THE TESTS IN ORDER

module _ (s : Bytes) (K : Known) where
  cut : is_cut s K.end ≡ true → judged s K ≡ Err Faulty
  unfolding judge
  cut h = rw h

  module _ (w : K.end + 4 + number s K.end ≤ length s) where
    wrong : right K (shape (number s (K.end + 2))) (take (number s K.end) (drop (K.end + 4) s)) ≡ false → judged s K ≡ Err Faulty
    unfolding judge is_cut
    wrong r = rw (le-ltb (length s) (K.end + 4) (omega arith), le-ltb (length s) (K.end + 4 + number s K.end) w, r)

    module _ (r : right K (shape (number s (K.end + 2))) (take (number s K.end) (drop (K.end + 4) s)) ≡ true) where
      is-variable : names_variable (number s (K.end + 2)) ≡ true
          → judged s K ≡ slot_verdict (place (payload_of K (number (take (number s K.end) (drop (K.end + 4) s)) 0)) (variable_names K))
      unfolding judge is_cut is_second is_over
      is-variable v =
          rw (
            le-ltb (length s) (K.end + 4) (omega arith),
            le-ltb (length s) (K.end + 4 + number s K.end) w,
            r,
            variable_not_function (number s (K.end + 2)) v,
            v,
          )

      is-function : number s (K.end + 2) ≡ 32
          → judged s K ≡ function_verdict (place (payload_of K (number (take (number s K.end) (drop (K.end + 4) s)) 0)) (function_names K)) (length K.functions)
      unfolding judge is_cut is_second is_over
      is-function f =
          rw (
            le-ltb (length s) (K.end + 4) (omega arith),
            le-ltb (length s) (K.end + 4 + number s K.end) w,
            r,
            eq-eqb (number s (K.end + 2)) 32 f,
            function_not_variable (number s (K.end + 2)) f,
          ) (over-is (ltb (place (payload_of K (number (take (number s K.end) (drop (K.end + 4) s)) 0)) (function_names K)) (length K.functions)) (leb 32 (length K.functions)))

      is-other : names_variable (number s (K.end + 2)) ≡ false → (number s (K.end + 2) ≡ 32 → ⊥) → judged s K ≡ Ok 0
      unfolding judge is_cut is_second is_over
      is-other v f =
          rw (
            le-ltb (length s) (K.end + 4) (omega arith),
            le-ltb (length s) (K.end + 4 + number s K.end) w,
            r,
            ne_eqb (number s (K.end + 2)) 32 f,
            v,
          )

-- WHAT THE ARRAY AND THE TABLE SAY

module _ {s t : Bytes} {slots : List (List ℕ)} {c : Counts} (h : Ready s t slots c) where
  pub slots-count : c.slots ≡ length (known s c.records).variables
  slots-count = ap (λ (x : Counts). x.slots) h.counts

  pub functions-count : c.functions ≡ length (known s c.records).functions
  functions-count = ap (λ (x : Counts). x.functions) h.counts

  pub at-end : c.at ≡ (known s c.records).end
  at-end = ap (λ (x : Counts). x.at) h.counts

  pub slots-within : (c.slots ≤ 16) × Within s slots c.slots
  slots-within = rw slots-count (h.slotted.few, h.slotted.within)

  pub slots-place : (x : Bytes) → place x (map (span s) (take c.slots slots)) ≡ place x (variable_names (known s c.records))
  slots-place x = ap (place x) (ap (λ (n : ℕ). map (span s) (take n slots)) slots-count ∙ h.slotted.names)

-- the code's part of the sheet as the payload
pub taken_is : (s : Bytes) (at size : ℕ) → size ≡ number s at → take ((at + 4 + size) - (at + 4)) (drop (at + 4) s) ≡ take (number s at) (drop (at + 4) s)
taken_is s at size f = let d : (at + 4 + size) - (at + 4) ≡ size = omega arith in rw (d, f)

-- WHAT THE READER SAYS

module _ {s t : Bytes} {slots : List (List ℕ)} {c : Counts} (h : Ready s t slots c) where
  abbrev K : Known
  K = known s c.records

  pub cut_short_lem : None ≡ next_at s c.at → judged s K ≡ Err Faulty
  cut_short_lem f = cut s K (cut-is s K.end (f ∙ ap (next_at s) (at-end h)))

  module _ {b : Bounds} (f : Some b ≡ next_at s c.at) where
    whole : Whole s K.end b
    whole = whole_is s K.end (f ∙ ap (next_at s) (at-end h))

    pub begins : b.from ≤ b.to
    begins = whole.begins

    pub inside : b.to ≤ length s
    inside = whole.inside

    room : K.end + 4 + number s K.end ≤ length s
    unfolding number
    room = omega (arith, whole.to, whole.inside)

    kind-is : b.kind ≡ number s (K.end + 2)
    unfolding number
    kind-is = whole.kind

    -- between the bounds stands the payload
    abbrev part : Bytes
    part = take (b.to - b.from) (drop b.from s)

    part-is : part ≡ take (number s K.end) (drop (K.end + 4) s)
    unfolding number
    part-is = whole.payload

    pub coded-wrong : right K (shape b.kind) part ≡ false → judged s K ≡ Err Faulty
    coded-wrong r = wrong s K room (rw (kind-is, part-is) at r)

    module _ (good : right K (shape b.kind) part ≡ true) where
      good-here : right K (shape (number s (K.end + 2))) (take (number s K.end) (drop (K.end + 4) s)) ≡ true
      good-here = rw (kind-is, part-is) at good

      pub coded-variable : (r : ℕ) → r ≡ number part 0 → names_variable b.kind ≡ true → judged s K ≡ slot_verdict (place (payload_of K r) (variable_names K))
      coded-variable r er v = rw (er, part-is) (is-variable s K room good-here (rw kind-is at v))

      pub coded-function : (r : ℕ) → r ≡ number part 0 → b.kind ≡ 32 → judged s K ≡ function_verdict (place (payload_of K r) (function_names K)) (length K.functions)
      coded-function r er v = rw (er, part-is) (is-function s K room good-here (sym kind-is ∙ v))

      pub coded-other : names_variable b.kind ≡ false → (b.kind ≡ 32 → ⊥) → judged s K ≡ Ok 0
      coded-other v n = is-other s K room good-here (rw kind-is at v) (λ q. n (kind-is ∙ q))
