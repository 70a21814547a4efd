-- The tests on one record said of the list of records that it ends: what `right`, `is_second` and `is_over` are where the check has read that list.
use mathlib.Core.Path.{◌≡◌, refl, sym, ap, ◌∙◌, subst}
use mathlib.Core.Logic.{◌⊎◌, ⊎_elim, inl, inr}
use mathlib.Core.Bool.{Bool, true, false, ◌&&◌, ◌||◌, cond}
use mathlib.Core.List.{List, [], ◌∷◌, ◌++◌}
use Prim.Native.Nat.{ℕ, zero, suc, ◌+◌, ◌<◌, ◌≤◌}
use native.Mathlib.Decide.{dec_le}
use native.Mathlib.Omega.{arith}
use lib.Dec.{eqb, leb, ltb}
use lib.ListN.{length, length-append, length-map}
use borrow.Author.Tests.{eq-eqb, eqb-true, eqb-false, le-leb, leb-true, lt-ltb, ltb-true, ltb-false}
use Rattle.std.proofs.lemmas.Bool.{and_parts, false≢true, or_cases, or_left, or_right}
use Rattle.rules.specs.Syntax.{Bytes}
use Rattle.rules.specs.Words.{same}
use Rattle.sheet.specs.Format.{place, Wanted, any_number, code, name, string, list, instruction, is_name, is_string, is_list, is_instruction, names_variable}
use Rattle.sheet.specs.Format.{Shape, no_kind, text, nothing, one, two, three, shape}
use Rattle.sheet.specs.Check.{Variable, Defined, known, count, record_of, kind_of, meets, right, is_second, is_over, is_function}
use Rattle.sheet.specs.Check.{kind_here, payload_here, name_here, slot_here, function_names, variable_names}
use Rattle.sheet.specs.WellFormed.{Item, item_of, item, kind_at, payload_at, part_at, name_at, Refers, Holds, functions_to, variables_to, added}
use Rattle.rules.proofs.Slices.{same-is, same_self}
use Rattle.sheet.proofs.Records.{count-known}
use Rattle.sheet.proofs.Judged.{variable-cases}
use Rattle.sheet.proofs.Sound.{below, slot_most}
use Rattle.sheet.proofs.Linked.{item_here, named, none_more, none_less, item_of_lem, kind_of_lem, name_of, functions_of_lem, variables_of}

-- A FUNCTION'S NAME AMONG THOSE OF THE EARLIER ONES

-- a name that is none of the functions' differs from each
differs : (rs : List Item) (x : Bytes) (n : ℕ) → length (functions_to rs n) ≤ place x (functions_to rs n) → (q : ℕ) → q < n → kind_at rs q ≡ 32 → name_at rs q ≡ x → ⊥
unfolding functions_to
differs rs x zero h q l = absurd (omega arith)
differs rs x (suc n) h q l = go (eqb (kind_at rs n) 32) refl h (differs rs x n)
  where
    go : (b : Bool) → eqb (kind_at rs n) 32 ≡ b → length (cond b (functions_to rs n ++ name_at rs n ∷ []) (functions_to rs n)) ≤ place x (cond b (functions_to rs n ++ name_at rs n ∷ []) (functions_to rs n))
        → (length (functions_to rs n) ≤ place x (functions_to rs n) → (q : ℕ) → q < n → kind_at rs q ≡ 32 → name_at rs q ≡ x → ⊥)
        → kind_at rs q ≡ 32 → name_at rs q ≡ x → ⊥
    go true e m k =
        let z = none_less x (functions_to rs n) (name_at rs n) m in
        below (λ (j : ℕ). kind_at rs j ≡ 32 → name_at rs j ≡ x → ⊥) n (k z.0) (λ u v. z.1 v) q l
    go false e m k = below (λ (j : ℕ). kind_at rs j ≡ 32 → name_at rs j ≡ x → ⊥) n (k m) (λ u v. false≢true (sym e ∙ eq-eqb (kind_at rs n) 32 u)) q l

-- an earlier function of the name x
abbrev pub Earlier : List Item → Bytes → (n : ℕ) → Type 0
Earlier rs x n = (q : ℕ) × (q < n) × (kind_at rs q ≡ 32) × (name_at rs q ≡ x)

later : (rs : List Item) (x : Bytes) (n : ℕ) → Earlier rs x n → Earlier rs x (suc n)
later rs x n (q, l, k, e) = (q, omega arith, k, e)

-- one of the functions' names is that of one of them
found : (rs : List Item) (x : Bytes) (n : ℕ) → place x (functions_to rs n) < length (functions_to rs n) → Earlier rs x n
unfolding functions_to
found rs x zero h = absurd (omega arith)
found rs x (suc n) h = go (eqb (kind_at rs n) 32) refl h (found rs x n)
  where
    here : kind_at rs n ≡ 32 → (b : Bool) → same (name_at rs n) x ≡ b → length (functions_to rs n) ≤ place x (functions_to rs n)
        → place x (functions_to rs n ++ name_at rs n ∷ []) < length (functions_to rs n ++ name_at rs n ∷ []) → Earlier rs x (suc n)
    here k true e m l = (n, omega arith, k, same-is (name_at rs n) x e)
    here k false e m l =
        let z = none_more x (functions_to rs n) (name_at rs n) m (λ y. false≢true (sym e ∙ ap (λ (v : Bytes). same v x) y ∙ same_self x)) in
        absurd (omega arith)

    go : (b : Bool) → eqb (kind_at rs n) 32 ≡ b → place x (cond b (functions_to rs n ++ name_at rs n ∷ []) (functions_to rs n)) < length (cond b (functions_to rs n ++ name_at rs n ∷ []) (functions_to rs n))
        → (place x (functions_to rs n) < length (functions_to rs n) → Earlier rs x n) → Earlier rs x (suc n)
    go true e l k = at (dec_le (length (functions_to rs n)) (place x (functions_to rs n)))
      where
        at : Dec (length (functions_to rs n) ≤ place x (functions_to rs n)) → Earlier rs x (suc n)
        at (yes m) = here (eqb-true (kind_at rs n) 32 e) (same (name_at rs n) x) refl m l
        at (no m) = later rs x n (k (omega arith))
    go false e l k = later rs x n (k l)

-- ONE MORE FUNCTION OR VARIABLE

functions_more : (rs : List Item) (n : ℕ) → kind_at rs n ≡ 32 → length (functions_to rs (suc n)) ≡ length (functions_to rs n) + 1
unfolding functions_to
functions_more rs n k = rw (eq-eqb (kind_at rs n) 32 k) (length-append (functions_to rs n) (name_at rs n ∷ []))

functions-same : (rs : List Item) (n : ℕ) → eqb (kind_at rs n) 32 ≡ false → length (functions_to rs (suc n)) ≡ length (functions_to rs n)
unfolding functions_to
functions-same rs n k = rw k

variables-more : (rs : List Item) (n : ℕ) → names_variable (kind_at rs n) ≡ true → variables_to rs (suc n) ≡ added rs (name_at rs n) (variables_to rs n)
unfolding variables_to
variables-more rs n v = rw v

variables-same : (rs : List Item) (n : ℕ) → names_variable (kind_at rs n) ≡ false → length (variables_to rs (suc n)) ≡ length (variables_to rs n)
unfolding variables_to
variables-same rs n v = rw v

-- a name's place is below the number of those with it
pub added-above : (rs : List Item) (x : Bytes) (xs : List Bytes) → place x xs ≤ length xs → suc (place x xs) ≤ length (added rs x xs)
unfolding added
added-above rs x xs h = go (eqb (place x xs) (length xs)) refl
  where
    go : (b : Bool) → eqb (place x xs) (length xs) ≡ b → suc (place x xs) ≤ length (cond b (xs ++ x ∷ []) xs)
    go true e = let q = eqb-true (place x xs) (length xs) e in omega (arith, length-append xs (x ∷ []))
    go false e = let q = eqb-false (place x xs) (length xs) e in omega arith

-- and past them all where there are more with it
added_past : (rs : List Item) (x : Bytes) (xs : List Bytes) → length xs < length (added rs x xs) → place x xs ≡ length xs
unfolding added
added_past rs x xs h = go (eqb (place x xs) (length xs)) refl h
  where
    go : (b : Bool) → eqb (place x xs) (length xs) ≡ b → length xs < length (cond b (xs ++ x ∷ []) xs) → place x xs ≡ length xs
    go true e l = eqb-true (place x xs) (length xs) e
    go false e l = absurd (omega arith)

added_most : (rs : List Item) (x : Bytes) (xs : List Bytes) → length (added rs x xs) ≤ length xs + 1
unfolding added
added_most rs x xs = go (eqb (place x xs) (length xs))
  where
    go : (b : Bool) → length (cond b (xs ++ x ∷ []) xs) ≤ length xs + 1
    go true = omega (arith, length-append xs (x ∷ []))
    go false = omega arith

-- A RECORD THAT BEGINS WITH A NAME NAMES AN EARLIER ONE

pub early_holds : (rs : List Item) (n : ℕ) → Holds rs n (shape (kind_at rs n)) → named (kind_at rs n) ≡ true → part_at rs n 0 < n
unfolding shape
early_holds rs n h e = go (names_variable (kind_at rs n)) refl e
  where
    at : (k : ℕ) → kind_at rs n ≡ k → Holds rs n (shape k)
    at k q = subst (λ (j : ℕ). Holds rs n (shape j)) q h

    go : (b : Bool) → names_variable (kind_at rs n) ≡ b → (b || eqb (kind_at rs n) 32) ≡ true → part_at rs n 0 < n
    go true v q =
        ⊎_elim (λ x. (at 2 x).1.0)
        (⊎_elim (λ x. (at 16 x).1.0)
        (⊎_elim (λ x. (at 17 x).1.0)
        (λ x. (at 26 x).1.0))) (variable-cases (kind_at rs n) v)
    go false v q = (at 32 (eqb-true (kind_at rs n) 32 q)).1.0

-- THE TESTS

module _ (s : Bytes) (rs : List Item) (n : ℕ) (agree : (m : ℕ) → m < suc n → item_here s (known s m) ≡ item rs m) where
  same_item : (a : ℕ) → a < n → item_of (record_of (known s n) a) ≡ item rs a
  same_item a m = item_of_lem s rs (suc n) agree n (omega arith) a m

  count-is : count (known s n) ≡ n
  count-is = count-known s n

  earlier : (a : ℕ) → a < n → ltb a (count (known s n)) ≡ true
  earlier a m = lt-ltb a (count (known s n)) (omega (arith, count-is))

  kinds : (a : ℕ) → a < n → kind_of (known s n) a ≡ kind_at rs a
  kinds a m = ap (λ (c : Item). c.kind) (same_item a m)

  meets_as : (w : Wanted) (a : ℕ) → Refers rs n w a → meets (known s n) w a ≡ true
  unfolding meets
  meets_as any_number a m = refl
  meets_as code a m = le-leb a 2 m
  meets_as name a m =
      rw (earlier a m.0, eq-eqb (kind_of (known s n) a) 1 (kinds a m.0 ∙ m.1))
      (ap (λ (c : Item). is_name c.payload) (same_item a m.0) ∙ m.2)
  meets_as string a m = rw (earlier a m.0) (ap is_string (kinds a m.0) ∙ m.1)
  meets_as list a m = rw (earlier a m.0) (ap is_list (kinds a m.0) ∙ m.1)
  meets_as instruction a m = rw (earlier a m.0) (ap is_instruction (kinds a m.0) ∙ m.1)

  -- the first test of a reference
  before : (a : ℕ) (b : Bool) → (ltb a (count (known s n)) && b) ≡ true → a < n
  before a b e = let z = ltb-true a (count (known s n)) (and_parts (ltb a (count (known s n))) b e).0 in omega (arith, count-is)

  refers_as : (w : Wanted) (a : ℕ) → meets (known s n) w a ≡ true → Refers rs n w a
  unfolding meets
  refers_as any_number a e = tt
  refers_as code a e = leb-true a 2 e
  refers_as name a e =
      let m = before a (eqb (kind_of (known s n) a) 1 && is_name (record_of (known s n) a).payload) e in
      let q = (and_parts (ltb a (count (known s n))) (eqb (kind_of (known s n) a) 1 && is_name (record_of (known s n) a).payload) e).1 in (
        m,
        sym (kinds a m) ∙ eqb-true _ 1 (and_parts (eqb (kind_of (known s n) a) 1) _ q).0,
        ap (λ (c : Item). is_name c.payload) (sym (same_item a m)) ∙ (and_parts (eqb (kind_of (known s n) a) 1) _ q).1,
      )
  refers_as string a e =
      let m = before a (is_string (kind_of (known s n) a)) e in (m, ap is_string (sym (kinds a m)) ∙ (and_parts (ltb a (count (known s n))) (is_string (kind_of (known s n) a)) e).1)
  refers_as list a e =
      let m = before a (is_list (kind_of (known s n) a)) e in (m, ap is_list (sym (kinds a m)) ∙ (and_parts (ltb a (count (known s n))) (is_list (kind_of (known s n) a)) e).1)
  refers_as instruction a e =
      let m = before a (is_instruction (kind_of (known s n) a)) e in
      (m, ap is_instruction (sym (kinds a m)) ∙ (and_parts (ltb a (count (known s n))) (is_instruction (kind_of (known s n) a)) e).1)

  right_as : (sh : Shape) → Holds rs n sh → right (known s n) sh (payload_at rs n) ≡ true
  unfolding right
  right_as no_kind h = absurd h
  right_as text h = le-leb (length (payload_at rs n)) 63 h
  right_as nothing h = eq-eqb (length (payload_at rs n)) 0 h
  right_as (one a) h = rw (eq-eqb (length (payload_at rs n)) 2 h.0) (meets_as a (part_at rs n 0) h.1)
  right_as (two a b) h = rw (eq-eqb (length (payload_at rs n)) 4 h.0, meets_as a (part_at rs n 0) h.1) (meets_as b (part_at rs n 2) h.2)
  right_as (three a b c) h =
      rw (eq-eqb (length (payload_at rs n)) 6 h.0, meets_as a (part_at rs n 0) h.1, meets_as b (part_at rs n 2) h.2) (meets_as c (part_at rs n 4) h.3)

  holds_as : (sh : Shape) → right (known s n) sh (payload_at rs n) ≡ true → Holds rs n sh
  unfolding right
  holds_as no_kind e = false≢true e
  holds_as text e = leb-true _ 63 e
  holds_as nothing e = eqb-true _ 0 e
  holds_as (one a) e = (eqb-true _ 2 (and_parts (eqb (length (payload_at rs n)) 2) _ e).0, refers_as a _ (and_parts (eqb (length (payload_at rs n)) 2) _ e).1)
  holds_as (two a b) e =
      let q = (and_parts (eqb (length (payload_at rs n)) 4) _ e).1 in (
        eqb-true _ 4 (and_parts (eqb (length (payload_at rs n)) 4) _ e).0,
        refers_as a _ (and_parts (meets (known s n) a (part_at rs n 0)) _ q).0,
        refers_as b _ (and_parts (meets (known s n) a (part_at rs n 0)) _ q).1,
      )
  holds_as (three a b c) e =
      let q = (and_parts (eqb (length (payload_at rs n)) 6) _ e).1 in
      let z = (and_parts (meets (known s n) a (part_at rs n 0)) _ q).1 in (
        eqb-true _ 6 (and_parts (eqb (length (payload_at rs n)) 6) _ e).0,
        refers_as a _ (and_parts (meets (known s n) a (part_at rs n 0)) _ q).0,
        refers_as b _ (and_parts (meets (known s n) b (part_at rs n 2)) _ z).0,
        refers_as c _ (and_parts (meets (known s n) b (part_at rs n 2)) _ z).1,
      )

  read : right (known s n) (shape (kind_here s (known s n))) (payload_here s (known s n)) ≡ right (known s n) (shape (kind_at rs n)) (payload_at rs n)
  read = ap (λ (c : Item). right (known s n) (shape c.kind) c.payload) (agree n (omega arith))

  pub right-here : Holds rs n (shape (kind_at rs n)) → right (known s n) (shape (kind_here s (known s n))) (payload_here s (known s n)) ≡ true
  right-here h = read ∙ right_as (shape (kind_at rs n)) h

  pub holds-here : right (known s n) (shape (kind_here s (known s n))) (payload_here s (known s n)) ≡ true → Holds rs n (shape (kind_at rs n))
  holds-here e = holds_as (shape (kind_at rs n)) (sym read ∙ e)

  kind-here : kind_here s (known s n) ≡ kind_at rs n
  kind-here = kind_of_lem s rs (suc n) agree n (omega arith)

  module _ (holds : (m : ℕ) → m < suc n → Holds rs m (shape (kind_at rs m))) where
    early : (m : ℕ) → m < suc n → named (kind_at rs m) ≡ true → part_at rs m 0 < m
    early m l = early_holds rs m (holds m l)

    pub names-are : function_names (known s n) ≡ functions_to rs n
    names-are = functions_of_lem s rs (suc n) agree early n (omega arith)

    pub slots-are : variable_names (known s n) ≡ variables_to rs n
    slots-are = variables_of s rs (suc n) agree early n (omega arith)

    pub functions-are : length (known s n).functions ≡ length (functions_to rs n)
    functions-are = sym (length-map (known s n).functions (λ (d : Defined). d.name)) ∙ ap length names-are

    pub variables-are : length (known s n).variables ≡ length (variables_to rs n)
    variables-are = sym (length-map (known s n).variables (λ (v : Variable). v.name)) ∙ ap length slots-are

    name-here : named (kind_at rs n) ≡ true → name_here s (known s n) ≡ name_at rs n
    name-here = name_of s rs (suc n) agree early n (omega arith)

    function-named : kind_at rs n ≡ 32 → named (kind_at rs n) ≡ true
    function-named u = go (names_variable (kind_at rs n)) (eq-eqb (kind_at rs n) 32 u)
      where
        go : (b : Bool) → eqb (kind_at rs n) 32 ≡ true → (b || eqb (kind_at rs n) 32) ≡ true
        go true v = refl
        go false v = v

    place_is : kind_at rs n ≡ 32 → place (name_here s (known s n)) (function_names (known s n)) ≡ place (name_at rs n) (functions_to rs n)
    place_is k = λ i. place (name-here (function-named k) i) (names-are i)

    slot_is_lem : names_variable (kind_at rs n) ≡ true → slot_here s (known s n) ≡ place (name_at rs n) (variables_to rs n)
    slot_is_lem v = let k : named (kind_at rs n) ≡ true = rw v in λ i. place (name-here k i) (slots-are i)

    slot-within : names_variable (kind_at rs n) ≡ true → place (name_at rs n) (variables_to rs n) ≤ length (variables_to rs n)
    slot-within v = let m = slot_most s (known s n) in omega (arith, slot_is_lem v, variables-are)

    -- A SECOND FUNCTION OF A NAME

    pub second_is : is_second s (known s n) ≡ true → (kind_at rs n ≡ 32) × Earlier rs (name_at rs n) n
    unfolding is_second
    second_is e =
        let k = sym kind-here ∙ eqb-true _ 32 (and_parts (is_function s (known s n)) _ e).0 in
        let l : place (name_here s (known s n)) (function_names (known s n)) < length (known s n).functions = ltb-true _ _ (and_parts (is_function s (known s n)) _ e).1 in
        (k, found rs (name_at rs n) n (omega (arith, place_is k, functions-are)))

    pub second-not : (kind_at rs n ≡ 32 → Earlier rs (name_at rs n) n → ⊥) → is_second s (known s n) ≡ false
    second-not h = go (is_second s (known s n)) refl
      where
        go : (b : Bool) → is_second s (known s n) ≡ b → b ≡ false
        go true e = let z = second_is e in absurd (h z.0 z.1)
        go false e = refl

    pub second-here : kind_at rs n ≡ 32 → Earlier rs (name_at rs n) n → is_second s (known s n) ≡ true
    unfolding is_second
    second-here k (q, l, x, e) = rw (eq-eqb (kind_here s (known s n)) 32 (kind-here ∙ k)) (go (ltb (place (name_here s (known s n)) (function_names (known s n))) (length (known s n).functions)) refl)
      where
        go : (b : Bool) → ltb (place (name_here s (known s n)) (function_names (known s n))) (length (known s n).functions) ≡ b → b ≡ true
        go true f = refl
        go false f =
            let z : length (known s n).functions ≤ place (name_here s (known s n)) (function_names (known s n)) = ltb-false _ _ f in
            absurd (differs rs (name_at rs n) n (omega (arith, place_is k, functions-are)) q l x e)

    -- A 33RD FUNCTION OR A 17TH VARIABLE

    pub over-is : is_over s (known s n) ≡ true → (32 < length (functions_to rs (suc n))) ⊎ (16 < length (variables_to rs (suc n)))
    unfolding is_over
    over-is e =
        ⊎_elim
        (λ a. inl
        (let k = sym kind-here ∙ eqb-true _ 32 (and_parts (is_function s (known s n)) _ a).0 in
        let l : 32 ≤ length (known s n).functions = leb-true 32 _ (and_parts (is_function s (known s n)) _ a).1 in
        omega (arith, functions-are, functions_more rs n k)))
        (λ a. inr
        (let v : names_variable (kind_at rs n) ≡ true = ap names_variable (sym kind-here) ∙ (and_parts (names_variable (kind_here s (known s n))) _ a).0 in
        let l : 16 ≤ slot_here s (known s n) = leb-true 16 _ (and_parts (names_variable (kind_here s (known s n))) _ a).1 in
        let z = added-above rs (name_at rs n) (variables_to rs n) (slot-within v) in
        omega (arith, slot_is_lem v, ap length (variables-more rs n v))))
        (or_cases (is_function s (known s n) && leb 32 (length (known s n).functions)) _ e)

    pub over-not : length (functions_to rs (suc n)) ≤ 32 → length (variables_to rs (suc n)) ≤ 16 → is_over s (known s n) ≡ false
    over-not f v = go (is_over s (known s n)) refl
      where
        go : (b : Bool) → is_over s (known s n) ≡ b → b ≡ false
        go true e = ⊎_elim (λ a. absurd (omega arith)) (λ a. absurd (omega arith)) (over-is e)
        go false e = refl

    pub over_functions : length (functions_to rs n) ≤ 32 → 32 < length (functions_to rs (suc n)) → is_over s (known s n) ≡ true
    unfolding is_over
    over_functions few h = or_left (is_function s (known s n) && leb 32 (length (known s n).functions)) _ (go (eqb (kind_at rs n) 32) refl)
      where
        go : (b : Bool) → eqb (kind_at rs n) 32 ≡ b → (is_function s (known s n) && leb 32 (length (known s n).functions)) ≡ true
        go true e =
            let k = eqb-true (kind_at rs n) 32 e in
            rw (eq-eqb (kind_here s (known s n)) 32 (kind-here ∙ k)) (le-leb 32 (length (known s n).functions) (omega (arith, functions-are, functions_more rs n k)))
        go false e = absurd (omega (arith, functions-same rs n e))

    pub over-variables : length (variables_to rs n) ≤ 16 → 16 < length (variables_to rs (suc n)) → is_over s (known s n) ≡ true
    unfolding is_over
    over-variables few h =
        or_right (is_function s (known s n) && leb 32 (length (known s n).functions)) (names_variable (kind_here s (known s n)) && leb 16 (slot_here s (known s n)))
        (go (names_variable (kind_at rs n)) refl)
      where
        go : (b : Bool) → names_variable (kind_at rs n) ≡ b → (names_variable (kind_here s (known s n)) && leb 16 (slot_here s (known s n))) ≡ true
        go true v =
            let m = ap length (variables-more rs n v) in
            let p = added_past rs (name_at rs n) (variables_to rs n) (omega arith) in
            let z = added_most rs (name_at rs n) (variables_to rs n) in
            rw (ap names_variable kind-here ∙ v) (le-leb 16 (slot_here s (known s n)) (omega (arith, slot_is_lem v)))
        go false v = absurd (omega (arith, variables-same rs n v))
