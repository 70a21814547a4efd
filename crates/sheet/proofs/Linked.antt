-- A list of records beside what a check knows after each of them: the same records, and the same names of functions and variables.
use mathlib.Core.Path.{◌≡◌, refl, sym, ap, ◌∙◌}
use mathlib.Core.Bool.{Bool, true, false, ◌&&◌, ◌||◌, cond}
use mathlib.Core.List.{List, [], ◌∷◌, ◌++◌, map}
use Prim.Native.Nat.{ℕ, zero, suc, ◌<◌, ◌≤◌}
use native.Mathlib.Omega.{arith}
use lib.Dec.{eqb}
use lib.ListN.{length, length-map}
use Rattle.std.proofs.lemmas.List.{map-append}
use Rattle.rules.specs.Syntax.{Bytes}
use Rattle.rules.specs.Words.{same}
use Rattle.rules.proofs.Slices.{same-is, same_self}
use Rattle.sheet.specs.Format.{number, place, names_variable}
use Rattle.sheet.specs.Check.{Known, Variable, Defined, known, next, record_of, payload_of, variable_names, function_names}
use Rattle.sheet.specs.Check.{kind_here, payload_here, name_here, slot_here, record_here, is_new, variable_here, function_here}
use Rattle.sheet.specs.WellFormed.{Item, item_of, item, kind_at, payload_at, part_at, name_at, functions_to, variables_to, added}
use Rattle.sheet.proofs.Records.{count-known}
use Rattle.sheet.proofs.Sound.{below, record_old, record_new}

-- A NAME THAT IS NONE OF SOME

-- one more that differs
pub none_more : (x : Bytes) (xs : List Bytes) (y : Bytes) → length xs ≤ place x xs → (y ≡ x → ⊥) → length (xs ++ y ∷ []) ≤ place x (xs ++ y ∷ [])
unfolding place
none_more x [] y h d = go (same y x) refl
  where
    go : (b : Bool) → same y x ≡ b → 1 ≤ cond b 0 1
    go true e = absurd (d (same-is y x e))
    go false e = omega arith
none_more x (z ∷ xs) y h d = go (same z x) h (none_more x xs y)
  where
    go : (b : Bool) → suc (length xs) ≤ cond b 0 (suc (place x xs)) → (length xs ≤ place x xs → (y ≡ x → ⊥) → length (xs ++ y ∷ []) ≤ place x (xs ++ y ∷ []))
        → suc (length (xs ++ y ∷ [])) ≤ cond b 0 (suc (place x (xs ++ y ∷ [])))
    go true l k = absurd (omega arith)
    go false l k = let q = k (omega arith) d in omega arith

-- and backwards
pub none_less : (x : Bytes) (xs : List Bytes) (y : Bytes) → length (xs ++ y ∷ []) ≤ place x (xs ++ y ∷ []) → (length xs ≤ place x xs) × (y ≡ x → ⊥)
unfolding place
none_less x [] y h = (omega arith, differs)
  where
    go : (b : Bool) → same y x ≡ b → b ≡ true → 1 ≤ cond b 0 1 → ⊥
    go true e f l = absurd (omega arith)
    go false e f l = let z : ◌≡◌ {A = ℕ} 0 1 = cc in absurd (omega arith)

    differs : y ≡ x → ⊥
    differs e = go (same y x) refl (ap (λ (v : Bytes). same v x) e ∙ same_self x) h
none_less x (z ∷ xs) y h = go (same z x) h (none_less x xs y)
  where
    go : (b : Bool) → suc (length (xs ++ y ∷ [])) ≤ cond b 0 (suc (place x (xs ++ y ∷ [])))
        → (length (xs ++ y ∷ []) ≤ place x (xs ++ y ∷ []) → (length xs ≤ place x xs) × (y ≡ x → ⊥)) → (suc (length xs) ≤ cond b 0 (suc (place x xs))) × (y ≡ x → ⊥)
    go true l k = absurd (omega arith)
    go false l k = let q = k (omega arith) in ((let a = q.0 in omega arith), q.1)

-- THE SAME RECORDS

abbrev pub item_here : Bytes → Known → Item
item_here s K = item_of (record_here s K)

-- the records that begin with a name
abbrev pub named : (kind : ℕ) → Bool
named k = names_variable k || eqb k 32

module _ (s : Bytes) (rs : List Item) (N : ℕ) (agree : (n : ℕ) → n < N → item_here s (known s n) ≡ item rs n) where
  pub item_of_lem : (n : ℕ) → n ≤ N → (r : ℕ) → r < n → item_of (record_of (known s n) r) ≡ item rs r
  unfolding known
  item_of_lem zero l r h = absurd (omega arith)
  item_of_lem (suc n) l r h = below (λ (k : ℕ). item_of (record_of (next s (known s n)) k) ≡ item rs k) n (old (item_of_lem n (omega arith))) new r h
    where
      old : ((r : ℕ) → r < n → item_of (record_of (known s n) r) ≡ item rs r) → (r : ℕ) → r < n → item_of (record_of (next s (known s n)) r) ≡ item rs r
      old q r m = ap item_of (record_old s (known s n) r (omega (arith, count-known s n))) ∙ q r m

      new : item_of (record_of (next s (known s n)) n) ≡ item rs n
      new = ap item_of (ap (record_of (next s (known s n))) (sym (count-known s n)) ∙ record_new s (known s n)) ∙ agree n (omega arith)

  pub kind_of_lem : (n : ℕ) → n < N → kind_here s (known s n) ≡ kind_at rs n
  kind_of_lem n l = ap (λ (c : Item). c.kind) (agree n l)

  pub payload_of_lem : (n : ℕ) → n < N → payload_here s (known s n) ≡ payload_at rs n
  payload_of_lem n l = ap (λ (c : Item). c.payload) (agree n l)

  pub part_of : (n i : ℕ) → n < N → number (payload_here s (known s n)) i ≡ part_at rs n i
  part_of n i l = ap (λ (p : Bytes). number p i) (payload_of_lem n l)

  module _ (early : (n : ℕ) → n < N → named (kind_at rs n) ≡ true → part_at rs n 0 < n) where
    pub name_of : (n : ℕ) → n < N → named (kind_at rs n) ≡ true → name_here s (known s n) ≡ name_at rs n
    name_of n l e =
        ap (payload_of (known s n)) (part_of n 0 l)
        ∙ ap (λ (c : Item). c.payload) (item_of_lem n (omega arith) (part_at rs n 0) (early n l e))

    pub functions_of_lem : (n : ℕ) → n ≤ N → function_names (known s n) ≡ functions_to rs n
    unfolding known next functions_to
    functions_of_lem zero l = refl
    functions_of_lem (suc n) l = ap (λ (k : ℕ). map (λ (f : Defined). f.name) (cond (eqb k 32) ((known s n).functions ++ function_here s (known s n) ∷ []) (known s n).functions)) (kind_of_lem n l)
        ∙ go (eqb (kind_at rs n) 32) refl (functions_of_lem n (omega arith))
      where
        or_right : (a b : Bool) → b ≡ true → (a || b) ≡ true
        or_right true b e = refl
        or_right false b e = e

        go : (b : Bool) → eqb (kind_at rs n) 32 ≡ b → function_names (known s n) ≡ functions_to rs n
            → map (λ (f : Defined). f.name) (cond b ((known s n).functions ++ function_here s (known s n) ∷ []) (known s n).functions) ≡ cond b (functions_to rs n ++ name_at rs n ∷ []) (functions_to rs n)
        go true e q =
            map-append (λ (f : Defined). f.name) (known s n).functions ((function_here s (known s n)) ∷ [])
            ∙ (λ i. q i ++ name_of n l (or_right (names_variable (kind_at rs n)) _ e) i ∷ [])
        go false e q = q

    pub variables_of : (n : ℕ) → n ≤ N → variable_names (known s n) ≡ variables_to rs n
    unfolding known next variables_to added is_new
    variables_of zero l = refl
    variables_of (suc n) l =
        ap (λ (k : ℕ). map (λ (v : Variable). v.name) (cond (names_variable k && eqb (slot_here s (known s n)) (length (known s n).variables)) ((known s n).variables ++ variable_here s (known s n) ∷ []) (known s n).variables)) (kind_of_lem n l)
        ∙ go (names_variable (kind_at rs n)) refl (variables_of n (omega arith))
      where
        or_left : (a b : Bool) → a ≡ true → (a || b) ≡ true
        or_left true b e = refl
        or_left false true e = refl
        or_left false false e = e

        chosen : (b : Bool) → map (λ (v : Variable). v.name) (cond b ((known s n).variables ++ variable_here s (known s n) ∷ []) (known s n).variables) ≡ cond b (variable_names (known s n) ++ name_here s (known s n) ∷ []) (variable_names (known s n))
        chosen true = map-append (λ (v : Variable). v.name) (known s n).variables ((variable_here s (known s n)) ∷ [])
        chosen false = refl

        go : (b : Bool) → names_variable (kind_at rs n) ≡ b → variable_names (known s n) ≡ variables_to rs n
            → map (λ (v : Variable). v.name) (cond (b && eqb (slot_here s (known s n)) (length (known s n).variables)) ((known s n).variables ++ variable_here s (known s n) ∷ []) (known s n).variables)
            ≡ cond b (cond (eqb (place (name_at rs n) (variables_to rs n)) (length (variables_to rs n))) (variables_to rs n ++ name_at rs n ∷ []) (variables_to rs n)) (variables_to rs n)
        go true e q =
            chosen (eqb (slot_here s (known s n)) (length (known s n).variables))
            ∙ ap (λ (k : ℕ). cond (eqb (slot_here s (known s n)) k) (variable_names (known s n) ++ name_here s (known s n) ∷ []) (variable_names (known s n))) (sym (length-map (known s n).variables (λ (v : Variable). v.name)))
            ∙ (λ i. cond (eqb (place (name_of n l (or_left (names_variable (kind_at rs n)) _ e) i) (q i)) (length (q i))) (q i ++ name_of n l (or_left (names_variable (kind_at rs n)) _ e) i ∷ []) (q i))
        go false e q = q
