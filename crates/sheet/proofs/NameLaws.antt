-- The names of the variables and functions of the records that passed: each is the text of an earlier record, and a body is an instruction.
use mathlib.Core.Path.{◌≡◌, refl, sym, ap, ◌∙◌, subst}
use mathlib.Core.Bool.{Bool, true, false, cond}
use mathlib.Core.List.{List, [], ◌∷◌, ◌++◌}
use Prim.Native.Nat.{ℕ, zero, suc, ◌+◌, ◌<◌, ◌≤◌}
use native.Mathlib.Omega.{arith}
use lib.Dec.{eqb, ltb}
use lib.ListN.{length, get_or, length-append, get_or-append}
use lib.Seq.{get_or-append_seam}
use borrow.Author.Tests.{eqb-true, eqb-false, ltb-true}
use Rattle.std.proofs.lemmas.Bool.{and_parts}
use Rattle.rules.specs.Syntax.{Bytes}
use Rattle.sheet.specs.Format.{name, instruction, is_name, is_instruction, names_variable}
use Rattle.sheet.specs.Check.{Rec, Known, Variable, Defined, no_variable, no_defined, known, next, count, record_of, kind_of, payload_of, meets, judge, fine}
use Rattle.sheet.specs.Check.{is_new, is_function, variable_here, function_here, record_here, kind_here, payload_here, slot_here}
use Rattle.sheet.specs.Exact.{Passes}
use Rattle.sheet.proofs.Records.{count-known}
use Rattle.sheet.proofs.Judged.{meets-earlier, meets-text, variable-name, function-name, function-body}
use Rattle.sheet.proofs.Sound.{below, record_old, record_new, fine-right, slot_most}
use Rattle.sheet.proofs.Explains.{fewer}

-- the text record r is the name x
pub record Text (K : Known) (r : ℕ) (x : Bytes) : Type 0 where
  pub earlier : r < count K
  pub kind : kind_of K r ≡ 1
  pub is_name : is_name x ≡ true
  pub is : payload_of K r ≡ x

-- the record b is an instruction
pub record Body (K : Known) (b : ℕ) : Type 0 where
  pub earlier : b < count K
  pub sort : is_instruction (kind_of K b) ≡ true

text_of : (K : Known) (r : ℕ) → meets K name r ≡ true → Text K r (payload_of K r)
unfolding meets
text_of K r e = record {
  earlier = meets-earlier K r e;
  kind = meets-text K r e;
  is_name = (and_parts (eqb (kind_of K r) 1) _ (and_parts (ltb r (count K)) _ e).1).1;
  is = refl;
}

body_of : (K : Known) (b : ℕ) → meets K instruction b ≡ true → Body K b
unfolding meets
body_of K b e = record { earlier = ltb-true b (count K) (and_parts (ltb b (count K)) _ e).0; sort = (and_parts (ltb b (count K)) _ e).1 }

module _ (s : Bytes) (K : Known) where
  more : count (next s K) ≡ count K + 1
  unfolding next
  more = length-append K.records (record_here s K ∷ [])

  text_grow : (r : ℕ) (x : Bytes) → Text K r x → Text (next s K) r x
  text_grow r x h =
      let e = record_old s K r h.earlier in
      record {
        earlier = let a = h.earlier in omega (arith, more);
        kind = ap (λ (c : Rec). c.kind) e ∙ h.kind;
        is_name = h.is_name;
        is = ap (λ (c : Rec). c.payload) e ∙ h.is;
      }

  body_grow : (b : ℕ) → Body K b → Body (next s K) b
  body_grow b h = record {
    earlier = let a = h.earlier in omega (arith, more);
    sort = ap (λ (c : Rec). is_instruction c.kind) (record_old s K b h.earlier) ∙ h.sort;
  }

-- what holds of each of a list holds of one more
pub all_add : {A : Type 0} (P : A → Type 0) (d : A) (xs : List A) (x : A) → ((i : ℕ) → i < length xs → P (get_or xs i d)) → P x
    → (i : ℕ) → i < length (xs ++ x ∷ []) → P (get_or (xs ++ x ∷ []) i d)
all_add {A} P d xs x h p i l =
    below (λ (k : ℕ). P (get_or (xs ++ x ∷ []) k d)) (length xs)
    (λ k m. subst P (sym (get_or-append xs (x ∷ []) d k m)) (h k m))
    (subst P (sym (get_or-append_seam xs x [] d)) p) i (omega (arith, length-append xs (x ∷ [])))

abbrev Variables : Known → Variable → Type 0
Variables K v = Text K v.named v.name

abbrev Functions : Known → Defined → Type 0
Functions K d = Text K d.named d.name × Body K d.body

module _ (s : Bytes) (n : ℕ) (g : judge s (known s n) ≡ fine) where
  variable-here : names_variable (kind_here s (known s n)) ≡ true → Variables (known s n) (variable_here s (known s n))
  variable-here v = text_of (known s n) _ (variable-name (known s n) (kind_here s (known s n)) (payload_here s (known s n)) (fine-right s (known s n) g) v)

  function-here : kind_here s (known s n) ≡ 32 → Functions (known s n) (function_here s (known s n))
  function-here e =
      let r = fine-right s (known s n) g in (
        text_of (known s n) _ (function-name (known s n) (kind_here s (known s n)) (payload_here s (known s n)) r e),
        body_of (known s n) _ (function-body (known s n) (kind_here s (known s n)) (payload_here s (known s n)) r e),
      )

pub variables-named : (s : Bytes) (n : ℕ) → Passes s n → (i : ℕ) → i < length (known s n).variables
    → Text (known s n) (get_or (known s n).variables i no_variable).named (get_or (known s n).variables i no_variable).name
unfolding known next is_new
variables-named s zero p i l = absurd (omega arith)
variables-named s (suc n) p i l = go (variables-named s n (fewer s n p)) (is_new s (known s n)) refl i l
  where
    go : ((i : ℕ) → i < length (known s n).variables → Variables (known s n) (get_or (known s n).variables i no_variable)) → (b : Bool) → is_new s (known s n) ≡ b
        → (i : ℕ) → i < length (cond b ((known s n).variables ++ variable_here s (known s n) ∷ []) (known s n).variables)
        → Variables (next s (known s n)) (get_or (cond b ((known s n).variables ++ variable_here s (known s n) ∷ []) (known s n).variables) i no_variable)
    go h true e i l =
        let v = variable-here s n (p.good n (omega arith)) (and_parts (names_variable (kind_here s (known s n))) _ e).0 in
        text_grow s (known s n) _ _ (all_add (Variables (known s n)) no_variable (known s n).variables (variable_here s (known s n)) h v i l)
    go h false e i l = text_grow s (known s n) _ _ (h i l)

pub functions-named : (s : Bytes) (n : ℕ) → Passes s n → (f : ℕ) → f < length (known s n).functions
    → Text (known s n) (get_or (known s n).functions f no_defined).named (get_or (known s n).functions f no_defined).name
    × Body (known s n) (get_or (known s n).functions f no_defined).body
unfolding known next
functions-named s zero p f l = absurd (omega arith)
functions-named s (suc n) p f l = go (functions-named s n (fewer s n p)) (is_function s (known s n)) refl f l
  where
    grow : (d : Defined) → Functions (known s n) d → Functions (next s (known s n)) d
    grow d h = (text_grow s (known s n) d.named d.name h.0, body_grow s (known s n) d.body h.1)

    go : ((i : ℕ) → i < length (known s n).functions → Functions (known s n) (get_or (known s n).functions i no_defined)) → (b : Bool) → is_function s (known s n) ≡ b
        → (i : ℕ) → i < length (cond b ((known s n).functions ++ function_here s (known s n) ∷ []) (known s n).functions)
        → Functions (next s (known s n)) (get_or (cond b ((known s n).functions ++ function_here s (known s n) ∷ []) (known s n).functions) i no_defined)
    go h true e i l =
        let d = function-here s n (p.good n (omega arith)) (eqb-true _ 32 e) in
        grow _ (all_add (Functions (known s n)) no_defined (known s n).functions (function_here s (known s n)) h d i l)
    go h false e i l = grow _ (h i l)

-- SLOTS

module _ (s : Bytes) (K : Known) where
  longer : length K.variables ≤ length (next s K).variables
  unfolding next
  longer = go (is_new s K)
    where
      go : (b : Bool) → length K.variables ≤ length (cond b (K.variables ++ variable_here s K ∷ []) K.variables)
      go true = omega (arith, length-append K.variables (variable_here s K ∷ []))
      go false = omega arith

  slot-here : names_variable (kind_here s K) ≡ true → (record_here s K).slot < length (next s K).variables
  unfolding next is_new
  slot-here v = rw v (go (eqb (slot_here s K) (length K.variables)) refl)
    where
      go : (b : Bool) → eqb (slot_here s K) (length K.variables) ≡ b
          → slot_here s K < length (cond b (K.variables ++ variable_here s K ∷ []) K.variables)
      go true e = let m = slot_most s K in omega (arith, length-append K.variables (variable_here s K ∷ []))
      go false e = let m = slot_most s K in let q = eqb-false (slot_here s K) (length K.variables) e in omega arith

-- the slot of a record that names a variable is that of a variable
pub slot-below : (s : Bytes) (n : ℕ) (r : ℕ) → r < n → names_variable (kind_of (known s n) r) ≡ true → (record_of (known s n) r).slot < length (known s n).variables
unfolding known
slot-below s zero r l = absurd (omega arith)
slot-below s (suc n) r l = below (λ (k : ℕ). names_variable (kind_of (next s (known s n)) k) ≡ true → (record_of (next s (known s n)) k).slot < length (next s (known s n)).variables) n (old (slot-below s n)) new r l
  where
    old : ((k : ℕ) → k < n → names_variable (kind_of (known s n) k) ≡ true → (record_of (known s n) k).slot < length (known s n).variables)
        → (k : ℕ) → k < n → names_variable (kind_of (next s (known s n)) k) ≡ true → (record_of (next s (known s n)) k).slot < length (next s (known s n)).variables
    old h k m v =
        let e = record_old s (known s n) k (omega (arith, count-known s n)) in
        let a = h k m (sym (ap (λ (c : Rec). names_variable c.kind) e) ∙ v) in
        subst (λ (c : Rec). c.slot < length (next s (known s n)).variables) (sym e) (omega (arith, longer s (known s n)))

    new_is : record_of (next s (known s n)) n ≡ record_here s (known s n)
    new_is = ap (record_of (next s (known s n))) (sym (count-known s n)) ∙ record_new s (known s n)

    new : names_variable (kind_of (next s (known s n)) n) ≡ true → (record_of (next s (known s n)) n).slot < length (next s (known s n)).variables
    new v = subst (λ (c : Rec). c.slot < length (next s (known s n)).variables) (sym new_is) (slot-here s (known s n) (sym (ap (λ (c : Rec). names_variable c.kind) new_is) ∙ v))
