-- What an evaluator cites of functions, calls and slots: the marks and the table say what the rules' program has.
use mathlib.Core.Path.{◌≡◌, refl, sym, ap, ◌∙◌, subst}
use mathlib.Core.Bool.{Bool, true, false, ◌&&◌, cond}
use mathlib.Core.List.{List, [], ◌∷◌, map}
use Prim.Native.Nat.{ℕ, zero, suc, ◌+◌, ◌*◌, ◌-◌, ◌<◌, ◌≤◌}
use native.Mathlib.Nat.{add-zero}
use native.Mathlib.Omega.{arith}
use lib.Dec.{eqb, ltb}
use lib.ListN.{length, get_or, drop, length-drop, length-map, get_or-map}
use lib.Seq.{ext_get_or, get_or-take, get_or-drop, length-take-le}
use borrow.Author.Tests.{eq-eqb, ne_eqb, eqb-true, eqb-false, ltb-true, ltb-false}
use Rattle.rules.specs.Syntax.{Bytes, shift}
use Rattle.rules.specs.Words.{same, find, unknown}
use Rattle.rules.specs.Words as words
use Rattle.sheet.specs.Format.{number, place, shape, name, list, instruction, is_name}
use Rattle.sheet.specs.Check.{Rec, Known, Variable, Defined, no_variable, no_defined, count, record_of, kind_of, payload_of, variable_names, function_names, ends_in_main}
use Rattle.sheet.specs.Table.{function_number}
use Rattle.sheet.specs.Decode.{function_of, program, main_body}
use Rattle.sheet.specs.Filled.{mark_in, body_in, named_in, slot_name, in_record, text_in, ins_of, function_in, IsIns, IsText, Loaded}
use Rattle.sheet.proofs.Marks.{mark-call}
use Rattle.sheet.proofs.NameLaws.{Text, Body, variables-named, functions-named}
use Rattle.sheet.proofs.Loading.{names-short}
use Rattle.sheet.proofs.Located.{parts, few-variables, kind-read, text-read, part-read, one-here, two_here}

-- A NAME AMONG THE FUNCTIONS

eqb_sym : (a b : ℕ) → eqb a b ≡ eqb b a
eqb_sym a b = go (eqb b a) refl
  where
    go : (x : Bool) → eqb b a ≡ x → eqb a b ≡ x
    go true e = eq-eqb a b (sym (eqb-true b a e))
    go false e = ne_eqb a b (λ q. eqb-false b a e (sym q))

same_sym : (x y : Bytes) → same x y ≡ same y x
same_sym [] [] = refl
same_sym [] (b ∷ y) = refl
same_sym (a ∷ x) [] = refl
same_sym (a ∷ x) (b ∷ y) = λ i. eqb_sym a b i && same_sym x y i

find_none : (K : Known) (x : Bytes) (fs : List Defined) (f : ℕ) → length fs ≤ place x (map (λ (d : Defined). d.name) fs) → find x f (map (function_of K) fs) ≡ unknown
unfolding place
find_none K x [] f h = refl
find_none K x (d ∷ fs) f h = rw (same_sym x d.name) (go (same d.name x) h (find_none K x fs (suc f)))
  where
    go : (b : Bool) → suc (length fs) ≤ cond b 0 (suc (place x (map (λ (d : Defined). d.name) fs)))
        → (length fs ≤ place x (map (λ (d : Defined). d.name) fs) → find x (suc f) (map (function_of K) fs) ≡ unknown)
        → cond b (words.known f (function_of K d)) (find x (suc f) (map (function_of K) fs)) ≡ unknown
    go true l k = absurd (omega arith)
    go false l k = k (omega arith)

find-some : (K : Known) (x : Bytes) (fs : List Defined) (f : ℕ) → place x (map (λ (d : Defined). d.name) fs) < length fs
    → find x f (map (function_of K) fs) ≡ words.known (f + place x (map (λ (d : Defined). d.name) fs)) (function_of K (get_or fs (place x (map (λ (d : Defined). d.name) fs)) no_defined))
unfolding place
find-some K x [] f h = absurd (omega arith)
find-some K x (d ∷ fs) f h = rw (same_sym x d.name) (go (same d.name x) h (find-some K x fs (suc f)))
  where
    go : (b : Bool) → cond b 0 (suc (place x (map (λ (d : Defined). d.name) fs))) < suc (length fs)
        → (place x (map (λ (d : Defined). d.name) fs) < length fs
        → find x (suc f) (map (function_of K) fs) ≡ words.known (suc f + place x (map (λ (d : Defined). d.name) fs)) (function_of K (get_or fs (place x (map (λ (d : Defined). d.name) fs)) no_defined)))
        → cond b (words.known f (function_of K d)) (find x (suc f) (map (function_of K) fs))
        ≡ words.known (f + cond b 0 (suc (place x (map (λ (d : Defined). d.name) fs)))) (function_of K (get_or (d ∷ fs) (cond b 0 (suc (place x (map (λ (d : Defined). d.name) fs)))) no_defined))
    go true l k = ap (λ (j : ℕ). words.known j (function_of K d)) (sym (add-zero f))
    go false l k = k (omega arith) ∙ ap (λ (j : ℕ). words.known j (function_of K (get_or fs (place x (map (λ (d : Defined). d.name) fs)) no_defined))) next
      where
        next : suc f + place x (map (λ (d : Defined). d.name) fs) ≡ f + suc (place x (map (λ (d : Defined). d.name) fs))
        next = omega arith

one_more_lem : (p : ℕ) → 1 + p ≡ suc p
one_more_lem p = omega arith

-- THE FUNCTIONS OF A LOADED SHEET

module _ {s w : Bytes} {K : Known} (g : Loaded s K w) where
  defined : (f : ℕ) → f < length K.functions → Text K (get_or K.functions f no_defined).named (get_or K.functions f no_defined).name × Body K (get_or K.functions f no_defined).body
  defined = subst (λ (x : Known). (f : ℕ) → f < length x.functions → Text x (get_or x.functions f no_defined).named (get_or x.functions f no_defined).name × Body x (get_or x.functions f no_defined).body)
      (sym (parts g).is) (functions-named s (parts g).n (parts g).passes)

  -- function f + 1 as the table has it
  function-is : (f : ℕ) → f < length K.functions → function_of K (get_or K.functions f no_defined) ≡ function_in s w K (suc f)
  function-is f l =
      let d = defined f l in
      let e : (get_or K.functions f no_defined).name ≡ text_in s w (named_in w (suc f)) =
      sym d.0.is ∙ sym (text-read g _ d.0.earlier) ∙ ap (text_in s w) (sym (g.filled.named f l)) in
      λ i. record { name = e i; body = ins_of K (sym (g.filled.body f l) i) }

  pub functions-count : length (program K).functions ≡ length K.functions
  unfolding program
  functions-count = length-map K.functions (function_of K)

  pub function_law : (f : ℕ) → f < length K.functions → get_or (program K).functions f (record { name = []; body = shift 0 0 }) ≡ function_in s w K (suc f)
  unfolding program
  function_law f l = mapped K.functions f l ∙ function-is f l
    where
      mapped : (ds : List Defined) (k : ℕ) → k < length ds → get_or (map (function_of K) ds) k (record { name = []; body = shift 0 0 }) ≡ function_of K (get_or ds k no_defined)
      mapped [] k m = absurd (omega arith)
      mapped (d ∷ ds) zero m = refl
      mapped (d ∷ ds) (suc k) m = mapped ds k (omega arith)

  pub named_law : (f : ℕ) → 0 < f → f ≤ length K.functions → IsText K (named_in w f)
  named_law zero l m = absurd (omega arith)
  named_law (suc f) l m = let d = defined f m in subst (IsText K) (sym (g.filled.named f m)) (d.0.earlier, d.0.kind)

  -- main is the last record
  main_body_lem : IsIns K (main_body K)
  unfolding shape
  main_body_lem =
      let e : kind_of K (count K - 1) ≡ 33 = eqb-true _ 33 (subst (λ (x : Known). ends_in_main x ≡ true) (sym (parts g).is) (parts g).main) in
      let l : count K - 1 < count K = omega (arith, some e) in
      let m = one-here g (count K - 1) l instruction (ap shape e) in
      ((let z = m.0.0 in omega arith), m.0.1)
    where
      nothing : (cs : List Rec) → (get_or cs (length cs - 1) (record { at = 0; kind = 0; payload = []; slot = 0 })).kind ≡ 33 → 0 < length cs
      nothing [] e = absurd (omega arith)
      nothing (c ∷ cs) e = omega arith

      some : kind_of K (count K - 1) ≡ 33 → 0 < count K
      some e = nothing K.records e

  pub body_law : (f : ℕ) → f ≤ length K.functions → IsIns K (body_in w f)
  body_law zero l = subst (IsIns K) (sym g.filled.main) main_body_lem
  body_law (suc f) l = let d = defined f l in subst (IsIns K) (sym (g.filled.body f l)) (d.1.earlier, d.1.sort)

  pub main_law : (program K).main ≡ ins_of K (body_in w 0)
  unfolding program
  main_law = ap (ins_of K) (sym g.filled.main)

  -- CALLS

  module _ (r : ℕ) (l : r < count K) (k : in_record s w r 2 ≡ 25) where
    -- the mark, as the place of the name among those of the functions
    mark-is : mark_in w r ≡ function_number K (text_in s w (in_record s w r 4))
    unfolding shape
    mark-is =
        let e : kind_of K r ≡ 25 = sym (kind-read g r l) ∙ k in
        let m = two_here g r l name list (ap shape e) in
        let p : number (payload_of K r) 0 ≡ in_record s w r 4 = part-read g r l 0 (omega (arith, m.2)) in
        let b : in_record s w r 4 < count K = subst (λ (j : ℕ). j < count K) p (let z = m.0.0 in omega arith) in
        g.filled.mark r l ∙ mark-call K (record_of K r) e ∙ ap (λ (j : ℕ). function_number K (payload_of K j)) p ∙ ap (function_number K) (sym (text-read g _ b))

    pub callee-unknown : mark_in w r ≡ 0 → find (text_in s w (in_record s w r 4)) 1 (program K).functions ≡ unknown
    unfolding program
    callee-unknown z = find_none K (text_in s w (in_record s w r 4)) K.functions 1 (go (ltb (place (text_in s w (in_record s w r 4)) (function_names K)) (length K.functions)) refl (sym mark-is ∙ z))
      where
        go : (b : Bool) → ltb (place (text_in s w (in_record s w r 4)) (function_names K)) (length K.functions) ≡ b → cond b (suc (place (text_in s w (in_record s w r 4)) (function_names K))) 0 ≡ 0
            → length K.functions ≤ place (text_in s w (in_record s w r 4)) (function_names K)
        go true e q = absurd (omega arith)
        go false e q = ltb-false _ _ e

    pub callee_known : (mark_in w r ≡ 0 → ⊥) → (find (text_in s w (in_record s w r 4)) 1 (program K).functions ≡ words.known (mark_in w r) (function_in s w K (mark_in w r))) × (mark_in w r ≤ length K.functions)
    unfolding program
    callee_known z = go (ltb (place (text_in s w (in_record s w r 4)) (function_names K)) (length K.functions)) refl mark-is
      where
        go : (b : Bool) → ltb (place (text_in s w (in_record s w r 4)) (function_names K)) (length K.functions) ≡ b → mark_in w r ≡ cond b (suc (place (text_in s w (in_record s w r 4)) (function_names K))) 0
            → (find (text_in s w (in_record s w r 4)) 1 (map (function_of K) K.functions) ≡ words.known (mark_in w r) (function_in s w K (mark_in w r))) × (mark_in w r ≤ length K.functions)
        go true e q =
            let h = ltb-true _ _ e in (
              find-some K (text_in s w (in_record s w r 4)) K.functions 1 h
                  ∙ ap (λ (j : ℕ). words.known j (function_of K (get_or K.functions (place (text_in s w (in_record s w r 4)) (function_names K)) no_defined))) (one_more_lem _)
                  ∙ ap (words.known (suc (place (text_in s w (in_record s w r 4)) (function_names K)))) (function-is (place (text_in s w (in_record s w r 4)) (function_names K)) h)
                  ∙ ap (λ (j : ℕ). words.known j (function_in s w K j)) (sym q),
              subst (λ (j : ℕ). j ≤ length K.functions) (sym q) h,
            )
        go false e q = absurd (z q)

  -- SLOTS

  pub slots-count : length (program K).slots ≡ length K.variables
  unfolding program
  slots-count = length-map K.variables (λ (v : Variable). v.name)

  named : (i : ℕ) → i < length K.variables → Text K (get_or K.variables i no_variable).named (get_or K.variables i no_variable).name
  named = subst (λ (x : Known). (i : ℕ) → i < length x.variables → Text x (get_or x.variables i no_variable).named (get_or x.variables i no_variable).name)
      (sym (parts g).is) (variables-named s (parts g).n (parts g).passes)

  short : (i : ℕ) → i < length K.variables → length (get_or (variable_names K) i []) ≤ 63
  short = subst (λ (x : Known). (i : ℕ) → i < length x.variables → length (get_or (variable_names x) i []) ≤ 63) (sym (parts g).is) (names-short s (parts g).n (parts g).sound (parts g).passes)

  pub slot_law : (i : ℕ) → i < length K.variables → 1024 ≤ length w
      → (get_or w (64 * i) 0 ≤ 63) × (slot_name w i ≡ get_or (program K).slots i []) × (is_name (get_or (program K).slots i []) ≡ true)
  unfolding program
  slot_law i l room =
      let z = g.filled.size i l in
      let h = short i l in
      let v = few-variables g in
      let e : get_or (variable_names K) i [] ≡ (get_or K.variables i no_variable).name = get_or-map (λ (v : Variable). v.name) K.variables i no_variable in
      let c : length (slot_name w i) ≡ get_or w (64 * i) 0 = length-take-le (get_or w (64 * i) 0) (drop (64 * i + 1) w) (simp length-drop (omega arith)) in (
        omega arith,
        ext_get_or 0 (slot_name w i) (get_or (variable_names K) i []) (c ∙ z)
            (λ j m. get_or-take (get_or w (64 * i) 0) (drop (64 * i + 1) w) j 0 (omega arith) ∙ get_or-drop (64 * i + 1) w j 0 ∙ g.filled.bytes i j l (omega arith)),
        ap is_name e ∙ (named i l).is_name,
      )
