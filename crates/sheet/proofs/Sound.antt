-- What holds of the records that passed: each lies in the sheet and is right, and the names are those of earlier texts.
use mathlib.Core.Path.{◌≡◌, refl, sym, ap, ◌∙◌, subst}
use mathlib.Core.Logic.{◌⊎◌, inl, inr}
use mathlib.Core.Bool.{Bool, true, false, ◌&&◌, not, cond}
use mathlib.Core.List.{List, [], ◌∷◌, ◌++◌, map}
use Prim.Native.Nat.{ℕ, suc, ◌+◌, ◌<◌, ◌≤◌}
use native.Mathlib.Numerals.{add-one}
use native.Mathlib.Decide.{dec_le}
use native.Mathlib.Omega.{arith}
use lib.Dec.{leb, ltb}
use lib.ListN.{length, get_or, set, take, drop, length-append, length-map, length-drop, get_or-append}
use lib.Seq.{get_or-append_seam, get_or-set_same, get_or-set_other, take-suc-set, length-take-le}
use borrow.Author.Tests.{ltb-false, eqb-true, leb-true, leb-false}
use Rattle.std.proofs.lemmas.List.{map-append}
use Rattle.std.proofs.lemmas.Bool.{and_parts, or_parts}
use Rattle.rules.specs.Syntax.{Bytes}
use Rattle.sheet.specs.Format.{number, place, shape, names_variable}
use Rattle.sheet.specs.Check.{Rec, Known, Variable, Defined, Judgement, fine, faulty, full, known, next, no_rec, count, record_of, payload_of, kind_of, variable_names}
use Rattle.sheet.specs.Check.{right, judge, is_cut, is_second, is_over, is_new, is_function, record_here, kind_here, size_here, payload_here, named_here, name_here, slot_here, function_here, variable_here}
use Rattle.sheet.specs.Ready.{Lies, Slotted, Within, span, span_of, spanned}
use Rattle.sheet.specs.Check.{no_defined}
use Rattle.sheet.proofs.Records.{count-known}
use Rattle.sheet.proofs.Judged.{name-first, name-text, name-function}

-- A GOOD RECORD

Good : Bool → Bool → Bool → Bool → Type 0
Good a b c d = (a ≡ false) × (b ≡ true) × (c ≡ false) × (d ≡ false)

never : {A : Type 0} {v : Judgement} → v ≡ fine → (v ≡ faulty) ⊎ (v ≡ full) → A
never e (inl f) = let z : ◌≡◌ {A = ℕ} 0 1 = cc in absurd (omega arith)
never e (inr f) = let z : ◌≡◌ {A = ℕ} 0 1 = cc in absurd (omega arith)

good-is : (a b c d : Bool) → cond a faulty (cond (not b) faulty (cond c faulty (cond d full fine))) ≡ fine → Good a b c d
unfolding Good
good-is true b c d e = never e (inl refl)
good-is false false c d e = never e (inl refl)
good-is false true true d e = never e (inl refl)
good-is false true false true e = never e (inr refl)
good-is false true false false e = (refl, refl, refl, refl)

and_then : (a b : Bool) → (a && b) ≡ false → a ≡ true → b ≡ false
and_then true b e f = e
and_then false true e f = sym f
and_then false false e f = refl

pub place_most : (x : Bytes) (xs : List Bytes) → place x xs ≤ length xs
unfolding place
place_most x [] = omega arith
place_most x (y ∷ ys) = go (Rattle.rules.specs.Words.same y x) (place_most x ys)
  where
    go : (b : Bool) → place x ys ≤ length ys → cond b 0 (suc (place x ys)) ≤ suc (length ys)
    go true h = omega arith
    go false h = omega arith

module _ (s : Bytes) (K : Known) (g : judge s K ≡ fine) where
  tests : Good (is_cut s K.end) (right K (shape (kind_here s K)) (payload_here s K)) (is_second s K) (is_over s K)
  unfolding judge
  tests = good-is _ _ _ _ g

  pub fine-right : right K (shape (kind_here s K)) (payload_here s K) ≡ true
  unfolding Good
  fine-right = tests.1

  pub fine-room : K.end + 4 + size_here s K ≤ length s
  unfolding Good is_cut
  fine-room = ltb-false (length s) (K.end + 4 + size_here s K) (or_parts (ltb (length s) (K.end + 4)) (ltb (length s) (K.end + 4 + size_here s K)) tests.0).1

  -- no second function of a name
  pub fine-first : is_second s K ≡ false
  unfolding Good
  fine-first = tests.2

  over : (is_function s K && leb 32 (length K.functions) ≡ false) × (names_variable (kind_here s K) && leb 16 (slot_here s K) ≡ false)
  unfolding Good is_over
  over = or_parts (is_function s K && leb 32 (length K.functions)) (names_variable (kind_here s K) && leb 16 (slot_here s K)) tests.3

  pub fine-functions : is_function s K ≡ true → length K.functions < 32
  fine-functions f = leb-false 32 (length K.functions) (and_then (is_function s K) _ over.0 f)

  pub fine-slot : names_variable (kind_here s K) ≡ true → slot_here s K < 16
  fine-slot f = leb-false 16 (slot_here s K) (and_then (names_variable (kind_here s K)) _ over.1 f)

  pub fine-variable : names_variable (kind_here s K) ≡ true → named_here s K < count K
  fine-variable v = name-first K (kind_here s K) (payload_here s K) fine-right v

  pub fine-function : is_function s K ≡ true → named_here s K < count K
  fine-function f = name-function K (kind_here s K) (payload_here s K) fine-right (eqb-true (kind_here s K) 32 f)

pub slot_most : (s : Bytes) (K : Known) → slot_here s K ≤ length K.variables
slot_most s K = let h = place_most (name_here s K) (variable_names K) in omega (arith, length-map K.variables (λ (v : Variable). v.name))

-- THE NEXT ONE

pub below : (P : ℕ → Type 0) (n : ℕ) → ((r : ℕ) → r < n → P r) → P n → (r : ℕ) → r < suc n → P r
below P n h p r l = go (dec_le n r)
  where
    go : Dec (n ≤ r) → P r
    go (yes m) = let e : r ≡ n = omega arith in rw e p
    go (no m) = h r (omega arith)

module _ (s : Bytes) (K : Known) where
  pub record_old : (r : ℕ) → r < count K → record_of (next s K) r ≡ record_of K r
  unfolding next
  record_old r h = get_or-append K.records (record_here s K ∷ []) no_rec r h

  pub record_new : record_of (next s K) (count K) ≡ record_here s K
  unfolding next
  record_new = get_or-append_seam K.records (record_here s K) [] no_rec

-- the functions' names are earlier texts
pub record Names (n : ℕ) (payload : ℕ → Bytes) (fs : List Defined) : Type 0 where
  pub few : length fs ≤ 32
  pub earlier : (f : ℕ) → f < length fs → (get_or fs f no_defined).named < n
  pub name : (f : ℕ) → f < length fs → payload (get_or fs f no_defined).named ≡ (get_or fs f no_defined).name

names_grow : {n : ℕ} {p q : ℕ → Bytes} {fs : List Defined} → Names n p fs → ((r : ℕ) → r < n → q r ≡ p r) → Names (suc n) q fs
names_grow h e = record {
  few = h.few;
  earlier = λ f l. let a = h.earlier f l in omega arith;
  name = λ f l. e _ (h.earlier f l) ∙ h.name f l;
}

names_add : {n : ℕ} {p : ℕ → Bytes} (fs : List Defined) (f : Defined) → Names n p fs → length fs < 32 → f.named < n → p f.named ≡ f.name → Names n p (fs ++ f ∷ [])
names_add {n} {p} fs f h few a b = record {
  few = simp length-append (omega arith);
  earlier = λ k l. below (λ (k : ℕ). (get_or (fs ++ f ∷ []) k no_defined).named < n) (length fs)
      (λ k m. rw (get_or-append fs (f ∷ []) no_defined k m) (h.earlier k m)) (rw (get_or-append_seam fs f [] no_defined) a) k (bound k l);
  name = λ k l. below (λ (k : ℕ). p (get_or (fs ++ f ∷ []) k no_defined).named ≡ (get_or (fs ++ f ∷ []) k no_defined).name) (length fs)
      (λ k m. rw (get_or-append fs (f ∷ []) no_defined k m) (h.name k m)) (rw (get_or-append_seam fs f [] no_defined) b) k (bound k l);
}
  where
    bound : (k : ℕ) → k < length (fs ++ f ∷ []) → k < suc (length fs)
    bound k l = omega (arith, length-append fs (f ∷ []))

pub record Sound (s : Bytes) (n : ℕ) : Type 0 where
  pub lies : (r : ℕ) → r < n → Lies s (record_of (known s n) r)
  pub rights : (r : ℕ) → r < n → right (known s r) (shape (kind_of (known s n) r)) (payload_of (known s n) r) ≡ true
  pub slots : (r : ℕ) → r < n → (record_of (known s n) r).slot < 16
  pub end : (known s n).end ≤ length s
  pub variables : length (known s n).variables ≤ 16
  pub functions : Names n (payload_of (known s n)) (known s n).functions

pub sound_start : (s : Bytes) → Sound s 0
unfolding known
sound_start s = record {
  lies = λ r h. absurd (omega arith);
  rights = λ r h. absurd (omega arith);
  slots = λ r h. absurd (omega arith);
  end = omega arith;
  variables = omega arith;
  functions = record { few = omega arith; earlier = λ f h. absurd (omega arith); name = λ f h. absurd (omega arith) };
}

module _ (s : Bytes) (n : ℕ) (h : Sound s n) (g : judge s (known s n) ≡ fine) where
  here : count (known s n) ≡ n
  here = count-known s n

  old : (r : ℕ) → r < n → record_of (next s (known s n)) r ≡ record_of (known s n) r
  old r l = record_old s (known s n) r (omega (arith, here))

  new : record_of (next s (known s n)) n ≡ record_here s (known s n)
  new = subst (λ (k : ℕ). record_of (next s (known s n)) k ≡ record_here s (known s n)) here (record_new s (known s n))

  next-lies : (r : ℕ) → r < suc n → Lies s (record_of (next s (known s n)) r)
  next-lies =
      below (λ (r : ℕ). Lies s (record_of (next s (known s n)) r)) n
      (λ r l. subst (Lies s) (sym (old r l)) (h.lies r l))
      (subst (Lies s) (sym new) (record { room = fine-room s (known s n) g; kind = refl; payload = refl }))

  abbrev Right : ℕ → Rec → Type 0
  Right r c = right (known s r) (shape c.kind) c.payload ≡ true

  next_rights : (r : ℕ) → r < suc n → Right r (record_of (next s (known s n)) r)
  next_rights =
      below (λ (r : ℕ). Right r (record_of (next s (known s n)) r)) n
      (λ r l. subst (Right r) (sym (old r l)) (h.rights r l))
      (subst (Right n) (sym new) (fine-right s (known s n) g))

  slot-here : (record_here s (known s n)).slot < 16
  slot-here = go (names_variable (kind_here s (known s n))) refl
    where
      go : (b : Bool) → names_variable (kind_here s (known s n)) ≡ b → cond b (slot_here s (known s n)) 0 < 16
      go true e = fine-slot s (known s n) g e
      go false e = omega arith

  next-slots : (r : ℕ) → r < suc n → (record_of (next s (known s n)) r).slot < 16
  next-slots =
      below (λ (r : ℕ). (record_of (next s (known s n)) r).slot < 16) n
      (λ r l. subst (λ (c : Rec). c.slot < 16) (sym (old r l)) (h.slots r l))
      (subst (λ (c : Rec). c.slot < 16) (sym new) slot-here)

  -- a new variable's slot is the next one
  pub new_variable : is_new s (known s n) ≡ true → (names_variable (kind_here s (known s n)) ≡ true) × (length (known s n).variables < 16)
  unfolding is_new
  new_variable e =
      let v = (and_parts (names_variable (kind_here s (known s n))) _ e).0 in
      let i = eqb-true (slot_here s (known s n)) (length (known s n).variables) (and_parts (names_variable (kind_here s (known s n))) _ e).1 in
      let m = fine-slot s (known s n) g v in
      (v, omega arith)

  next-variables : length (next s (known s n)).variables ≤ 16
  unfolding next
  next-variables = go (is_new s (known s n)) refl
    where
      go : (b : Bool) → is_new s (known s n) ≡ b → length (cond b ((known s n).variables ++ variable_here s (known s n) ∷ []) (known s n).variables) ≤ 16
      go true e = let m = (new_variable e).1 in omega (arith, length-append (known s n).variables (variable_here s (known s n) ∷ []))
      go false e = h.variables

  next-functions : Names (suc n) (payload_of (next s (known s n))) (next s (known s n)).functions
  unfolding next
  next-functions = names_grow (go (is_function s (known s n)) refl) (λ r l. ap (λ (c : Rec). c.payload) (old r l))
    where
      go : (b : Bool) → is_function s (known s n) ≡ b → Names n (payload_of (known s n)) (cond b ((known s n).functions ++ function_here s (known s n) ∷ []) (known s n).functions)
      go true e =
          let m = fine-function s (known s n) g e in
          names_add (known s n).functions (function_here s (known s n)) h.functions (fine-functions s (known s n) g e) (omega (arith, here)) refl
      go false e = h.functions

  pub sound_next : Sound s (suc n)
  unfolding known next
  sound_next = record {
    lies = next-lies;
    rights = next_rights;
    slots = next-slots;
    end = next-end;
    variables = next-variables;
    functions = next-functions;
  }
    where
      next-end : (next s (known s n)).end ≤ length s
      next-end = fine-room s (known s n) g

-- THE ARRAY OF SLOTS

-- the span of a record's payload is the payload
pub span-is : (s : Bytes) (c : Rec) → Lies s c → (span s ((c.at + 4) ∷ length c.payload ∷ []) ≡ c.payload) × (c.at + 4 + length c.payload ≤ length s)
span-is s c l =
    let e : length c.payload ≡ number s c.at = ap length l.payload ∙ length-take-le _ _ (simp length-drop (let r = l.room in omega arith)) in
    (ap (λ (k : ℕ). take k (drop (c.at + 4) s)) e ∙ sym l.payload, (let r = l.room in omega arith))

module _ (s : Bytes) (slots : List (List ℕ)) (vs : List Variable) (v : Variable) (from size : ℕ) (few : length vs < 16) (long : length slots ≡ 16)
    (in_sheet : from + size ≤ length s) (is : span s (from ∷ size ∷ []) ≡ v.name) (within : Within s slots (length vs))
    (names : map (span s) (take (length vs) slots) ≡ map (λ (v : Variable). v.name) vs) where
  add_within : Within s (set slots (length vs) (from ∷ size ∷ [])) (suc (length vs))
  add_within =
      below (λ (i : ℕ). get_or (get_or (set slots (length vs) (from ∷ size ∷ [])) i []) 0 0 + get_or (get_or (set slots (length vs) (from ∷ size ∷ [])) i []) 1 0 ≤ length s) (length vs)
      (λ i l. rw (get_or-set_other slots (length vs) i (from ∷ size ∷ []) [] (λ e. omega arith)) (within i l))
      (rw (get_or-set_same slots (length vs) (from ∷ size ∷ []) [] (omega arith)) in_sheet)

  add_names : map (span s) (take (suc (length vs)) (set slots (length vs) (from ∷ size ∷ []))) ≡ map (λ (v : Variable). v.name) (vs ++ v ∷ [])
  add_names =
      ap (map (span s)) (take-suc-set slots (length vs) (from ∷ size ∷ []) (omega arith))
      ∙ map-append (span s) (take (length vs) slots) ((from ∷ size ∷ []) ∷ [])
      ∙ ap (λ (l : List Bytes). l ++ span s (from ∷ size ∷ []) ∷ []) names
      ∙ ap (λ (x : Bytes). map (λ (v : Variable). v.name) vs ++ x ∷ []) is
      ∙ sym (map-append (λ (v : Variable). v.name) vs (v ∷ []))

pub slotted-next : (s : Bytes) (slots : List (List ℕ)) (n : ℕ) → Sound s n → judge s (known s n) ≡ fine → length slots ≡ 16
    → Slotted s slots (known s n) → Slotted s (spanned s (known s n) slots) (next s (known s n))
unfolding next spanned
slotted-next s slots n h g long q = go (is_new s (known s n)) refl
  where
    K' : Bool → Known
    K' b = record {
      records = (next s (known s n)).records;
      variables = cond b ((known s n).variables ++ variable_here s (known s n) ∷ []) (known s n).variables;
      functions = (next s (known s n)).functions;
      end = (next s (known s n)).end;
    }

    go : (b : Bool) → is_new s (known s n) ≡ b
        → Slotted s (cond b (set slots (length (known s n).variables) (span_of (known s n) (named_here s (known s n)))) slots) (K' b)
    go true e =
        let m = new_variable s n h g e in
        let l = span-is s (record_of (known s n) (named_here s (known s n))) (h.lies (named_here s (known s n)) (let a = fine-variable s (known s n) g m.0 in omega (arith, count-known s n))) in
        let d : length ((known s n).variables ++ variable_here s (known s n) ∷ []) ≡ suc (length (known s n).variables) = length-append (known s n).variables (variable_here s (known s n) ∷ []) ∙ add-one _ in
        record {
          few = let a = m.1 in omega arith;
          within = rw d (add_within s slots (known s n).variables (variable_here s (known s n)) _ _ m.1 long l.1 l.0 q.within q.names);
          names = rw d (add_names s slots (known s n).variables (variable_here s (known s n)) _ _ m.1 long l.1 l.0 q.within q.names);
        }
    go false e = record { few = q.few; within = q.within; names = q.names }

pub new_slot : (s : Bytes) (K : Known) → judge s K ≡ fine → is_new s K ≡ true → length K.variables < 16
unfolding is_new
new_slot s K g e =
    let v = (and_parts (names_variable (kind_here s K)) _ e).0 in
    let i = eqb-true (slot_here s K) (length K.variables) (and_parts (names_variable (kind_here s K)) _ e).1 in
    let m = fine-slot s K g v in
    omega arith

-- a name is a text, so it has at most 63 bytes
pub sound_short : (s : Bytes) (n : ℕ) → Sound s n → (r : ℕ) → r < n → kind_of (known s n) r ≡ 1 → length (payload_of (known s n) r) ≤ 63
unfolding shape right
sound_short s n h r l k = leb-true _ 63 (ap (λ (j : ℕ). right (known s r) (shape j) (payload_of (known s n) r)) (sym k) ∙ h.rights r l)

pub new_short : (s : Bytes) (n : ℕ) → Sound s n → judge s (known s n) ≡ fine → is_new s (known s n) ≡ true → length (name_here s (known s n)) ≤ 63
new_short s n h g e =
    let v = (new_variable s n h g e).0 in
    let m = fine-variable s (known s n) g v in
    let l : named_here s (known s n) < n = omega (arith, count-known s n) in
    let k = name-text (known s n) (kind_here s (known s n)) (payload_here s (known s n)) (fine-right s (known s n) g) v in
    sound_short s n h (named_here s (known s n)) l k

pub slot_small : (s : Bytes) (K : Known) → judge s K ≡ fine → (record_here s K).slot < 16
slot_small s K g = go (names_variable (kind_here s K)) refl
  where
    go : (b : Bool) → names_variable (kind_here s K) ≡ b → cond b (slot_here s K) 0 < 16
    go true e = fine-slot s K g e
    go false e = omega arith
