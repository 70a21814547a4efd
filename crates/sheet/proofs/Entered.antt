-- Laws on entering a good record: what the code stores is what the next state's table and slots have.
use mathlib.Core.Path.{◌≡◌, sym, ap, ◌∙◌, subst}
use mathlib.Core.Bool.{Bool, true, false, cond}
use mathlib.Core.List.{List, [], ◌∷◌, ◌++◌}
use Prim.Native.Nat.{ℕ, ◌+◌, ◌*◌, ◌-◌, ◌<◌, ◌≤◌}
use native.Mathlib.Omega.{arith}
use lib.Dec.{eqb}
use lib.ListN.{length, set, length-append, length-drop}
use lib.Seq.{length-take-le}
use borrow.Author.Tests.{eq-eqb, ne_eqb}
use Rattle.rules.specs.Syntax.{Bytes}
use Rattle.sheet.specs.Format.{number, names_variable}
use Rattle.sheet.specs.Table.{name_written, written}
use Rattle.sheet.specs.Check.{Rec, Known, known, next, count, record_of, record_here, kind_here, slot_here, named_here, payload_here, variable_here, function_here, is_new, is_function, kind_of, payload_of}
use Rattle.sheet.specs.declared.Counts.{Counts}
use Rattle.sheet.specs.Ready.{Lies, Ready, Entering, with_variable, with_function, entered, spanned, counts_of}
use Rattle.sheet.proofs.Tables.{written-append}
use Rattle.sheet.proofs.Records.{count-known}
use Rattle.sheet.proofs.Judged.{name-text, slots-count}
use Rattle.sheet.proofs.Sound.{slot_most, record_new, fine-variable, fine-right, new_slot}

pub payload-length : (s : Bytes) (c : Rec) → Lies s c → length c.payload ≡ number s c.at
payload-length s c l = ap length l.payload ∙ length-take-le _ _ (simp length-drop (let r = l.room in omega arith))

pub written-two : (t : Bytes) (i x y : ℕ) → written (written t i (x ∷ [])) (i + 2) (y ∷ []) ≡ written t i (x ∷ y ∷ [])
written-two t i x y = sym (written-append t i (x ∷ []) (y ∷ []))

module _ (s : Bytes) (K : Known) where
  pub kept-count : is_new s K ≡ false → length (next s K).variables ≡ length K.variables
  unfolding next
  kept-count e = rw e

  pub kept_table : (t : Bytes) → is_new s K ≡ false → t ≡ with_variable s K t
  kept_table t e = rw e

  pub kept-slots : (slots : List (List ℕ)) → is_new s K ≡ false → slots ≡ spanned s K slots
  unfolding spanned
  kept-slots slots e = rw e

  pub new_count : is_new s K ≡ true → length K.variables + 1 ≡ length (next s K).variables
  unfolding next
  new_count e = rw e (sym (length-append K.variables (variable_here s K ∷ [])))

  pub new_table : (t : Bytes) (n r : ℕ) (x : Bytes) → is_new s K ≡ true → n ≡ length K.variables → r ≡ named_here s K → x ≡ payload_of K r → name_written t n x ≡ with_variable s K t
  new_table t n r x e p q z = rw e (ap (λ (k : ℕ). name_written t k x) p ∙ ap (name_written t (length K.variables)) (z ∙ ap (payload_of K) q))

  pub new_slots : (slots : List (List ℕ)) (n r at size : ℕ) → is_new s K ≡ true → n ≡ length K.variables → r ≡ named_here s K
      → at ≡ (record_of K r).at → size ≡ length (payload_of K r) → set slots n ((at + 4) ∷ size ∷ []) ≡ spanned s K slots
  unfolding spanned
  new_slots slots n r at size e p q a z =
      rw e (ap (λ (k : ℕ). set slots k ((at + 4) ∷ size ∷ [])) p
      ∙ ap (λ (k : ℕ). set slots (length K.variables) ((k + 4) ∷ size ∷ [])) a
      ∙ ap (λ (k : ℕ). set slots (length K.variables) (((record_of K r).at + 4) ∷ k ∷ [])) z
      ∙ ap (λ (k : ℕ). set slots (length K.variables) (((record_of K k).at + 4) ∷ length (record_of K k).payload ∷ [])) q)

  module _ (kind slot r n : ℕ) (h : Entering s K kind slot r) (c : n ≡ length K.variables) where
    pub entering_other : names_variable kind ≡ false → is_new s K ≡ false
    unfolding is_new
    entering_other v = rw (sym (ap names_variable h.kind_is) ∙ v)

    names : names_variable kind ≡ true → names_variable (kind_here s K) ≡ true
    names v = sym (ap names_variable h.kind_is) ∙ v

    slot_is_lem : names_variable kind ≡ true → slot ≡ slot_here s K
    slot_is_lem v = h.slot_is ∙ ap (λ (b : Bool). cond b (slot_here s K) 0) (names v)

    pub entering_old : names_variable kind ≡ true → slot < n → is_new s K ≡ false
    unfolding is_new
    entering_old v l = rw (names v, ne_eqb (slot_here s K) (length K.variables) (λ e. let z = slot_is_lem v in omega arith))

    pub entering_new : names_variable kind ≡ true → n ≤ slot → is_new s K ≡ true
    unfolding is_new
    entering_new v l = rw (names v, eq-eqb (slot_here s K) (length K.variables) (let z = slot_is_lem v in let m = slot_most s K in omega arith))

-- the text that names the variable of a good record
module _ {s t : Bytes} {slots : List (List ℕ)} {c : Counts} {kind slot r : ℕ} (h : Ready s t slots c) (e : Entering s (known s c.records) kind slot r) (v : names_variable kind ≡ true) where
  names-here : names_variable (kind_here s (known s c.records)) ≡ true
  names-here = sym (ap names_variable e.kind_is) ∙ v

  pub entering_earlier : r < c.records
  entering_earlier = let a = fine-variable s (known s c.records) e.good names-here in omega (arith, count-known s c.records, e.named_is)

  entering_text : kind_of (known s c.records) r ≡ 1
  entering_text =
      ap (kind_of (known s c.records)) e.named_is
      ∙ name-text (known s c.records) (kind_here s (known s c.records)) (payload_here s (known s c.records)) (fine-right s (known s c.records) e.good) names-here

  pub entering_short : (x : Bytes) → x ≡ payload_of (known s c.records) r → length x ≤ 63
  entering_short x q = subst (λ (y : Bytes). length y ≤ 63) (sym q) (h.short r entering_earlier entering_text)

  pub entering_room : c.slots ≤ slot → c.slots < 16
  entering_room l =
      let q = slots-count h in
      let m = new_slot s (known s c.records) e.good (entering_new s (known s c.records) kind slot r c.slots e q v l) in
      omega arith

-- ALL OF IT

module _ (s : Bytes) (K : Known) (n at size kind vs nf fs : ℕ) (cn : n ≡ count K) (ce : at ≡ K.end) (es : size ≡ number s at) (ek : kind ≡ number s (at + 2))
    (ev : vs ≡ length (next s K).variables) (ef : fs ≡ cond (eqb kind 32) (nf + 1) nf) (cf : nf ≡ length K.functions) where
  pub kind-here : kind ≡ kind_here s K
  kind-here = ek ∙ ap (λ (a : ℕ). number s (a + 2)) ce

  size-here : size ≡ number s K.end
  size-here = es ∙ ap (number s) ce

  more-records : n + 1 ≡ count (next s K)
  unfolding next
  more-records = ap (λ (k : ℕ). k + 1) cn ∙ sym (length-append K.records (record_here s K ∷ []))

  more-end : at + 4 + size ≡ (next s K).end
  unfolding next
  more-end = ap (λ (a : ℕ). a + 4 + size) ce ∙ ap (λ (z : ℕ). K.end + 4 + z) size-here

  last-is : kind ≡ kind_of (next s K) (count (next s K) - 1)
  last-is =
      let e : count (next s K) - 1 ≡ count K = let m = more-records in omega arith in
      kind-here ∙ ap (λ (c : Rec). c.kind) (sym (record_new s K)) ∙ ap (kind_of (next s K)) (sym e)

  more-functions : fs ≡ length (next s K).functions
  unfolding next
  more-functions = ef ∙ ap (λ (k : ℕ). cond (eqb k 32) (nf + 1) nf) kind-here ∙ go (is_function s K)
    where
      go : (b : Bool) → cond b (nf + 1) nf ≡ length (cond b (K.functions ++ function_here s K ∷ []) K.functions)
      go true = ap (λ (k : ℕ). k + 1) cf ∙ sym (length-append K.functions (function_here s K ∷ []))
      go false = cf

  pub entered-counts : ◌≡◌ {A = Counts} (record { records = n + 1; at = at + 4 + size; last = kind; slots = vs; functions = fs }) (counts_of (next s K))
  entered-counts = λ i. record { records = more-records i; at = more-end i; last = last-is i; slots = ev i; functions = more-functions i }

  module _ (t t₁ t₂ t₃ t₄ : Bytes) (slot r body : ℕ) (er : r ≡ named_here s K) (eb : body ≡ number (payload_here s K) 2) (ex : slot ≡ (record_here s K).slot)
      (e₁ : t₁ ≡ with_variable s K t) (e₂ : t₂ ≡ cond (eqb kind 32) (written t₁ (3076 + 4 * nf) (body ∷ r ∷ [])) t₁)
      (e₃ : t₃ ≡ written t₂ (1024 + 2 * n) (at ∷ [])) (e₄ : t₄ ≡ written t₃ (2048 + 2 * n) (slot ∷ [])) where
    function_table : t₂ ≡ with_function s K (with_variable s K t)
    function_table =
        e₂ ∙ ap (λ (k : ℕ). cond (eqb k 32) (written t₁ (3076 + 4 * nf) (body ∷ r ∷ [])) t₁) kind-here
        ∙ ap (λ (k : ℕ). cond (is_function s K) (written t₁ (3076 + 4 * k) (body ∷ r ∷ [])) t₁) cf
        ∙ ap (λ (b : ℕ). cond (is_function s K) (written t₁ (3076 + 4 * length K.functions) (b ∷ r ∷ [])) t₁) eb
        ∙ ap (λ (b : ℕ). cond (is_function s K) (written t₁ (3076 + 4 * length K.functions) (number (payload_here s K) 2 ∷ b ∷ [])) t₁) er
        ∙ ap (with_function s K) e₁

    pub entered_table : t₄ ≡ entered s K t
    unfolding entered
    entered_table =
        e₄ ∙ ap (λ (b : Bytes). written b (2048 + 2 * n) (slot ∷ [])) (e₃ ∙ ap (λ (b : Bytes). written b (1024 + 2 * n) (at ∷ [])) function_table)
        ∙ ap (λ (k : ℕ). written (written (with_function s K (with_variable s K t)) (1024 + 2 * k) (at ∷ [])) (2048 + 2 * k) (slot ∷ [])) cn
        ∙ ap (λ (k : ℕ). written (written (with_function s K (with_variable s K t)) (1024 + 2 * count K) (k ∷ [])) (2048 + 2 * count K) (slot ∷ [])) ce
        ∙ ap (λ (k : ℕ). written (written (with_function s K (with_variable s K t)) (1024 + 2 * count K) (K.end ∷ [])) (2048 + 2 * count K) (k ∷ [])) ex
