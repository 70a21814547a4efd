-- A record is written: its header, then its payload.
use Prim.Native.Nat.{ℕ, zero, suc, ◌≤◌, ◌+◌, ◌*◌, ◌-◌}
use native.Mathlib.Omega.{arith}
use native.Mathlib.Numerals.{add-one}
use mathlib.Core.Path.{◌≡◌, refl, sym, ap, ◌∙◌, subst}
use mathlib.Core.Bool.{Bool}
use mathlib.Core.List.{List, [], ◌∷◌, ◌++◌, append_assoc, append-nil}
use lib.ListN.{length, get_or, take, drop, length-append}
use borrow.Author.Tests.{ne_eqb}
use Rattle.rules.specs.declared.Behaviour.{Behaviour}
use Rattle.rules.specs.Syntax.{Bytes}
use Rattle.rules.specs.State.{behaviour_number}
use Rattle.rules.specs.Ruling.{Shown, Row, shown}
use Rattle.memory.specs.Layout.{part, text_at, value_if, value_at, mark_at, number_at, variable_in, variables_at, variables_place, stream_place, entered_place, own_place, inclusive_place}
use Rattle.memory.specs.declared.Given.{Given}
use Rattle.memory.specs.declared.Course.{Course}
use Rattle.memory.proofs.Parts.{part_slice}
use Rattle.memory.proofs.Rows.{row_more, row-none}
use Rattle.text.specs.declared.page.Page.{Page}
use Rattle.text.specs.Put.{Wrote}
use Rattle.text.proofs.Ends.{wrote_none, wrote_then}
use Rattle.result.specs.Encoding.{two_bytes, four_bytes, one_byte, record_bytes, end_record, output_record, variable_record, variable_records, row_record, row_records, sheet_bytes}
use Rattle.result.specs.Ended.{row_in, rows_in, shown_at, sheet_in}
use Rattle.result.proofs.Variables.{shown-append}

recorded : {p q r : Page} (size kind : ℕ) (payload : Bytes) → Wrote (two_bytes size ++ two_bytes kind) p q → Wrote payload q r → size ≡ length payload
    → Wrote (record_bytes kind payload) p r
recorded {p} {q} size kind payload a b h = wrote_then (subst (λ (n : ℕ). Wrote (two_bytes n ++ two_bytes kind) p q) h a) b

-- KIND 64

pub end-written : {p q r s : Page} (x y n : ℕ) (behaviour : Behaviour) (result : Bool) → Wrote (two_bytes 6 ++ two_bytes 64) p q → Wrote (x ∷ y ∷ []) q r
    → Wrote (four_bytes n) r s → x ≡ behaviour_number behaviour → y ≡ one_byte result → Wrote (end_record behaviour result n) p s
unfolding end_record
end-written x y n behaviour result a b c h k = rw (← h, ← k) (recorded 6 64 (x ∷ y ∷ four_bytes n) a (wrote_then b c) refl)

-- KIND 65

pub output-written : {p q r : Page} (output : Bytes) → Wrote (two_bytes (length output) ++ two_bytes 65) p q → Wrote output q r → Wrote (output_record output) p r
unfolding output_record
output-written output a b = recorded (length output) 65 output a b refl

-- KIND 66

module _ (L : ℕ) (work : List ℕ) (f v : ℕ) where
  pub variable-unset : get_or work (v + 1) 0 ≡ 0 → variable_records (shown_at L work f v) ≡ []
  unfolding variable_records value_at value_if
  variable-unset e = rw e

  variable-set : (get_or work (v + 1) 0 ≡ 0 → ⊥)
      → variable_records (shown_at L work f v) ≡ record_bytes 66 (one_byte (mark_at work v) ∷ length (text_at 64 work f) ∷ text_at 64 work f ++ text_at L work (v + 2))
  unfolding variable_records variable_record value_at value_if
  variable-set e = rw (ne_eqb _ _ e) (append-nil _)

  pub variable-written : {p q r s t : Page} (b : ℕ) (name value : Bytes) → Wrote (two_bytes (2 + length name + length value) ++ two_bytes 66) p q
      → Wrote (b ∷ length name ∷ []) q r → Wrote name r s → Wrote value s t → (get_or work (v + 1) 0 ≡ 0 → ⊥) → b ≡ one_byte (mark_at work v)
      → name ≡ text_at 64 work f → value ≡ text_at L work (v + 2) → Wrote (variable_records (shown_at L work f v)) p t
  variable-written b name value a h k l set m n o =
      rw (variable-set set, ← m, ← n, ← o)
      (recorded (2 + length name + length value) 66 (b ∷ length name ∷ name ++ value) a (wrote_then h (wrote_then k l)) (omega (arith, length-append name value)))

variables-append : (vs : List Shown) (ws : List Shown) → variable_records (vs ++ ws) ≡ variable_records vs ++ variable_records ws
unfolding variable_records
variables-append [] ws = refl
variables-append (v ∷ vs) ws = ap (λ l. variable_record v ++ l) (variables-append vs ws) ∙ sym (append_assoc (variable_record v) (variable_records vs) (variable_records ws))

pub variables-none : (L a : ℕ) (w : List ℕ) (p : Page) → Wrote (variable_records (shown (variables_at L w a 0))) p p
unfolding variable_records
variables-none L a w p = rw (row-none (variable_in L w a)) (wrote_none p)

pub variables-more : {p q r : Page} (L a x : ℕ) (w : List ℕ) → Wrote (variable_records (shown (variables_at L w a x))) p q
    → Wrote (variable_records (shown_at L w (64 * x) (a + (L + 2) * x))) q r → Wrote (variable_records (shown (variables_at L w a (x + 1)))) p r
unfolding variable_in
variables-more L a x w p q =
    let d : 0 + 64 * x ≡ 64 * x = omega arith in
    rw (row_more x (variable_in L w a), shown-append (variables_at L w a x) (variable_in L w a x ∷ []), variables-append (shown (variables_at L w a x)) (shown (variable_in L w a x ∷ [])))
    (wrote_then p (rw d q))

-- KIND 67

pub row_written : {p q r s t u : Page} (f x y z : ℕ) (w : List ℕ) → Wrote (two_bytes 14 ++ two_bytes 67) p q → Wrote (two_bytes f) q r → Wrote (four_bytes x) r s
    → Wrote (four_bytes y) s t → Wrote (four_bytes z) t u → x ≡ number_at w (entered_place f) → y ≡ number_at w (own_place f)
    → z ≡ number_at w (inclusive_place f) → Wrote (row_record (row_in w f)) p u
unfolding row_record
row_written f x y z w a b c d e h i j =
    rw (← h, ← i, ← j)
    (recorded 14 67 (two_bytes f ++ four_bytes x ++ four_bytes y ++ four_bytes z) a (wrote_then b (wrote_then c (wrote_then d e))) refl)

rows_append : (rs : List Row) (qs : List Row) → row_records (rs ++ qs) ≡ row_records rs ++ row_records qs
unfolding row_records
rows_append [] qs = refl
rows_append (r ∷ rs) qs = ap (λ l. row_record r ++ l) (rows_append rs qs) ∙ sym (append_assoc (row_record r) (row_records rs) (row_records qs))

row_alone : (r : Row) → row_records (r ∷ []) ≡ row_record r
unfolding row_records
row_alone r = append-nil (row_record r)

rows-longer : (w : List ℕ) (f n : ℕ) → rows_in w f (suc n) ≡ rows_in w f n ++ row_in w (f + n) ∷ []
unfolding rows_in
rows-longer w f zero = let d : f + 0 ≡ f = omega arith in rw d
rows-longer w f (suc n) = ap (λ l. row_in w f ∷ l) (rows-longer w (suc f) n ∙ ap (λ k. rows_in w (suc f) n ++ row_in w k ∷ []) (omega arith))

pub rows_none : (w : List ℕ) (p : Page) → Wrote (row_records (rows_in w 0 0)) p p
unfolding rows_in row_records
rows_none w p = wrote_none p

pub rows_more : {p q r : Page} (f : ℕ) (w : List ℕ) → Wrote (row_records (rows_in w 0 f)) p q → Wrote (row_record (row_in w f)) q r → Wrote (row_records (rows_in w 0 (f + 1))) p r
rows_more f w p q =
    rw (add-one f, rows-longer w 0 f, rows_append (rows_in w 0 f) (row_in w (0 + f) ∷ []), row_alone (row_in w (0 + f)))
    (let d : 0 + f ≡ f = omega arith in wrote_then p (rw d q))

-- THE SHEET

pub sheet-written : {p q r s t : Page} (w : List ℕ) (g : Given) (b : Behaviour) (c : Course) (n from level : ℕ) → Wrote (end_record b c.result c.used) p q
    → Wrote (output_record (take (from + c.length - from) (drop from w))) q r → Wrote (variable_records (shown (variables_at g.unit w level g.slots))) r s
    → Wrote (row_records (rows_in w 0 (suc n))) s t → from ≡ stream_place g.unit 0 → level ≡ variables_place g.unit 0 → from + c.length ≤ length w
    → Wrote (sheet_bytes (sheet_in w g b c n)) p t
unfolding sheet_bytes sheet_in
sheet-written w g b c n from level p q s t h k l =
    let d : from + c.length - from ≡ c.length = omega arith in
    let o : take (from + c.length - from) (drop from w) ≡ part w from c.length = rw d (part_slice w from c.length l) in
    rw (← h, ← k, ← o) (wrote_then (wrote_then (wrote_then p q) s) t)
