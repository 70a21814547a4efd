-- The bytes fix the sheet: a header gives the payload's length and the kind, so the records are fixed one after the other.
use Prim.Native.Nat.{ℕ, zero, suc, ◌/◌, ◌%◌}
use native.Mathlib.Omega.{arith}
use mathlib.Core.Path.{◌≡◌, refl, sym, ap, ◌∙◌}
use mathlib.Core.Bool.{Bool, true, false}
use mathlib.Core.List.{List, [], ◌∷◌, ◌++◌, append_assoc}
use lib.ListN.{length}
use Rattle.rules.specs.declared.Behaviour.{Behaviour}
use Rattle.rules.specs.declared.Behaviour.TheVariants.{Normal, Return, Exit, Failure}
use Rattle.rules.specs.Syntax.{Bytes}
use Rattle.rules.specs.State.{behaviour_number}
use Rattle.rules.specs.Ruling.{Shown, Row, Sheet}
use Rattle.rules.specs.Numbers.{long_number}
use Rattle.rules.proofs.Numbers.{four_read}
use Rattle.result.specs.Encoding.{two_bytes, four_bytes, one_byte, record_bytes, end_record, output_record, variable_record, variable_records, row_record, row_records, sheet_bytes}

-- PARTS OF A PAYLOAD

-- two lists of one length, with something behind them
seam : (s t x y : Bytes) → length s ≡ length t → s ++ x ≡ t ++ y → (s ≡ t) × (x ≡ y)
seam [] [] x y l e = (refl, e)
seam [] (b ∷ t) x y l e = absurd (omega arith)
seam (a ∷ s) [] x y l e = absurd (omega arith)
seam (a ∷ s) (b ∷ t) x y l e =
    let h : a ≡ b = cc in
    let r = seam s t x y (omega arith) (cc) in (cc r.0, r.1)

two_fixed : (n m : ℕ) → n % 256 ≡ m % 256 → n / 256 ≡ m / 256 → n ≡ m
two_fixed n m a b = omega arith

four_fixed : (n m : ℕ) → four_bytes n ≡ four_bytes m → n ≡ m
four_fixed n m e = sym (four_read n) ∙ ap (λ (l : Bytes). long_number l 0) e ∙ four_read m

bit_fixed : (a b : Bool) → one_byte a ≡ one_byte b → a ≡ b
bit_fixed true true e = refl
bit_fixed true false e = absurd (omega arith)
bit_fixed false true e = absurd (omega arith)
bit_fixed false false e = refl

numbered : ℕ → Behaviour
numbered zero = Normal
numbered (suc zero) = Return
numbered (suc (suc zero)) = Exit
numbered (suc (suc (suc n))) = Failure

numbered-back : (b : Behaviour) → numbered (behaviour_number b) ≡ b
unfolding numbered
numbered-back Normal = refl
numbered-back Return = refl
numbered-back Exit = refl
numbered-back Failure = refl

behaviour_fixed : (a b : Behaviour) → behaviour_number a ≡ behaviour_number b → a ≡ b
behaviour_fixed a b e = sym (numbered-back a) ∙ ap numbered e ∙ numbered-back b

-- RECORDS

-- the first record, and what stands behind it
record Parted (k k' : ℕ) (p p' x x' : Bytes) : Type 0 where
  pub kind : k ≡ k'
  pub payload : p ≡ p'
  pub rest : x ≡ x'

record_fixed : (k k' : ℕ) (p p' x x' : Bytes) → record_bytes k p ++ x ≡ record_bytes k' p' ++ x' → Parted k k' p p' x x'
record_fixed k k' p p' x x' e =
    let a : length p % 256 ≡ length p' % 256 = cc in
    let b : length p / 256 ≡ length p' / 256 = cc in
    let c : k % 256 ≡ k' % 256 = cc in
    let d : k / 256 ≡ k' / 256 = cc in
    let r = seam p p' x x' (two_fixed (length p) (length p') a b) (cc) in
    record { kind = two_fixed k k' c d; payload = r.0; rest = r.1 }

never_empty : (k : ℕ) (p x : Bytes) → [] ≡ record_bytes k p ++ x → ⊥
never_empty k p x e = let z : ◌≡◌ {A = ℕ} 0 1 = cc in omega arith

-- KIND 64

record Ends (b b' : Behaviour) (r r' : Bool) (n n' : ℕ) (x x' : Bytes) : Type 0 where
  pub behaviour : b ≡ b'
  pub result : r ≡ r'
  pub steps : n ≡ n'
  pub rest : x ≡ x'

end_fixed : (b b' : Behaviour) (r r' : Bool) (n n' : ℕ) (x x' : Bytes) → end_record b r n ++ x ≡ end_record b' r' n' ++ x' → Ends b b' r r' n n' x x'
unfolding end_record
end_fixed b b' r r' n n' x x' e =
    let q = record_fixed 64 64 (behaviour_number b ∷ one_byte r ∷ four_bytes n) (behaviour_number b' ∷ one_byte r' ∷ four_bytes n') x x' e in
    record {
      behaviour = behaviour_fixed b b' (cc q.payload);
      result = bit_fixed r r' (cc q.payload);
      steps = four_fixed n n' (cc q.payload);
      rest = q.rest;
    }

-- KIND 66

abbrev variable_payload : Shown → Bytes
variable_payload v = one_byte v.exported ∷ length v.name ∷ v.name ++ v.value

variable_fixed : (v v' : Shown) (x x' : Bytes) → variable_record v ++ x ≡ variable_record v' ++ x' → (v ≡ v') × (x ≡ x')
unfolding variable_record
variable_fixed v v' x x' e =
    let q = record_fixed 66 66 (variable_payload v) (variable_payload v') x x' e in
    let m : v.exported ≡ v'.exported = bit_fixed v.exported v'.exported (cc q.payload) in
    let r = seam v.name v'.name v.value v'.value (cc q.payload) (cc q.payload) in
    (shown-is m r.0 r.1, q.rest)
  where
    shown-is : {m m' : Bool} {n n' s s' : Bytes} → m ≡ m' → n ≡ n' → s ≡ s'
        → ◌≡◌ {A = Shown} (record { exported = m; name = n; value = s }) (record { exported = m'; name = n'; value = s' })
    shown-is p q r = cc

-- KIND 67

abbrev row_payload : Row → Bytes
row_payload r = two_bytes r.function ++ four_bytes r.entered ++ four_bytes r.own ++ four_bytes r.inclusive

row_fixed : (r r' : Row) (x x' : Bytes) → row_record r ++ x ≡ row_record r' ++ x' → (r ≡ r') × (x ≡ x')
unfolding row_record
row_fixed r r' x x' e =
    let q = record_fixed 67 67 (row_payload r) (row_payload r') x x' e in (
      row_is (two_fixed r.function r'.function (cc q.payload) (cc q.payload)) (four_fixed r.entered r'.entered (cc q.payload))
          (four_fixed r.own r'.own (cc q.payload)) (four_fixed r.inclusive r'.inclusive (cc q.payload)),
      q.rest,
    )
  where
    row_is : {f f' n n' o o' i i' : ℕ} → f ≡ f' → n ≡ n' → o ≡ o' → i ≡ i'
        → ◌≡◌ {A = Row} (record { function = f; entered = n; own = o; inclusive = i }) (record { function = f'; entered = n'; own = o'; inclusive = i' })
    row_is p q r s = cc

rows_fixed : (rs rs' : List Row) → row_records rs ≡ row_records rs' → rs ≡ rs'
unfolding row_records row_record
rows_fixed [] [] e = refl
rows_fixed [] (r ∷ rs) e = absurd (never_empty 67 (row_payload r) (row_records rs) e)
rows_fixed (r ∷ rs) [] e = absurd (never_empty 67 (row_payload r) (row_records rs) (sym e))
rows_fixed (r ∷ rs) (r' ∷ rs') e =
    let q = row_fixed r r' (row_records rs) (row_records rs') e in
    cc (q.0, rows_fixed rs rs' q.1)

-- ALL OF THEM

-- a row is no variable
mixed : (v : Shown) (x : Bytes) (rs : List Row) → row_records rs ≡ variable_record v ++ x → ⊥
unfolding row_records row_record variable_record
mixed v x [] e = never_empty 66 (variable_payload v) x e
mixed v x (r ∷ rs) e = let k : ◌≡◌ {A = ℕ} 67 66 = (record_fixed 67 66 (row_payload r) (variable_payload v) (row_records rs) x e).kind in omega arith

first-apart : (v : Shown) (vs : List Shown) (x : Bytes) → variable_records (v ∷ vs) ++ x ≡ variable_record v ++ (variable_records vs ++ x)
unfolding variable_records
first-apart v vs x = append_assoc (variable_record v) (variable_records vs) x

tables_fixed : (vs vs' : List Shown) (rs rs' : List Row) → variable_records vs ++ row_records rs ≡ variable_records vs' ++ row_records rs' → (vs ≡ vs') × (rs ≡ rs')
unfolding variable_records
tables_fixed [] [] rs rs' e = (refl, rows_fixed rs rs' e)
tables_fixed [] (v ∷ vs) rs rs' e = absurd (mixed v (variable_records vs ++ row_records rs') rs (e ∙ first-apart v vs (row_records rs')))
tables_fixed (v ∷ vs) [] rs rs' e = absurd (mixed v (variable_records vs ++ row_records rs) rs' (sym e ∙ first-apart v vs (row_records rs)))
tables_fixed (v ∷ vs) (v' ∷ vs') rs rs' e =
    let q =
    variable_fixed v v' (variable_records vs ++ row_records rs) (variable_records vs' ++ row_records rs')
    (sym (first-apart v vs (row_records rs)) ∙ e ∙ first-apart v' vs' (row_records rs')) in
    let t = tables_fixed vs vs' rs rs' q.1 in (cc (q.0, t.0), t.1)

split : (s : Sheet) → sheet_bytes s ≡ end_record s.behaviour s.result s.steps ++ (output_record s.output ++ (variable_records s.variables ++ row_records s.profile))
unfolding sheet_bytes
split s = simp append_assoc

output_fixed : (s s' x x' : Bytes) → output_record s ++ x ≡ output_record s' ++ x' → (s ≡ s') × (x ≡ x')
unfolding output_record
output_fixed s s' x x' e = let q = record_fixed 65 65 s s' x x' e in (q.payload, q.rest)

pub sheet_fixed : (s s' : Sheet) → sheet_bytes s ≡ sheet_bytes s' → s ≡ s'
sheet_fixed s s' e =
    let a = end_fixed _ _ _ _ _ _ _ _ (sym (split s) ∙ e ∙ split s') in
    let b = output_fixed _ _ _ _ a.rest in
    let c = tables_fixed _ _ _ _ b.1 in
    sheet-is a.behaviour a.result a.steps b.0 c.0 c.1
  where
    sheet-is : {b b' : Behaviour} {r r' : Bool} {n n' : ℕ} {o o' : Bytes} {vs vs' : List Shown} {rs rs' : List Row} → b ≡ b' → r ≡ r' → n ≡ n' → o ≡ o' → vs ≡ vs' → rs ≡ rs'
        → ◌≡◌ {A = Sheet} (record { behaviour = b; result = r; steps = n; output = o; variables = vs; profile = rs })
        (record { behaviour = b'; result = r'; steps = n'; output = o'; variables = vs'; profile = rs' })
    sheet-is a b c d e f = cc
