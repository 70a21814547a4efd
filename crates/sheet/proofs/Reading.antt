-- What an evaluator cites: it has read the kind of record r, and learns what the record stands for, that its references are earlier records of the
-- right sort, and that its numbers lie in the sheet. One law for each kind.
use mathlib.Core.Path.{◌≡◌, refl, sym, ap, ◌∙◌, subst}
use Prim.Native.Nat.{ℕ, ◌+◌, ◌<◌, ◌≤◌}
use native.Mathlib.Omega.{arith}
use lib.Dec.{leb}
use lib.ListN.{length}
use borrow.Author.Tests.{leb-true}
use Rattle.std.proofs.lemmas.Bool.{and_parts}
use Rattle.rules.specs.Syntax.{Bytes, text, variable, argument, embedded, join, empty, field, split}
use Rattle.rules.specs.Syntax.{assign, export, sequence, subshell, not, if, nooutput, pipe, utility, call, for, while, exit, return, shift}
use Rattle.sheet.specs.Format.{number, shape, any_number, code, name, string, list, instruction, names_variable}
use Rattle.sheet.specs.Check.{Known, count, kind_of, payload_of}
use Rattle.sheet.specs.Nodes.{rows, as_string, as_list, as_instruction, bytes_of, code_of}
use Rattle.sheet.specs.Filled.{start_of, mark_in, in_record, text_in, str_of, lst_of, ins_of, IsStr, IsLst, IsIns, IsText, StrBelow, LstBelow, InsBelow, TextBelow, Loaded}
use Rattle.sheet.proofs.Nodes.{Meets}
use Rattle.sheet.proofs.Located.{kind-read, record_room, size-read, text-read, part-read, room-read, node_at, one-here, two_here, three-here, slot_read, text-short, text-bytes}

-- SORTS

module _ {s w : Bytes} {K : Known} (g : Loaded s K w) (r : ℕ) where
  pub string-kinds : IsStr K r → (1 ≤ in_record s w r 2) × (in_record s w r 2 ≤ 5)
  string-kinds h =
      let k = kind-read g r h.0 in
      let e = h.1 in (
        (let z = leb-true 1 (kind_of K r) (and_parts (leb 1 (kind_of K r)) _ e).0 in omega arith),
        (let z = leb-true (kind_of K r) 5 (and_parts (leb 1 (kind_of K r)) _ e).1 in omega arith),
      )

  pub list-kinds : IsLst K r → (6 ≤ in_record s w r 2) × (in_record s w r 2 ≤ 8)
  list-kinds h =
      let k = kind-read g r h.0 in
      let e = h.1 in (
        (let z = leb-true 6 (kind_of K r) (and_parts (leb 6 (kind_of K r)) _ e).0 in omega arith),
        (let z = leb-true (kind_of K r) 8 (and_parts (leb 6 (kind_of K r)) _ e).1 in omega arith),
      )

  pub instruction-kinds : IsIns K r → (16 ≤ in_record s w r 2) × (in_record s w r 2 ≤ 30)
  instruction-kinds h =
      let k = kind-read g r h.0 in
      let e = h.1 in (
        (let z = leb-true 16 (kind_of K r) (and_parts (leb 16 (kind_of K r)) _ e).0 in omega arith),
        (let z = leb-true (kind_of K r) 30 (and_parts (leb 16 (kind_of K r)) _ e).1 in omega arith),
      )

  pub text-room : IsText K r → (start_of w r + 4 + in_record s w r 0 ≤ length s) × (in_record s w r 0 ≤ 63) × (length (text_in s w r) ≡ in_record s w r 0)
  text-room h = (
    record_room g r h.0,
    (let z = text-short g r h.0 h.1 in omega (arith, size-read g r h.0)),
    ap length (text-read g r h.0) ∙ sym (size-read g r h.0),
  )

-- KINDS

module _ {s w : Bytes} {K : Known} (g : Loaded s K w) (r : ℕ) (l : r < count K) where
  str-below : {p q : ℕ} → p ≡ q → Meets K r string p → StrBelow K r q
  str-below {p} {q} e m = subst (StrBelow K r) e (m.0, ((let z = m.0 in omega arith), m.1))

  lst-below : {p q : ℕ} → p ≡ q → Meets K r list p → LstBelow K r q
  lst-below {p} {q} e m = subst (LstBelow K r) e (m.0, ((let z = m.0 in omega arith), m.1))

  ins-below : {p q : ℕ} → p ≡ q → Meets K r instruction p → InsBelow K r q
  ins-below {p} {q} e m = subst (InsBelow K r) e (m.0, ((let z = m.0 in omega arith), m.1))

  text-below : {p q : ℕ} → p ≡ q → Meets K r name p → TextBelow K r q
  text-below {p} {q} e m = subst (TextBelow K r) e (m.0, ((let z = m.0 in omega arith), m.1))

  pub text_law : in_record s w r 2 ≡ 1 → (str_of K r ≡ text r (text_in s w r)) × IsText K r
  unfolding rows
  text_law k = (ap as_string (node_at g r l 1 k) ∙ ap (text r) (sym (text-read g r l)), (l, sym (kind-read g r l) ∙ k))

  pub variable_law : in_record s w r 2 ≡ 2 → (str_of K r ≡ variable r (mark_in w r)) × (mark_in w r < length K.variables)
  unfolding rows names_variable
  variable_law k = let q = slot_read g r l 2 k refl in (ap as_string (node_at g r l 2 k) ∙ ap (variable r) q.0, q.1)

  pub argument_law : in_record s w r 2 ≡ 3 → (str_of K r ≡ argument r (in_record s w r 4)) × (start_of w r + 6 ≤ length s)
  unfolding shape rows
  argument_law k =
      let m = one-here g r l any_number (ap shape (sym (kind-read g r l) ∙ k)) in
      let p : number (payload_of K r) 0 ≡ in_record s w r 4 = part-read g r l 0 (omega (arith, m.1)) in
      (ap as_string (node_at g r l 3 k) ∙ ap (argument r) p, omega (arith, room-read g r l 2 m.1))

  pub embedded_law : in_record s w r 2 ≡ 4 → (str_of K r ≡ embedded r (ins_of K (in_record s w r 4))) × InsBelow K r (in_record s w r 4) × (start_of w r + 6 ≤ length s)
  unfolding shape rows
  embedded_law k =
      let m = one-here g r l instruction (ap shape (sym (kind-read g r l) ∙ k)) in
      let p0 : number (payload_of K r) 0 ≡ in_record s w r 4 = part-read g r l 0 (omega (arith, m.1)) in (
        ap as_string (node_at g r l 4 k) ∙ (λ i. embedded r (ins_of K (p0 i))),
        ins-below p0 m.0,
        omega (arith, room-read g r l 2 m.1),
      )

  pub join_law : in_record s w r 2 ≡ 5 → (str_of K r ≡ join r (str_of K (in_record s w r 4)) (str_of K (in_record s w r 6))) × StrBelow K r (in_record s w r 4) × StrBelow K r (in_record s w r 6) × (start_of w r + 8 ≤ length s)
  unfolding shape rows
  join_law k =
      let m = two_here g r l string string (ap shape (sym (kind-read g r l) ∙ k)) in
      let p0 : number (payload_of K r) 0 ≡ in_record s w r 4 = part-read g r l 0 (omega (arith, m.2)) in
      let p1 : number (payload_of K r) 2 ≡ in_record s w r 6 = part-read g r l 2 (omega (arith, m.2)) in (
        ap as_string (node_at g r l 5 k) ∙ (λ i. join r (str_of K (p0 i)) (str_of K (p1 i))),
        str-below p0 m.0,
        str-below p1 m.1,
        omega (arith, room-read g r l 4 m.2),
      )

  pub empty_law : in_record s w r 2 ≡ 6 → lst_of K r ≡ empty r
  unfolding rows
  empty_law k = ap as_list (node_at g r l 6 k)

  pub field_law : in_record s w r 2 ≡ 7 → (lst_of K r ≡ field r (str_of K (in_record s w r 4)) (lst_of K (in_record s w r 6))) × StrBelow K r (in_record s w r 4) × LstBelow K r (in_record s w r 6) × (start_of w r + 8 ≤ length s)
  unfolding shape rows
  field_law k =
      let m = two_here g r l string list (ap shape (sym (kind-read g r l) ∙ k)) in
      let p0 : number (payload_of K r) 0 ≡ in_record s w r 4 = part-read g r l 0 (omega (arith, m.2)) in
      let p1 : number (payload_of K r) 2 ≡ in_record s w r 6 = part-read g r l 2 (omega (arith, m.2)) in (
        ap as_list (node_at g r l 7 k) ∙ (λ i. field r (str_of K (p0 i)) (lst_of K (p1 i))),
        str-below p0 m.0,
        lst-below p1 m.1,
        omega (arith, room-read g r l 4 m.2),
      )

  pub split_law : in_record s w r 2 ≡ 8 → (lst_of K r ≡ split r (str_of K (in_record s w r 4)) (lst_of K (in_record s w r 6))) × StrBelow K r (in_record s w r 4) × LstBelow K r (in_record s w r 6) × (start_of w r + 8 ≤ length s)
  unfolding shape rows
  split_law k =
      let m = two_here g r l string list (ap shape (sym (kind-read g r l) ∙ k)) in
      let p0 : number (payload_of K r) 0 ≡ in_record s w r 4 = part-read g r l 0 (omega (arith, m.2)) in
      let p1 : number (payload_of K r) 2 ≡ in_record s w r 6 = part-read g r l 2 (omega (arith, m.2)) in (
        ap as_list (node_at g r l 8 k) ∙ (λ i. split r (str_of K (p0 i)) (lst_of K (p1 i))),
        str-below p0 m.0,
        lst-below p1 m.1,
        omega (arith, room-read g r l 4 m.2),
      )

  pub assign_law : in_record s w r 2 ≡ 16 → (ins_of K r ≡ assign r (mark_in w r) (str_of K (in_record s w r 6))) × (mark_in w r < length K.variables) × StrBelow K r (in_record s w r 6) × (start_of w r + 8 ≤ length s)
  unfolding shape rows names_variable
  assign_law k =
      let m = two_here g r l name string (ap shape (sym (kind-read g r l) ∙ k)) in
      let p1 : number (payload_of K r) 2 ≡ in_record s w r 6 = part-read g r l 2 (omega (arith, m.2)) in
      let q = slot_read g r l 16 k refl in (
        ap as_instruction (node_at g r l 16 k) ∙ (λ i. assign r (q.0 i) (str_of K (p1 i))),
        q.1,
        str-below p1 m.1,
        omega (arith, room-read g r l 4 m.2),
      )

  pub export_law : in_record s w r 2 ≡ 17 → (ins_of K r ≡ export r (mark_in w r)) × (mark_in w r < length K.variables)
  unfolding rows names_variable
  export_law k = let q = slot_read g r l 17 k refl in (ap as_instruction (node_at g r l 17 k) ∙ ap (export r) q.0, q.1)

  pub sequence_law : in_record s w r 2 ≡ 18 → (ins_of K r ≡ sequence r (ins_of K (in_record s w r 4)) (ins_of K (in_record s w r 6))) × InsBelow K r (in_record s w r 4) × InsBelow K r (in_record s w r 6) × (start_of w r + 8 ≤ length s)
  unfolding shape rows
  sequence_law k =
      let m = two_here g r l instruction instruction (ap shape (sym (kind-read g r l) ∙ k)) in
      let p0 : number (payload_of K r) 0 ≡ in_record s w r 4 = part-read g r l 0 (omega (arith, m.2)) in
      let p1 : number (payload_of K r) 2 ≡ in_record s w r 6 = part-read g r l 2 (omega (arith, m.2)) in (
        ap as_instruction (node_at g r l 18 k) ∙ (λ i. sequence r (ins_of K (p0 i)) (ins_of K (p1 i))),
        ins-below p0 m.0,
        ins-below p1 m.1,
        omega (arith, room-read g r l 4 m.2),
      )

  pub subshell_law : in_record s w r 2 ≡ 19 → (ins_of K r ≡ subshell r (ins_of K (in_record s w r 4))) × InsBelow K r (in_record s w r 4) × (start_of w r + 6 ≤ length s)
  unfolding shape rows
  subshell_law k =
      let m = one-here g r l instruction (ap shape (sym (kind-read g r l) ∙ k)) in
      let p0 : number (payload_of K r) 0 ≡ in_record s w r 4 = part-read g r l 0 (omega (arith, m.1)) in (
        ap as_instruction (node_at g r l 19 k) ∙ (λ i. subshell r (ins_of K (p0 i))),
        ins-below p0 m.0,
        omega (arith, room-read g r l 2 m.1),
      )

  pub not_law : in_record s w r 2 ≡ 20 → (ins_of K r ≡ not r (ins_of K (in_record s w r 4))) × InsBelow K r (in_record s w r 4) × (start_of w r + 6 ≤ length s)
  unfolding shape rows
  not_law k =
      let m = one-here g r l instruction (ap shape (sym (kind-read g r l) ∙ k)) in
      let p0 : number (payload_of K r) 0 ≡ in_record s w r 4 = part-read g r l 0 (omega (arith, m.1)) in (
        ap as_instruction (node_at g r l 20 k) ∙ (λ i. not r (ins_of K (p0 i))),
        ins-below p0 m.0,
        omega (arith, room-read g r l 2 m.1),
      )

  pub if_law : in_record s w r 2 ≡ 21 → (ins_of K r ≡ if r (ins_of K (in_record s w r 4)) (ins_of K (in_record s w r 6)) (ins_of K (in_record s w r 8))) × InsBelow K r (in_record s w r 4) × InsBelow K r (in_record s w r 6) × InsBelow K r (in_record s w r 8) × (start_of w r + 10 ≤ length s)
  unfolding shape rows
  if_law k =
      let m = three-here g r l instruction instruction instruction (ap shape (sym (kind-read g r l) ∙ k)) in
      let p0 : number (payload_of K r) 0 ≡ in_record s w r 4 = part-read g r l 0 (omega (arith, m.3)) in
      let p1 : number (payload_of K r) 2 ≡ in_record s w r 6 = part-read g r l 2 (omega (arith, m.3)) in
      let p2 : number (payload_of K r) 4 ≡ in_record s w r 8 = part-read g r l 4 (omega (arith, m.3)) in (
        ap as_instruction (node_at g r l 21 k) ∙ (λ i. if r (ins_of K (p0 i)) (ins_of K (p1 i)) (ins_of K (p2 i))),
        ins-below p0 m.0,
        ins-below p1 m.1,
        ins-below p2 m.2,
        omega (arith, room-read g r l 6 m.3),
      )

  pub nooutput_law : in_record s w r 2 ≡ 22 → (ins_of K r ≡ nooutput r (ins_of K (in_record s w r 4))) × InsBelow K r (in_record s w r 4) × (start_of w r + 6 ≤ length s)
  unfolding shape rows
  nooutput_law k =
      let m = one-here g r l instruction (ap shape (sym (kind-read g r l) ∙ k)) in
      let p0 : number (payload_of K r) 0 ≡ in_record s w r 4 = part-read g r l 0 (omega (arith, m.1)) in (
        ap as_instruction (node_at g r l 22 k) ∙ (λ i. nooutput r (ins_of K (p0 i))),
        ins-below p0 m.0,
        omega (arith, room-read g r l 2 m.1),
      )

  pub pipe_law : in_record s w r 2 ≡ 23 → (ins_of K r ≡ pipe r (ins_of K (in_record s w r 4)) (ins_of K (in_record s w r 6))) × InsBelow K r (in_record s w r 4) × InsBelow K r (in_record s w r 6) × (start_of w r + 8 ≤ length s)
  unfolding shape rows
  pipe_law k =
      let m = two_here g r l instruction instruction (ap shape (sym (kind-read g r l) ∙ k)) in
      let p0 : number (payload_of K r) 0 ≡ in_record s w r 4 = part-read g r l 0 (omega (arith, m.2)) in
      let p1 : number (payload_of K r) 2 ≡ in_record s w r 6 = part-read g r l 2 (omega (arith, m.2)) in (
        ap as_instruction (node_at g r l 23 k) ∙ (λ i. pipe r (ins_of K (p0 i)) (ins_of K (p1 i))),
        ins-below p0 m.0,
        ins-below p1 m.1,
        omega (arith, room-read g r l 4 m.2),
      )

  pub utility_law : in_record s w r 2 ≡ 24 → (ins_of K r ≡ utility r (text_in s w (in_record s w r 4)) (lst_of K (in_record s w r 6))) × TextBelow K r (in_record s w r 4) × LstBelow K r (in_record s w r 6) × (start_of w r + 8 ≤ length s)
  unfolding shape rows
  utility_law k =
      let m = two_here g r l name list (ap shape (sym (kind-read g r l) ∙ k)) in
      let p0 : number (payload_of K r) 0 ≡ in_record s w r 4 = part-read g r l 0 (omega (arith, m.2)) in
      let p1 : number (payload_of K r) 2 ≡ in_record s w r 6 = part-read g r l 2 (omega (arith, m.2)) in
      let b0 = text-below p0 m.0 in
      let x0 = ap (λ (j : ℕ). bytes_of (str_of K j)) p0 ∙ text-bytes g (in_record s w r 4) b0.1.0 b0.1.1 in (
        ap as_instruction (node_at g r l 24 k) ∙ (λ i. utility r (x0 i) (lst_of K (p1 i))),
        b0,
        lst-below p1 m.1,
        omega (arith, room-read g r l 4 m.2),
      )

  pub call_law : in_record s w r 2 ≡ 25 → (ins_of K r ≡ call r (text_in s w (in_record s w r 4)) (lst_of K (in_record s w r 6))) × TextBelow K r (in_record s w r 4) × LstBelow K r (in_record s w r 6) × (start_of w r + 8 ≤ length s)
  unfolding shape rows
  call_law k =
      let m = two_here g r l name list (ap shape (sym (kind-read g r l) ∙ k)) in
      let p0 : number (payload_of K r) 0 ≡ in_record s w r 4 = part-read g r l 0 (omega (arith, m.2)) in
      let p1 : number (payload_of K r) 2 ≡ in_record s w r 6 = part-read g r l 2 (omega (arith, m.2)) in
      let b0 = text-below p0 m.0 in
      let x0 = ap (λ (j : ℕ). bytes_of (str_of K j)) p0 ∙ text-bytes g (in_record s w r 4) b0.1.0 b0.1.1 in (
        ap as_instruction (node_at g r l 25 k) ∙ (λ i. call r (x0 i) (lst_of K (p1 i))),
        b0,
        lst-below p1 m.1,
        omega (arith, room-read g r l 4 m.2),
      )

  pub for_law : in_record s w r 2 ≡ 26 → (ins_of K r ≡ for r (mark_in w r) (lst_of K (in_record s w r 6)) (ins_of K (in_record s w r 8))) × (mark_in w r < length K.variables) × LstBelow K r (in_record s w r 6) × InsBelow K r (in_record s w r 8) × (start_of w r + 10 ≤ length s)
  unfolding shape rows names_variable
  for_law k =
      let m = three-here g r l name list instruction (ap shape (sym (kind-read g r l) ∙ k)) in
      let p1 : number (payload_of K r) 2 ≡ in_record s w r 6 = part-read g r l 2 (omega (arith, m.3)) in
      let p2 : number (payload_of K r) 4 ≡ in_record s w r 8 = part-read g r l 4 (omega (arith, m.3)) in
      let q = slot_read g r l 26 k refl in (
        ap as_instruction (node_at g r l 26 k) ∙ (λ i. for r (q.0 i) (lst_of K (p1 i)) (ins_of K (p2 i))),
        q.1,
        lst-below p1 m.1,
        ins-below p2 m.2,
        omega (arith, room-read g r l 6 m.3),
      )

  pub while_law : in_record s w r 2 ≡ 27 → (ins_of K r ≡ while r (ins_of K (in_record s w r 4)) (ins_of K (in_record s w r 6))) × InsBelow K r (in_record s w r 4) × InsBelow K r (in_record s w r 6) × (start_of w r + 8 ≤ length s)
  unfolding shape rows
  while_law k =
      let m = two_here g r l instruction instruction (ap shape (sym (kind-read g r l) ∙ k)) in
      let p0 : number (payload_of K r) 0 ≡ in_record s w r 4 = part-read g r l 0 (omega (arith, m.2)) in
      let p1 : number (payload_of K r) 2 ≡ in_record s w r 6 = part-read g r l 2 (omega (arith, m.2)) in (
        ap as_instruction (node_at g r l 27 k) ∙ (λ i. while r (ins_of K (p0 i)) (ins_of K (p1 i))),
        ins-below p0 m.0,
        ins-below p1 m.1,
        omega (arith, room-read g r l 4 m.2),
      )

  pub exit_law : in_record s w r 2 ≡ 28 → (ins_of K r ≡ exit r (code_of (in_record s w r 4))) × (in_record s w r 4 ≤ 2) × (start_of w r + 6 ≤ length s)
  unfolding shape rows
  exit_law k =
      let m = one-here g r l code (ap shape (sym (kind-read g r l) ∙ k)) in
      let p : number (payload_of K r) 0 ≡ in_record s w r 4 = part-read g r l 0 (omega (arith, m.1)) in
      (ap as_instruction (node_at g r l 28 k) ∙ ap (λ (j : ℕ). exit r (code_of j)) p, subst (λ (j : ℕ). j ≤ 2) p m.0, omega (arith, room-read g r l 2 m.1))

  pub return_law : in_record s w r 2 ≡ 29 → (ins_of K r ≡ return r (code_of (in_record s w r 4))) × (in_record s w r 4 ≤ 2) × (start_of w r + 6 ≤ length s)
  unfolding shape rows
  return_law k =
      let m = one-here g r l code (ap shape (sym (kind-read g r l) ∙ k)) in
      let p : number (payload_of K r) 0 ≡ in_record s w r 4 = part-read g r l 0 (omega (arith, m.1)) in
      (ap as_instruction (node_at g r l 29 k) ∙ ap (λ (j : ℕ). return r (code_of j)) p, subst (λ (j : ℕ). j ≤ 2) p m.0, omega (arith, room-read g r l 2 m.1))

  pub shift_law : in_record s w r 2 ≡ 30 → (ins_of K r ≡ shift r (in_record s w r 4)) × (start_of w r + 6 ≤ length s)
  unfolding shape rows
  shift_law k =
      let m = one-here g r l any_number (ap shape (sym (kind-read g r l) ∙ k)) in
      let p : number (payload_of K r) 0 ≡ in_record s w r 4 = part-read g r l 0 (omega (arith, m.1)) in
      (ap as_instruction (node_at g r l 30 k) ∙ ap (shift r) p, omega (arith, room-read g r l 2 m.1))
