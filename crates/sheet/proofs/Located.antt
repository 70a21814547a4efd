-- Record r of a loaded sheet, as it is read through the table: where it lies, its kind, length and parts, and its node.
use mathlib.Core.Path.{◌≡◌, sym, ap, ◌∙◌, subst}
use mathlib.Core.Bool.{true}
use Prim.Native.Nat.{ℕ, ◌+◌, ◌*◌, ◌<◌, ◌≤◌}
use native.Mathlib.Omega.{arith}
use lib.Dec.{eqb}
use lib.ListN.{length, get_or, take, drop}
use lib.Seq.{get_or-take, get_or-drop}
use borrow.Author.Tests.{eqb-true}
use Rattle.std.proofs.lemmas.Bool.{and_parts, false≢true}
use Rattle.rules.specs.Syntax.{Bytes}
use Rattle.sheet.specs.Format.{number, shape, Shape, Wanted, one, two, three, names_variable}
use Rattle.sheet.specs.Check.{Known, known, count, record_of, kind_of, payload_of, right}
use Rattle.sheet.specs.Nodes.{lookup, rows, row_of, as_string, bytes_of}
use Rattle.sheet.specs.Decode.{node, nodes}
use Rattle.sheet.specs.Ready.{Lies}
use Rattle.sheet.specs.Filled.{start_of, mark_in, in_record, text_in, str_of, Loaded}
use Rattle.sheet.proofs.Records.{count-known}
use Rattle.sheet.proofs.Marks.{mark-other}
use Rattle.sheet.proofs.Entered.{payload-length}
use Rattle.sheet.proofs.Sound.{Sound, sound_short}
use Rattle.sheet.proofs.Explains.{Accepted, accepted-parts}
use Rattle.sheet.proofs.Nodes.{Meets, one-part, two-parts, three-parts, node_law}
use Rattle.sheet.proofs.Sorts.{text-node}
use Rattle.sheet.proofs.NameLaws.{slot-below}

-- a number of a payload that lies in the sheet
number-part : (s : Bytes) (at size d : ℕ) → d + 2 ≤ size → number (take size (drop at s)) d ≡ number s (at + d)
unfolding number
number-part s at size d h =
    let e : at + (d + 1) ≡ at + d + 1 = omega arith in
    (λ i. (get_or-take size (drop at s) d 0 (omega arith) ∙ get_or-drop at s d 0) i + 256 * (get_or-take size (drop at s) (d + 1) 0 (omega arith) ∙ get_or-drop at s (d + 1) 0) i)
    ∙ ap (λ (k : ℕ). get_or s (at + d) 0 + 256 * get_or s k 0) e

call-not : names_variable 25 ≡ true → ⊥
unfolding names_variable
call-not e = false≢true e

module _ {s w : Bytes} {K : Known} (g : Loaded s K w) where
  pub parts : Accepted s K
  parts = accepted-parts s K g.accepts

  pub n_is : parts.n ≡ count K
  n_is = sym (ap count parts.is ∙ count-known s parts.n)

  pub known_is : known s (count K) ≡ K
  known_is = ap (known s) (sym n_is) ∙ sym parts.is

  pub sound : Sound s (count K)
  sound = subst (Sound s) n_is parts.sound

  pub few-records : count K ≤ 512
  few-records = let f = parts.few in omega (arith, n_is)

  pub few-variables : length K.variables ≤ 16
  few-variables = subst (λ (x : Known). length x.variables ≤ 16) known_is sound.variables

  pub few-functions : length K.functions ≤ 32
  few-functions = subst (λ (x : Known). length x.functions ≤ 32) known_is sound.functions.few

  -- the record in the sheet
  module _ (r : ℕ) (l : r < count K) where
    pub lies : Lies s (record_of K r)
    lies = subst (λ (x : Known). Lies s (record_of x r)) known_is (sound.lies r l)

    pub at-is : start_of w r ≡ (record_of K r).at
    at-is = g.filled.start r l

    pub record_room : start_of w r + 4 + in_record s w r 0 ≤ length s
    record_room =
        let e : in_record s w r 0 ≡ number s (record_of K r).at = ap (number s) at_zero in
        let h = lies.room in omega (arith, at-is)
      where
        at_zero : start_of w r + 0 ≡ (record_of K r).at
        at_zero = omega (arith, at-is)

    pub kind-read : in_record s w r 2 ≡ kind_of K r
    kind-read = ap (λ (k : ℕ). number s (k + 2)) at-is ∙ sym lies.kind

    pub size-read : in_record s w r 0 ≡ length (payload_of K r)
    size-read = ap (number s) at_zero ∙ sym (payload-length s (record_of K r) lies)
      where
        at_zero : start_of w r + 0 ≡ (record_of K r).at
        at_zero = omega (arith, at-is)

    pub text-read : text_in s w r ≡ payload_of K r
    text-read =
        ap (λ (k : ℕ). take k (drop (start_of w r + 4) s)) (ap (number s) at_zero)
        ∙ ap (λ (k : ℕ). take (number s (record_of K r).at) (drop (k + 4) s)) at-is ∙ sym lies.payload
      where
        at_zero : start_of w r + 0 ≡ (record_of K r).at
        at_zero = omega (arith, at-is)

    pub part-read : (d : ℕ) → d + 2 ≤ length (payload_of K r) → number (payload_of K r) d ≡ number s (start_of w r + (4 + d))
    part-read d h =
        let e : (record_of K r).at + 4 + d ≡ start_of w r + (4 + d) = omega (arith, at-is) in
        ap (λ (p : Bytes). number p d) lies.payload
        ∙ number-part s ((record_of K r).at + 4) (number s (record_of K r).at) d (let z = payload-length s (record_of K r) lies in omega arith)
        ∙ ap (number s) e

    pub room-read : (size : ℕ) → length (payload_of K r) ≡ size → start_of w r + 4 + size ≤ length s
    room-read size e = let h = record_room in omega (arith, size-read)

    -- the node of a record whose kind was read
    pub node_at : (k : ℕ) → in_record s w r 2 ≡ k → lookup (nodes K) r ≡ row_of k (rows (lookup (nodes K)) r (record_of K r).slot (payload_of K r))
    unfolding node
    node_at k e =
        subst (λ (x : Known). lookup (nodes x) r ≡ node (lookup (nodes x)) r (record_of x r)) known_is (node_law s (count K) sound r l)
        ∙ ap (λ (j : ℕ). row_of j (rows (lookup (nodes K)) r (record_of K r).slot (payload_of K r))) (sym kind-read ∙ e)

    pub rights : right (known s r) (shape (kind_of K r)) (payload_of K r) ≡ true
    rights = subst (λ (x : Known). right (known s r) (shape (kind_of x r)) (payload_of x r) ≡ true) known_is (sound.rights r l)

    pub one-here : (x : Wanted) → shape (kind_of K r) ≡ one x → Meets K r x (number (payload_of K r) 0) × (length (payload_of K r) ≡ 2)
    unfolding right
    one-here x e = (
      subst (λ (y : Known). shape (kind_of y r) ≡ one x → Meets y r x (number (payload_of y r) 0)) known_is (one-part s (count K) sound r l x) e,
      eqb-true _ 2 (and_parts (eqb (length (payload_of K r)) 2) _ (ap (λ (z : Shape). right (known s r) z (payload_of K r)) (sym e) ∙ rights)).0,
    )

    pub two_here : (x y : Wanted) → shape (kind_of K r) ≡ two x y → Meets K r x (number (payload_of K r) 0) × Meets K r y (number (payload_of K r) 2) × (length (payload_of K r) ≡ 4)
    unfolding right
    two_here x y e =
        let m = subst (λ (z : Known). shape (kind_of z r) ≡ two x y → Meets z r x (number (payload_of z r) 0) × Meets z r y (number (payload_of z r) 2)) known_is (two-parts s (count K) sound r l x y) e in
        (m.0, m.1, eqb-true _ 4 (and_parts (eqb (length (payload_of K r)) 4) _ (ap (λ (z : Shape). right (known s r) z (payload_of K r)) (sym e) ∙ rights)).0)

    pub three-here : (x y z : Wanted) → shape (kind_of K r) ≡ three x y z
        → Meets K r x (number (payload_of K r) 0) × Meets K r y (number (payload_of K r) 2) × Meets K r z (number (payload_of K r) 4) × (length (payload_of K r) ≡ 6)
    unfolding right
    three-here x y z e =
        let m = subst (λ (v : Known). shape (kind_of v r) ≡ three x y z → Meets v r x (number (payload_of v r) 0) × Meets v r y (number (payload_of v r) 2) × Meets v r z (number (payload_of v r) 4)) known_is
        (three-parts s (count K) sound r l x y z) e in
        (m.0, m.1, m.2, eqb-true _ 6 (and_parts (eqb (length (payload_of K r)) 6) _ (ap (λ (v : Shape). right (known s r) v (payload_of K r)) (sym e) ∙ rights)).0)

    -- the slot of a record that names a variable
    pub slot_read : (k : ℕ) → in_record s w r 2 ≡ k → names_variable k ≡ true → ((record_of K r).slot ≡ mark_in w r) × (mark_in w r < length K.variables)
    slot_read k e v =
        let q : kind_of K r ≡ k = sym kind-read ∙ e in
        let c : kind_of K r ≡ 25 → ⊥ = λ x. call-not (sym (ap names_variable (sym q ∙ x)) ∙ v) in
        let m : (record_of K r).slot ≡ mark_in w r = sym (g.filled.mark r l ∙ mark-other K (record_of K r) c) in
        let b = subst (λ (x : Known). names_variable (kind_of x r) ≡ true → (record_of x r).slot < length x.variables) known_is (slot-below s (count K) r l) (ap names_variable q ∙ v) in
        (m, subst (λ (x : ℕ). x < length K.variables) m b)

    pub text-short : kind_of K r ≡ 1 → length (payload_of K r) ≤ 63
    text-short = subst (λ (x : Known). kind_of x r ≡ 1 → length (payload_of x r) ≤ 63) known_is (sound_short s (count K) sound r l)

    pub text-bytes : kind_of K r ≡ 1 → bytes_of (str_of K r) ≡ text_in s w r
    text-bytes e = subst (λ (x : Known). kind_of x r ≡ 1 → bytes_of (as_string (lookup (nodes x) r)) ≡ payload_of x r) known_is (text-node s (count K) sound r l) e ∙ sym text-read
