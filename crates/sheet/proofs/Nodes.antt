-- What evaluation needs of an accepted sheet: the node of each record, that its references are earlier and of the right sort, and the table's entries.
use mathlib.Core.Path.{◌≡◌, refl, sym, ap, ◌∙◌, subst}
use mathlib.Core.Bool.{Bool, true, false, ◌&&◌, cond}
use mathlib.Core.List.{List, [], ◌∷◌, ◌++◌, append_assoc}
use Prim.Native.Nat.{ℕ, zero, suc, ◌+◌, ◌-◌, ◌<◌, ◌≤◌}
use native.Mathlib.Nat.{add-zero}
use native.Mathlib.Omega.{arith}
use lib.Dec.{eqb, ltb}
use lib.ListN.{length, get_or, take, length-append, get_or-append}
use lib.Seq.{get_or-take, get_or-append_seam, take-append-le, take_at}
use borrow.Author.Tests.{ltb-true, leb-true, eqb-true}
use Rattle.std.proofs.lemmas.Bool.{and_parts}
use Rattle.rules.specs.Syntax.{Bytes}
use Rattle.sheet.specs.Format.{number, shape, Wanted, any_number, code, name, string, list, instruction, Shape, one, two, three, is_string, is_list, is_instruction, is_name}
use Rattle.sheet.specs.Check.{Rec, Known, known, no_rec, count, record_of, kind_of, payload_of, meets, right}
use Rattle.rules.specs.Syntax.{embedded, join, field, split, assign, sequence, subshell, not, if, nooutput, pipe, utility, call, for, while}
use Rattle.sheet.specs.Nodes.{Node, none, lookup, rows, row_of, as_string, as_list, as_instruction, bytes_of}
use Rattle.sheet.specs.Decode.{node, nodes, nodes_from}
use Rattle.sheet.specs.Nodes as D
use Rattle.sheet.proofs.Records.{count-known}
use Rattle.sheet.proofs.Sound.{Sound, record_old}

-- NODES

nodes_after : List Node → List Rec → List Node
nodes_after ns [] = []
nodes_after ns (c ∷ cs) = node (lookup ns) (length ns) c ∷ nodes_after (ns ++ node (lookup ns) (length ns) c ∷ []) cs

nodes-split : (ns : List Node) (cs : List Rec) → nodes_from ns cs ≡ ns ++ nodes_after ns cs
unfolding nodes_from nodes_after
nodes-split ns [] = sym (mathlib.Core.List.append-nil ns)
nodes-split ns (c ∷ cs) = nodes-split (ns ++ node (lookup ns) (length ns) c ∷ []) cs ∙ append_assoc ns (node (lookup ns) (length ns) c ∷ []) (nodes_after (ns ++ node (lookup ns) (length ns) c ∷ []) cs)

nodes-front : (ns : List Node) (x : Node) (cs : List Rec) → take (length ns) (nodes_from (ns ++ x ∷ []) cs) ≡ ns
nodes-front ns x cs =
    ap (take (length ns)) (nodes-split (ns ++ x ∷ []) cs)
    ∙ take-append-le (length ns) (ns ++ x ∷ []) (nodes_after (ns ++ x ∷ []) cs) (simp length-append (omega arith))
    ∙ take_at ns (x ∷ []) (length ns) refl

nodes-here : (ns : List Node) (x : Node) (cs : List Rec) → get_or (nodes_from (ns ++ x ∷ []) cs) (length ns) none ≡ x
nodes-here ns x cs =
    ap (λ (l : List Node). get_or l (length ns) none) (nodes-split (ns ++ x ∷ []) cs)
    ∙ get_or-append (ns ++ x ∷ []) (nodes_after (ns ++ x ∷ []) cs) none (length ns) (simp length-append (omega arith))
    ∙ get_or-append_seam ns x [] none

node-from : (cs : List Rec) (ns : List Node) (k : ℕ) → k < length cs
    → get_or (nodes_from ns cs) (length ns + k) none ≡ node (lookup (take (length ns + k) (nodes_from ns cs))) (length ns + k) (get_or cs k no_rec)
unfolding nodes_from
node-from [] ns k h = absurd (omega arith)
node-from (c ∷ cs) ns zero h =
    ap (λ (i : ℕ). get_or (nodes_from (ns ++ node (lookup ns) (length ns) c ∷ []) cs) i none) (add-zero (length ns))
    ∙ nodes-here ns (node (lookup ns) (length ns) c) cs
    ∙ ap (λ (l : List Node). node (lookup l) (length ns) c) (sym (nodes-front ns (node (lookup ns) (length ns) c) cs))
    ∙ ap (λ (i : ℕ). node (lookup (take i (nodes_from (ns ++ node (lookup ns) (length ns) c ∷ []) cs))) i c) (sym (add-zero (length ns)))
node-from (c ∷ cs) ns (suc k) h =
    let x : Node = node (lookup ns) (length ns) c in
    let e : length (ns ++ x ∷ []) + k ≡ length ns + suc k = omega (arith, length-append ns (x ∷ [])) in
    ap (λ (i : ℕ). get_or (nodes_from (ns ++ x ∷ []) cs) i none) (sym e)
    ∙ node-from cs (ns ++ x ∷ []) k (omega arith)
    ∙ ap (λ (i : ℕ). node (lookup (take i (nodes_from (ns ++ x ∷ []) cs))) i (get_or cs k no_rec)) e

-- the node of record r is made of the nodes of the records before it
pub node-is : (K : Known) (r : ℕ) → r < count K → lookup (nodes K) r ≡ node (lookup (take r (nodes K))) r (record_of K r)
unfolding nodes
node-is K r h =
    let e : 0 + r ≡ r = omega arith in
    ap (λ (i : ℕ). get_or (nodes_from [] K.records) i none) (sym e) ∙ node-from K.records [] r h
    ∙ ap (λ (i : ℕ). node (lookup (take i (nodes_from [] K.records))) i (get_or K.records r no_rec)) e

-- and an earlier record's node is the same there
pub earlier-is : (K : Known) (r a : ℕ) → a < r → lookup (take r (nodes K)) a ≡ lookup (nodes K) a
earlier-is K r a h = get_or-take r (nodes K) a none h

-- REFERENCES

-- earlier records stay
known_suc : (s : Bytes) (n k : ℕ) → k < count (known s n) → record_of (known s (suc n)) k ≡ record_of (known s n) k
unfolding known
known_suc s n k l = record_old s (known s n) k l

known_old : (s : Bytes) (r d k : ℕ) → k < r → record_of (known s (r + d)) k ≡ record_of (known s r) k
known_old s r zero k h = ap (λ (i : ℕ). record_of (known s i) k) (add-zero r)
known_old s r (suc d) k h = ap (λ (i : ℕ). record_of (known s i) k) (add-suc r d) ∙ step ∙ known_old s r d k h
  where
    add-suc : (a b : ℕ) → a + suc b ≡ suc (a + b)
    add-suc a b = omega arith

    step : record_of (known s (suc (r + d))) k ≡ record_of (known s (r + d)) k
    step = known_suc s (r + d) k (omega (arith, count-known s (r + d)))

pub record_kept : (s : Bytes) (r n k : ℕ) → k < r → r ≤ n → record_of (known s n) k ≡ record_of (known s r) k
record_kept s r n k h l = let e : r + (n - r) ≡ n = omega arith in subst (λ (i : ℕ). record_of (known s i) k ≡ record_of (known s r) k) e (known_old s r (n - r) k h)

-- what a part of a good record is: of the records of the whole sheet
abbrev pub Meets : Known → (r : ℕ) → Wanted → ℕ → Type 0
Meets K r any_number a = Unit {0}
Meets K r code a = a ≤ 2
Meets K r name a = (a < r) × (kind_of K a ≡ 1) × (is_name (payload_of K a) ≡ true)
Meets K r string a = (a < r) × (is_string (kind_of K a) ≡ true)
Meets K r list a = (a < r) × (is_list (kind_of K a) ≡ true)
Meets K r instruction a = (a < r) × (is_instruction (kind_of K a) ≡ true)

module _ (s : Bytes) (r n : ℕ) (l : r ≤ n) where
  before : (a : ℕ) (b : Bool) → (ltb a (count (known s r)) && b) ≡ true → a < r
  before a b e = let m = ltb-true a (count (known s r)) (and_parts (ltb a (count (known s r))) b e).0 in omega (arith, count-known s r)

  kind-kept : (a : ℕ) → a < r → kind_of (known s n) a ≡ kind_of (known s r) a
  kind-kept a m = ap (λ (c : Rec). c.kind) (record_kept s r n a m l)

  meets-kept : (w : Wanted) (a : ℕ) → meets (known s r) w a ≡ true → Meets (known s n) r w a
  unfolding meets
  meets-kept any_number a e = tt
  meets-kept code a e = leb-true a 2 e
  meets-kept name a e =
      let m = before a _ e in
      let q = (and_parts (ltb a (count (known s r))) _ e).1 in (
        m,
        kind-kept a m ∙ eqb-true _ 1 (and_parts (eqb (kind_of (known s r) a) 1) _ q).0,
        ap (λ (c : Rec). is_name c.payload) (record_kept s r n a m l) ∙ (and_parts (eqb (kind_of (known s r) a) 1) _ q).1,
      )
  meets-kept string a e = let m = before a _ e in (m, ap is_string (kind-kept a m) ∙ (and_parts (ltb a (count (known s r))) _ e).1)
  meets-kept list a e = let m = before a _ e in (m, ap is_list (kind-kept a m) ∙ (and_parts (ltb a (count (known s r))) _ e).1)
  meets-kept instruction a e = let m = before a _ e in (m, ap is_instruction (kind-kept a m) ∙ (and_parts (ltb a (count (known s r))) _ e).1)

module _ (s : Bytes) (n : ℕ) (h : Sound s n) (r : ℕ) (l : r < n) where
  rights : (sh : Shape) → shape (kind_of (known s n) r) ≡ sh → right (known s r) sh (payload_of (known s n) r) ≡ true
  rights sh e = ap (λ (x : Shape). right (known s r) x (payload_of (known s n) r)) (sym e) ∙ h.rights r l

  le : r ≤ n
  le = omega arith

  pub one-part : (a : Wanted) → shape (kind_of (known s n) r) ≡ one a → Meets (known s n) r a (number (payload_of (known s n) r) 0)
  unfolding right
  one-part a e = meets-kept s r n le a _ (and_parts (eqb (length (payload_of (known s n) r)) 2) _ (rights (one a) e)).1

  pub two-parts : (a b : Wanted) → shape (kind_of (known s n) r) ≡ two a b
      → Meets (known s n) r a (number (payload_of (known s n) r) 0) × Meets (known s n) r b (number (payload_of (known s n) r) 2)
  unfolding right
  two-parts a b e =
      let q = (and_parts (eqb (length (payload_of (known s n) r)) 4) _ (rights (two a b) e)).1 in (
        meets-kept s r n le a _ (and_parts (meets (known s r) a (number (payload_of (known s n) r) 0)) _ q).0,
        meets-kept s r n le b _ (and_parts (meets (known s r) a (number (payload_of (known s n) r) 0)) _ q).1,
      )

  pub three-parts : (a b c : Wanted) → shape (kind_of (known s n) r) ≡ three a b c
      → Meets (known s n) r a (number (payload_of (known s n) r) 0) × Meets (known s n) r b (number (payload_of (known s n) r) 2) × Meets (known s n) r c (number (payload_of (known s n) r) 4)
  unfolding right
  three-parts a b c e =
      let q = (and_parts (eqb (length (payload_of (known s n) r)) 6) _ (rights (three a b c) e)).1 in
      let z = (and_parts (meets (known s r) a (number (payload_of (known s n) r) 0)) _ q).1 in (
        meets-kept s r n le a _ (and_parts (meets (known s r) a (number (payload_of (known s n) r) 0)) _ q).0,
        meets-kept s r n le b _ (and_parts (meets (known s r) b (number (payload_of (known s n) r) 2)) _ z).0,
        meets-kept s r n le c _ (and_parts (meets (known s r) b (number (payload_of (known s n) r) 2)) _ z).1,
      )

-- THE GENERAL LAW: the node of record r is the constructor of its kind applied to the nodes of its references

data Agree (k : ℕ) : List (ℕ × Node) → List (ℕ × Node) → Type 0 where
  end : Agree k [] []
  row : {j : ℕ} {x y : Node} {xs ys : List (ℕ × Node)} → (k ≡ j → x ≡ y) → Agree k xs ys → Agree k ((j, x) ∷ xs) ((j, y) ∷ ys)

agree : (k : ℕ) (xs ys : List (ℕ × Node)) → Agree k xs ys → row_of k xs ≡ row_of k ys
agree k xs ys end = refl
agree k xs ys (row {j = j} {x = x} {y = y} {xs = xs'} {ys = ys'} h a) = go (eqb k j) refl (agree k xs' ys' a)
  where
    go : (b : Bool) → eqb k j ≡ b → row_of k xs' ≡ row_of k ys' → cond b x (row_of k xs') ≡ cond b y (row_of k ys')
    go true e q = h (eqb-true k j e)
    go false e q = q

module _ (s : Bytes) (n : ℕ) (h : Sound s n) (r : ℕ) (l : r < n) where
  q : (a : ℕ) → a < r → lookup (take r (nodes (known s n))) a ≡ lookup (nodes (known s n)) a
  q a m = earlier-is (known s n) r a m

  pub node_law : lookup (nodes (known s n)) r ≡ node (lookup (nodes (known s n))) r (record_of (known s n) r)
  unfolding node rows shape
  node_law =
      node-is (known s n) r (omega (arith, count-known s n))
      ∙ agree (kind_of (known s n) r) (rows (lookup (take r (nodes (known s n)))) r (record_of (known s n) r).slot (payload_of (known s n) r)) (rows (lookup (nodes (known s n))) r (record_of (known s n) r).slot (payload_of (known s n) r)) (row
      (λ e. refl)
      (row
      (λ e. refl)
      (row
      (λ e. refl)
      (row
      (λ e. let m = one-part s n h r l instruction (ap shape e) in λ i. D.Node.string (embedded r (as_instruction (q _ m.0 i))))
      (row
      (λ e. let m = two-parts s n h r l string string (ap shape e) in λ i. D.Node.string (join r (as_string (q _ m.0.0 i)) (as_string (q _ m.1.0 i))))
      (row
      (λ e. refl)
      (row
      (λ e. let m = two-parts s n h r l string list (ap shape e) in λ i. D.Node.list (field r (as_string (q _ m.0.0 i)) (as_list (q _ m.1.0 i))))
      (row
      (λ e. let m = two-parts s n h r l string list (ap shape e) in λ i. D.Node.list (split r (as_string (q _ m.0.0 i)) (as_list (q _ m.1.0 i))))
      (row
      (λ e. let m = two-parts s n h r l name string (ap shape e) in λ i. D.Node.instruction (assign r (record_of (known s n) r).slot (as_string (q _ m.1.0 i))))
      (row
      (λ e. refl)
      (row
      (λ e. let m = two-parts s n h r l instruction instruction (ap shape e) in λ i. D.Node.instruction (sequence r (as_instruction (q _ m.0.0 i)) (as_instruction (q _ m.1.0 i))))
      (row
      (λ e. let m = one-part s n h r l instruction (ap shape e) in λ i. D.Node.instruction (subshell r (as_instruction (q _ m.0 i))))
      (row
      (λ e. let m = one-part s n h r l instruction (ap shape e) in λ i. D.Node.instruction (not r (as_instruction (q _ m.0 i))))
      (row
      (λ e. let m = three-parts s n h r l instruction instruction instruction (ap shape e) in λ i. D.Node.instruction (if r (as_instruction (q _ m.0.0 i)) (as_instruction (q _ m.1.0 i)) (as_instruction (q _ m.2.0 i))))
      (row
      (λ e. let m = one-part s n h r l instruction (ap shape e) in λ i. D.Node.instruction (nooutput r (as_instruction (q _ m.0 i))))
      (row
      (λ e. let m = two-parts s n h r l instruction instruction (ap shape e) in λ i. D.Node.instruction (pipe r (as_instruction (q _ m.0.0 i)) (as_instruction (q _ m.1.0 i))))
      (row
      (λ e. let m = two-parts s n h r l name list (ap shape e) in λ i. D.Node.instruction (utility r (bytes_of (as_string (q _ m.0.0 i))) (as_list (q _ m.1.0 i))))
      (row
      (λ e. let m = two-parts s n h r l name list (ap shape e) in λ i. D.Node.instruction (call r (bytes_of (as_string (q _ m.0.0 i))) (as_list (q _ m.1.0 i))))
      (row
      (λ e. let m = three-parts s n h r l name list instruction (ap shape e) in λ i. D.Node.instruction (for r (record_of (known s n) r).slot (as_list (q _ m.1.0 i)) (as_instruction (q _ m.2.0 i))))
      (row
      (λ e. let m = two-parts s n h r l instruction instruction (ap shape e) in λ i. D.Node.instruction (while r (as_instruction (q _ m.0.0 i)) (as_instruction (q _ m.1.0 i))))
      (row
      (λ e. refl)
      (row
      (λ e. refl)
      (row
      (λ e. refl)
      (end))))))))))))))))))))))))
