-- What a check knows of the bytes of a well-formed list of records decodes to the program of that list.
use mathlib.Core.Path.{◌≡◌, refl, sym, ap, ◌∙◌, subst}
use mathlib.Core.Bool.{Bool, true, false, cond}
use mathlib.Core.List.{List, [], ◌∷◌, ◌++◌, map, append-nil}
use Prim.Native.Nat.{ℕ, zero, suc, ◌+◌, ◌-◌, ◌<◌, ◌≤◌}
use native.Mathlib.Nat.{add-zero}
use native.Mathlib.Omega.{arith}
use lib.Dec.{eqb}
use lib.ListN.{length, length-append, get_or-map}
use borrow.Author.Tests.{eqb-true}
use Rattle.std.proofs.lemmas.List.{map-append}
use Rattle.std.proofs.lemmas.Bool.{or_parts, or_right}
use Rattle.rules.specs.Syntax.{Bytes}
use Rattle.rules.specs.Words.{same}
use Rattle.sheet.specs.Format.{number, place, names_variable}
use Rattle.sheet.specs.Nodes.{Node, as_instruction, lookup, rows, node_of}
use Rattle.sheet.specs.Check.{Rec, Known, Checked, no_rec, known, next, count, payload_of, slot_here, record_here, function_here, known_in, known_of}
use Rattle.sheet.specs.Decode.{node, nodes_from, nodes, function_of, program}
use Rattle.sheet.specs.WellFormed.{Item, write, item_of, items_of, item, kind_at, payload_at, part_at, name_at, variables_to, added, WellFormed}
use Rattle.sheet.specs.Programs.{slot_at, nodes_to, body_at, defined_to, program_of}
use Rattle.sheet.proofs.Records.{count-known}
use Rattle.sheet.proofs.Sound.{place_most}
use Rattle.rules.proofs.Slices.{same_self}
use Rattle.sheet.proofs.Linked.{item_here, named, kind_of_lem, payload_of_lem, part_of, name_of, variables_of}
use Rattle.sheet.proofs.ReadBack.{agree}
use Rattle.sheet.proofs.Verdicts.{added-above, early_holds}
use Rattle.sheet.proofs.ToSheet.{all-items, well_formed_known}

-- SLOTS: the slot that the walk gives a name is the name's place among all names

place_kept : (x : Bytes) (xs ys : List Bytes) → place x xs < length xs → place x (xs ++ ys) ≡ place x xs
unfolding place
place_kept x [] ys h = absurd (omega arith)
place_kept x (z ∷ xs) ys h = go (same z x) h (place_kept x xs ys)
  where
    go : (b : Bool) → cond b 0 (suc (place x xs)) < suc (length xs) → (place x xs < length xs → place x (xs ++ ys) ≡ place x xs)
        → cond b 0 (suc (place x (xs ++ ys))) ≡ cond b 0 (suc (place x xs))
    go true l k = refl
    go false l k = ap suc (k (omega arith))

place_new : (x : Bytes) (xs : List Bytes) → place x xs ≡ length xs → place x (xs ++ x ∷ []) ≡ length xs
unfolding place
place_new x [] e = rw (same_self x)
place_new x (z ∷ xs) e = go (same z x) e (place_new x xs)
  where
    go : (b : Bool) → cond b 0 (suc (place x xs)) ≡ suc (length xs) → (place x xs ≡ length xs → place x (xs ++ x ∷ []) ≡ length xs)
        → cond b 0 (suc (place x (xs ++ x ∷ []))) ≡ suc (length xs)
    go true h k = absurd (omega (arith, h))
    go false h k = ap suc (k (omega (arith, h)))

module _ (rs : List Item) (x : Bytes) (p : ℕ) where
  -- x is one of xs, at place p
  abbrev At : List Bytes → Type 0
  At xs = (place x xs ≡ p) × (p < length xs)

  at_more : (xs : List Bytes) (y : Bytes) → At xs → At (xs ++ y ∷ [])
  at_more xs y a = (place_kept x xs (y ∷ []) (omega (arith, a.0, a.1)) ∙ a.0, omega (arith, a.1, length-append xs (y ∷ [])))

  at_added : (y : Bytes) (xs : List Bytes) → At xs → At (added rs y xs)
  unfolding added
  at_added y xs a = go (eqb (place y xs) (length xs))
    where
      go : (b : Bool) → At (cond b (xs ++ y ∷ []) xs)
      go true = at_more xs y a
      go false = a

  at_next : (n : ℕ) → At (variables_to rs n) → At (variables_to rs (suc n))
  unfolding variables_to
  at_next n a = go (names_variable (kind_at rs n))
    where
      go : (b : Bool) → At (cond b (added rs (name_at rs n) (variables_to rs n)) (variables_to rs n))
      go true = at_added (name_at rs n) (variables_to rs n) a
      go false = a

  at-later : (n d : ℕ) → At (variables_to rs n) → At (variables_to rs (n + d))
  at-later n zero a = subst (λ (k : ℕ). At (variables_to rs k)) (sym (add-zero n)) a
  at-later n (suc d) a = let e : n + suc d ≡ suc (n + d) = omega arith in subst (λ (k : ℕ). At (variables_to rs k)) (sym e) (at_next (n + d) (at-later n d a))

-- a name that was looked for and, where it was none of them, added
at_once : (rs : List Item) (x : Bytes) (xs : List Bytes) → At rs x (place x xs) (added rs x xs)
unfolding added
at_once rs x xs = (go (eqb (place x xs) (length xs)) refl, added-above rs x xs (place_most x xs))
  where
    go : (b : Bool) → eqb (place x xs) (length xs) ≡ b → place x (cond b (xs ++ x ∷ []) xs) ≡ place x xs
    go true e = let q = eqb-true (place x xs) (length xs) e in place_new x xs q ∙ sym q
    go false e = refl

at_first : (rs : List Item) (n : ℕ) → names_variable (kind_at rs n) ≡ true → At rs (name_at rs n) (place (name_at rs n) (variables_to rs n)) (variables_to rs (suc n))
unfolding variables_to
at_first rs n e = rw e (at_once rs (name_at rs n) (variables_to rs n))

slot_final : (rs : List Item) (n : ℕ) → n < length rs → names_variable (kind_at rs n) ≡ true → place (name_at rs n) (variables_to rs n) ≡ slot_at rs n
slot_final rs n l e =
    let d : suc n + (length rs - suc n) ≡ length rs = omega arith in
    sym (at-later rs (name_at rs n) (place (name_at rs n) (variables_to rs n)) (suc n) (length rs - suc n) (at_first rs n e)).0
    ∙ ap (λ (k : ℕ). place (name_at rs n) (variables_to rs k)) d

-- NODES

-- the slot matters only where a variable is named
slot-unread : (earlier : ℕ → Node) (r i j k : ℕ) (p : Bytes) → names_variable k ≡ false → node_of earlier r i k p ≡ node_of earlier r j k p
unfolding rows names_variable
slot-unread earlier r i j k p e =
    let a = or_parts (eqb k 2) _ e in
    let b = or_parts (eqb k 16) _ a.1 in
    let c = or_parts (eqb k 17) _ b.1 in
    rw (a.0, b.0, c.0, c.1)

nodes_snoc : (ns : List Node) (cs : List Rec) (c : Rec)
    → nodes_from ns (cs ++ c ∷ []) ≡ nodes_from ns cs ++ node (lookup (nodes_from ns cs)) (length (nodes_from ns cs)) c ∷ []
unfolding nodes_from
nodes_snoc ns [] c = refl
nodes_snoc ns (d ∷ cs) c = nodes_snoc (ns ++ node (lookup ns) (length ns) d ∷ []) cs c

nodes-many : (rs : List Item) (n : ℕ) → length (nodes_to rs n) ≡ n
unfolding nodes_to
nodes-many rs zero = refl
nodes-many rs (suc n) = length-append (nodes_to rs n) _ ∙ ap (λ (k : ℕ). k + 1) (nodes-many rs n) ∙ omega arith

-- THE PROGRAM

module _ (s : Bytes) (rs : List Item) (agree : (n : ℕ) → n < length rs → item_here s (known s n) ≡ item rs n)
    (early : (n : ℕ) → n < length rs → named (kind_at rs n) ≡ true → part_at rs n 0 < n) where
  abbrev K : Known
  K = known s (length rs)

  slot_of : (n : ℕ) → n < length rs → names_variable (kind_at rs n) ≡ true → slot_here s (known s n) ≡ slot_at rs n
  slot_of n l e =
      let m : named (kind_at rs n) ≡ true = rw e in
      (λ i. place (name_of s rs (length rs) agree early n l m i) (variables_of s rs (length rs) agree early n (omega arith) i))
      ∙ slot_final rs n l e

  node_of_lem : (n : ℕ) → n < length rs → (look : ℕ → Node)
      → node look n (record_here s (known s n)) ≡ node_of look n (slot_at rs n) (kind_at rs n) (payload_at rs n)
  unfolding node
  node_of_lem n l look =
      (λ i. let k = kind_of_lem s rs (length rs) agree n l i in node_of look n (cond (names_variable k) (slot_here s (known s n)) 0) k (payload_of_lem s rs (length rs) agree n l i))
      ∙ go (names_variable (kind_at rs n)) refl
    where
      go : (b : Bool) → names_variable (kind_at rs n) ≡ b
          → node_of look n (cond b (slot_here s (known s n)) 0) (kind_at rs n) (payload_at rs n) ≡ node_of look n (slot_at rs n) (kind_at rs n) (payload_at rs n)
      go true e = ap (λ (j : ℕ). node_of look n j (kind_at rs n) (payload_at rs n)) (slot_of n l e)
      go false e = slot-unread look n 0 (slot_at rs n) (kind_at rs n) (payload_at rs n) e

  nodes_of : (n : ℕ) → n ≤ length rs → nodes (known s n) ≡ nodes_to rs n
  unfolding known next nodes nodes_from nodes_to
  nodes_of zero l = refl
  nodes_of (suc n) l =
      nodes_snoc [] (known s n).records (record_here s (known s n))
      ∙ ap (λ (ns : List Node). ns ++ node (lookup ns) (length ns) (record_here s (known s n)) ∷ []) (nodes_of n (omega arith))
      ∙ ap (λ (k : ℕ). nodes_to rs n ++ node (lookup (nodes_to rs n)) k (record_here s (known s n)) ∷ []) (nodes-many rs n)
      ∙ ap (λ (x : Node). nodes_to rs n ++ x ∷ []) (node_of_lem n l (lookup (nodes_to rs n)))

  all-nodes : nodes K ≡ nodes_to rs (length rs)
  all-nodes = nodes_of (length rs) (omega arith)

  defined_of : (n : ℕ) → n ≤ length rs → map (function_of K) (known s n).functions ≡ defined_to rs n
  unfolding known next defined_to
  defined_of zero l = refl
  defined_of (suc n) l =
      ap (λ (k : ℕ). map (function_of K) (cond (eqb k 32) ((known s n).functions ++ function_here s (known s n) ∷ []) (known s n).functions)) (kind_of_lem s rs (length rs) agree n l)
      ∙ go (eqb (kind_at rs n) 32) refl (defined_of n (omega arith))
    where
      function-named : (k : ℕ) → eqb k 32 ≡ true → named k ≡ true
      function-named k e = or_right (names_variable k) (eqb k 32) e

      go : (b : Bool) → eqb (kind_at rs n) 32 ≡ b → map (function_of K) (known s n).functions ≡ defined_to rs n
          → map (function_of K) (cond b ((known s n).functions ++ function_here s (known s n) ∷ []) (known s n).functions)
          ≡ cond b (defined_to rs n ++ record { name = name_at rs n; body = body_at rs n 2 } ∷ []) (defined_to rs n)
      go true e q =
          map-append (function_of K) (known s n).functions ((function_here s (known s n)) ∷ [])
          ∙ (λ i. q i ++ record {
            name = name_of s rs (length rs) agree early n l (function-named (kind_at rs n) e) i;
            body = as_instruction (lookup (all-nodes i) (part_of s rs (length rs) agree n 2 l i));
          } ∷ [])
      go false e q = q

  main_of : items_of K ≡ rs → payload_of K (count K - 1) ≡ payload_at rs (length rs - 1)
  main_of e =
      ap (λ (k : ℕ). payload_of K (k - 1)) (count-known s (length rs))
      ∙ sym (ap (λ (c : Item). c.payload) (get_or-map item_of K.records (length rs - 1) no_rec))
      ∙ ap (λ (x : List Item). payload_at x (length rs - 1)) e

  program-is : items_of K ≡ rs → program K ≡ program_of rs
  unfolding program program_of
  program-is e = λ i. record {
    functions = defined_of (length rs) (omega arith) i;
    main = as_instruction (lookup (all-nodes i) (number (main_of e i) 0));
    slots = variables_of s rs (length rs) agree early (length rs) (omega arith) i;
  }

pub program_of_records_lem : (rs : List Item) → WellFormed rs → program (known_of (write rs)) ≡ program_of rs
unfolding known_of
program_of_records_lem rs f =
    let all = sym (append-nil (write rs)) in
    ap (λ (c : Checked). program (known_in c)) (well_formed_known rs f)
    ∙ program-is (write rs) rs (agree (write rs) rs [] all) (λ n l. early_holds rs n (f.holds n l)) (all-items (write rs) rs [] all)
