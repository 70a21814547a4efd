-- The records of the program that a sheet stands for are records of the sheet: fewer than 512.
-- Assumes nothing.
use mathlib.Core.Bool.{Bool, true, false, cond}
use mathlib.Core.List.{List, [], ◌∷◌, ◌++◌, map}
use Prim.Native.Nat.{ℕ, ◌+◌, ◌<◌, ◌≤◌}
use native.Mathlib.Omega.{arith}
use lib.Dec.{eqb}
use lib.ListN.{length, length-append}
use Rattle.rules.specs.Lists.{Every, Among, first, later}
use Rattle.rules.specs.Syntax.{Bytes, Function}
use Rattle.rules.specs.Genuine.{str, lst, ins, record_of, children, Reached}
use Rattle.rules.specs.Genuine as R
use Rattle.rules.proofs.Lists.{every_get, every_append}
use Rattle.rules.proofs.Genuineness.{reached_all}
use Rattle.sheet.specs.Check.{Rec, Known, Defined, Checked, count}
use Rattle.sheet.specs.Nodes.{Node, string, list, instruction, none, as_string, as_list, as_instruction, row_of, rows, lookup}
use Rattle.sheet.specs.Decode.{node, nodes_from, nodes, function_of, program}
use Rattle.sheet.specs.Exact.{Explained, too_long, stops, accepts}
use Rattle.sheet.proofs.Records.{count-known}
use Rattle.sheet.proofs.Explains.{explained}
use Rattle.sheet.specs.Check.{known_in, known_of}

module _ (n : ℕ) where
  -- a node and all below it are of records before n
  data Within : R.Node → Type 0 where
    within : {x : R.Node} → record_of x < n → ((y : R.Node) → Among y (children x) → Within y) → Within x

  -- the same of a record's node
  abbrev In : Node → Type 0
  In (string x) = Within (str x)
  In (list x) = Within (lst x)
  In (instruction x) = Within (ins x)
  In none = Unit {0}

  parts : (xs : List R.Node) → Every Within xs → (y : R.Node) → Among y xs → Within y
  parts [] h y a = elim a [ ]
  parts (x ∷ xs) h y first = h.0
  parts (x ∷ xs) h y (later a) = parts xs h.1 y a

  infixr 50 ◌▹◌
  -- of every row of a table of kinds
  data Rows : List (ℕ × Node) → Type 0 where
    done : Rows []
    ◌▹◌ : {k : ℕ} {x : Node} {xs : List (ℕ × Node)} → In x → Rows xs → Rows ((k, x) ∷ xs)

  row_in : (k : ℕ) (xs : List (ℕ × Node)) → Rows xs → In (row_of k xs)
  row_in k xs done = tt
  row_in k xs (◌▹◌ {k = j} {x = x} {xs = ys} h more) = go (eqb k j) (row_in k ys more)
    where
      go : (b : Bool) → In (row_of k ys) → In (cond b x (row_of k ys))
      go true r = h
      go false r = r

  module _ (some : 0 < n) where
    as_string_lem : (x : Node) → In x → Within (str (as_string x))
    as_string_lem (string x) h = h
    as_string_lem (list x) h = within some (parts [] tt)
    as_string_lem (instruction x) h = within some (parts [] tt)
    as_string_lem none h = within some (parts [] tt)

    as_list_lem : (x : Node) → In x → Within (lst (as_list x))
    as_list_lem (string x) h = within some (parts [] tt)
    as_list_lem (list x) h = h
    as_list_lem (instruction x) h = within some (parts [] tt)
    as_list_lem none h = within some (parts [] tt)

    as_instruction_lem : (x : Node) → In x → Within (ins (as_instruction x))
    as_instruction_lem (string x) h = within some (parts [] tt)
    as_instruction_lem (list x) h = within some (parts [] tt)
    as_instruction_lem (instruction x) h = h
    as_instruction_lem none h = within some (parts [] tt)

    module _ (earlier : ℕ → Node) (h : (a : ℕ) → In (earlier a)) (r : ℕ) (l : r < n) (c : Rec) where
      s : (a : ℕ) → Within (str (as_string (earlier a)))
      s a = as_string_lem (earlier a) (h a)

      t : (a : ℕ) → Within (lst (as_list (earlier a)))
      t a = as_list_lem (earlier a) (h a)

      i : (a : ℕ) → Within (ins (as_instruction (earlier a)))
      i a = as_instruction_lem (earlier a) (h a)

      node_in : In (node earlier r c)
      unfolding node rows
      node_in =
          row_in c.kind (rows earlier r c.slot c.payload)
          (within l (parts _ tt)
          ▹ within l (parts _ tt)
          ▹ within l (parts _ tt)
          ▹ within l (parts _ (i _, tt))
          ▹ within l (parts _ (s _, (s _, tt)))
          ▹ within l (parts _ tt)
          ▹ within l (parts _ (s _, (t _, tt)))
          ▹ within l (parts _ (s _, (t _, tt)))
          ▹ within l (parts _ (s _, tt))
          ▹ within l (parts _ tt)
          ▹ within l (parts _ (i _, (i _, tt)))
          ▹ within l (parts _ (i _, tt))
          ▹ within l (parts _ (i _, tt))
          ▹ within l (parts _ (i _, (i _, (i _, tt))))
          ▹ within l (parts _ (i _, tt))
          ▹ within l (parts _ (i _, (i _, tt)))
          ▹ within l (parts _ (t _, tt))
          ▹ within l (parts _ (t _, tt))
          ▹ within l (parts _ (t _, (i _, tt)))
          ▹ within l (parts _ (i _, (i _, tt)))
          ▹ within l (parts _ tt)
          ▹ within l (parts _ tt)
          ▹ within l (parts _ tt)
          ▹ done)

    lookup_in : (ns : List Node) → Every In ns → (a : ℕ) → In (lookup ns a)
    lookup_in ns h a = every_get In ns a none tt h

    nodes_in : (ns : List Node) (cs : List Rec) → Every In ns → length ns + length cs ≤ n → Every In (nodes_from ns cs)
    unfolding nodes_from
    nodes_in ns [] h l = h
    nodes_in ns (c ∷ cs) h l =
        nodes_in (ns ++ node (lookup ns) (length ns) c ∷ []) cs
        (every_append In ns _ h (node_in (lookup ns) (lookup_in ns h) (length ns) (omega arith) c, tt))
        (simp length-append (omega arith))

    module _ (K : Known) (few : count K ≤ n) where
      nodes_of : Every In (nodes K)
      unfolding nodes
      nodes_of = nodes_in [] K.records tt (omega arith)

      body_in_lem : (a : ℕ) → Within (ins (as_instruction (lookup (nodes K) a)))
      body_in_lem a = as_instruction_lem (lookup (nodes K) a) (lookup_in (nodes K) nodes_of a)

      functions_in : (fs : List Defined) (g : Function) → Among g (map (function_of K) fs) → Within (ins g.body)
      functions_in [] g a = elim a [ ]
      functions_in (f ∷ fs) g first = body_in_lem f.body
      functions_in (f ∷ fs) g (later a) = functions_in fs g a

      below : (x : R.Node) → Within x → record_of x < n
      below x (within l h) = l

      child : (parent x : R.Node) → Within parent → Among x (children parent) → Within x
      child parent x (within l h) a = h x a

      pub reached_below : (x : R.Node) → Reached (program K) x → record_of x < n
      unfolding program
      reached_below x r = below x (reached_all (program K) Within (body_in_lem _) (functions_in K.functions) child x r)

-- an accepted sheet has at most 512 records
few_of : {s : Bytes} {c : Checked} → Explained s c → count (known_in c) ≤ 512
few_of (too_long h) = omega arith
few_of (stops h p q) = omega arith
few_of {s} (accepts {n = n} h l p q m) = omega (arith, count-known s n)

few-records : (s : Bytes) → count (known_of s) ≤ 512
unfolding known_of
few-records s = few_of (explained s)

pub records_of_sheet : (s : Bytes) (x : R.Node) → Reached (program (known_of s)) x → record_of x < 512
records_of_sheet s = reached_below 512 (omega arith) (known_of s) (few-records s)
