-- The program of an accepted sheet keeps the limits: no text and no name is longer than 63 bytes.
use mathlib.Core.Path.{◌≡◌, refl, sym, subst}
use mathlib.Core.Bool.{Bool, true, false, cond}
use mathlib.Core.List.{List, [], ◌∷◌, map}
use Prim.Native.Nat.{ℕ, suc, ◌<◌, ◌≤◌}
use native.Mathlib.Omega.{arith}
use lib.Dec.{eqb}
use lib.ListN.{length, get_or, length-map}
use borrow.Author.Tests.{eqb-true}
use Rattle.rules.specs.Lists.{Every, Among, first, later}
use Rattle.rules.specs.Syntax.{Bytes, Function, text, variable, argument, embedded, join, empty, shift}
use Rattle.rules.specs.State.{Limits}
use Rattle.rules.specs.Genuine.{Node, str, lst, ins, children}
use Rattle.rules.specs.Fits.{FitsProgram}
use Rattle.rules.proofs.Lists.{every_get, every_append}
use Rattle.rules.proofs.Genuineness.{reached_all}
use Rattle.sheet.specs.Check.{Rec, Known, Variable, Defined, no_rec, no_defined, known, variable_names, accepted, check}
use Rattle.sheet.specs.Format.{number}
use Rattle.sheet.specs.Nodes.{row_of, rows, lookup, as_string, as_list, as_instruction}
use Rattle.sheet.specs.Decode.{node, nodes, nodes_from, function_of, main_body, program}
use Rattle.sheet.specs.Nodes as D
use Rattle.sheet.specs.Exact.{Passes}
use Rattle.sheet.proofs.Records.{count-known}
use Rattle.sheet.proofs.Sound.{Sound, sound_short}
use Rattle.sheet.proofs.Explains.{accepted-parts}
use Rattle.sheet.proofs.Loading.{names-short}
use Rattle.sheet.proofs.NameLaws.{functions-named}

-- LISTS

among_every : {A : Type 0} (P : A → Type 0) (xs : List A) (x : A) → Every P xs → Among x xs → P x
among_every P [] y h m = elim m [ ]
among_every P (x ∷ xs) y h first = h.0
among_every P (x ∷ xs) y h (later m) = among_every P xs y h.1 m

every_at : {A : Type 0} (P : A → Type 0) (d : A) (xs : List A) → ((i : ℕ) → i < length xs → P (get_or xs i d)) → Every P xs
every_at P d [] h = tt
every_at P d (x ∷ xs) h = (h 0 (omega arith), every_at P d xs (λ i l. h (suc i) (omega arith)))

-- a pair, so that a long one is written in rows
infixr 40 ◌also◌
◌also◌ : {A B : Type 0} → A → B → A × B
◌also◌ a b = (a, b)

-- NODES WHOSE TEXTS ARE SHORT

abbrev ShortText : Node → Type 0
ShortText (str (text at s)) = length s ≤ 63
ShortText (str (variable at x)) = Unit {0}
ShortText (str (argument at n)) = Unit {0}
ShortText (str (embedded at i)) = Unit {0}
ShortText (str (join at s t)) = Unit {0}
ShortText (lst l) = Unit {0}
ShortText (ins i) = Unit {0}

-- of the node and of all its parts
data Tidy : Node → Type 0 where
  tidy : (n : Node) → ShortText n → ((c : Node) → Among c (children n) → Tidy c) → Tidy n

made : (n : Node) → ShortText n → Every Tidy (children n) → Tidy n
made n s h = tidy n s (λ c m. among_every Tidy (children n) c h m)

parts_tidy : (parent n : Node) → Tidy parent → Among n (children parent) → Tidy n
parts_tidy parent n (tidy _ s h) m = h n m

text_tidy : (at : ℕ) (s : Bytes) → Tidy (str (text at s)) → length s ≤ 63
text_tidy at s (tidy _ h k) = h

-- THE NODES OF A SHEET

abbrev Good : D.Node → Type 0
Good (D.string x) = Tidy (str x)
Good (D.list x) = Tidy (lst x)
Good (D.instruction x) = Tidy (ins x)
Good D.none = Unit {0}

good-string : (n : D.Node) → Good n → Tidy (str (as_string n))
good-string (D.string x) h = h
good-string (D.list x) h = made (str (text 0 [])) (omega arith) tt
good-string (D.instruction x) h = made (str (text 0 [])) (omega arith) tt
good-string D.none h = made (str (text 0 [])) (omega arith) tt

good-list : (n : D.Node) → Good n → Tidy (lst (as_list n))
good-list (D.string x) h = made (lst (empty 0)) tt tt
good-list (D.list x) h = h
good-list (D.instruction x) h = made (lst (empty 0)) tt tt
good-list D.none h = made (lst (empty 0)) tt tt

good-instruction : (n : D.Node) → Good n → Tidy (ins (as_instruction n))
good-instruction (D.string x) h = made (ins (shift 0 0)) tt tt
good-instruction (D.list x) h = made (ins (shift 0 0)) tt tt
good-instruction (D.instruction x) h = h
good-instruction D.none h = made (ins (shift 0 0)) tt tt

row-good : (k : ℕ) (table : List (ℕ × D.Node)) → Every (λ (row : ℕ × D.Node). k ≡ row.0 → Good row.1) table → Good (row_of k table)
row-good k [] h = tt
row-good k (row ∷ table) h = go (eqb k row.0) refl (row-good k table h.1)
  where
    go : (b : Bool) → eqb k row.0 ≡ b → Good (row_of k table) → Good (cond b row.1 (row_of k table))
    go true e g = h.0 (eqb-true k row.0 e)
    go false e g = g

-- a text record is short
abbrev Fine : Rec → Type 0
Fine c = c.kind ≡ 1 → length c.payload ≤ 63

module _ (earlier : ℕ → D.Node) (h : (r : ℕ) → Good (earlier r)) (r : ℕ) (c : Rec) (f : Fine c) where
  string-at : (i : ℕ) → Tidy (str (as_string (earlier (number c.payload i))))
  string-at i = good-string (earlier (number c.payload i)) (h (number c.payload i))

  list_at_lem : (i : ℕ) → Tidy (lst (as_list (earlier (number c.payload i))))
  list_at_lem i = good-list (earlier (number c.payload i)) (h (number c.payload i))

  body_at : (i : ℕ) → Tidy (ins (as_instruction (earlier (number c.payload i))))
  body_at i = good-instruction (earlier (number c.payload i)) (h (number c.payload i))

  node-good : Good (node earlier r c)
  unfolding node rows
  node-good =
      row-good c.kind (rows earlier r c.slot c.payload)
      ((λ e. made _ (f e) tt)
      also (λ e. made _ tt tt)
      also (λ e. made _ tt tt)
      also (λ e. made _ tt (body_at 0, tt))
      also (λ e. made _ tt (string-at 0, (string-at 2, tt)))
      also (λ e. made _ tt tt)
      also (λ e. made _ tt (string-at 0, (list_at_lem 2, tt)))
      also (λ e. made _ tt (string-at 0, (list_at_lem 2, tt)))
      also (λ e. made _ tt (string-at 2, tt))
      also (λ e. made _ tt tt)
      also (λ e. made _ tt (body_at 0, (body_at 2, tt)))
      also (λ e. made _ tt (body_at 0, tt))
      also (λ e. made _ tt (body_at 0, tt))
      also (λ e. made _ tt (body_at 0, (body_at 2, (body_at 4, tt))))
      also (λ e. made _ tt (body_at 0, tt))
      also (λ e. made _ tt (body_at 0, (body_at 2, tt)))
      also (λ e. made _ tt (list_at_lem 2, tt))
      also (λ e. made _ tt (list_at_lem 2, tt))
      also (λ e. made _ tt (list_at_lem 2, (body_at 4, tt)))
      also (λ e. made _ tt (body_at 0, (body_at 2, tt)))
      also (λ e. made _ tt tt)
      also (λ e. made _ tt tt)
      also (λ e. made _ tt tt)
      also tt)

nodes-good : (cs : List Rec) (ns : List D.Node) → Every Fine cs → Every Good ns → Every Good (nodes_from ns cs)
unfolding nodes_from
nodes-good [] ns f h = h
nodes-good (c ∷ cs) ns f h =
    nodes-good cs _ f.1
    (every_append Good ns _ h (node-good (lookup ns) (λ r. every_get Good ns r D.none tt h) (length ns) c f.0, tt))

body-good : (K : Known) → Every Fine K.records → (r : ℕ) → Tidy (ins (as_instruction (lookup (nodes K) r)))
unfolding nodes
body-good K f r = good-instruction (lookup (nodes K) r) (every_get Good (nodes K) r D.none tt (nodes-good K.records [] f tt))

-- THE PROGRAM

module _ (limits : Limits) (long : 63 ≤ limits.string) (K : Known) (f : Every Fine K.records) (h : Every (λ (d : Defined). length d.name ≤ 63) K.functions) where
  bodies_good : (ds : List Defined) (g : Function) → Among g (map (function_of K) ds) → Tidy (ins g.body)
  bodies_good [] g m = elim m [ ]
  bodies_good (d ∷ ds) g first = body-good K f d.body
  bodies_good (d ∷ ds) g (later m) = bodies_good ds g m

  name-good : (ds : List Defined) → Every (λ (d : Defined). length d.name ≤ 63) ds → (g : Function) → Among g (map (function_of K) ds) → length g.name ≤ 63
  name-good [] q g m = elim m [ ]
  name-good (d ∷ ds) q g first = q.0
  name-good (d ∷ ds) q g (later m) = name-good ds q.1 g m

  program-fits : FitsProgram limits (program K)
  unfolding program
  program-fits = record {
    texts = λ at s r.
        omega (arith, text_tidy at s (reached_all (program K) Tidy (body-good K f (main_body K)) (bodies_good K.functions) parts_tidy (str (text at s)) r));
    names = λ g m. omega (arith, name-good K.functions h g m);
  }

-- AN ACCEPTED SHEET

module _ (s : Bytes) (n : ℕ) (h : Sound s n) (p : Passes s n) where
  records-fine : Every Fine (known s n).records
  records-fine = every_at Fine no_rec (known s n).records (λ r l e. sound_short s n h r (omega (arith, count-known s n)) e)

  names-fine : Every (λ (d : Defined). length d.name ≤ 63) (known s n).functions
  names-fine = every_at _ no_defined (known s n).functions (λ f l.
      let t = (functions-named s n p f l).0 in
      subst (λ (x : Bytes). length x ≤ 63) t.is (sound_short s n h _ (let z = t.earlier in omega (arith, count-known s n)) t.kind))

pub accepted-fits : (limits : Limits) → 63 ≤ limits.string → (s : Bytes) (K : Known) → check s ≡ accepted K → FitsProgram limits (program K)
accepted-fits limits long s K e =
    let a = accepted-parts s K e in
    subst (λ (x : Known). FitsProgram limits (program x)) (sym a.is)
    (program-fits limits long (known s a.n) (records-fine s a.n a.sound a.passes) (names-fine s a.n a.sound a.passes))

pub accepted-names : (s : Bytes) (K : Known) → check s ≡ accepted K → Every (λ (x : Bytes). length x ≤ 63) (program K).slots × (length (program K).slots ≤ 16)
unfolding program
accepted-names s K e =
    let a = accepted-parts s K e in
    subst (λ (x : Known). Every (λ (y : Bytes). length y ≤ 63) (variable_names x) × (length (variable_names x) ≤ 16)) (sym a.is)
    (let m = length-map (known s a.n).variables (λ (v : Variable). v.name) in (
      every_at _ [] (variable_names (known s a.n)) (λ i l. names-short s a.n a.sound a.passes i (omega arith)),
      omega (arith, a.sound.variables),
    ))

pub accepted-functions : (s : Bytes) (K : Known) → check s ≡ accepted K → length (program K).functions ≤ 32
unfolding program
accepted-functions s K e =
    let a = accepted-parts s K e in
    subst (λ (x : Known). length (map (function_of x) x.functions) ≤ 32) (sym a.is)
    (omega (arith, length-map (known s a.n).functions (function_of (known s a.n)), a.sound.functions.few))
