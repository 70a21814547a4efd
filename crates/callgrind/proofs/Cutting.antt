-- A text of lines is cut into those lines, where none of them has a byte 10 in it.
use Prim.Native.Nat.{ℕ, suc, ◌≤◌}
use native.Mathlib.Omega.{arith}
use native.Mathlib.Decide.{ℕ_discrete}
use mathlib.Core.Path.{◌≡◌, refl, sym, ap, ◌∙◌, subst}
use mathlib.Core.Bool.{Bool, true, false, cond, ◌&&◌, true≢false}
use mathlib.Core.List.{List, [], ◌∷◌, ◌++◌, append_assoc, append-nil}
use lib.Dec.{eqb}
use borrow.Author.Tests.{ne_eqb}
use Rattle.rules.specs.Lists.{Every}
use Rattle.rules.specs.Syntax.{Bytes}
use Rattle.rules.specs.Graph.{Edge, Block, Graph}
use Rattle.rules.proofs.Lists.{every_append}
use Rattle.sheet.specs.Format.{is_first, is_later, all_later, is_name}
use Rattle.text.specs.Decimal.{decimal}
use Rattle.text.proofs.Theorems.{decimal_is_digits_lem}
use Rattle.callgrind.specs.File.{header, main_name, definitions, edges_lines, blocks_lines, ending, file_lines, ended}
use Rattle.callgrind.specs.Reading.{lines_behind, lines_of}

abbrev no_end : Bytes → Bool
no_end [] = true
no_end (c ∷ cs) = cond (eqb c 10) false (no_end cs)

abbrev pub IsLine : Bytes → Type 0
IsLine l = no_end l ≡ true

cut-one : (seen l rest : Bytes) → IsLine l → lines_behind seen (l ++ 10 ∷ rest) ≡ (seen ++ l) ∷ lines_behind [] rest
unfolding lines_behind
cut-one seen [] rest h = ap (λ (s : Bytes). s ∷ lines_behind [] rest) (sym (append-nil seen))
cut-one seen (c ∷ l) rest h = go (eqb c 10) h (cut-one (seen ++ c ∷ []) l rest)
  where
    go : (b : Bool) → cond b false (no_end l) ≡ true
        → (IsLine l → lines_behind (seen ++ c ∷ []) (l ++ 10 ∷ rest) ≡ ((seen ++ c ∷ []) ++ l) ∷ lines_behind [] rest)
        → cond b (seen ∷ lines_behind [] (l ++ 10 ∷ rest)) (lines_behind (seen ++ c ∷ []) (l ++ 10 ∷ rest)) ≡ (seen ++ c ∷ l) ∷ lines_behind [] rest
    go true k q = absurd (true≢false (sym k))
    go false k q = q k ∙ ap (λ (s : Bytes). s ∷ lines_behind [] rest) (append_assoc seen (c ∷ []) l)

pub lines_back : (ls : List Bytes) → Every IsLine ls → lines_of (ended ls) ≡ ls
unfolding lines_behind ended
lines_back [] h = refl
lines_back (l ∷ ls) h = cut-one [] l (ended ls) h.0 ∙ ap (λ (ms : List Bytes). l ∷ ms) (lines_back ls h.1)

-- WORDS, NUMBERS, NAMES

line-append : (s t : Bytes) → IsLine s → IsLine t → IsLine (s ++ t)
line-append [] t h k = k
line-append (c ∷ s) t h k = go (eqb c 10) h (line-append s t)
  where
    go : (b : Bool) → cond b false (no_end s) ≡ true → (IsLine s → IsLine t → IsLine (s ++ t)) → cond b false (no_end (s ++ t)) ≡ true
    go true h q = h
    go false h q = q h k

digits-line : (s : Bytes) → Every (λ c. (48 ≤ c) × (c ≤ 57)) s → IsLine s
digits-line [] a = refl
digits-line (c ∷ s) a = let l = a.0.0 in rw (ne_eqb c 10 (λ e. omega arith)) (digits-line s a.1)

number-line : (n : ℕ) → IsLine (decimal n)
number-line n = digits-line (decimal n) (decimal_is_digits_lem n)

later-end : (c : ℕ) → is_later c ≡ true → eqb c 10 ≡ false
unfolding is_later is_first
later-end c h = go (ℕ_discrete c 10)
  where
    go : Dec (c ≡ 10) → eqb c 10 ≡ false
    go (yes e) = absurd (true≢false (sym (subst (λ (k : ℕ). is_later k ≡ true) e h)))
    go (no e) = ne_eqb c 10 e

both : (a b : Bool) → a && b ≡ true → (a ≡ true) × (b ≡ true)
both true b h = (refl, h)
both false b h = absurd (true≢false (sym h))

first-later : (c : ℕ) → is_first c ≡ true → is_later c ≡ true
unfolding is_later
first-later c h = rw h

later-line : (s : Bytes) → all_later s ≡ true → IsLine s
unfolding all_later
later-line [] h = refl
later-line (c ∷ s) h = let p = both (is_later c) (all_later s) h in rw (later-end c p.0) (later-line s p.1)

-- a function's name
pub name-line : (s : Bytes) → is_name s ≡ true → IsLine s
unfolding is_name
name-line [] h = refl
name-line (c ∷ s) h = let p = both (is_first c) (all_later s) h in rw (later-end c (first-later c p.0)) (later-line s p.1)

-- THE FILE

id_line : (id : ℕ) → IsLine (decimal id ++ 41 ∷ [])
id_line id = line-append (decimal id) (41 ∷ []) (number-line id) refl

definitions_lines : (id : ℕ) (names : List Bytes) → Every IsLine names → Every IsLine (definitions id names)
unfolding definitions
definitions_lines id [] h = tt
definitions_lines id (name ∷ names) h =
    (line-append (decimal id ++ 41 ∷ 32 ∷ []) name (line-append (decimal id) (41 ∷ 32 ∷ []) (number-line id) refl) h.0, definitions_lines (suc id) names h.1)

edges_lines_lem : (es : List Edge) → Every IsLine (edges_lines es)
unfolding edges_lines
edges_lines_lem [] = tt
edges_lines_lem (e ∷ es) =
    (id_line (suc e.callee), (line-append (decimal e.calls) (32 ∷ 48 ∷ []) (number-line e.calls) refl, (number-line e.inclusive, edges_lines_lem es)))

blocks_lines_lem : (id : ℕ) (bs : List Block) → Every IsLine (blocks_lines id bs)
unfolding blocks_lines
blocks_lines_lem id [] = tt
blocks_lines_lem id (b ∷ bs) =
    (refl, (id_line id, (number-line b.own, every_append IsLine (edges_lines b.edges) (blocks_lines (suc id) bs) (edges_lines_lem b.edges) (blocks_lines_lem (suc id) bs))))

pub file_lines_lem : (g : Graph) → Every IsLine g.names → Every IsLine (file_lines g)
unfolding file_lines
file_lines_lem g h =
    every_append IsLine (header g.steps ++ definitions 1 (main_name ∷ g.names) ++ blocks_lines 1 g.blocks) (ending g.steps)
    (every_append IsLine (header g.steps ++ definitions 1 (main_name ∷ g.names)) (blocks_lines 1 g.blocks)
    (every_append IsLine (header g.steps) (definitions 1 (main_name ∷ g.names))
    (refl, (refl, (refl, (refl, (refl, (number-line g.steps, (refl, (refl, tt))))))))
    (definitions_lines 1 (main_name ∷ g.names) (refl, h)))
    (blocks_lines_lem 1 g.blocks))
    (refl, (number-line g.steps, tt))
