-- How long a file can be: no figure has more than d digits, and ids have two at most. What the edges of a caller and the blocks can take is
-- given as a bound that leaves room for one more in front; the two bounds asked for are then instances.
use Prim.Native.Nat.{ℕ, suc, ◌≤◌, ◌<◌, ◌+◌, ◌*◌, ◌-◌}
use native.Mathlib.Omega.{arith}
use native.Mathlib.Decide.{dec_lt}
use native.Mathlib.Nat.{le_trans}
use mathlib.Core.List.{List, [], ◌∷◌, ◌++◌}
use mathlib.Core.Path.{◌≡◌, refl, ap, ◌∙◌}
use lib.ListN.{length, length-append}
use Rattle.rules.specs.Ascii.{ascii}
use Rattle.rules.specs.Lists.{Every}
use Rattle.rules.specs.Syntax.{Bytes}
use Rattle.rules.specs.Graph.{Edge, Block, Graph}
use Rattle.text.specs.Decimal.{decimal}
use Rattle.text.specs.Decimal as D
use Rattle.text.proofs.Digits.{one-small, decimal-length}
use Rattle.callgrind.specs.File.{function_line, cost_line, callee_line, calls_line, header, main_name, definition, definitions, edge_lines, edges_lines, blocks_lines, ending, file_lines, ended, file_of}
use Rattle.callgrind.specs.Within.{Rising, EdgeWithin, BlockWithin, Within}
use Rattle.callgrind.proofs.Lines.{ended-append}

-- LINES

size : List Bytes → ℕ
size ls = length (ended ls)

size-append : (ls ms : List Bytes) → size (ls ++ ms) ≡ size ls + size ms
unfolding size
size-append ls ms = ap length (ended-append ls ms) ∙ length-append (ended ls) (ended ms)

size-line : (l : Bytes) (ls : List Bytes) → size (l ∷ ls) ≡ length l + 1 + size ls
unfolding size ended
size-line l ls = length-append l (10 ∷ ended ls) ∙ omega arith

size_none : size [] ≡ 0
unfolding size ended
size_none = refl

-- IDS AND NAMES

-- an id has two digits, below 10 one less
id_room : (id : ℕ) → id ≤ 33 → length (decimal id) + (10 - id) ≤ 2 + (9 - id)
id_room id h = go (dec_lt id 10)
  where
    go : Dec (id < 10) → length (decimal id) + (10 - id) ≤ 2 + (9 - id)
    go (yes l) = omega (arith, one-small id l)
    go (no l) = omega (arith, decimal-length 1 id (omega arith))

names-size : (id : ℕ) (names : List Bytes) → id + length names ≤ 34 → Every (λ name. length name ≤ 63) names
    → size (definitions id names) + 72 * id + (10 - id) ≤ 2448
unfolding definitions
names-size id [] h s = omega (arith, size_none)
names-size id (name ∷ names) h s =
    omega (
      arith,
      size-line (definition id name) (definitions (suc id) names),
      length-append (decimal id ++ 41 ∷ 32 ∷ []) name,
      length-append (decimal id) (41 ∷ 32 ∷ []),
      s.0,
      id_room id (omega arith),
      names-size (suc id) names (omega arith) s.1,
    )

-- BLOCKS

module _ (most d : ℕ) (digits : (k : ℕ) → k ≤ most → length (decimal k) ≤ d) where
  edge-size : (e : Edge) (ls : List Bytes) → EdgeWithin most e
      → size (edge_lines e ++ ls) ≤ 19 + length (decimal (suc e.callee)) + d + d + size ls
  edge-size e ls w =
      omega (
        arith,
        size-line (callee_line (suc e.callee)) (calls_line e.calls ∷ cost_line e.inclusive ∷ ls),
        size-line (calls_line e.calls) (cost_line e.inclusive ∷ ls),
        size-line (cost_line e.inclusive) ls,
        length-append (decimal (suc e.callee)) (41 ∷ []),
        length-append (decimal e.calls) (32 ∷ 48 ∷ []),
        digits e.calls w.calls,
        digits e.inclusive w.inclusive,
      )

  -- room b is for the edges to b and the callees behind it, rest id for the blocks of id and those behind it
  module _ (room rest : ℕ → ℕ)
      (edge-fits : (b c : ℕ) → b ≤ c → c ≤ 32 → 19 + length (decimal (suc c)) + d + d + room (suc c) ≤ room b)
      (block-fits : (id : ℕ) → id ≤ 33 → 10 + length (decimal id) + d + room 1 + rest (suc id) ≤ rest id) where
    edges-size : (b n : ℕ) (es : List Edge) → n ≤ 32 → Rising b n es → Every (EdgeWithin most) es → size (edges_lines es) ≤ room b
    unfolding edges_lines
    edges-size b n [] h r w = omega (arith, size_none)
    edges-size b n (e ∷ es) h r w =
        let l : e.callee ≤ 32 = omega (arith, r.1) in
        omega (arith, edge-size e (edges_lines es) w.0, edges-size (suc e.callee) n es h r.2 w.1, edge-fits b e.callee r.0 l)

    blocks-size : (id n : ℕ) (bs : List Block) → n ≤ 32 → id + length bs ≤ 34 → Every (BlockWithin most n) bs → size (blocks_lines id bs) ≤ rest id
    unfolding blocks_lines
    blocks-size id n [] h l w = omega (arith, size_none)
    blocks-size id n (b ∷ bs) h l w =
        omega (
          arith,
          size-line [] (function_line id ∷ cost_line b.own ∷ (edges_lines b.edges ++ blocks_lines (suc id) bs)),
          size-line (function_line id) (cost_line b.own ∷ (edges_lines b.edges ++ blocks_lines (suc id) bs)),
          size-line (cost_line b.own) (edges_lines b.edges ++ blocks_lines (suc id) bs),
          size-append (edges_lines b.edges) (blocks_lines (suc id) bs),
          length-append (decimal id) (41 ∷ []),
          digits b.own w.0.own,
          edges-size 1 n b.edges h w.0.rising w.0.edges,
          blocks-size (suc id) n bs h (omega arith) w.1,
          block-fits id (omega arith),
        )

    header-size : (n : ℕ) → n ≤ most → size (header n) ≤ 104 + d
    unfolding size ended
    header-size n h = omega (arith, length-append (decimal n) (10 ∷ ended ([] ∷ ascii "fl=(1) ???" ∷ [])), digits n h)

    ending-size : (n : ℕ) → n ≤ most → size (ending n) ≤ 10 + d
    unfolding size ended
    ending-size n h = omega (arith, length-append (decimal n) (10 ∷ []), digits n h)

    main-size : (names : List Bytes) → size (definitions 1 (main_name ∷ names)) ≡ 14 + size (definitions 2 names)
    unfolding definitions decimal D.digits
    main-size names = size-line (definition 1 main_name) (definitions 2 names) ∙ omega arith

    file-size : (g : Graph) → Within most g → length (file_of g) ≤ 2424 + d + d + rest 1
    unfolding file_of file_lines size
    file-size g w =
        omega (
          arith,
          size-append (header g.steps ++ definitions 1 (main_name ∷ g.names) ++ blocks_lines 1 g.blocks) (ending g.steps),
          size-append (header g.steps ++ definitions 1 (main_name ∷ g.names)) (blocks_lines 1 g.blocks),
          size-append (header g.steps) (definitions 1 (main_name ∷ g.names)),
          header-size g.steps w.steps,
          main-size g.names,
          names-size 2 g.names (omega (arith, w.few)) w.short,
          blocks-size 1 (length g.names) g.blocks w.few (omega (arith, w.all, w.few)) w.blocks,
          ending-size g.steps w.steps,
        )

-- TWO BOUNDS

pub run-file : (g : Graph) → Within 1000000 g → length (file_of g) ≤ 39752
run-file g w =
    file-size 1000000 7 (λ k h. decimal-length 6 k (omega arith))
    (λ b. 1155 - (35 * b + (9 - b)))
    (λ id. 38454 - (1131 * id + (10 - id)))
    (λ b c h l. omega (arith, id_room (suc c) (omega arith)))
    (λ id h. omega (arith, id_room id h))
    g w

pub any-file : (g : Graph) → Within 4294967295 g → length (file_of g) ≤ 65536
any-file g w =
    le_trans
    (file-size 4294967295 10 (λ k h. decimal-length 9 k (omega arith))
    (λ b. 1353 - (41 * b + (9 - b)))
    (λ id. 45084 - (1326 * id + (10 - id)))
    (λ b c h l. omega (arith, id_room (suc c) (omega arith)))
    (λ id h. omega (arith, id_room id h))
    g w)
    (omega arith)
