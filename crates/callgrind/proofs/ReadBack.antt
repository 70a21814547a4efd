-- The file is read back to its graph.
use Prim.Native.Nat.{ℕ, suc, pred, ◌<◌, ◌+◌}
use native.Mathlib.Omega.{arith}
use mathlib.Core.Path.{◌≡◌, refl, sym, ap, ◌∙◌}
use mathlib.Core.List.{List, [], ◌∷◌, ◌++◌, map, append_assoc}
use lib.ListN.{length, get_or}
use Rattle.rules.specs.Lists.{Every}
use Rattle.rules.specs.Syntax.{Bytes}
use Rattle.rules.specs.Trace.{sum}
use Rattle.rules.specs.Graph.{Edge, Block, Graph}
use Rattle.memory.specs.Layout.{row_from}
use Rattle.callgrind.specs.File.{main_name, definition, definitions, function_line, cost_line, callee_line, calls_line, totals_line, edges_lines, blocks_lines, ending, file_lines, file_of}
use Rattle.callgrind.specs.Reading.{Said, defines, function, callee, calls, cost, totals, other, own, calls_over, At, at, Seen, after, noted, said, read_from, seen_in, those, graph_of_seen, read_file, totals_read}
use Rattle.callgrind.proofs.Cutting.{IsLine, lines_back, file_lines_lem}
use Rattle.callgrind.proofs.Saying.{number_alone, says_totals, says_cost, says_callee, says_calls, says_function, says_defines}
use Rattle.callgrind.proofs.Keyed.{tagged, keyed, single, those_keyed, keyed_length, row_is, map_at}

-- LINE BY LINE, FROM THE END

abbrev seen : (summary totals : ℕ) → List (ℕ × Bytes) → List (ℕ × ℕ) → List (ℕ × Edge) → Seen
seen s t names owns edges = record { summary = s; totals = t; names = names; owns = owns; edges = edges }

says_empty : said [] ≡ other
unfolding said
says_empty = refl

read-line : (p : At) (l : Bytes) (ls : List Bytes) (x : Said) → said l ≡ x → read_from p (l ∷ ls) ≡ noted x p (read_from (after x p) ls)
unfolding read_from
read-line p l ls x e = ap (λ (y : Said). noted y p (read_from (after y p) ls)) e

ending-read : (p : At) (n : ℕ) → read_from p (ending n) ≡ seen 0 n [] [] []
unfolding read_from
ending-read p n = read-line p [] (totals_line n ∷ []) other says_empty ∙ read-line p (totals_line n) [] (totals n) (says_totals n)

module _ (n : ℕ) (owns : List (ℕ × ℕ)) (later : List (ℕ × Edge)) (ls : List Bytes) (f : ℕ)
    (q : (b : ℕ) → read_from (at f b own) ls ≡ seen 0 n [] owns later) where
  edges-read : (es : List Edge) (b : ℕ) → read_from (at f b own) (edges_lines es ++ ls) ≡ seen 0 n [] owns (tagged f es ++ later)
  unfolding edges_lines
  edges-read [] b = q b
  edges-read (e ∷ es) b =
      read-line (at f b own) (callee_line (suc e.callee)) _ (callee (suc e.callee)) (says_callee (suc e.callee))
      ∙ read-line (at f (suc e.callee) own) (calls_line e.calls) _ (calls e.calls) (says_calls e.calls)
      ∙ read-line (at f (suc e.callee) (calls_over e.calls)) (cost_line e.inclusive) (edges_lines es ++ ls) (cost e.inclusive) (says_cost e.inclusive)
      ∙ ap (noted (cost e.inclusive) (at f (suc e.callee) (calls_over e.calls))) (edges-read es (suc e.callee))

abbrev owns_of : Block → List ℕ
owns_of b = b.own ∷ []

abbrev edges_of : Block → List Edge
edges_of b = b.edges

blocks-read : (n id : ℕ) (bs : List Block) (p : At)
    → read_from p (blocks_lines id bs ++ ending n) ≡ seen 0 n [] (keyed id (map owns_of bs)) (keyed id (map edges_of bs))
unfolding blocks_lines
blocks-read n id [] p = ending-read p n
blocks-read n id (b ∷ bs) p =
    read-line p [] _ other says_empty
    ∙ read-line p (function_line id) _ (function id) (says_function id)
    ∙ read-line (at id p.callee own) (cost_line b.own) ((edges_lines b.edges ++ blocks_lines (suc id) bs) ++ ending n) (cost b.own) (says_cost b.own)
    ∙ ap (noted (cost b.own) (at id p.callee own))
    (ap (read_from (at id p.callee own)) (append_assoc (edges_lines b.edges) (blocks_lines (suc id) bs) (ending n))
    ∙ edges-read n (keyed (suc id) (map owns_of bs)) (keyed (suc id) (map edges_of bs)) (blocks_lines (suc id) bs ++ ending n) id
    (λ k. blocks-read n (suc id) bs (at id k own)) b.edges p.callee)

module _ (n : ℕ) (owns : List (ℕ × ℕ)) (edges : List (ℕ × Edge)) (ls : List Bytes) (q : (p : At) → read_from p ls ≡ seen 0 n [] owns edges) where
  definitions-read : (id : ℕ) (names : List Bytes) (p : At)
      → read_from p (definitions id names ++ ls) ≡ seen 0 n (keyed id (map single names)) owns edges
  unfolding definitions
  definitions-read id [] p = q p
  definitions-read id (name ∷ names) p =
      read-line p (definition id name) (definitions (suc id) names ++ ls) (defines id name) (says_defines id name)
      ∙ ap (noted (defines id name) p) (definitions-read (suc id) names (at id p.callee own))

-- THE FILE

lines_read : (g : Graph)
    → read_from (at 0 0 own) (file_lines g)
    ≡ seen g.steps g.steps (keyed 1 (map single (main_name ∷ g.names))) (keyed 1 (map owns_of g.blocks)) (keyed 1 (map edges_of g.blocks))
unfolding file_lines read_from said
lines_read g = (λ i. record {
  summary = number_alone g.steps i;
  totals = (rest i).totals;
  names = (rest i).names;
  owns = (rest i).owns;
  edges = (rest i).edges;
})
  where
    rest : read_from (at 0 0 own) ((definitions 1 (main_name ∷ g.names) ++ blocks_lines 1 g.blocks) ++ ending g.steps)
        ≡ seen 0 g.steps (keyed 1 (map single (main_name ∷ g.names))) (keyed 1 (map owns_of g.blocks)) (keyed 1 (map edges_of g.blocks))
    rest =
        ap (read_from (at 0 0 own)) (append_assoc (definitions 1 (main_name ∷ g.names)) (blocks_lines 1 g.blocks) (ending g.steps))
        ∙ definitions-read g.steps (keyed 1 (map owns_of g.blocks)) (keyed 1 (map edges_of g.blocks)) (blocks_lines 1 g.blocks ++ ending g.steps)
        (blocks-read g.steps 1 g.blocks) 1 (main_name ∷ g.names) (at 0 0 own)

module _ (g : Graph) (lines : Every IsLine g.names) where
  file-seen : seen_in (file_of g)
      ≡ seen g.steps g.steps (keyed 1 (map single (main_name ∷ g.names))) (keyed 1 (map owns_of g.blocks)) (keyed 1 (map edges_of g.blocks))
  unfolding file_of
  file-seen = ap (read_from (at 0 0 own)) (lines_back (file_lines g) (file_lines_lem g lines)) ∙ lines_read g

  pub totals-read : totals_read (file_of g) ≡ g.steps
  totals-read = ap (λ (s : Seen). s.totals) file-seen

  names-read : row_from (length g.names) (λ id. get_or (those id (keyed 1 (map single (main_name ∷ g.names)))) 0 []) 2 ≡ g.names
  names-read = row_is [] g.names _ 2 name
    where
      name : (i : ℕ) → i < length g.names → get_or (those (2 + i) (keyed 1 (map single (main_name ∷ g.names)))) 0 [] ≡ get_or g.names i []
      name i h =
          ap (λ (id : ℕ). get_or (those id (keyed 1 (map single (main_name ∷ g.names)))) 0 []) (omega arith)
          ∙ ap (λ (l : List Bytes). get_or l 0 []) (those_keyed 1 (suc i) (map single (main_name ∷ g.names)) ∙ map_at single [] [] g.names i h)

  abbrev none : Block
  none = record { own = 0; edges = [] }

  blocks-back : row_from (length g.blocks) (λ id. record {
    own = sum (those id (keyed 1 (map owns_of g.blocks)));
    edges = those id (keyed 1 (map edges_of g.blocks));
  }) 1 ≡ g.blocks
  blocks-back = row_is none g.blocks _ 1 block
    where
      block : (i : ℕ) → i < length g.blocks
          → record { own = sum (those (1 + i) (keyed 1 (map owns_of g.blocks))); edges = those (1 + i) (keyed 1 (map edges_of g.blocks)) }
          ≡ get_or g.blocks i none
      block i h = (λ j. record { own = one j; edges = (those_keyed 1 i (map edges_of g.blocks) ∙ map_at edges_of [] none g.blocks i h) j })
        where
          one : sum (those (1 + i) (keyed 1 (map owns_of g.blocks))) ≡ (get_or g.blocks i none).own
          one = ap sum (those_keyed 1 i (map owns_of g.blocks) ∙ map_at owns_of [] none g.blocks i h) ∙ omega arith

  pub file-read : length g.blocks ≡ suc (length g.names) → read_file (file_of g) ≡ g
  unfolding graph_of_seen
  file-read h = ap graph_of_seen file-seen ∙ (λ i. record { steps = g.steps; names = names-are i; blocks = blocks-are i })
    where
      size : length (keyed 1 (map single (main_name ∷ g.names))) ≡ suc (length g.names)
      size = keyed_length 1 (main_name ∷ g.names)

      names-are : row_from (pred (length (keyed 1 (map single (main_name ∷ g.names))))) (λ id. get_or (those id (keyed 1 (map single (main_name ∷ g.names)))) 0 []) 2
          ≡ g.names
      names-are =
          ap (λ (k : ℕ). row_from (pred k) (λ id. get_or (those id (keyed 1 (map single (main_name ∷ g.names)))) 0 []) 2) size ∙ names-read

      blocks-are : row_from (length (keyed 1 (map single (main_name ∷ g.names)))) (λ id. record {
        own = sum (those id (keyed 1 (map owns_of g.blocks)));
        edges = those id (keyed 1 (map edges_of g.blocks));
      }) 1 ≡ g.blocks
      blocks-are =
          ap (λ (k : ℕ). row_from k (λ id. record {
            own = sum (those id (keyed 1 (map owns_of g.blocks)));
            edges = those id (keyed 1 (map edges_of g.blocks));
          }) 1) (size ∙ sym h)
          ∙ blocks-back
