-- Lines one behind the other: of names, of edges, of blocks, each list with one entry more.
use Prim.Native.Nat.{ℕ, zero, suc, ◌<◌, ◌+◌}
use native.Mathlib.Omega.{arith}
use native.Mathlib.Numerals.{add-one}
use native.Mathlib.Nat.{add-zero}
use mathlib.Core.Path.{◌≡◌, refl, sym, ap, ◌∙◌, subst}
use mathlib.Core.List.{List, [], ◌∷◌, ◌++◌, map, append_assoc, append-nil}
use lib.ListN.{length, get_or, take, length-map}
use lib.Seq.{take_all, take-suc, length-take-le}
use Rattle.rules.specs.Syntax.{Bytes, Function}
use Rattle.rules.specs.Graph.{Figures, Edge, Block, edge_if, edges_from, blocks_from, name_of}
use Rattle.text.specs.declared.page.Page.{Page}
use Rattle.text.specs.Put.{Wrote}
use Rattle.text.proofs.Ends.{wrote_none, wrote_then}
use Rattle.text.specs.Names.{function_name}
use Rattle.callgrind.specs.File.{definition, definitions, edge_lines, edges_lines, block_lines, blocks_lines, ended}

pub ended-append : (ls ms : List Bytes) → ended (ls ++ ms) ≡ ended ls ++ ended ms
unfolding ended
ended-append [] ms = refl
ended-append (l ∷ ls) ms = ap (λ (s : Bytes). l ++ 10 ∷ s) (ended-append ls ms) ∙ sym (append_assoc l (10 ∷ ended ls) (ended ms))

-- lines written behind lines
pub ended-none : (p : Page) → Wrote (ended []) p p
unfolding ended
ended-none p = wrote_none p

pub ended_then : {p q r : Page} (ls ms : List Bytes) → Wrote (ended ls) p q → Wrote (ended ms) q r → Wrote (ended (ls ++ ms)) p r
ended_then ls ms a b = rw (ended-append ls ms) (wrote_then a b)

-- NAMES

definitions-more : (id : ℕ) (names : List Bytes) (name : Bytes)
    → definitions id (names ++ name ∷ []) ≡ definitions id names ++ definition (id + length names) name ∷ []
unfolding definitions
definitions-more id [] name = ap (λ (k : ℕ). definition k name ∷ []) (sym (add-zero id))
definitions-more id (n ∷ names) name =
    ap (λ (ls : List Bytes). definition id n ∷ ls)
    (definitions-more (suc id) names name ∙ ap (λ (k : ℕ). definitions (suc id) names ++ definition k name ∷ []) (omega arith))

name-at : (functions : List Function) (f : ℕ) → f < length functions → get_or (map name_of functions) f [] ≡ function_name functions (suc f)
unfolding function_name
name-at [] f h = absurd (omega arith)
name-at (g ∷ functions) zero h = refl
name-at (g ∷ functions) (suc f) h = name-at functions f (omega arith)

module _ (functions : List Function) where
  -- the names before function f, and its own
  pub names_more : {p q r : Page} (f : ℕ) → f < length functions → Wrote (ended (definitions 2 (take f (map name_of functions)))) p q
      → Wrote (ended (definition (f + 1 + 1) (function_name functions (f + 1)) ∷ [])) q r
      → Wrote (ended (definitions 2 (take (f + 1) (map name_of functions)))) p r
  names_more f h p q = rw (add-one f, one_more_lem) (ended_then (definitions 2 (take f names)) (definition (f + 1 + 1) (function_name functions (f + 1)) ∷ []) p q)
    where
      names : List Bytes
      names = map name_of functions

      many : f < length names
      many = omega (arith, length-map functions name_of)

      one_more_lem : definitions 2 (take (suc f) names) ≡ definitions 2 (take f names) ++ definition (f + 1 + 1) (function_name functions (f + 1)) ∷ []
      one_more_lem =
          ap (definitions 2) (take-suc names f [] many)
          ∙ definitions-more 2 (take f names) (get_or names f [])
          ∙ (λ i. definitions 2 (take f names) ++ definition (place i) ((name-at functions f h ∙ ap (function_name functions) (sym (add-one f))) i) ∷ [])
        where
          place : 2 + length (take f names) ≡ f + 1 + 1
          place = omega (arith, length-take-le f names (omega (arith, many)))

  pub names-all : {p q : Page} (n : ℕ) → n ≡ length functions → Wrote (ended (definitions 2 (take n (map name_of functions)))) p q
      → Wrote (ended (definitions 2 (map name_of functions))) p q
  names-all n h p = rw (take_all n (map name_of functions) (omega (arith, length-map functions name_of))) at p

pub names-none : (functions : List Function) (p : Page) → Wrote (ended (definitions 2 (take 0 (map name_of functions)))) p p
unfolding definitions
names-none functions p = ended-none p

-- EDGES

edges-append : (es fs : List Edge) → edges_lines (es ++ fs) ≡ edges_lines es ++ edges_lines fs
unfolding edges_lines
edges-append [] fs = refl
edges-append (e ∷ es) fs = ap (λ (ls : List Bytes). edge_lines e ++ ls) (edges-append es fs) ∙ sym (append_assoc (edge_lines e) (edges_lines es) (edges_lines fs))

pub edges-last : (x : Figures) (a b n : ℕ) → edges_from x a b (suc n) ≡ edges_from x a b n ++ edge_if x a (b + n)
unfolding edges_from
edges-last x a b zero = append-nil (edge_if x a b) ∙ ap (edge_if x a) (sym (add-zero b))
edges-last x a b (suc n) =
    ap (λ (es : List Edge). edge_if x a b ++ es) (edges-last x a (suc b) n ∙ ap (λ (k : ℕ). edges_from x a (suc b) n ++ edge_if x a k) (omega arith))
    ∙ sym (append_assoc (edge_if x a b) (edges_from x a (suc b) n) (edge_if x a (b + suc n)))

module _ (x : Figures) (a : ℕ) where
  pub edges_none : (p : Page) → Wrote (ended (edges_lines (edges_from x a 1 0))) p p
  unfolding edges_from edges_lines
  edges_none p = ended-none p

  pub edges_more : {p q r : Page} (n : ℕ) → Wrote (ended (edges_lines (edges_from x a 1 n))) p q
      → Wrote (ended (edges_lines (edge_if x a (n + 1)))) q r
      → Wrote (ended (edges_lines (edges_from x a 1 (n + 1)))) p r
  edges_more n p q =
      rw (add-one n, edges-last x a 1 n, edges-append (edges_from x a 1 n) (edge_if x a (1 + n)))
      (ended_then (edges_lines (edges_from x a 1 n)) (edges_lines (edge_if x a (1 + n))) p (rw (same) at q))
    where
      same : n + 1 ≡ 1 + n
      same = omega arith

-- BLOCKS

blocks-append : (id : ℕ) (bs : List Block) (b : Block) → blocks_lines id (bs ++ b ∷ []) ≡ blocks_lines id bs ++ block_lines (id + length bs) b
unfolding blocks_lines
blocks-append id [] b = append-nil (block_lines id b) ∙ ap (λ (k : ℕ). block_lines k b) (sym (add-zero id))
blocks-append id (c ∷ bs) b =
    ap (λ (ls : List Bytes). block_lines id c ++ ls)
    (blocks-append (suc id) bs b ∙ ap (λ (k : ℕ). blocks_lines (suc id) bs ++ block_lines k b) (omega arith))
    ∙ sym (append_assoc (block_lines id c) (blocks_lines (suc id) bs) (block_lines (id + suc (length bs)) b))

module _ (x : Figures) (n : ℕ) where
  block_of : ℕ → Block
  block_of a = record { own = x.own a; edges = edges_from x a 1 n }

  pub blocks-length : (a k : ℕ) → length (blocks_from x n a k) ≡ k
  unfolding blocks_from
  blocks-length a zero = refl
  blocks-length a (suc k) = ap suc (blocks-length (suc a) k)

  blocks_last : (a k : ℕ) → blocks_from x n a (suc k) ≡ blocks_from x n a k ++ block_of (a + k) ∷ []
  unfolding blocks_from block_of
  blocks_last a zero = ap (λ (f : ℕ). block_of f ∷ []) (sym (add-zero a))
  blocks_last a (suc k) =
      ap (λ (bs : List Block). block_of a ∷ bs)
      (blocks_last (suc a) k ∙ ap (λ (f : ℕ). blocks_from x n (suc a) k ++ block_of f ∷ []) (omega arith))

  pub blocks-none : (p : Page) → Wrote (ended (blocks_lines 1 (blocks_from x n 0 0))) p p
  unfolding blocks_from blocks_lines
  blocks-none p = ended-none p

  pub blocks_more : {p₀ p₁ p₂ : Page} (f : ℕ) → Wrote (ended (blocks_lines 1 (blocks_from x n 0 f))) p₀ p₁
      → Wrote (ended (block_lines (f + 1) (record { own = x.own f; edges = edges_from x f 1 n }))) p₁ p₂
      → Wrote (ended (blocks_lines 1 (blocks_from x n 0 (f + 1)))) p₀ p₂
  unfolding block_of
  blocks_more {p₁ = p₁} {p₂ = p₂} f p q =
      rw (add-one f, blocks_last 0 f, blocks-append 1 (blocks_from x n 0 f) (block_of (0 + f)))
      (ended_then (blocks_lines 1 (blocks_from x n 0 f)) (block_lines (1 + length (blocks_from x n 0 f)) (block_of (0 + f))) p
      (subst (λ (id : ℕ). Wrote (ended (block_lines id (block_of (0 + f)))) p₁ p₂) same
      (subst (λ (k : ℕ). Wrote (ended (block_lines (f + 1) (block_of k))) p₁ p₂) first q)))
    where
      same : f + 1 ≡ 1 + length (blocks_from x n 0 f)
      same = omega (arith, blocks-length 0 f)

      first : f ≡ 0 + f
      first = omega arith
