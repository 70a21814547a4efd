-- Which graphs a run can come to, by their size: few functions with short names, every callee once, and no figure above `most`.
use Rattle.std.specs.Prelude.{◌≡◌, List, [], ◌∷◌, ℕ, suc, ◌≤◌, length}
use Rattle.rules.specs.Lists.{Every}
use Rattle.rules.specs.Syntax.{Function}
use Rattle.rules.specs.Graph.{Edge, Block, Graph}

-- the callees rise, from b or above up to at most n
abbrev pub Rising : (b n : ℕ) → List Edge → Type 0
Rising b n [] = Unit {0}
Rising b n (e ∷ es) = (b ≤ e.callee) × (e.callee ≤ n) × Rising (suc e.callee) n es

pub record EdgeWithin (most : ℕ) (e : Edge) : Type 0 where
  pub calls : e.calls ≤ most
  pub inclusive : e.inclusive ≤ most

pub record BlockWithin (most n : ℕ) (b : Block) : Type 0 where
  pub own : b.own ≤ most
  pub rising : Rising 1 n b.edges
  pub edges : Every (EdgeWithin most) b.edges

pub record Within (most : ℕ) (g : Graph) : Type 0 where
  pub steps : g.steps ≤ most
  pub few : length g.names ≤ 32
  pub short : Every (λ name. length name ≤ 63) g.names
  pub all : length g.blocks ≡ suc (length g.names)
  pub blocks : Every (BlockWithin most (length g.names)) g.blocks

-- the functions of an accepted sheet are such
pub record ShortNames (functions : List Function) : Type 0 where
  pub few : length functions ≤ 32
  pub short : Every (λ f. length f.name ≤ 63) functions
