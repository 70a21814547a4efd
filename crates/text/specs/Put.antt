-- What is put on a page.
use Rattle.std.specs.Prelude.{◌≡◌, [], ◌∷◌, ◌++◌, ℕ, ◌≤◌, length}
use Rattle.rules.specs.Syntax.{Bytes}
use Rattle.memory.specs.Posts.{Written}
use Rattle.text.specs.declared.page.Page.{Page}

-- a number or a word that another follows
abbrev pub spaced : Bytes → Bytes
spaced s = s ++ 32 ∷ []

-- s was written where the page p ended, which is p' since: the same memory
pub record Wrote (s : Bytes) (p p' : Page) : Type 0 where
  pub memory : p'.bytes.ghost_name ≡ p.bytes.ghost_name
  pub written : Written p.at s p.bytes.now p'.bytes.now p'.at

-- and has at most n bytes
pub record Fitted (n : ℕ) (s : Bytes) (p p' : Page) : Type 0 where
  pub wrote : Wrote s p p'
  pub short : length s ≤ n
