-- Lines one behind the other.
use Prim.Native.Nat.{ℕ, ◌+◌}
use mathlib.Core.Path.{◌≡◌, sym, ap, ◌∙◌}
use mathlib.Core.List.{List, [], ◌∷◌, ◌++◌, append_assoc, append-nil}
use Rattle.rules.specs.Syntax.{Bytes}
use Rattle.memory.specs.Layout.{row}
use Rattle.memory.proofs.Rows.{row-none, row_more}
use Rattle.text.specs.declared.page.Page.{Page}
use Rattle.text.specs.Put.{Wrote}
use Rattle.text.proofs.Ends.{wrote_none, wrote_then}
use Rattle.profile.specs.Rendered.{joined, line_in, lines_in}

joined-more : (ls : List Bytes) (l : Bytes) → joined (ls ++ l ∷ []) ≡ joined ls ++ l
unfolding joined
joined-more [] l = append-nil l
joined-more (k ∷ ls) l = ap (λ (s : Bytes). k ++ s) (joined-more ls l) ∙ sym (append_assoc k (joined ls) l)

module _ (s r : Bytes) where
  pub lines_none : (p : Page) → Wrote (lines_in s r 0) p p
  unfolding joined
  lines_none p = rw (row-none (line_in s r)) (wrote_none p)

  pub lines_more : {p q t : Page} (f : ℕ) → Wrote (lines_in s r f) p q → Wrote (line_in s r f) q t → Wrote (lines_in s r (f + 1)) p t
  lines_more f x y = rw (row_more f (line_in s r), joined-more (row f (line_in s r)) (line_in s r f)) (wrote_then x y)
