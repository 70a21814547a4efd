-- The claims of specs/Claims.antt, proved.
-- Assumes nothing.
use mathlib.Core.Path.{◌≡◌, refl, subst}
use mathlib.Core.List.{List}
use Prim.Native.Nat.{ℕ}
use lib.ListN.{drop}
use Rattle.rules.specs.Syntax.{Bytes}
use Rattle.memory.specs.Layout.{list_place}
use Rattle.memory.specs.Posts.{Laid}
use Rattle.memory.proofs.Fixed.{put_fixed, laid_fixed}
use Rattle.engine.specs.Start.{Placed}
use Rattle.engine.specs.Claims.{OneTaken}
use Rattle.engine.specs.Proved.{Proved}

-- texts that are put into memory leave one memory
placed_fixed : (u : ℕ) (texts : List Bytes) (w x y : Bytes) → Placed u texts w x → Placed u texts w y → x ≡ y
placed_fixed u texts w x y p q =
    laid_fixed (subst (λ (v : Bytes). Laid u (list_place u 0) 0 v (drop 1 texts) x) (put_fixed p.first q.first) p.rest) q.rest refl

pub one_taken_lem : OneTaken
one_taken_lem s w x y u n t p q = placed_fixed u t.texts w x y (p.placed t.texts t.accepted) (q.placed t.texts t.accepted)

-- ALL OF THEM

pub proved : Proved
proved = record {
  one_taken = one_taken_lem;
}
