use Prim.Native.Nat.{ℕ}
use mathlib.Core.Path.{ap}
use mathlib.Core.List.{List}
use lib.ListN.{get_or}
use native.Mathlib.Omega.{arith}
use Rattle.memory.specs.Posts.{looked}
use Rattle.memory.proofs.Parts.{part_length}
use Rattle.engine.proofs.values.text_byte.Goals as goal

pub bounds-text-i : goal.bounds-text-i
unfolding looked
bounds-text-i c =
    let args = c.args in
    rw c.lookup-text.ensures (omega (arith, c.requires, part_length args.sheet.now args.at args.m))

pub returns : goal.returns
unfolding looked
returns c = ap (λ (l : List ℕ). get_or l c.args.i 0) c.lookup-text.ensures
