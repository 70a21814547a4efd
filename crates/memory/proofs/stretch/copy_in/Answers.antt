use Prim.Native.Nat.{ℕ, ◌+◌, ◌-◌, ◌≤◌}
use mathlib.Core.List.{◌++◌, append_assoc}
use mathlib.Core.Path.{◌≡◌, sym, ap, ◌∙◌, subst}
use native.Mathlib.Omega.{arith}
use borrow.Rule.Slice.PartMut.{put_mid}
use lib.ListN.{length, take, drop}
use lib.Seq.{sets, sets-eq, drop-drop}
use Rattle.std.proofs.Common.{List}
use Rattle.memory.specs.Layout.{Put}
use Rattle.rules.proofs.Slices.{part_set}
use Rattle.memory.proofs.Parts.{sets-put}
use Rattle.memory.proofs.stretch.copy_in.Goals as goal

pub returns : goal.returns
returns c =
    let w = c.args.work.now in
    let s = c.args.src.now in
    let a = c.args.at in
    subst (Put a s w) (sym (ap (put_mid a (a + length s - a) w) c.copy_from_slice.ensures.after ∙ part_set w s a c.requires)) (sets-put s w a c.requires)
