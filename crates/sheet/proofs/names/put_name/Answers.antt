use Prim.Native.Nat.{◌+◌, ◌*◌, ◌-◌}
use native.Mathlib.Omega.{arith}
use native.Mathlib.Numerals.{add-one}
use mathlib.Core.Path.{ap, ◌∙◌}
use borrow.Rule.Slice.PartMut.{put_mid}
use lib.ListN.{length, set, length-set}
use Rattle.rules.proofs.Slices.{part_set}
use Rattle.sheet.proofs.names.put_name.Goals as goal

pub returns : goal.returns
returns c =
    let at = 64 * c.args.i in
    let name = c.args.name.now in
    let table = set c.args.table.now at (length name) in
    ap (put_mid (at + 1) (at + 1 + length name - (at + 1)) table) c.copy_from_slice.ensures.after
    ∙ part_set table name (at + 1) (omega (arith, length-set c.args.table.now at (length name)))
    ∙ rw add-one
