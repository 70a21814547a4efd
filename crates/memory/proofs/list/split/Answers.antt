use Prim.Native.Nat.{◌-◌}
use native.Mathlib.Omega.{arith}
use mathlib.Core.Path.{refl, ap, ◌∙◌}
use lib.ListN.{length}
use Rattle.rules.specs.Words.{stretches}
use Rattle.memory.proofs.Parts.{part_slice}
use Rattle.memory.proofs.list.split.Goals as goal

pub returns-then-n-m : goal.returns-then-n-m
returns-then-n-m c =
    let e = c.count_stretches-n.ensures ∙ ap (λ t. length (stretches t)) (part_slice c.args.work.now c.args.i (c.args.e - c.args.i) (omega arith)) in
    record { over = omega (arith, e); kept = refl }

pub add_stretches-requires-clause-count : goal.add_stretches-requires-clause-count
add_stretches-requires-clause-count c =
    let e = c.count_stretches-n.ensures ∙ ap (λ t. length (stretches t)) (part_slice c.args.work.now c.args.i (c.args.e - c.args.i) (omega arith)) in
    (e, omega arith)
