use Prim.Native.Nat.{◌-◌}
use native.Mathlib.Omega.{arith}
use mathlib.Core.Path.{ap, sym, ◌∙◌}
use lib.ListN.{length}
use Rattle.std.proofs.lemmas.List.{take_all}
use Rattle.rules.specs.Words.{stretches}
use Rattle.memory.proofs.Parts.{part_slice}
use Rattle.memory.proofs.Stretches.{skipped, moved, no_stretch, counted}
use Rattle.memory.proofs.list.count_stretches.Goals as goal

pub loop-start-init : goal.loop-start-init
loop-start-init c = (c.run_end-start.ensures.to, omega arith, c.run_end-start.ensures.stops, omega (arith, ap length (skipped c.run_end-start.ensures)))

pub loop-start-preserved : goal.loop-start-preserved
loop-start-preserved c =
    let b = c.loop-start.invariant.2 c.loop-start-test.true in
    let m = moved c.run_end-end.ensures c.loop-start-test.true b in (
      c.run_end-start-in-loop-start.ensures.to,
      omega (arith, m, c.run_end-start-in-loop-start.ensures.from, c.loop-start.invariant.1),
      c.run_end-start-in-loop-start.ensures.stops,
      counted _ _ c.run_end-end.ensures c.run_end-start-in-loop-start.ensures c.loop-start-test.true b c.loop-start.invariant.3,
    )

pub returns : goal.returns
returns c =
    let s = c.args.s.now in
    let all = length s - 0 in
    let w = sym (take_all all s (omega arith)) ∙ part_slice s 0 all (omega arith) in
    omega (arith, c.loop-start.invariant.3, ap length (no_stretch s c.loop-start.start (length s) (omega arith)), ap (λ t. length (stretches t)) w)
