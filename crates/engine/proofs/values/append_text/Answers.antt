use native.Mathlib.Omega.{arith}
use mathlib.Core.Path.{refl}
use lib.ListN.{length-set}
use Rattle.memory.proofs.Parts.{part_length, put-none, take_put}
use Rattle.memory.proofs.Texts.{appended}
use Rattle.engine.proofs.Looking.{appends}
use Rattle.engine.proofs.values.append_text.Goals as goal

pub loop-i-init : goal.loop-i-init
loop-i-init c = (refl, put-none _ _)

pub loop-i-preserved : goal.loop-i-preserved
loop-i-preserved c =
    let args = c.args in
    let size = part_length args.sheet.now args.at args.m in
    (simp length-set (omega arith), rw c.text_byte-b.ensures (take_put _ _ c.loop-i.invariant.1 (omega (arith, size)) (omega arith)))

pub returns : goal.returns
returns c =
    let args = c.args in
    let size = part_length args.sheet.now args.at args.m in
    appends _ _ (appended _ _ _ c.loop-i.i _ c.loop-i.invariant.1 (omega arith) (omega (arith, size))) (omega arith)
