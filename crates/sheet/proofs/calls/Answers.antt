use Rattle.sheet.proofs.Marks.{calling-start, calling-next, calling-end}
use Rattle.sheet.proofs.calls.Goals as goal

pub loop-r-init : goal.loop-r-init
loop-r-init c = calling-start _ _ _ _ c.requires

pub loop-r-preserved : goal.loop-r-preserved
loop-r-preserved c = calling-next _ _ _ _ _ _ _ c.loop-r.invariant c.loop-r-test.true c.resolve.ensures

pub returns : goal.returns
returns c = calling-end _ _ _ _ _ _ c.loop-r.invariant c.loop-r-test.false
