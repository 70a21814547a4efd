use native.Mathlib.Omega.{arith}
use Rattle.text.specs.Names.{functions_of}
use Rattle.text.proofs.Ends.{fitted, fitted_end}
use Rattle.text.proofs.Names.{functions-are}
use Rattle.callgrind.proofs.Lines.{names-none, names_more, names-all}
use Rattle.callgrind.proofs.definitions.Goals as goal

pub loop-f-init : goal.loop-f-init
loop-f-init c = fitted (names-none (functions_of c.args.names.now.sheet.now) _) (omega arith)

pub loop-f-preserved : goal.loop-f-preserved
loop-f-preserved c =
    fitted
    (names_more (functions_of c.args.names.now.sheet.now) _ (omega (arith, functions-are c.args.names.now.tabled)) c.loop-f.invariant.wrote c.definition.ensures.wrote)
    (omega (arith, fitted_end c.loop-f.invariant, fitted_end c.definition.ensures))

pub returns : goal.returns
returns c =
    fitted (names-all (functions_of c.args.names.now.sheet.now) c.loop-f.f (omega (arith, functions-are c.args.names.now.tabled)) c.loop-f.invariant.wrote)
    (omega (arith, fitted_end c.loop-f.invariant))
