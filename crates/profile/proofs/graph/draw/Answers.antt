use native.Mathlib.Omega.{arith}
use Rattle.bundle.specs.Promise.{contents_at}
use Rattle.bundle.proofs.Telling.{none-told, parts-told}
use Rattle.text.proofs.Ends.{wrote_front}
use Rattle.profile.specs.Lines.{bundle_line}
use Rattle.profile.proofs.Drawing.{draws_nothing, draws_file, draws_refusal}
use Rattle.profile.proofs.graph.draw.Goals as goal

pub returns-in_default : goal.returns-in_default
unfolding bundle_line
returns-in_default c =
    draws_nothing (none-told c.args.bytes c.in_default.is c.read.ensures) (omega arith)
    (wrote_front c.word.ensures c.new-page.ensures.bytes c.new-page.ensures.front)

pub returns-in-Ok : goal.returns-in-Ok
returns-in-Ok c =
    draws_file (contents_at c.in-Some.parts) (omega arith) (omega arith) (omega arith) c.graph.ensures c.in-Ok.is
    (parts-told c.args.bytes c.in-Some.is c.read.ensures).contents

pub returns-in-Err : goal.returns-in-Err
returns-in-Err c =
    draws_refusal (contents_at c.in-Some.parts) (omega arith) (omega arith) (omega arith) c.graph.ensures c.in-Err.is
    (parts-told c.args.bytes c.in-Some.is c.read.ensures).contents
    (wrote_front c.refused.ensures.wrote c.new-page-in-Err.ensures.bytes c.new-page-in-Err.ensures.front) c.refused.ensures.short
