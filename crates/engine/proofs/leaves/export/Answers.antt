use mathlib.Core.Path.{ap}
use native.Mathlib.Omega.{arith}
use Rattle.sheet.proofs.Located.{few-records}
use Rattle.sheet.proofs.Reading.{export_law}
use Rattle.words.specs.Words.{Pace, course, feed_of}
use Rattle.engine.proofs.LeafRules.{export_done}
use Rattle.engine.proofs.leaves.export.Goals as goal

pub mark-x-requires : goal.mark-x-requires
mark-x-requires c = (omega (arith, few-records c.requires.ready.loaded, c.requires.of_kind.known), omega (arith, c.requires.ready.roomy.room))

pub mark-requires : goal.mark-requires
mark-requires c =
    let law = export_law c.requires.ready.loaded _ c.requires.of_kind.known c.requires.of_kind.kind in
    record {
      level = record { above = omega (arith, c.variables_place-a.ensures.2); unit = c.requires.ready.roomy.unit; small = c.requires.ready.roomy.small; room = omega (arith, c.variables_place-a.ensures.1, c.requires.ready.roomy.room) };
      x_bound = omega (arith, c.mark-x.ensures, law.1, c.requires.ready.slots, c.requires.ready.roomy.slots);
    }

pub returns : goal.returns
returns c = rw c.ended.ensures (export_done c.requires.ready c.requires.of_kind c.mark-x.ensures c.variables_place-a.ensures.0 c.mark.ensures (ap (λ (p : Pace). course p (feed_of c.args.feed)) c.with_result.ensures.parts))
