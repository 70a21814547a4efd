use native.Mathlib.Omega.{arith}
use mathlib.Core.Path.{◌≡◌, sym, ◌∙◌}
use mathlib.Core.List.{map}
use lib.ListN.{length, take}
use borrow.Author.Rules.{rules}
use Rattle.sheet.specs.Ready.{span}
use Rattle.sheet.proofs.Judged.{slots-place, slots-within}
use Rattle.sheet.proofs.Records.{place_here, place-more, place_end, span_same, spans_length}
use Rattle.sheet.proofs.judgement.SoFar.find_slot.Goals as goal

pub returns-then-eq : goal.returns-then-eq
returns-then-eq c =
    let long : length c.args.self.slots ≡ 16 = search rules in
    let few = (slots-within c.args.self.ready).0 in
    let same = span_same c.args.self.sheet.now c.args.self.slots c.args.self.counts.slots c.loop-i.i _ _ c.args.name.now _ c.loop-i-test.true c.from-from.ensures c.from.ensures c.eq.ensures in
    sym (sym (slots-place c.args.self.ready c.args.name.now) ∙ c.loop-i.invariant
    ∙ place_here c.args.name.now (map (span c.args.self.sheet.now) (take c.args.self.counts.slots c.args.self.slots)) c.loop-i.i
    (omega (arith, spans_length c.args.self.sheet.now c.args.self.slots c.args.self.counts.slots (omega arith)))
    (same ∙ c.if-eq.true))

pub loop-i-preserved : goal.loop-i-preserved
loop-i-preserved c =
    let long : length c.args.self.slots ≡ 16 = search rules in
    let few = (slots-within c.args.self.ready).0 in
    let same = span_same c.args.self.sheet.now c.args.self.slots c.args.self.counts.slots c.loop-i.i _ _ c.args.name.now _ c.loop-i-test.true c.from-from.ensures c.from.ensures c.eq.ensures in
    c.loop-i.invariant
    ∙ place-more c.args.name.now (map (span c.args.self.sheet.now) (take c.args.self.counts.slots c.args.self.slots)) c.loop-i.i
    (omega (arith, spans_length c.args.self.sheet.now c.args.self.slots c.args.self.counts.slots (omega arith)))
    (same ∙ c.if-eq.false)

pub returns : goal.returns
returns c =
    let long : length c.args.self.slots ≡ 16 = search rules in
    let few = (slots-within c.args.self.ready).0 in
    let i : c.loop-i.i ≡ c.args.self.counts.slots = omega arith in
    sym (sym (slots-place c.args.self.ready c.args.name.now) ∙ c.loop-i.invariant
    ∙ place_end c.args.name.now (map (span c.args.self.sheet.now) (take c.args.self.counts.slots c.args.self.slots)) c.loop-i.i
    (omega (arith, spans_length c.args.self.sheet.now c.args.self.slots c.args.self.counts.slots (omega arith)))
    ∙ i)
