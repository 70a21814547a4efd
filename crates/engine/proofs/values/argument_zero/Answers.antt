use native.Mathlib.Omega.{arith}
use mathlib.Core.Logic.{inl}
use Rattle.sheet.proofs.Located.{few-functions}
use Rattle.engine.proofs.Looking.{named-text, text_reads, text-is, zero-main, zero-named}
use Rattle.engine.proofs.values.argument_zero.Goals as goal

pub append_within-requires : goal.append_within-requires
append_within-requires c =
    let pre = c.requires in
    (pre.first, pre.room, omega (arith, pre.low, pre.room, pre.small), inl (omega (arith, pre.low, pre.small)))

pub returns-then-f-eq0 : goal.returns-then-f-eq0
returns-then-f-eq0 c =
    let pre = c.requires in
    zero-main _ c.args.f (omega arith)
    c.size-m.ensures.0 c.append_within.ensures pre.first

pub name_of-t-requires : goal.name_of-t-requires
name_of-t-requires c =
    let pre = c.requires in
    (omega (arith, few-functions pre.loaded, pre.function), omega (arith, pre.low, pre.room))

pub part-m-requires : goal.part-m-requires
part-m-requires c =
    let pre = c.requires in
    let both = text_reads pre.loaded (named-text pre c.name_of-t.ensures (omega arith)) (omega (arith, pre.low, pre.room)) in
    record { r_bound = both.0; d_bound = both.1 }

pub start-at-requires : goal.start-at-requires
start-at-requires c =
    let pre = c.requires in
    (text_reads pre.loaded (named-text pre c.name_of-t.ensures (omega arith)) (omega (arith, pre.low, pre.room))).0

pub append_text-requires : goal.append_text-requires
append_text-requires c =
    let pre = c.requires in
    let is = text-is pre.loaded (named-text pre c.name_of-t.ensures (omega arith))
    c.part-m.ensures c.start-at.ensures.0 in
    (is.0, pre.first, omega (arith, pre.low), pre.room)

pub returns : goal.returns
returns c =
    let pre = c.requires in
    let is = text-is pre.loaded (named-text pre c.name_of-t.ensures (omega arith))
    c.part-m.ensures c.start-at.ensures.0 in
    zero-named _ _ (omega arith) c.name_of-t.ensures is.2 c.append_text.ensures
