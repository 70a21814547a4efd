use native.Mathlib.Omega.{arith}
use borrow.Author.Rules.{rules}
use mathlib.Core.Path.{ap}
use Prim.Native.Nat.{◌+◌, ◌-◌}
use lib.ListN.{length, drop, length-take}
use Rattle.text.proofs.Ends.{wrote_front}
use Rattle.result.proofs.Records.{sheet-written}
use Rattle.result.proofs.Sizes.{end-ends, output-ends, variables-end}
use Rattle.result.proofs.write.Goals as goal

pub output_record-requires : goal.output_record-requires
output_record-requires c =
    let begun = ap length c.new-page.ensures.bytes in
    let ended = end-ends _ _ _ c.end_record.ensures in
    let short = length-take (c.stream_place-from.result + c.args.course.length - c.stream_place-from.result) (drop c.stream_place-from.result c.args.work.now) in
    (omega (arith, short, c.requires.output), omega (arith, short, begun, ended, c.new-page.ensures.front, c.requires.output, c.requires.room))

pub variable_records-requires : goal.variable_records-requires
variable_records-requires c =
    let begun = ap length c.new-page.ensures.bytes in
    let ended = end-ends _ _ _ c.end_record.ensures in
    let put = output-ends c.args.work.now c.stream_place-from.result c.args.course.length c.output_record.ensures in
    (omega arith, omega arith, omega arith, omega arith, omega (arith, begun, ended, put, c.new-page.ensures.front, c.requires.output, c.requires.room))

pub row_records-requires : goal.row_records-requires
row_records-requires c =
    let begun = ap length c.new-page.ensures.bytes in
    let ended = end-ends _ _ _ c.end_record.ensures in
    let put = output-ends c.args.work.now c.stream_place-from.result c.args.course.length c.output_record.ensures in
    let listed = variables-end _ _ _ _ c.variable_records.ensures (omega arith) (omega arith) in
    (omega arith, omega arith, omega (arith, begun, ended, put, listed, c.new-page.ensures.front, c.requires.output, c.requires.roomy.slots, c.requires.room))

pub returns : goal.returns
returns c =
    let whole =
    sheet-written c.args.work.now c.args.given c.args.behaviour c.args.course c.args.functions _ _ c.end_record.ensures c.output_record.ensures c.variable_records.ensures
    c.row_records.ensures c.stream_place-from.ensures.0 c.variables_place-level.ensures.0 (omega arith) in
    let memory = whole.memory in
    let front = wrote_front whole c.new-page.ensures.bytes c.new-page.ensures.front in
    search rules
