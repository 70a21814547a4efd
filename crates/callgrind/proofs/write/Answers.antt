use Rattle.std.proofs.Common.{rules}
use Rattle.text.proofs.Ends.{wrote_front}
use Rattle.text.proofs.Names.{few}
use Rattle.callgrind.specs.Ended.{graph_in}
use Rattle.callgrind.proofs.Pieces.{file-whole}
use Rattle.callgrind.proofs.write.Goals as goal

pub invariant_of-names : goal.invariant_of-names
invariant_of-names c = record { tabled = c.requires.tables; few = few c.requires.tables }

pub returns : goal.returns
unfolding graph_in
returns c =
    let whole =
    file-whole (graph_in c.args.sheet.now c.args.work.now c.args.functions) c.number-steps.ensures.0 c.header.ensures
    c.definitions.ensures c.blocks-2.ensures c.between.ensures in
    let memory = whole.memory in
    let front = wrote_front whole c.new-page.ensures.bytes c.new-page.ensures.front in
    search rules
