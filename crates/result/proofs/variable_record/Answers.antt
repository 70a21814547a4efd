use borrow.Author.Rules.{rules}
use Rattle.memory.specs.Layout.{mark_at}
use Rattle.text.proofs.Ends.{wrote_none}
use Rattle.result.proofs.Records.{variable-unset, variable-written}
use Rattle.result.proofs.variable_record.Goals as goal

pub returns-then-work-v-eq0 : goal.returns-then-work-v-eq0
returns-then-work-v-eq0 c = rw (variable-unset c.args.u.bytes c.args.work.now c.args.f c.args.v c.if-work-v-eq0.true) (wrote_none _)

pub returns : goal.returns
unfolding mark_at
returns c =
    variable-written _ _ _ _ _ _ _ c.header.ensures c.word.ensures c.word-2.ensures c.word-3.ensures c.if-work-v-eq0.false (search rules)
    c.text-name.ensures.0 c.text-value.ensures.0
