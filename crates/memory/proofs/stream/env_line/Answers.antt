use native.Mathlib.Omega.{arith}
use Rattle.memory.proofs.Writing.{line_unmarked, line-unset, line-put, written_none, field_bound}
use Rattle.memory.proofs.stream.env_line.Goals.{then-work-v-eq0-via-then-work-v-eq0, then-work-v-eq0-via-else-work-v-eq0+then-work-v-eq0-2}
use Rattle.memory.proofs.stream.env_line.Goals as goal

pub returns-then-work-v-eq0 : goal.returns-then-work-v-eq0
returns-then-work-v-eq0 c = elim c.then-work-v-eq0.branch [
  | then-work-v-eq0-via-then-work-v-eq0 w ↦ rw (line_unmarked _ _ _ _ w.if-work-v-eq0.true) (written_none _ _)
  | then-work-v-eq0-via-else-work-v-eq0+then-work-v-eq0-2 w ↦ rw (line-unset _ _ _ _ w.if-work-v-eq0-2.true) (written_none _ _)
]

pub put_field-requires : goal.put_field-requires
put_field-requires c = (omega (arith, c.put_field-e.ensures.end), omega (arith, field_bound _ _ _ _ c.put_field-e.ensures (omega arith), c.put_field-e.auto.work, c.requires))

pub returns : goal.returns
returns c = line-put _ _ _ _ c.if-work-v-eq0.false c.if-work-v-eq0-2.false c.put_field-e.ensures c.put_field.ensures (omega arith) (omega arith)
