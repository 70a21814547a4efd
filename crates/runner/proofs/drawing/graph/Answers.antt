use Rattle.runner.proofs.Drawings.{graph_small, graph_odd, graph_short, drawn}
use Rattle.runner.proofs.drawing.graph.Goals as goal
use Rattle.runner.proofs.drawing.graph.Goals.{then-res-lt-RESULT_BYTES-via-then-res-lt-RESULT_BYTES, then-res-lt-RESULT_BYTES-via-else-res-lt-RESULT_BYTES+then-work-ne-WORK_BYTES}

pub returns-then-res-lt-RESULT_BYTES : goal.returns-then-res-lt-RESULT_BYTES
returns-then-res-lt-RESULT_BYTES c =
    elim c.then-res-lt-RESULT_BYTES.branch [
      | then-res-lt-RESULT_BYTES-via-then-res-lt-RESULT_BYTES w ↦ graph_small _ _ _ _ _ _ _ _ _ w.if-res-lt-RESULT_BYTES.true
      | then-res-lt-RESULT_BYTES-via-else-res-lt-RESULT_BYTES+then-work-ne-WORK_BYTES w ↦ graph_odd _ _ _ _ _ _ _ _ _ w.if-res-lt-RESULT_BYTES.false w.if-work-ne-WORK_BYTES.true
    ]

pub returns-then-file-lt-FILE_BYTES : goal.returns-then-file-lt-FILE_BYTES
returns-then-file-lt-FILE_BYTES c = graph_short _ _ _ _ _ _ _ _ _ c.if-res-lt-RESULT_BYTES.false c.if-work-ne-WORK_BYTES.false c.if-file-lt-FILE_BYTES.true

pub returns : goal.returns
returns c = drawn _ _ _ _ _ _ _ _ _ c.if-res-lt-RESULT_BYTES.false c.if-work-ne-WORK_BYTES.false c.if-file-lt-FILE_BYTES.false c.clear.ensures c.limited-done.ensures c.clear-2.ensures c.draw-drawn.ensures
