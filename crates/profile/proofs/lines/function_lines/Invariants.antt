use Prim.Native.Nat.{◌*◌}
use Rattle.text.specs.Put.{Fitted}
use Rattle.profile.specs.Rendered.{lines_in}
use Rattle.profile.proofs.lines.function_lines.Given as goal

abbrev pub invariant-loop-f : goal.invariant-loop-f
invariant-loop-f l = Fitted (111 * l.f) (lines_in l.names.sheet.now l.rows l.f) l.initial.page l.page
