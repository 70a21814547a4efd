-- The claims of specs/Claims.antt, proved.
-- Assumes nothing.
use mathlib.Core.Path.{sym, ap, ◌∙◌}
use Rattle.std.specs.Prelude.{option_map}
use Rattle.bundle.specs.Claims.{parts_moved, OneResult, AnswerTellsBundle, PartsLocated, WrittenIsRead, FittingIsBytes, NothingElseIsRead}
use Rattle.bundle.proofs.Telling.{told_is, answer-same}
use Rattle.bundle.proofs.Telling as T
use Rattle.bundle.proofs.Written.{written_read}
use Rattle.bundle.proofs.Exact.{only_bundles, fitting_bytes}
use Rattle.bundle.specs.Proved.{Proved}

pub one-result : OneResult
one-result s t a₁ a₂ e p q = q ∙ answer-same s t e ∙ ap (option_map (parts_moved s t)) (sym p)

pub answer_tells_bundle_lem : AnswerTellsBundle
answer_tells_bundle_lem = told_is

pub parts_located_lem : PartsLocated
parts_located_lem = T.parts_located_lem

pub written_is_read_lem : WrittenIsRead
written_is_read_lem = written_read

pub fitting_is_bytes_lem : FittingIsBytes
fitting_is_bytes_lem = fitting_bytes

pub nothing_else_is_read_lem : NothingElseIsRead
nothing_else_is_read_lem = only_bundles

-- ALL OF THEM

pub proved : Proved
proved = record {
  one_result = one-result;
  answer_tells_bundle = answer_tells_bundle_lem;
  parts_located = parts_located_lem;
  written_is_read = written_is_read_lem;
  fitting_is_bytes = fitting_is_bytes_lem;
  nothing_else_is_read = nothing_else_is_read_lem;
}
