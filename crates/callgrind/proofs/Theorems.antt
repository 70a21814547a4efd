-- The claims of specs/Claims.antt, proved.
-- Assumes nothing.
use mathlib.Core.Path.{◌≡◌, refl, sym, ◌∙◌}
use mathlib.Core.Bool.{true}
use mathlib.Core.List.{List, [], ◌∷◌}
use Rattle.rules.specs.Lists.{Every}
use Rattle.rules.specs.Syntax.{Bytes}
use Rattle.sheet.specs.Format.{is_name}
use Rattle.memory.proofs.Fixed.{put_fixed}
use Rattle.text.specs.Decimal.{decimal, digits}
use Rattle.callgrind.specs.File.{definitions, edges_lines, blocks_lines, file_lines, ended, file_of}
use Rattle.callgrind.specs.Claims.{FileFits, LargestFile, AnyFileFits, FileReadsBack, TotalsAreSummary, OneFile, EveryGraphWithin, FileOfExerciseA}
use Rattle.callgrind.specs.Proved.{Proved}
use Rattle.callgrind.proofs.Sizes.{run-file, any-file}
use Rattle.callgrind.proofs.Largest.{largest-within, largest-length}
use Rattle.callgrind.proofs.Cutting.{IsLine, name-line}
use Rattle.callgrind.proofs.ReadBack.{file-read, totals-read}
use Rattle.callgrind.proofs.Runs.{graph_within, own_adds_up_lem}

pub file-fits : FileFits
file-fits = run-file

pub largest-file : LargestFile
largest-file = (largest-within, largest-length)

pub any_file_fits_lem : AnyFileFits
any_file_fits_lem = any-file

name_lines : (names : List Bytes) → Every (λ name. is_name name ≡ true) names → Every IsLine names
name_lines [] h = tt
name_lines (name ∷ names) h = (name-line name h.0, name_lines names h.1)

pub file_reads_back_lem : FileReadsBack
file_reads_back_lem g names blocks = file-read g (name_lines g.names names) blocks

pub totals_are_summary_lem : TotalsAreSummary
totals_are_summary_lem g names = totals-read g (name_lines g.names names)

pub one-file : OneFile
one-file g file file₁ file₂ r₁ r₂ p q = (put_fixed p.put q.put, p.end ∙ sym q.end)

pub every_graph_within_lem : EveryGraphWithin
every_graph_within_lem limits program t made h short = graph_within limits program t made 1000000 h short

pub file_of_exercise_a_lem : FileOfExerciseA
unfolding file_of file_lines definitions edges_lines blocks_lines ended decimal digits
file_of_exercise_a_lem = refl

-- ALL OF THEM

pub proved : Proved
proved = record {
  file_fits = file-fits;
  largest_file = largest-file;
  any_file_fits = any_file_fits_lem;
  file_reads_back = file_reads_back_lem;
  totals_are_summary = totals_are_summary_lem;
  one_file = one-file;
  own_adds_up = own_adds_up_lem;
  every_graph_within = every_graph_within_lem;
  file_of_exercise_a = file_of_exercise_a_lem;
}
