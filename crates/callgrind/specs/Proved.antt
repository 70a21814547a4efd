-- Everything that is proved of this crate, a field a claim. The contract of `claims_hold` asks for it, so that a claim cannot lose its proof unnoticed.
use Rattle.callgrind.specs.Claims.{FileFits, LargestFile, AnyFileFits, FileReadsBack, TotalsAreSummary, OneFile, OwnAddsUp}
use Rattle.callgrind.specs.Claims.{EveryGraphWithin, FileOfExerciseA}

pub record Proved : Type 0 where
  pub file_fits : FileFits
  pub largest_file : LargestFile
  pub any_file_fits : AnyFileFits
  pub file_reads_back : FileReadsBack
  pub totals_are_summary : TotalsAreSummary
  pub one_file : OneFile
  pub own_adds_up : OwnAddsUp
  pub every_graph_within : EveryGraphWithin
  pub file_of_exercise_a : FileOfExerciseA
