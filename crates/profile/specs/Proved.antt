-- Everything that is proved of this crate, a field a claim. The contract of `claims_hold` asks for it, so that a claim cannot lose its proof unnoticed.
use Rattle.profile.specs.Claims.{OneText, TextFits, OneDrawing, DrawingFits, DrawnLikePrinted, ExerciseA}

pub record Proved : Type 0 where
  pub one_text : OneText
  pub text_fits : TextFits
  pub one_drawing : OneDrawing
  pub drawing_fits : DrawingFits
  pub drawn_like_printed : DrawnLikePrinted
  pub exercise_a : ExerciseA
