-- The claims of specs/Claims.antt, proved.
-- Assumes nothing.
use native.Mathlib.Omega.{arith}
use mathlib.Core.Path.{refl, sym, ap, ◌∙◌}
use lib.ListN.{length, drop, length-append}
use Rattle.text.specs.Decimal.{digits, decimal}
use Rattle.text.specs.Names.{function_name}
use Rattle.profile.specs.Lines.{end_line, behaviour_name, truth_name, function_lines, function_line, figures, name_of}
use Rattle.profile.specs.Printed.{printed}
use Rattle.profile.specs.Drawn.{drawn}
use Rattle.profile.specs.Claims.{OneText, TextFits, OneDrawing, DrawingFits, ExerciseA}
use Rattle.profile.specs.Proved.{Proved}
use Rattle.profile.proofs.Drawing.{drawn_like_printed_lem}

pub one-text : OneText
one-text b r w t r₁ w₁ t₁ r₂ w₂ t₂ n₁ n₂ p q =
    (p.length ∙ sym q.length, p.result ∙ sym q.result, p.work ∙ sym q.work, p.text ∙ sym q.text)

pub text-fits : TextFits
text-fits b r w t r' w' t' n p = omega (arith, p.length, ap length p.text, length-append (printed b) (drop (length (printed b)) t))

pub one_drawing_lem : OneDrawing
one_drawing_lem b r w t r₁ w₁ t₁ r₂ w₂ t₂ n₁ n₂ p q =
    (p.length ∙ sym q.length, p.result ∙ sym q.result, p.work ∙ sym q.work, p.text ∙ sym q.text)

pub drawing_fits_lem : DrawingFits
drawing_fits_lem b r w t r' w' t' n p = omega (arith, p.length, ap length p.text, length-append (drawn b) (drop (length (drawn b)) t))

pub exercise_a_lem : ExerciseA
unfolding end_line behaviour_name truth_name function_lines function_line figures name_of function_name decimal digits
exercise_a_lem = refl

-- ALL OF THEM

pub proved : Proved
proved = record {
  one_text = one-text;
  text_fits = text-fits;
  one_drawing = one_drawing_lem;
  drawing_fits = drawing_fits_lem;
  drawn_like_printed = drawn_like_printed_lem;
  exercise_a = exercise_a_lem;
}
