-- The corners of the rules as one table, and the claim on it.
use Rattle.std.specs.Prelude.{◌≡◌, List, ◌++◌, map}
use Rattle.rules.specs.Corner.{Corner, expected, found}
use Rattle.rules.specs.ExpressionCorners.{step_corners, string_corners, embedded_corners, newline_corners, list_corners, error_corners, stream_corners, hold_corners}
use Rattle.rules.specs.InstructionCorners.{assign_corners, export_corners, sequence_corners, subshell_corners, not_corners, if_corners}
use Rattle.rules.specs.InstructionCorners.{nooutput_corners, pipe_corners, utility_corners}
use Rattle.rules.specs.CallCorners.{call_corners, for_corners, while_corners, exit_corners, shift_corners, profile_corners}

abbrev pub corners : List Corner
corners =
    step_corners
    ++ string_corners
    ++ embedded_corners
    ++ newline_corners
    ++ list_corners
    ++ error_corners
    ++ stream_corners
    ++ hold_corners
    ++ assign_corners
    ++ export_corners
    ++ sequence_corners
    ++ subshell_corners
    ++ not_corners
    ++ if_corners
    ++ nooutput_corners
    ++ pipe_corners
    ++ utility_corners
    ++ call_corners
    ++ for_corners
    ++ while_corners
    ++ exit_corners
    ++ shift_corners
    ++ profile_corners

-- every corner's ruling is what the corner tells
abbrev pub CornersClaim : Type 0
CornersClaim = map found corners ≡ map expected corners
