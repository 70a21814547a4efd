-- The claims of specs/Claims.antt, proved.
-- Assumes nothing.
use Prim.Native.Nat.{ℕ, zero, suc, ◌≤◌, ◌+◌}
use native.Mathlib.Omega.{arith}
use mathlib.Core.Path.{◌≡◌, refl, sym, ◌∙◌}
use mathlib.Core.List.{List}
use Rattle.rules.specs.Trace.{Trace}
use Rattle.rules.specs.Ruling.{profile}
use Rattle.memory.specs.Profile.{Profiled}
use Rattle.memory.specs.Abstract.{state_of, stream_if}
use Rattle.memory.proofs.Fixed.{put_fixed}
use Rattle.result.specs.Ended.{rows_in, sheet_in}
use Rattle.result.specs.Claims.{EverySheetFits, EveryEndFits, BytesFixSheet, WritingFixed, CountersAreProfile, EndIsRuling}
use Rattle.result.proofs.Sizes.{sheet-length, sheet_bounded}
use Rattle.result.proofs.Injective.{sheet_fixed}
use Rattle.result.specs.Proved.{Proved}

pub every_sheet_fits_lem : EverySheetFits
every_sheet_fits_lem = sheet-length

pub every_end_fits_lem : EveryEndFits
every_end_fits_lem out w g b c n h = let k = sheet_bounded out w g b c n h in (k, sheet-length (sheet_in w g b c n) k)

pub bytes_fix_sheet_lem : BytesFixSheet
bytes_fix_sheet_lem = sheet_fixed

pub writing_fixed_lem : WritingFixed
writing_fixed_lem a s out out' out'' r r' p q = (put_fixed p.put q.put, p.end ∙ sym q.end)

rows-profile : (t : Trace) (w : List ℕ) (f n : ℕ) → Profiled t w → f + n ≤ 33 → rows_in w f n ≡ profile f n t
unfolding rows_in
rows-profile t w f zero p h = refl
rows-profile t w f (suc n) p h =
    rw (p.own f (omega arith), p.entered f (omega arith), p.inclusive f (omega arith), rows-profile t w (suc f) n p (omega arith))

pub counters_are_profile_lem : CountersAreProfile
counters_are_profile_lem t w n p h = rows-profile t w 0 (suc n) p (omega arith)

pub end_is_ruling_lem : EndIsRuling
unfolding sheet_in state_of stream_if
end_is_ruling_lem t i w g b c n p e h = rw (← e, ← counters_are_profile_lem t w n p h)

-- ALL OF THEM

pub proved : Proved
proved = record {
  every_sheet_fits = every_sheet_fits_lem;
  every_end_fits = every_end_fits_lem;
  bytes_fix_sheet = bytes_fix_sheet_lem;
  writing_fixed = writing_fixed_lem;
  counters_are_profile = counters_are_profile_lem;
  end_is_ruling = end_is_ruling_lem;
}
