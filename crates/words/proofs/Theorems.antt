-- The claims of specs/Claims.antt, proved.
use native.Mathlib.Omega.{arith}
use Prim.Native.Nat.{◌+◌, ◌%◌}
use mathlib.Core.Path.{refl, sym, ◌∙◌}
use Rattle.words.specs.Claims.{OneNumber, PartsAdmitMany}
use Rattle.words.specs.Words.{given_of, scope_of, pace_of, feed_of, end_of}
use Rattle.words.specs.Proved.{Proved}
use Rattle.words.proofs.Digits.{pace-low}

pub one_number_lem : {N A : Type 0} (of : N → A) → OneNumber of
one_number_lem of what n r s p q = p.number ∙ sym q.number

pub parts_admit_many_lem : PartsAdmitMany
parts_admit_many_lem n = sym (pace-low _ (n + 4294967296) refl) ∙ pace-low ((n + 4294967296) % 4294967296) n (omega arith)

-- ALL OF THEM

pub proved : Proved
proved = record {
  limits = λ unit. one_number_lem (given_of unit);
  scopes = one_number_lem scope_of;
  paces = one_number_lem pace_of;
  feeds = one_number_lem feed_of;
  ends = one_number_lem end_of;
  parts_admit_many = parts_admit_many_lem;
}
