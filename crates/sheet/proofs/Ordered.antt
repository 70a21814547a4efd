-- The walk goes by the rows: at each record the first row that holds decides; and the rows of a run's inputs, one after the other.
use mathlib.Core.Path.{◌≡◌, refl, ◌∙◌}
use mathlib.Core.Bool.{Bool, true, false, not, cond}
use mathlib.Core.List.{[], ◌∷◌}
use Prim.Native.Nat.{ℕ, suc, ◌+◌, ◌<◌}
use native.Mathlib.Omega.{arith}
use lib.Dec.{ltb}
use lib.ListN.{length}
use borrow.Author.Tests.{lt-ltb, le-leb, lt-leb}
use Rattle.rules.specs.Syntax.{Bytes}
use Rattle.sheet.specs.Format.{shape}
use Rattle.sheet.specs.Check.{Known, next, start, count, ends_in_main, judge, fine, faulty, full, is_cut, is_second, is_over, right, kind_here, payload_here, Checked, accepted, refused, walk, check, onward}
use Rattle.sheet.specs.Arguments.{arguments}
use Rattle.sheet.specs.Order.{Inputs, passes, first_of, whenever, wrong_sizes, is_short, wrong_limits, walked, is_wrong, rows, record_rows, unless, ruled}
use Rattle.sheet.specs.Order as O

record_order : (n : ℕ) (main cut right second over : Bool) (K : Known) (more : Known → Checked)
    → cond main (refused 4 n) (onward n (cond cut faulty (cond (not right) faulty (cond second faulty (cond over full fine)))) K more)
    ≡ unless (cond main (O.refused 4 n) (cond cut (O.refused 4 n) (cond (not right) (O.refused 4 n) (cond second (O.refused 4 n) (cond over (O.refused 3 n) passes))))) (more K)
record_order n true c r d o K more = refl
record_order n false true r d o K more = refl
record_order n false false false d o K more = refl
record_order n false false true true o K more = refl
record_order n false false true false true K more = refl
record_order n false false true false false K more = refl

-- one step of the walk
pub walk_in_order : (s : Bytes) (K : Known) (left : ℕ) → count K + suc left ≡ 512 → K.end < length s
    → walk s (suc left) K ≡ unless (first_of (record_rows s K)) (walk s left (next s K))
unfolding walk record_rows judge
walk_in_order s K left e l =
    rw (lt-ltb K.end (length s) l, lt-leb 512 (count K) (omega arith))
    (record_order (count K) (ends_in_main K) (is_cut s K.end) (right K (shape (kind_here s K)) (payload_here s K)) (is_second s K) (is_over s K) (next s K) (walk s left))

-- at record 512
pub walk_at_512 : (s : Bytes) (K : Known) (more : Checked) → count K ≡ 512 → K.end < length s → walk s 0 K ≡ unless (first_of (record_rows s K)) more
unfolding walk record_rows
walk_at_512 s K more e l = rw (lt-ltb K.end (length s) l, le-leb 512 (count K) (omega arith))

-- A RUN'S INPUTS, one row after the other

module _ (i : Inputs) where
  pub sizes_first : wrong_sizes i ≡ true → first_of (rows i) ≡ O.refused 1 0
  unfolding rows
  sizes_first a = rw a

  pub file-next : wrong_sizes i ≡ false → is_short i.file ≡ true → first_of (rows i) ≡ O.refused 14 0
  unfolding rows
  file-next a f = rw (a, f)

  module _ (a : wrong_sizes i ≡ false) (f : is_short i.file ≡ false) where
    pub limits-next : wrong_limits i ≡ true → first_of (rows i) ≡ O.refused 2 0
    unfolding rows
    limits-next b = rw (a, f, b)

    module _ (b : wrong_limits i ≡ false) where
      after-limits : first_of (rows i) ≡ first_of (whenever 3 (ltb 8192 (length i.sheet)) ∷ walked (walk i.sheet 512 start) ∷ whenever 5 (is_wrong (arguments i.arguments)) ∷ [])
      unfolding rows
      after-limits = rw (a, f, b)

      sheet_then : (x : Bool) (c : Checked) (y : Bool)
          → first_of (whenever 3 x ∷ walked c ∷ whenever 5 y ∷ []) ≡ O.and_then (ruled (cond x (refused 3 0) c)) (first_of (whenever 5 y ∷ []))
      sheet_then true c y = refl
      sheet_then false (accepted K) y = refl
      sheet_then false (refused n r) y = refl

      -- then the sheet's check, then the arguments
      pub sheet-next : first_of (rows i) ≡ O.and_then (ruled (check i.sheet)) (first_of (whenever 5 (is_wrong (arguments i.arguments)) ∷ []))
      unfolding check
      sheet-next = after-limits ∙ sheet_then (ltb 8192 (length i.sheet)) (walk i.sheet 512 start) (is_wrong (arguments i.arguments))
