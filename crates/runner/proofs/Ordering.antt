-- The verdict, row by row of the order.
use mathlib.Core.Path.{◌≡◌, refl, sym, ap, ◌∙◌, subst}
use mathlib.Core.Bool.{Bool, true, false, ◌||◌, not}
use mathlib.Core.List.{List, [], ◌∷◌}
use Prim.Native.Nat.{ℕ, ◌<◌, ◌≤◌}
use lib.Dec.{eqb}
use lib.ListN.{length, get_or, drop, replicate}
use borrow.Author.Tests.{le-ltb, lt-ltb, eq-eqb, ne_eqb}
use Rattle.rules.specs.declared.Behaviour.{Behaviour}
use Rattle.rules.specs.declared.Refusal.{Refusal}
use Rattle.rules.specs.declared.Refusal.TheVariants.{BudgetUsedUp, LongString, LongList, LongStream, ManyHolds}
use Rattle.rules.specs.Syntax.{Bytes}
use Rattle.rules.specs.State.{Outcome, ended, refused, limits_of, number}
use Rattle.rules.specs.Evaluation.{run}
use Rattle.rules.specs.Ruling.{Ruling, Sheet, ruling, ruling_of}
use Rattle.sheet.specs.Check.{Checked, check}
use Rattle.sheet.specs.Check as C
use Rattle.sheet.specs.Arguments.{arguments}
use Rattle.sheet.specs.Arguments as A
use Rattle.sheet.specs.Exact.{Explained, too_long, stops, accepts, Stops, too_many, after_main, a_fault, over_full, main_missing}
use Rattle.sheet.specs.Order.{Inputs, Ruled, wrong_sizes, is_short, wrong_limits, rows, first_of, whenever, is_wrong}
use Rattle.sheet.specs.Order as O
use Rattle.sheet.proofs.Explains.{explained}
use Rattle.sheet.proofs.Ordered.{sizes_first, file-next, limits-next, sheet-next}
use Rattle.sheet.specs.Decode.{program}
use Rattle.sheet.specs.Check.{known_of}
use Rattle.runner.specs.Promise.{work_after}
use Rattle.runner.specs.Verdict.{Verdict, verdict, ruled, decided, from_rules}
use Rattle.runner.specs.Verdict as D

-- SIZES

right_sizes : (i : Inputs) → 4096 ≤ i.result_size → i.work_size ≡ 65536 → wrong_sizes i ≡ false
right_sizes i h e = λ j. le-ltb i.result_size 4096 h j || not (eq-eqb i.work_size 65536 e j)

pub by_order : (i : Inputs) (x : Ruled) → first_of (rows i) ≡ x → verdict i ≡ decided x (ruled i)
unfolding verdict
by_order i x e = ap (λ (y : Ruled). decided y (ruled i)) e

pub small_result : (i : Inputs) → i.result_size < 4096 → verdict i ≡ D.refused 1 0
small_result i h = by_order i (O.refused 1 0) (sizes_first i (λ j. lt-ltb i.result_size 4096 h j || not (eqb i.work_size 65536)))

pub odd_work : (i : Inputs) → 4096 ≤ i.result_size → (i.work_size ≡ 65536 → ⊥) → verdict i ≡ D.refused 1 0
odd_work i h n = by_order i (O.refused 1 0) (sizes_first i (λ j. le-ltb i.result_size 4096 h j || not (ne_eqb i.work_size 65536 n j)))

pub file-refused : (i : Inputs) → 4096 ≤ i.result_size → i.work_size ≡ 65536 → is_short i.file ≡ true → verdict i ≡ D.refused 14 0
file-refused i room size f = by_order i (O.refused 14 0) (file-next i (right_sizes i room size) f)

-- THE REST, where the sizes are right

module _ (i : Inputs) (room : 4096 ≤ i.result_size) (size : i.work_size ≡ 65536) (file : is_short i.file ≡ false) where
  pub limits-refused : wrong_limits i ≡ true → verdict i ≡ D.refused 2 0
  limits-refused b = by_order i (O.refused 2 0) (limits-next i (right_sizes i room size) file b)

  module _ (limits : wrong_limits i ≡ false) where
    by-sheet : verdict i ≡ decided (O.and_then (O.ruled (check i.sheet)) (first_of (whenever 5 (is_wrong (arguments i.arguments)) ∷ []))) (ruled i)
    by-sheet = by_order i _ (sheet-next i (right_sizes i room size) file limits)

    pub sheet-refused : (n p : ℕ) → check i.sheet ≡ C.refused n p → verdict i ≡ D.refused n p
    sheet-refused n p e =
        by-sheet ∙ (λ j. decided (O.and_then (O.ruled (e j)) (first_of (whenever 5 (is_wrong (arguments i.arguments)) ∷ []))) (ruled i))

    pub arguments-refused : (n p : ℕ) → check i.sheet ≡ C.accepted (known_of i.sheet) → arguments i.arguments ≡ A.refused n p → verdict i ≡ D.refused 5 0
    arguments-refused n p e f = by-sheet ∙ (λ j. decided (O.and_then (O.ruled (e j)) (first_of (whenever 5 (is_wrong (f j)) ∷ []))) (ruled i))

    pub by-ruled : (texts : List Bytes) → check i.sheet ≡ C.accepted (known_of i.sheet) → arguments i.arguments ≡ A.given texts → verdict i ≡ from_rules (ruled i)
    by-ruled texts e f = by-sheet ∙ (λ j. decided (O.and_then (O.ruled (e j)) (first_of (whenever 5 (is_wrong (f j)) ∷ []))) (ruled i))

    pub by_rules : (texts : List Bytes) → check i.sheet ≡ C.accepted (known_of i.sheet) → arguments i.arguments ≡ A.given texts
        → verdict i ≡ from_rules (ruling (limits_of i.loop i.stack i.budget) (program (known_of i.sheet)) (get_or texts 0 []) (drop 1 texts) i.input)
    unfolding ruled
    by_rules texts e f =
        by-ruled texts e f
        ∙ (λ j. from_rules (ruling (limits_of i.loop i.stack i.budget) (program (known_of i.sheet))
        (get_or (D.arguments_in (f j)) 0 []) (drop 1 (D.arguments_in (f j))) i.input))

-- WHAT A VERDICT CAN BE, where the sizes are right

-- what is so of 2 and 5, of 3 and 4 at every place, of the rules' refusals and of every end
pub record Throughout (P : Verdict → Type 0) : Type 0 where
  pub limits : P (D.refused 2 0)
  pub full : (place : ℕ) → P (D.refused 3 place)
  pub faulty : (place : ℕ) → P (D.refused 4 place)
  pub arguments : P (D.refused 5 0)
  pub midway : (why : Refusal) (place : ℕ) → P (D.refused (number why) place)
  pub end : (s : Sheet) → P (D.ended s)

module _ (P : Verdict → Type 0) (h : Throughout P) where
  stopped : {s : Bytes} {n k : ℕ} → Stops s n k → (p : ℕ) → P (D.refused k p)
  stopped (too_many a b) p = h.full p
  stopped (after_main a b c) p = h.faulty p
  stopped (a_fault a b c d) p = h.faulty p
  stopped (over_full a b c d) p = h.full p
  stopped (main_missing a b c) p = h.faulty p

  by-check : {s : Bytes} {c : Checked} → Explained s c → (more : Ruled) (o : Ruling) → P (decided more o) → P (decided (O.and_then (O.ruled c) more) o)
  by-check (too_long a) more o z = h.full 0
  by-check (stops {n = n} a p q) more o z = stopped q n
  by-check (accepts a f p q m) more o z = z

  by-outcome : (functions : ℕ) (o : Outcome Behaviour) → P (from_rules (ruling_of functions o))
  by-outcome n (refused why p t) = h.midway why p
  by-outcome n (ended b s t) = h.end _

  by-ruling : (i : Inputs) → P (from_rules (ruled i))
  unfolding ruled ruling
  by-ruling i =
      by-outcome (length (program (known_of i.sheet)).functions)
      (run (limits_of i.loop i.stack i.budget) (program (known_of i.sheet))
      (get_or (D.arguments_in (arguments i.arguments)) 0 []) (drop 1 (D.arguments_in (arguments i.arguments))) i.input)

  by-arguments : (i : Inputs) (b : Bool) → P (decided (first_of (whenever 5 b ∷ [])) (ruled i))
  by-arguments i true = h.arguments
  by-arguments i false = by-ruling i

  pub throughout : (i : Inputs) → wrong_sizes i ≡ false → is_short i.file ≡ false → P (verdict i)
  throughout i right file = go (wrong_limits i) refl
    where
      go : (b : Bool) → wrong_limits i ≡ b → P (verdict i)
      go true e = subst P (sym (by_order i (O.refused 2 0) (limits-next i right file e))) h.limits
      go false e =
          subst P (sym (by_order i _ (sheet-next i right file e)))
          (by-check (explained i.sheet) _ (ruled i) (by-arguments i (is_wrong (arguments i.arguments))))

-- no row but the first two refuses a size, so work memory is cleared
pub work-cleared : (i : Inputs) → 4096 ≤ i.result_size → i.work_size ≡ 65536 → is_short i.file ≡ false → (w : Bytes)
    → work_after (verdict i) w ≡ replicate (length w) 0
work-cleared i room size file w =
    throughout (λ v. work_after v w ≡ replicate (length w) 0)
    (record { limits = refl; full = λ p. refl; faulty = λ p. refl; arguments = refl; midway = midway; end = λ s. refl })
    i (right_sizes i room size) file
  where
    midway : (why : Refusal) (p : ℕ) → work_after (D.refused (number why) p) w ≡ replicate (length w) 0
    midway BudgetUsedUp p = refl
    midway LongString p = refl
    midway LongList p = refl
    midway LongStream p = refl
    midway ManyHolds p = refl
