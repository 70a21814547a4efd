-- Every refusal has a number from 1 to 14, to 10 where no file memory is short, and a place of at most 512.
-- Assumes nothing.
use mathlib.Core.Path.{◌≡◌, refl, sym, ap, subst}
use mathlib.Core.Bool.{Bool, true, false}
use mathlib.Core.List.{[], ◌∷◌}
use Prim.Native.Nat.{ℕ, ◌≤◌}
use native.Mathlib.Omega.{arith}
use lib.ListN.{length, get_or, drop}
use Rattle.rules.specs.declared.Behaviour.{Behaviour}
use Rattle.rules.specs.declared.Refusal.{Refusal}
use Rattle.rules.specs.declared.Refusal.TheVariants.{BudgetUsedUp, LongString, LongList, LongStream, ManyHolds}
use Rattle.rules.specs.Syntax.{Bytes}
use Rattle.rules.specs.State.{Outcome, refused, ended, number, limits_of}
use Rattle.rules.specs.Evaluation.{run}
use Rattle.rules.specs.Ruling.{Ruling, ruling, ruling_of}
use Rattle.sheet.specs.Check.{Checked}
use Rattle.sheet.specs.Arguments.{arguments}
use Rattle.sheet.specs.Exact.{Explained, too_long, stops, accepts, Stops, too_many, after_main, a_fault, over_full, main_missing}
use Rattle.sheet.specs.Order.{Inputs, Ruled, not_lent, wrong_sizes, is_short, wrong_limits, rows, first_of, whenever, is_wrong}
use Rattle.sheet.specs.Order as O
use Rattle.sheet.specs.Decode.{program}
use Rattle.sheet.proofs.Explains.{explained}
use Rattle.sheet.proofs.Ordered.{sizes_first, file-next, limits-next, sheet-next}
use Rattle.sheet.specs.Check.{known_of}
use Rattle.runner.specs.Verdict.{Verdict, verdict, ruled, decided, from_rules, arguments_in}
use Rattle.runner.specs.Verdict as D
use Rattle.runner.specs.Promise.{tells}
use Rattle.gateway.specs.Exported.{Sayable}
use Rattle.gateway.proofs.Placed.{Placed, placed, RefusedAt, run-refused}
use Rattle.gateway.proofs.Recorded.{records_of_sheet}

-- a refusal of a number from 1 to 10
record UpToTen (n p : ℕ) : Type 0 where
  first : 1 ≤ n
  last : n ≤ 10
  record512 : p ≤ 512

abbrev Ranged : Verdict → Type 0
Ranged (D.refused n p) = UpToTen n p
Ranged (D.ended s) = Unit {0}

refusable : (n p : ℕ) → 1 ≤ n → n ≤ 10 → p ≤ 512 → UpToTen n p
refusable n p a b c = record { first = a; last = b; record512 = c }

-- THE SHEET

stopped : {s : Bytes} {p n : ℕ} → Stops s p n → UpToTen n p
stopped (too_many a b) = refusable _ _ (omega arith) (omega arith) (omega arith)
stopped (after_main a b c) = refusable _ _ (omega arith) (omega arith) (omega arith)
stopped (a_fault a b c d) = refusable _ _ (omega arith) (omega arith) (omega arith)
stopped (over_full a b c d) = refusable _ _ (omega arith) (omega arith) (omega arith)
stopped (main_missing a b c) = refusable _ _ (omega arith) (omega arith) (omega arith)

checked : {s : Bytes} {c : Checked} → Explained s c → (more : Ruled) (o : Ruling) → Ranged (decided more o)
    → Ranged (decided (O.and_then (O.ruled c) more) o)
checked (too_long h) more o z = refusable 3 0 (omega arith) (omega arith) (omega arith)
checked (stops h p q) more o z = stopped q
checked (accepts h f p q m) more o z = z

-- THE RULES

numbers : (why : Refusal) → (1 ≤ number why) × (number why ≤ 10)
numbers BudgetUsedUp = (omega arith, omega arith)
numbers LongString = (omega arith, omega arith)
numbers LongList = (omega arith, omega arith)
numbers LongStream = (omega arith, omega arith)
numbers ManyHolds = (omega arith, omega arith)

places : (s : Bytes) (p : ℕ) → Placed (program (known_of s)) p → p ≤ 512
places s p (placed x r) = let h = records_of_sheet s x r in omega arith

outcomes : (s : Bytes) (functions : ℕ) (o : Outcome Behaviour) → RefusedAt (program (known_of s)) o → Ranged (from_rules (ruling_of functions o))
outcomes s n (refused why p t) h = refusable _ _ (numbers why).0 (numbers why).1 (places s p h)
outcomes s n (ended b s' t) h = tt

rules : (i : Inputs) → Ranged (from_rules (ruled i))
unfolding ruled ruling
rules i =
    outcomes i.sheet (length (program (known_of i.sheet)).functions)
    (run (limits_of i.loop i.stack i.budget) (program (known_of i.sheet))
    (get_or (arguments_in (arguments i.arguments)) 0 []) (drop 1 (arguments_in (arguments i.arguments))) i.input)
    (run-refused (program (known_of i.sheet)) (limits_of i.loop i.stack i.budget) _ _ i.input)

-- THE ORDER

last : (i : Inputs) (b : Bool) → Ranged (decided (first_of (whenever 5 b ∷ [])) (ruled i))
last i true = refusable 5 0 (omega arith) (omega arith) (omega arith)
last i false = rules i

ordered : (i : Inputs) (x : Ruled) → first_of (rows i) ≡ x → Ranged (decided x (ruled i)) → Ranged (verdict i)
unfolding verdict
ordered i x e h = subst (λ (y : Ruled). Ranged (decided y (ruled i))) (sym e) h

-- where no file memory is short
up_to_ten : (i : Inputs) → is_short i.file ≡ false → Ranged (verdict i)
up_to_ten i f = sizes (wrong_sizes i) refl
  where
    limits : wrong_sizes i ≡ false → (b : Bool) → wrong_limits i ≡ b → Ranged (verdict i)
    limits s true e = ordered i (O.refused 2 0) (limits-next i s f e) (refusable 2 0 (omega arith) (omega arith) (omega arith))
    limits s false e = ordered i _ (sheet-next i s f e) (checked (explained i.sheet) _ (ruled i) (last i (is_wrong (arguments i.arguments))))

    sizes : (b : Bool) → wrong_sizes i ≡ b → Ranged (verdict i)
    sizes true e = ordered i (O.refused 1 0) (sizes_first i e) (refusable 1 0 (omega arith) (omega arith) (omega arith))
    sizes false e = limits e (wrong_limits i) refl

pub plain_up_to_ten_lem : (i : Inputs) (n p : ℕ) → i.file ≡ not_lent → verdict i ≡ D.refused n p → n ≤ 10
plain_up_to_ten_lem i n p f e = (subst Ranged e (up_to_ten i (ap is_short f))).last

-- IN ALL

said : (v : Verdict) → Ranged v → Sayable (tells v)
said (D.refused n p) h = record { first = h.first; last = omega (arith, h.last); record512 = h.record512 }
said (D.ended s) h = tt

pub every_verdict : (i : Inputs) → Sayable (tells (verdict i))
unfolding verdict
every_verdict i = file (is_short i.file) refl
  where
    by_rows : (x : Ruled) → first_of (rows i) ≡ x → Sayable (tells (decided x (ruled i))) → Sayable (tells (verdict i))
    by_rows x e h = subst (λ (y : Ruled). Sayable (tells (decided y (ruled i)))) (sym e) h

    sizes : is_short i.file ≡ true → (b : Bool) → wrong_sizes i ≡ b → Sayable (tells (verdict i))
    sizes f true e = by_rows (O.refused 1 0) (sizes_first i e) (record { first = omega arith; last = omega arith; record512 = omega arith })
    sizes f false e = by_rows (O.refused 14 0) (file-next i e f) (record { first = omega arith; last = omega arith; record512 = omega arith })

    file : (b : Bool) → is_short i.file ≡ b → Sayable (tells (verdict i))
    file true f = sizes f (wrong_sizes i) refl
    file false f = said (verdict i) (up_to_ten i f)
