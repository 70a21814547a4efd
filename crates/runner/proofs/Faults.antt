-- The faults of a run's inputs (specs/Demands) and its verdict: each fault is given, and inputs without one are left to the rules.
use mathlib.Core.Path.{◌≡◌, refl, sym, ap, ◌∙◌}
use mathlib.Core.Bool.{Bool, true, false, ◌||◌}
use mathlib.Core.Logic.{⊎_elim}
use Prim.Native.Nat.{ℕ, ◌<◌, ◌≤◌}
use native.Mathlib.Omega.{arith}
use native.Mathlib.Decide.{ℕ_discrete, dec_lt}
use lib.Dec.{ltb, eqb}
use lib.ListN.{length}
use borrow.Author.Tests.{lt-ltb, ltb-true, eq-eqb, eqb-true}
use Rattle.std.proofs.Math.Bool.{Bool-discrete}
use Rattle.std.proofs.lemmas.Bool.{or_cases, or_left, or_right, false_from_ne_true}
use Rattle.rules.specs.Syntax.{Bytes}
use Rattle.sheet.specs.Check.{Checked, Known, check}
use Rattle.sheet.specs.Check as C
use Rattle.sheet.specs.Arguments as A
use Rattle.sheet.specs.WellFormed.{IsBytes, items_of}
use Rattle.sheet.proofs.Theorems.{accepted-exactly, refused-exactly, arguments-exactly}
use Rattle.sheet.specs.Order.{Inputs, FileMemory, not_lent, lent, is_short, wrong_limits}
use Rattle.sheet.specs.Check.{known_of, known_in}
use Rattle.runner.specs.Verdict.{verdict}
use Rattle.runner.specs.Verdict as D
use Rattle.runner.specs.Demands.{ShortMemory, ShortFile, OddLimits, Script, Arguments, Fault, Accepted, Bytewise}
use Rattle.runner.specs.Demands as demands
use Rattle.runner.proofs.Ordering.{small_result, odd_work, file-refused, limits-refused, sheet-refused, arguments-refused}

-- SIZES AND LIMITS

pub short_or_right : (i : Inputs) → Dec (ShortMemory i)
short_or_right i = go (dec_lt i.result_size 4096) (ℕ_discrete i.work_size 65536)
  where
    right : ¬ (i.result_size < 4096) → i.work_size ≡ 65536 → ¬ ShortMemory i
    right h e (demands.result_short l) = h l
    right h e (demands.work_odd n) = n e

    go : Dec (i.result_size < 4096) → Dec (i.work_size ≡ 65536) → Dec (ShortMemory i)
    go (yes h) k = yes (demands.result_short h)
    go (no h) (yes e) = no (right h e)
    go (no h) (no n) = yes (demands.work_odd n)

module _ (i : Inputs) (right : ¬ ShortMemory i) where
  pub room : 4096 ≤ i.result_size
  room = go (dec_lt i.result_size 4096)
    where
      go : Dec (i.result_size < 4096) → 4096 ≤ i.result_size
      go (yes h) = absurd (right (demands.result_short h))
      go (no h) = omega arith

  pub size : i.work_size ≡ 65536
  size = go (ℕ_discrete i.work_size 65536)
    where
      go : Dec (i.work_size ≡ 65536) → i.work_size ≡ 65536
      go (yes e) = e
      go (no n) = absurd (right (demands.work_odd n))

-- the test of the file memory
file_odd : (i : Inputs) → ShortFile i → is_short i.file ≡ true
file_odd i (demands.file_short n e h) = ap is_short e ∙ lt-ltb n 65536 h

odd_file : (i : Inputs) → is_short i.file ≡ true → ShortFile i
odd_file i = go i.file refl
  where
    go : (f : FileMemory) → i.file ≡ f → is_short f ≡ true → ShortFile i
    go not_lent e h = absurd (let z : ◌≡◌ {A = ℕ} 0 1 = cc in omega arith)
    go (lent n) e h = demands.file_short n e (ltb-true n 65536 h)

-- one of the tests of the limits holds
odd_limit : (i : Inputs) → wrong_limits i ≡ true → OddLimits i
odd_limit i =
    first (ltb 65535 i.loop) _ (λ e. demands.loop (ltb-true 65535 i.loop e))
    (first (ltb 10 i.stack) _ (λ e. demands.stack (ltb-true 10 i.stack e))
    (first (eqb i.budget 0) _ (λ e. demands.no_budget (eqb-true i.budget 0 e))
    (first (ltb 1000000 i.budget) _ (λ e. demands.budget (ltb-true 1000000 i.budget e))
    (λ e. demands.input (ltb-true 1024 (length i.input) e)))))
  where
    first : (b c : Bool) → (b ≡ true → OddLimits i) → (c ≡ true → OddLimits i) → (b || c) ≡ true → OddLimits i
    first b c f g e = ⊎_elim f g (or_cases b c e)

limit_odd : (i : Inputs) → OddLimits i → wrong_limits i ≡ true
limit_odd i (demands.loop h) = or_left (ltb 65535 i.loop) _ (lt-ltb 65535 i.loop h)
limit_odd i (demands.stack h) = or_right (ltb 65535 i.loop) _ (or_left (ltb 10 i.stack) _ (lt-ltb 10 i.stack h))
limit_odd i (demands.no_budget e) =
    or_right (ltb 65535 i.loop) _ (or_right (ltb 10 i.stack) _ (or_left (eqb i.budget 0) _ (eq-eqb i.budget 0 e)))
limit_odd i (demands.budget h) =
    or_right (ltb 65535 i.loop) _ (or_right (ltb 10 i.stack) _ (or_right (eqb i.budget 0) _
    (or_left (ltb 1000000 i.budget) _ (lt-ltb 1000000 i.budget h))))
limit_odd i (demands.input h) =
    or_right (ltb 65535 i.loop) _ (or_right (ltb 10 i.stack) _ (or_right (eqb i.budget 0) _
    (or_right (ltb 1000000 i.budget) _ (lt-ltb 1024 (length i.input) h))))

pub file_or_right : (i : Inputs) → Dec (ShortFile i)
file_or_right i = go (Bool-discrete (is_short i.file) true)
  where
    go : Dec (is_short i.file ≡ true) → Dec (ShortFile i)
    go (yes e) = yes (odd_file i e)
    go (no n) = no (λ o. n (file_odd i o))

pub file-right : (i : Inputs) → ¬ ShortFile i → is_short i.file ≡ false
file-right i n = false_from_ne_true (is_short i.file) (λ e. n (odd_file i e))

pub odd_or_right : (i : Inputs) → Dec (OddLimits i)
odd_or_right i = go (Bool-discrete (wrong_limits i) true)
  where
    go : Dec (wrong_limits i ≡ true) → Dec (OddLimits i)
    go (yes e) = yes (odd_limit i e)
    go (no n) = no (λ o. n (limit_odd i o))

pub limits-right : (i : Inputs) → ¬ OddLimits i → wrong_limits i ≡ false
limits-right i n = false_from_ne_true (wrong_limits i) (λ e. n (odd_limit i e))

-- THE SHEET

pub known-accepted : (s : Bytes) (K : Known) → check s ≡ C.accepted K → check s ≡ C.accepted (known_of s)
unfolding known_of
known-accepted s K e = e ∙ ap (λ (c : Checked). C.accepted (known_in c)) (sym e)

pub script-accepted : (s : Bytes) → Script s → check s ≡ C.accepted (known_of s)
script-accepted s x =
    let a = (accepted-exactly.1 x.records x.good).1 in
    known-accepted s a.known (ap check x.is ∙ a.accepts)

accepted-script : (s : Bytes) (K : Known) → IsBytes s → check s ≡ C.accepted K → Script s
accepted-script s K b e = let a = accepted-exactly.0 s K b e in record { records = items_of K; good = a.0; is = a.1 }

-- EVERY FAULT IS GIVEN

module _ (i : Inputs) (bytes : Bytewise i) where
  pub fault_given : (n p : ℕ) → Fault i n p → verdict i ≡ D.refused n p
  fault_given n p (demands.short_memory (demands.result_short h)) = small_result i h
  fault_given n p (demands.short_memory (demands.work_odd e)) = go (dec_lt i.result_size 4096)
    where
      go : Dec (i.result_size < 4096) → verdict i ≡ D.refused 1 0
      go (yes h) = small_result i h
      go (no h) = odd_work i (omega arith) e
  fault_given n p (demands.short_file m f) = file-refused i (room i m) (size i m) (file_odd i f)
  fault_given n p (demands.odd_limits m f o) = limits-refused i (room i m) (size i m) (file-right i f) (limit_odd i o)
  fault_given n p (demands.broken_program m g o f) =
      sheet-refused i (room i m) (size i m) (file-right i g) (limits-right i o) n p ((refused-exactly i.sheet n p bytes.sheet).1 f)
  fault_given n p (demands.bad_arguments m f o x a) =
      arguments-refused i (room i m) (size i m) (file-right i f) (limits-right i o) 5 0 (script-accepted i.sheet x)
      ((arguments-exactly i.arguments bytes.arguments).else (λ texts t. a (record { texts = texts; are = t })))

  -- INPUTS HAVE A FAULT OR ARE ACCEPTED

  pub data Sorted : Type 0 where
    faulty : (n p : ℕ) → Fault i n p → Sorted
    fine : Accepted i → Sorted

  module _ (m : ¬ ShortMemory i) (f : ¬ ShortFile i) (o : ¬ OddLimits i) where
    by-texts : Script i.sheet → (x : A.Arguments) → A.arguments i.arguments ≡ x → Sorted
    by-texts s (A.given as') e =
        fine (record { memory = m; file = f; limits = o; script = s; arguments = record { texts = as'; are = ((arguments-exactly i.arguments bytes.arguments).given as').0 e } })
    by-texts s (A.refused n p) e =
        faulty 5 0 (demands.bad_arguments m f o s (λ a. ((arguments-exactly i.arguments bytes.arguments).refused n p e).2 a.texts a.are))

    by-records : (c : Checked) → check i.sheet ≡ c → Sorted
    by-records (C.accepted K) e = by-texts (accepted-script i.sheet K bytes.sheet e) (A.arguments i.arguments) refl
    by-records (C.refused n p) e = faulty n p (demands.broken_program m f o ((refused-exactly i.sheet n p bytes.sheet).0 e))

  by-limits : ¬ ShortMemory i → ¬ ShortFile i → Dec (OddLimits i) → Sorted
  by-limits m f (yes o) = faulty 2 0 (demands.odd_limits m f o)
  by-limits m f (no o) = by-records m f o (check i.sheet) refl

  by-file : ¬ ShortMemory i → Dec (ShortFile i) → Sorted
  by-file m (yes f) = faulty 14 0 (demands.short_file m f)
  by-file m (no f) = by-limits m f (odd_or_right i)

  by-memory : Dec (ShortMemory i) → Sorted
  by-memory (yes m) = faulty 1 0 (demands.short_memory m)
  by-memory (no m) = by-file m (file_or_right i)

  pub sorted : Sorted
  sorted = by-memory (short_or_right i)
