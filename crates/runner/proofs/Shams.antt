-- Every sham is caught at the inputs named.
-- Assumes nothing.
use mathlib.Core.Path.{◌≡◌, refl, sym, ap, ◌∙◌}
use mathlib.Core.Bool.{true, false, true≢false}
use mathlib.Core.List.{[], ◌∷◌}
use Prim.Native.Nat.{ℕ}
use native.Mathlib.Omega.{arith}
use lib.ListN.{length, get_or, take, replicate}
use lib.Seq.{take_at}
use Rattle.rules.specs.Syntax.{Bytes}
use Rattle.rules.specs.State.{Outcome}
use Rattle.rules.specs.declared.Behaviour.{Behaviour}
use Rattle.rules.specs.Ruling.{Sheet}
use Rattle.result.specs.Encoding.{sheet_bytes, end_record}
use Rattle.result.proofs.Theorems.{bytes_fix_sheet_lem}
use Rattle.runner.specs.Verdict.{Verdict, verdict}
use Rattle.runner.specs.Promise.{wrote, refuses, told, tells, result_after, work_after}
use Rattle.runner.specs.Shams.{Lent, Left, Runner, inputs_of, Keeps, Writes, Caught, Ends, sees, RunsOnly, filled, exercise_a, shallow_a, no_budget}
use Rattle.runner.specs.Shams.{first_instruction, first_iteration, first_field, first_level, end_a, shallow_end}
use Rattle.runner.specs.Shams.{PromiseCanBeKept, OneSheetAtA, RefuserCaught, FixedResultCaught, IdlerCaught, WorkLeftCaught, MainChargerCaught, StepAdderCaught}
use Rattle.runner.specs.Shams.{FirstInstructionCaught, FirstIterationCaught, FirstFieldCaught, FirstLevelCaught}
use Rattle.runner.proofs.Telling.{every_verdict_said}
use Rattle.runner.proofs.ShamInputs.{computed, filled-length, named-inputs}

-- KEEPING THE PROMISE

pub promise_can_be_kept_lem : PromiseCanBeKept
promise_can_be_kept_lem = (
  λ l. record { answer = (every_verdict_said (inputs_of l)).0; result = result_after (verdict (inputs_of l)) l.result; work = work_after (verdict (inputs_of l)) l.work },
  λ l. record { answer = (every_verdict_said (inputs_of l)).1; result = refl; work = refl },
)

-- WHERE A RUN ENDS

wrote_it : (f : Runner) {l : Lent} {s : Sheet} → Ends l s → Keeps f l → Writes f l s
wrote_it f {l} {s} e k = record {
  answer = k.answer ∙ ap tells e;
  sheet = ap (take (length (sheet_bytes s))) (k.result ∙ ap (λ (v : Verdict). result_after v l.result) e) ∙ take_at (sheet_bytes s) _ (length (sheet_bytes s)) refl;
}

-- who does the same at two inputs writes one sheet
one-sheet : (f : Runner) {l m : Lent} {s t : Sheet} → Writes f l s → Writes f m t → f l ≡ f m → s ≡ t
one-sheet f {l} {m} {s} {t} a b e =
    let n : length (sheet_bytes s) ≡ length (sheet_bytes t) = lengths (sym a.answer ∙ ap (λ (x : Left). told x.answer) e ∙ b.answer) in
    bytes_fix_sheet_lem s t (sym a.sheet ∙ (λ j. take (n j) (e j).result) ∙ b.sheet)
  where
    lengths : {i j : ℕ} → wrote i ≡ wrote j → i ≡ j
    lengths h = cc

pub one_sheet_at_A : OneSheetAtA
one_sheet_at_A f s w k = one-sheet f w (wrote_it f named-inputs.a k) refl

-- REFUSALS

refuses_not_wrote : (n p m : ℕ) → refuses n p ≡ wrote m → ⊥
refuses_not_wrote n p m e = let z : ◌≡◌ {A = ℕ} 0 1 = cc in omega arith

pub refuser_caught_lem : RefuserCaught
refuser_caught_lem f sham k =
    let r = sham exercise_a in
    refuses_not_wrote r.0 r.1 (length (sheet_bytes end_a)) (sym r.2 ∙ (wrote_it f named-inputs.a k.0).answer)

-- FIXED RESULTS

pub fixed_result_caught_lem : FixedResultCaught
fixed_result_caught_lem f sham k =
    let a = wrote_it f named-inputs.a k.0 in
    let b = wrote_it f named-inputs.shallow k.1.0 in
    let same : sheet_bytes end_a ≡ sheet_bytes shallow_end =
    sym a.sheet ∙ sham.1 exercise_a _ a.answer ∙ sym (sham.1 shallow_a _ b.answer) ∙ b.sheet in
    omega (arith, ap (λ (s : Sheet). s.steps) (bytes_fix_sheet_lem end_a shallow_end same))

-- MEMORIES AS BEFORE

pub idler_caught_lem : IdlerCaught
unfolding filled sheet_bytes end_record
idler_caught_lem f sham k =
    let same = sym (wrote_it f named-inputs.a k.0).sheet ∙ ap (take (length (sheet_bytes end_a))) (sham exercise_a) in
    let z : ◌≡◌ {A = ℕ} 6 0 = ap (λ (b : Bytes). get_or b 0 0) same in
    omega arith

pub work_left_caught_lem : WorkLeftCaught
unfolding filled
work_left_caught_lem f sham k =
    let e = named-inputs.none in
    let same : filled 65536 1 ≡ replicate 65536 0 =
    sym (sham no_budget 2 0 (k.0.answer ∙ ap tells e)) ∙ k.0.work ∙ ap (λ (v : Verdict). work_after v (filled 65536 1)) e
    ∙ ap (λ (n : ℕ). replicate n 0) (filled-length 65536 1) in
    let z : ◌≡◌ {A = ℕ} 1 0 = ap (λ (b : Bytes). get_or b 0 0) same in
    omega arith

-- A PART OF THE RUN

-- who sees the same at two inputs that end in other results
pair_caught : (part : Lent → Outcome Behaviour) {l m : Lent} {s t : Sheet} → sees part l ≡ sees part m → Ends l s → Ends m t
    → s.result ≡ true → t.result ≡ false → Caught (RunsOnly part) (l ∷ m ∷ [])
pair_caught part {l} {m} {s} {t} same a b succeeds fails f sham k =
    let alike : f l ≡ f m = sham.1 l s a ∙ ap sham.0 same ∙ sym (sham.1 m t b) in
    true≢false (sym succeeds ∙ ap (λ (x : Sheet). x.result) (one-sheet f (wrote_it f a k.0) (wrote_it f b k.1.0) alike) ∙ fails)

pub first_instruction_caught_lem : FirstInstructionCaught
first_instruction_caught_lem = pair_caught first_instruction computed.first-instruction named-inputs.then₀ named-inputs.then₁ refl refl

pub first_iteration_caught_lem : FirstIterationCaught
first_iteration_caught_lem = pair_caught first_iteration computed.first_iteration_lem named-inputs.while₀ named-inputs.while₁ refl refl

pub first_field_caught_lem : FirstFieldCaught
first_field_caught_lem = pair_caught first_field computed.first_field_lem named-inputs.for₀ named-inputs.for₁ refl refl

pub first_level_caught_lem : FirstLevelCaught
first_level_caught_lem = pair_caught first_level computed.first-level named-inputs.call₀ named-inputs.call₁ refl refl

-- FIGURES

pub main_charger_caught_lem : MainChargerCaught
main_charger_caught_lem f sham k = omega (arith, (sham exercise_a end_a (wrote_it f named-inputs.a k.0)).1.0 (omega arith))

pub step_adder_caught_lem : StepAdderCaught
step_adder_caught_lem f sham k = omega (arith, sham exercise_a end_a (wrote_it f named-inputs.a k.0), computed.steps_A)
