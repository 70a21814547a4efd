-- What is read off the bytes of an ended run: the profile of the rules' trace, and no other end than its own.
use mathlib.Core.Path.{◌≡◌, refl, sym, ap, ◌∙◌, subst}
use mathlib.Core.List.{List, map}
use Prim.Native.Nat.{ℕ, zero, suc, ◌+◌, ◌<◌, ◌≤◌}
use native.Mathlib.Omega.{arith}
use lib.ListN.{length, get_or, take, drop}
use lib.Seq.{take_at}
use Rattle.rules.specs.Syntax.{Bytes}
use Rattle.rules.specs.Trace.{Trace, steps, entered, own, inclusive, sum}
use Rattle.rules.specs.State.{trace_of}
use Rattle.rules.specs.Genuine.{MadeBy}
use Rattle.rules.specs.Ruling.{Row, Sheet, profile}
use Rattle.rules.specs.Claims.{own_of}
use Rattle.rules.proofs.Theorems.{every_trace_accounted_lem, every_run_genuine_lem, every_sheet_accounted_lem}
use Rattle.sheet.specs.Order.{Inputs}
use Rattle.result.specs.Encoding.{sheet_bytes}
use Rattle.result.proofs.Theorems.{bytes_fix_sheet_lem}
use Rattle.std.specs.Prelude.{Ok}
use Rattle.runner.specs.Verdict.{Verdict, verdict, ruled}
use Rattle.runner.specs.Verdict as D
use Rattle.runner.specs.Promise.{Promise, tells, wrote, result_after}
use Rattle.runner.specs.Ran.{program_of, limits_in, given_on, trace_on, functions_of}
use Rattle.runner.specs.Reading.{read_rows, no_row}
use Rattle.runner.specs.Claims.{RowRead, ProfileRead}
use Rattle.runner.proofs.Passing.{ended_answers}
use Rattle.runner.proofs.Ending.{Ending, ending, profile-length}
use Rattle.runner.proofs.ReadingBack.{rows-read, steps-read, one_end}

-- ROWS

abbrev row_for : Trace → (f : ℕ) → Row
row_for t f = record { function = f; entered = entered f t; own = own f t; inclusive = inclusive f t }

row-holds : (t : Trace) (f : ℕ) → RowRead t f (row_for t f)
row-holds t f =
    let a = every_trace_accounted_lem t f in
    record { function = refl; entered = refl; own = refl; inclusive = refl; outermost = a.0; own_below = a.1; never_above = a.2 }

profile-at : (t : Trace) (g k f : ℕ) → f < k → get_or (profile g k t) f no_row ≡ row_for t (g + f)
profile-at t g zero f h = absurd (omega arith)
profile-at t g (suc k) zero h = let e : g ≡ g + 0 = omega arith in ap (row_for t) e
profile-at t g (suc k) (suc f) h = let e : suc g + f ≡ g + suc f = omega arith in profile-at t (suc g) k f (omega arith) ∙ ap (row_for t) e

-- THE SHEET

module _ (i : Inputs) (s : Sheet) (e : verdict i ≡ D.ended s) where
  abbrev end : Ending i s
  end = ending i s e

  trace-is : end.trace ≡ trace_on i
  trace-is = sym (ap trace_of end.ran)

  steps-are : s.steps ≡ steps (trace_on i)
  steps-are = ap (λ (x : Sheet). x.steps) (sym end.is) ∙ ap steps trace-is

  rows_are : read_rows (sheet_bytes s) ≡ profile 0 (suc (functions_of i)) (trace_on i)
  rows_are = rows-read s ∙ ap (λ (x : Sheet). x.profile) (sym end.is) ∙ ap (profile 0 (suc (functions_of i))) trace-is

  charged : (sum (map own_of s.profile) ≡ s.steps) × (s.steps ≤ i.budget)
  unfolding ruled
  charged = let a = every_sheet_accounted_lem (limits_in i) (given_on i) s (ended_answers i s e) in (a.charges, a.within)

  pub sheet-holds : ProfileRead i (program_of i) (trace_on i) (sheet_bytes s)
  sheet-holds = record {
    genuine = subst (MadeBy (limits_in i) (program_of i)) trace-is (every_run_genuine_lem (limits_in i) (given_on i) end.behaviour end.after end.trace end.ran);
    one = ap length (one_end s);
    total = steps-read s ∙ steps-are;
    within = omega (arith, steps-read s, charged.1);
    charges = ap (λ (rs : List Row). sum (map own_of rs)) (rows-read s) ∙ charged.0 ∙ sym (steps-read s);
    many = ap length rows_are ∙ profile-length 0 (suc (functions_of i)) (trace_on i);
    rows = λ f h. subst (RowRead (trace_on i) f) (sym (ap (λ (rs : List Row). get_or rs f no_row) rows_are ∙ at f h)) (row-holds (trace_on i) f);
  }
    where
      at : (f : ℕ) → f ≤ functions_of i → get_or (profile 0 (suc (functions_of i)) (trace_on i)) f no_row ≡ row_for (trace_on i) f
      at f h = let z : 0 + f ≡ f = omega arith in profile-at (trace_on i) 0 (suc (functions_of i)) f (omega arith) ∙ ap (row_for (trace_on i)) z

-- THE RUN

-- the sheet that an ended run wrote
record Wrote (i : Inputs) (r₁ : Bytes) (n : ℕ) : Type 0 where
  sheet : Sheet
  verdict : verdict i ≡ D.ended sheet
  bytes : take n r₁ ≡ sheet_bytes sheet

module _ {i : Inputs} {r w r₁ w₁ : Bytes} {n : ℕ} (p : Promise i r w r₁ w₁ (Ok n)) where
  wrote_it : Wrote i r₁ n
  wrote_it = go (verdict i) refl p.answer p.result
    where
      go : (v : Verdict) → verdict i ≡ v → wrote n ≡ tells v → r₁ ≡ result_after v r → Wrote i r₁ n
      go (D.refused m q) e a b = absurd (let z : ◌≡◌ {A = ℕ} 0 1 = cc in omega arith)
      go (D.ended s) e a b = record {
        sheet = s;
        verdict = e;
        bytes = ap (take n) b ∙ take_at (sheet_bytes s) (drop (length (sheet_bytes s)) r) n (cc);
      }

  pub profile-read : ProfileRead i (program_of i) (trace_on i) (take n r₁)
  profile-read =
      let d = wrote_it in
      subst (ProfileRead i (program_of i) (trace_on i)) (sym d.bytes) (sheet-holds i d.sheet d.verdict)

pub end_fixed : {i j : Inputs} {r w r₁ w₁ s v s₁ v₁ : Bytes} {m n : ℕ} → Promise i r w r₁ w₁ (Ok m) → Promise j s v s₁ v₁ (Ok n)
    → take m r₁ ≡ take n s₁ → verdict i ≡ verdict j
end_fixed p q e =
    let a = wrote_it p in
    let b = wrote_it q in
    a.verdict ∙ ap D.ended (bytes_fix_sheet_lem a.sheet b.sheet (sym a.bytes ∙ e ∙ b.bytes)) ∙ sym b.verdict
