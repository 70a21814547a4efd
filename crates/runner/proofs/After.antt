-- What a verdict leaves in the two memories, by what is said of it.
use mathlib.Core.Path.{◌≡◌, refl, sym, ap, ◌∙◌}
use mathlib.Core.Bool.{Bool, true, false, cond, ◌||◌}
use mathlib.Core.Logic.{inl, inr}
use mathlib.Core.List.{[]}
use Prim.Native.Nat.{ℕ}
use native.Mathlib.Omega.{arith}
use lib.ListN.{length, take, drop, replicate}
use lib.Seq.{take_at, drop_at}
use borrow.Author.Tests.{ne_eqb}
use Rattle.rules.specs.Syntax.{Bytes}
use Rattle.result.specs.Encoding.{sheet_bytes}
use Rattle.runner.specs.Verdict.{Verdict, refused, ended}
use Rattle.runner.specs.Promise.{Told, wrote, refuses, tells, result_after, of_size, work_after}
use Rattle.runner.specs.Demands.{OfSize}

-- WHAT IS SAID

abbrev pub number_in : Told → ℕ
number_in (wrote n) = 0
number_in (refuses n p) = n

abbrev pub place_in : Told → ℕ
place_in (wrote n) = 0
place_in (refuses n p) = p

pub not_both : {A : Type 0} {k n p : ℕ} → wrote k ≡ refuses n p → A
not_both e = absurd (let z : ◌≡◌ {A = ℕ} 0 1 = cc in omega arith)

-- AFTER AN END

-- the bytes that a verdict puts at the front
abbrev pub front : Verdict → Bytes
front (refused n p) = []
front (ended s) = sheet_bytes s

pub front-is : (v : Verdict) (n : ℕ) (r : Bytes) → tells v ≡ wrote n → take n (result_after v r) ≡ front v
front-is (refused m p) n r e = not_both (sym e)
front-is (ended s) n r e = let q : length (sheet_bytes s) ≡ n = cc in take_at (sheet_bytes s) (drop (length (sheet_bytes s)) r) n q

pub rest-kept : (v : Verdict) (n : ℕ) (r : Bytes) → tells v ≡ wrote n → drop n (result_after v r) ≡ drop n r
rest-kept (refused m p) n r e = not_both (sym e)
rest-kept (ended s) n r e =
    let q : length (sheet_bytes s) ≡ n = cc in
    drop_at (sheet_bytes s) (drop (length (sheet_bytes s)) r) n q ∙ ap (λ (k : ℕ). drop k r) q

pub end-cleared : (v : Verdict) (n : ℕ) (w : Bytes) → tells v ≡ wrote n → work_after v w ≡ replicate (length w) 0
end-cleared (refused m p) n w e = not_both (sym e)
end-cleared (ended s) n w e = refl

-- AFTER A REFUSAL

pub nothing_written_lem : (v : Verdict) (n p : ℕ) (r : Bytes) → tells v ≡ refuses n p → result_after v r ≡ r
nothing_written_lem (refused m q) n p r e = refl
nothing_written_lem (ended s) n p r e = not_both e

-- whether a number refuses a size
is_of_size : (n : ℕ) → OfSize n → of_size n ≡ true
is_of_size n (inl e) = ap of_size e
is_of_size n (inr e) = ap of_size e

not_of_size : (n : ℕ) → ¬ OfSize n → of_size n ≡ false
not_of_size n h = λ j. ne_eqb n 1 (λ e. h (inl e)) j || ne_eqb n 14 (λ e. h (inr e)) j

pub refusal-cleared : (v : Verdict) (n p : ℕ) (w : Bytes) → tells v ≡ refuses n p → ¬ OfSize n → work_after v w ≡ replicate (length w) 0
refusal-cleared (refused m q) n p w e h =
    ap (λ (b : Bool). cond b w (replicate (length w) 0)) (ap of_size (ap number_in e) ∙ not_of_size n h)
refusal-cleared (ended s) n p w e h = not_both e

pub untouched : (v : Verdict) (n p : ℕ) (w : Bytes) → tells v ≡ refuses n p → OfSize n → work_after v w ≡ w
untouched (refused m q) n p w e h = ap (λ (b : Bool). cond b w (replicate (length w) 0)) (ap of_size (ap number_in e) ∙ is_of_size n h)
untouched (ended s) n p w e h = not_both e
