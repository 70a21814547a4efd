-- What an answer says fixes the answer, and every verdict is said by one.
-- Assumes nothing.
use mathlib.Core.Path.{◌≡◌, refl, sym, ap, ◌∙◌}
use mathlib.Core.Bool.{Bool, true, false, cond}
use native.Mathlib.Omega.{arith}
use lib.Dec.{eqb}
use Rattle.std.specs.Prelude.{ℕ, Result, Ok, Err}
use Rattle.rules.specs.declared.Refusal.{Refusal}
use Rattle.rules.specs.declared.Refusal.TheVariants.{BudgetUsedUp, LongString, LongList, LongStream, ManyHolds}
use Rattle.sheet.specs.declared.Fault.{Fault}
use Rattle.sheet.specs.declared.Fault.TheVariants.{Full, Faulty}
use Rattle.sheet.specs.Order.{Inputs, wrong_sizes, is_short}
use Rattle.sheet.specs.Order as O
use Rattle.sheet.proofs.Ordered.{sizes_first, file-next}
use Rattle.runner.specs.declared.drawing.Drawn.{Drawn}
use Rattle.runner.specs.declared.Refused.{Refused}
use Rattle.runner.specs.declared.Refused.TheVariants as why
use Rattle.runner.specs.Verdict.{Verdict, verdict}
use Rattle.runner.specs.Promise.{Answer, Told, wrote, refuses, told, tells}
use Rattle.runner.specs.Claims.{ToldOnce}
use Rattle.runner.specs.Graph.{answer_of, file_size}
use Rattle.runner.proofs.Ordering.{by_order, throughout}

-- the answer that says it
abbrev sheet : Fault → (place : ℕ) → Answer
sheet f p = Err (why.Sheet (record { why = f; place = p }))

abbrev midway : Refusal → (place : ℕ) → Answer
midway r p = Err (why.Midway (record { why = r; place = p }))

heard : Told → Answer
heard (wrote n) = Ok n
heard (refuses n p) =
    cond (eqb n 1) (Err why.Sizes) (cond (eqb n 2) (Err why.Limits) (cond (eqb n 3) (sheet Full p) (cond (eqb n 4) (sheet Faulty p) (cond (eqb n 5) (Err why.Arguments)
    (cond (eqb n 6) (midway BudgetUsedUp p) (cond (eqb n 7) (midway LongString p) (cond (eqb n 8) (midway LongList p)
    (cond (eqb n 9) (midway LongStream p) (cond (eqb n 14) (Err why.File) (midway ManyHolds p))))))))))

heard-sheet : (f : Fault) (p : ℕ) → heard (told (sheet f p)) ≡ sheet f p
unfolding heard
heard-sheet Full p = refl
heard-sheet Faulty p = refl

heard-midway : (r : Refusal) (p : ℕ) → heard (told (midway r p)) ≡ midway r p
unfolding heard
heard-midway BudgetUsedUp p = refl
heard-midway LongString p = refl
heard-midway LongList p = refl
heard-midway LongStream p = refl
heard-midway ManyHolds p = refl

heard_told : (a : Answer) → heard (told a) ≡ a
unfolding heard
heard_told (Ok n) = refl
heard_told (Err why.Sizes) = refl
heard_told (Err why.File) = refl
heard_told (Err why.Limits) = refl
heard_told (Err (why.Sheet of)) = heard-sheet of.why of.place
heard_told (Err why.Arguments) = refl
heard_told (Err (why.Midway halt)) = heard-midway halt.why halt.place

pub told-once : ToldOnce
told-once a₁ a₂ e = sym (heard_told a₁) ∙ ap heard e ∙ heard_told a₂

-- and a drawing that answers it is fixed by its size
pub drawn-once : (d₁ d₂ : Result Drawn Refused) → answer_of d₁ ≡ answer_of d₂ → file_size d₁ ≡ file_size d₂ → d₁ ≡ d₂
drawn-once (Ok a) (Ok b) e n = let z : a.sheet ≡ b.sheet = cc in λ j. Ok (record { sheet = z j; file = n j })
drawn-once (Ok a) (Err y) e n = absurd (let z : ◌≡◌ {A = ℕ} 0 1 = cc in omega arith)
drawn-once (Err y) (Ok b) e n = absurd (let z : ◌≡◌ {A = ℕ} 0 1 = cc in omega arith)
drawn-once (Err y) (Err z) e n = cc

-- said by an answer
abbrev pub Said : Verdict → Type 0
Said v = (a : Answer) × (told a ≡ tells v)

pub every_verdict_said : (i : Inputs) → Said (verdict i)
every_verdict_said i = go (wrong_sizes i) refl
  where
    file : wrong_sizes i ≡ false → (b : Bool) → is_short i.file ≡ b → Said (verdict i)
    file e true f = (Err why.File, ap tells (sym (by_order i (O.refused 14 0) (file-next i e f))))
    file e false f =
        throughout Said
        (record {
          limits = (Err why.Limits, refl);
          full = λ p. (sheet Full p, refl);
          faulty = λ p. (sheet Faulty p, refl);
          arguments = (Err why.Arguments, refl);
          midway = λ r p. (midway r p, refl);
          end = λ s. (Ok _, refl);
        })
        i e f

    go : (b : Bool) → wrong_sizes i ≡ b → Said (verdict i)
    go true e = (Err why.Sizes, ap tells (sym (by_order i (O.refused 1 0) (sizes_first i e))))
    go false e = file e (is_short i.file) refl
