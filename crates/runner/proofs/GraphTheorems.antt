-- The claims of specs/GraphClaims.antt, proved.
-- Assumes nothing.
use mathlib.Core.Path.{◌≡◌, refl, sym, ap, ◌∙◌}
use mathlib.Core.Bool.{Bool, true, false}
use Prim.Native.Nat.{ℕ, ◌≤◌}
use native.Mathlib.Omega.{arith}
use lib.ListN.{take}
use Rattle.sheet.specs.Order.{Inputs, lent, wrong_sizes, is_short}
use Rattle.sheet.specs.Order as O
use Rattle.sheet.proofs.Ordered.{sizes_first, file-next}
use Rattle.std.specs.Prelude.{Result, Ok, Err}
use Rattle.runner.specs.declared.drawing.Drawn.{Drawn}
use Rattle.runner.specs.declared.Refused.{Refused}
use Rattle.runner.specs.declared.Refused.TheVariants as why
use Rattle.runner.specs.Verdict.{Verdict, verdict}
use Rattle.runner.specs.Verdict as D
use Rattle.runner.specs.Promise.{tells, result_after, work_after}
use Rattle.runner.specs.Graph.{answer_of, file_size, plain, graph_inputs, file_on, size_after}
use Rattle.runner.specs.GraphClaims.{OneGraph, GraphLikeRun, OldFileIgnored, FileFits}
use Rattle.runner.proofs.Ordering.{by_order}
use Rattle.runner.proofs.Telling.{told-once, drawn-once}
use Rattle.runner.proofs.Drawings.{like_plain}
use Rattle.runner.proofs.Graphs.{front, front-is, file-short}

-- ONE RESULT

pub one_graph_lem : OneGraph
one_graph_lem i r w f r₁ w₁ f₁ r₂ w₂ f₂ d₁ d₂ p q =
    let a = told-once (answer_of d₁) (answer_of d₂) (p.promise.answer ∙ sym q.promise.answer) in (
      drawn-once d₁ d₂ a (p.length ∙ sym q.length),
      p.promise.result ∙ sym q.promise.result,
      p.promise.work ∙ sym q.promise.work,
      p.file ∙ sym q.file,
    )

-- refused by 14 is refused
drawn-file : (d : Result Drawn Refused) → answer_of d ≡ Err why.File → d ≡ Err why.File
drawn-file (Ok d) e = absurd (let z : ◌≡◌ {A = ℕ} 0 1 = cc in omega arith)
drawn-file (Err y) e = cc

-- the verdict is a plain run's, or 14
same_or_short : (i : Inputs) → ¬ (verdict i ≡ D.refused 14 0) → verdict i ≡ verdict (plain i)
same_or_short i n = sizes (wrong_sizes i) refl
  where
    file : wrong_sizes i ≡ false → (b : Bool) → is_short i.file ≡ b → verdict i ≡ verdict (plain i)
    file s true e = absurd (n (by_order i (O.refused 14 0) (file-next i s e)))
    file s false e = like_plain i e

    sizes : (b : Bool) → wrong_sizes i ≡ b → verdict i ≡ verdict (plain i)
    sizes true e = by_order i (O.refused 1 0) (sizes_first i e) ∙ sym (by_order (plain i) (O.refused 1 0) (sizes_first (plain i) e))
    sizes false e = file e (is_short i.file) refl

pub graph_like_run_lem : GraphLikeRun
graph_like_run_lem i r w f r₁ w₁ f₁ r₂ w₂ d a p q n =
    let v = same_or_short i (λ e. n (drawn-file d (told-once (answer_of d) (Err why.File) (p.promise.answer ∙ ap tells e)))) in (
      told-once (answer_of d) a (p.promise.answer ∙ ap tells v ∙ sym q.answer),
      p.promise.result ∙ ap (λ (y : Verdict). result_after y r) v ∙ sym q.result,
      p.promise.work ∙ ap (λ (y : Verdict). work_after y w) v ∙ sym q.work,
    )

-- THE FILE

pub old_file_ignored_lem : OldFileIgnored
old_file_ignored_lem sheet arguments input loop stack budget r w f s v g r₁ w₁ f₁ s₁ v₁ g₁ d₁ d₂ e₁ e₂ e₃ p q =
    let A = graph_inputs sheet arguments input loop stack budget r w f in
    let B = graph_inputs sheet arguments input loop stack budget s v g in
    let same : verdict A ≡ verdict B =
    λ j. verdict (record { sheet = sheet; arguments = arguments; input = input; loop = loop; stack = stack; budget = budget; result_size = e₁ j; work_size = e₂ j; file = lent (e₃ j) }) in
    let a = told-once (answer_of d₁) (answer_of d₂) (p.promise.answer ∙ ap tells same ∙ sym q.promise.answer) in
    let m = p.length ∙ ap (λ (y : Verdict). size_after y (file_on A)) same in (
      drawn-once d₁ d₂ a (m ∙ sym q.length),
      (λ j. take (p.length j) (p.file j)) ∙ front-is (verdict A) (file_on A) f ∙ ap (λ (y : Verdict). front y (file_on A)) same
          ∙ sym ((λ j. take (m j) (q.file j)) ∙ front-is (verdict B) (file_on B) g),
    )

pub file-fits : FileFits
file-fits i r w f r₁ w₁ f₁ d p = go (verdict i) refl p.length
  where
    go : (v : Verdict) → verdict i ≡ v → file_size d ≡ size_after v (file_on i) → file_size d ≤ 39752
    go (D.refused n q) e h = omega arith
    go (D.ended s) e h = let z = file-short i s e in omega arith
