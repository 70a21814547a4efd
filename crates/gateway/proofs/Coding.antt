-- How far an answer's numbers go.
-- Assumes nothing.
use mathlib.Core.Path.{◌≡◌, refl, sym, ap, ◌∙◌, subst}
use Prim.Native.Nat.{ℕ, ◌≤◌}
use native.Mathlib.Omega.{arith}
use lib.ListN.{length}
use Rattle.std.specs.Prelude.{Result, Ok, Err}
use Rattle.rules.specs.Syntax.{Bytes}
use Rattle.rules.specs.Ruling.{Sheet}
use Rattle.sheet.specs.Order.{Inputs}
use Rattle.result.specs.Encoding.{sheet_bytes}
use Rattle.runner.specs.Verdict.{Verdict, refused, ended, verdict}
use Rattle.runner.specs.Promise.{Answer, Promise, told, tells, refusal_number, refusal_place}
use Rattle.runner.specs.Graph.{GraphPromise, answer_of, file_size}
use Rattle.runner.specs.declared.Refused.{Refused}
use Rattle.runner.specs.declared.drawing.Drawn.{Drawn}
use Rattle.runner.proofs.Theorems.{sheet-fits}
use Rattle.runner.proofs.GraphTheorems.{file-fits}
use Rattle.gateway.specs.Exported.{numbered, coded, Refusable, Sayable}
use Rattle.gateway.proofs.Ranged.{every_verdict}

-- it has 36 bits
coded-small : (i : Inputs) → coded (verdict i) ≤ 60129542656
coded-small i = go (verdict i) (every_verdict i) (sheet-fits i)
  where
    go : (v : Verdict) → Sayable (tells v) → ((s : Sheet) → v ≡ ended s → length (sheet_bytes s) ≤ 3744) → coded v ≤ 60129542656
    go (refused n p) h k = omega (arith, h.last, h.record512)
    go (ended s) h k = omega (arith, k s refl)

-- the run's answer
module _ {i : Inputs} {r w r' w' : Bytes} {a : Answer} (p : Promise i r w r' w' a) where
  pub refusable : {why : Refused} → a ≡ Err why → Refusable (refusal_number why) (refusal_place why)
  refusable e = subst (λ (x : Answer). Sayable (told x)) e (subst Sayable (sym p.answer) (every_verdict i))

  small : {n : ℕ} → a ≡ Ok n → n ≤ 60129542656
  small {n} e = let h : n ≡ coded (verdict i) = ap (λ (x : Answer). numbered (told x)) (sym e) ∙ ap numbered p.answer in omega (arith, h, coded-small i)

-- the answer of a run that writes its call graph
module _ {i : Inputs} {r w f r' w' f' : Bytes} {d : Result Drawn Refused} (p : GraphPromise i r w f r' w' f' d) where
  pub graph_refusable : {why : Refused} → d ≡ Err why → Refusable (refusal_number why) (refusal_place why)
  graph_refusable e = refusable p.promise (ap answer_of e)

  pub graph_small : {x : Drawn} → d ≡ Ok x → (x.sheet ≤ 60129542656) × (x.file ≤ 39752)
  graph_small {x} e = (small p.promise (ap answer_of e), omega (arith, file-fits i r w f r' w' f' d p, ap file_size e))
