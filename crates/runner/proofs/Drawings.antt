-- A run that is lent file memory: it does what a plain run does, and draws the graph of the rules' run.
use mathlib.Core.Path.{◌≡◌, refl, sym, ap, ◌∙◌, subst}
use mathlib.Core.Bool.{true, false}
use Prim.Native.Nat.{ℕ, ◌<◌, ◌≤◌}
use native.Mathlib.Omega.{arith}
use lib.ListN.{length, replicate}
use borrow.Author.Tests.{lt-ltb, le-ltb}
use Rattle.std.specs.Prelude.{Result, Ok, Err, IfOk}
use Rattle.rules.specs.Syntax.{Bytes}
use Rattle.rules.specs.Ruling.{Sheet}
use Rattle.sheet.specs.Order.{Inputs, is_short, rows}
use Rattle.sheet.proofs.Callees.{functions-count}
use Rattle.sheet.proofs.Located.{few-functions}
use Rattle.memory.specs.Posts.{Written}
use Rattle.callgrind.specs.File.{file_of}
use Rattle.callgrind.specs.Ended.{graph_in}
use Rattle.callgrind.proofs.Agreeing.{graph_in_memory}
use Rattle.runner.specs.declared.drawing.Drawn.{Drawn}
use Rattle.runner.specs.declared.Done.{Done}
use Rattle.runner.specs.declared.Refused.{Refused}
use Rattle.runner.specs.declared.Refused.TheVariants as why
use Rattle.runner.specs.Verdict.{Verdict, verdict, ruled}
use Rattle.runner.specs.Verdict as D
use Rattle.runner.specs.Promise.{refusal_number, refusal_place, told, tells, result_after, of_size, work_after, Promise, inputs}
use Rattle.runner.specs.Ran.{trace_on}
use Rattle.runner.specs.Stages.{Left, answer_in, Inner}
use Rattle.runner.specs.Graph.{answer_of, file_size, plain, graph_inputs, file_on, file_after, size_after, GraphPromise, Drew}
use Rattle.runner.proofs.After.{not_both}
use Rattle.runner.proofs.Ordering.{small_result, odd_work, file-refused}
use Rattle.runner.proofs.Beginning.{size-refused, kept}
use Rattle.runner.proofs.Rendering.{front}
use Rattle.runner.proofs.Graphs.{main_open_lem, file-short}

-- DRAWING

-- it answers what the run came to
drew-answer : (s w f f' : Bytes) (x : Result Done Refused) (y : Result Drawn Refused) → Drew s w x f f' y → answer_of y ≡ answer_in x
drew-answer s w f f' (Ok d) y q = q.0
drew-answer s w f f' (Err e) y q = ap answer_of q.1

-- THE VERDICT

-- where its size is not refused, the file memory changes no verdict
pub like_plain : (i : Inputs) → is_short i.file ≡ false → verdict i ≡ verdict (plain i)
unfolding verdict ruled rows
like_plain i h = rw h

module _ (s a i : Bytes) (l k b : ℕ) (r w f : Bytes) where
  abbrev all : Inputs
  all = graph_inputs s a i l k b r w f

  -- REFUSED FOR A SIZE

  unwritten : (y : Refused) → verdict all ≡ D.refused (refusal_number y) (refusal_place y) → of_size (refusal_number y) ≡ true
      → GraphPromise all r w f r w f (Err y)
  unwritten y v o = record {
    promise = size-refused all r y v w o;
    length = ap (λ (z : Verdict). size_after z (file_on all)) (sym v);
    file = ap (λ (z : Verdict). file_after z (file_on all) f) (sym v);
  }

  pub graph_small : length r < 4096 → GraphPromise all r w f r w f (Err why.Sizes)
  graph_small h = unwritten why.Sizes (small_result all h) refl

  module _ (room : 4096 ≤ length r) where
    pub graph_odd : (length w ≡ 65536 → ⊥) → GraphPromise all r w f r w f (Err why.Sizes)
    graph_odd n = unwritten why.Sizes (odd_work all room n) refl

    module _ (size : length w ≡ 65536) where
      pub graph_short : length f < 65536 → GraphPromise all r w f r w f (Err why.File)
      graph_short h = unwritten why.File (file-refused all room size (lt-ltb (length f) 65536 h)) refl

      -- AFTER THE RUN

      module _ (fits : 65536 ≤ length f) {w₁ r' w₂ : Bytes} {x : Result Done Refused} (zeros : w₁ ≡ replicate (length w) 0)
          (o : Inner (inputs s a i l k b r w₁) r r' w₂ x) where
        module _ {w₃ : Bytes} (z : w₃ ≡ replicate (length w₂) 0) where
          same : verdict all ≡ verdict (inputs s a i l k b r w)
          same = like_plain all (le-ltb (length f) 65536 fits)

          promised : Promise all r w r' w₃ (answer_in x)
          promised =
              let p = kept s a i l k b r w room size zeros o z in
              record {
                answer = p.answer ∙ ap tells (sym same);
                result = p.result ∙ ap (λ (y : Verdict). result_after y r) (sym same);
                work = p.work ∙ ap (λ (y : Verdict). work_after y w) (sym same);
              }

          -- what work memory holds is the graph of the rules' run
          file-is : (n : ℕ) → Left s (trace_on all) n w₂ → (y : Sheet) → verdict all ≡ D.ended y → file_of (graph_in s w₂ n) ≡ file_on all
          file-is n d y v =
              ap file_of
              (graph_in_memory s w₂ n (trace_on all) d.counters.own d.counters.calls d.counters.edges
              (d.counters.inclusive 0 (omega arith) ∙ main_open_lem all y v)
              (d.functions ∙ sym (functions-count d.tables)) (omega (arith, d.functions, few-functions d.tables)))

          by-verdict : (c : Result Done Refused) → IfOk c (λ d. Left s (trace_on all) d.functions w₂) → (v : Verdict) → verdict all ≡ v
              → told (answer_in c) ≡ tells v → {f' : Bytes} (y : Result Drawn Refused) → Drew s w₂ c f f' y
              → (file_size y ≡ size_after v (file_on all)) × (f' ≡ file_after v (file_on all) f)
          by-verdict (Err e) h (D.refused n p) v t y q = (ap file_size q.1, q.0)
          by-verdict (Err e) h (D.ended u) v t y q = not_both (sym t)
          by-verdict (Ok c) h (D.refused n p) v t y q = not_both t
          by-verdict (Ok c) h (D.ended u) v t {f'} y q =
              let d : Written 0 (file_on all) f f' (file_size y) = subst (λ (x : Bytes). Written 0 x f f' (file_size y)) (file-is c.functions h u v) q.1 in
              let m = file-short all u v in
              (omega (arith, d.end), front (file_on all) f f' d.put (omega arith))

          pub drawn : {f' : Bytes} {y : Result Drawn Refused} → Drew s w₂ x f f' y → GraphPromise all r w f r' w₃ f' y
          drawn {f'} {y} q =
              let d = by-verdict x o.left (verdict all) refl promised.answer y q in
              record { promise = subst (Promise all r w r' w₃) (sym (drew-answer s w₂ f f' x y q)) promised; length = d.0; file = d.1 }
