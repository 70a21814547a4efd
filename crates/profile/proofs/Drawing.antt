-- A run that is lent file memory: what it promised is what is drawn, and it ends where a plain run does.
use Prim.Native.Nat.{ℕ, ◌≤◌}
use native.Mathlib.Omega.{arith}
use mathlib.Core.Path.{◌≡◌, refl, sym, ap, ◌∙◌, subst}
use mathlib.Core.List.{◌++◌}
use lib.ListN.{length, get_or, drop}
use Rattle.std.specs.Prelude.{Result, Ok, Err}
use Rattle.rules.specs.Syntax.{Bytes}
use Rattle.sheet.specs.Order.{Inputs, not_lent, lent}
use Rattle.memory.specs.Posts.{Written}
use Rattle.callgrind.specs.File.{file_of, file_lines}
use Rattle.callgrind.specs.File as F
use Rattle.runner.specs.declared.drawing.Drawn.{Drawn}
use Rattle.runner.specs.Verdict.{Verdict, refused, ended, verdict}
use Rattle.runner.specs.declared.Refused.{Refused}
use Rattle.runner.specs.Promise.{refusal_number, refusal_place, told, tells}
use Rattle.runner.specs.Graph.{graph_inputs, file_on, file_after, size_after, answer_of, file_size, GraphPromise}
use Rattle.runner.proofs.Ordering.{work-cleared}
use Rattle.runner.proofs.Rendering.{front}
use Rattle.runner.proofs.Drawings.{like_plain}
use Rattle.bundle.specs.Contents.{Contents, Bundled, wrong, holds, bundled}
use Rattle.profile.specs.Lines.{bundle_line, refused_line}
use Rattle.profile.specs.Printed.{inputs_of, result_left, work_left, verdict_text, bundle_text, printed}
use Rattle.profile.specs.Drawn.{text_memory, verdict_drawn, bundle_drawn, drawn, Draws}
use Rattle.profile.specs.Claims.{DrawnLikePrinted, Agree, no_bundle, no_end, an_end}

-- what is drawn of a bundle, where it is known as one
draws_of : {b r w t r' w' t' : Bytes} {x : Bundled} {n : ℕ} → bundled b ≡ x → t' ≡ bundle_drawn x ++ drop (length (bundle_drawn x)) t
    → n ≡ length (bundle_drawn x) → r' ≡ result_left text_memory x r → w' ≡ work_left x w → Draws b r w t r' w' t' n
unfolding drawn
draws_of {b} {r} {w} {t} {r'} {w'} {t'} {x} {n} e p q g k = record {
  text = subst (λ (y : Bundled). t' ≡ bundle_drawn y ++ drop (length (bundle_drawn y)) t) (sym e) p;
  length = q ∙ ap (λ (y : Bundled). length (bundle_drawn y)) (sym e);
  result = g ∙ ap (λ (y : Bundled). result_left text_memory y r) (sym e);
  work = k ∙ ap (λ (y : Bundled). work_left y w) (sym e);
}

-- NO RUN

pub draws_nothing : {b r w t t' : Bytes} {n : ℕ} → bundled b ≡ wrong → length t ≡ 65536 → Written 0 bundle_line t t' n → Draws b r w t r w t' n
unfolding bundle_line
draws_nothing {t = t} {t' = t'} e l p = draws_of e (front bundle_line t t' p.put (omega arith)) (omega (arith, p.end)) refl refl

-- A RUN

module _ (c : Contents) {r w t r' w' t₁ : Bytes} {d : Result Drawn Refused} (size : length r ≡ 4096) (works : length w ≡ 65536) (room : length t ≡ 65536)
    (p : GraphPromise (graph_inputs c.sheet c.arguments c.input c.loop c.stack c.budget r w t) r w t r' w' t₁ d) where
  abbrev given : Inputs
  given = inputs_of text_memory c

  promised : GraphPromise given r w t r' w' t₁ d
  promised = subst (λ (i : Inputs). GraphPromise i r w t r' w' t₁ d) (λ j. record {
    sheet = c.sheet;
    arguments = c.arguments;
    input = c.input;
    loop = c.loop;
    stack = c.stack;
    budget = c.budget;
    result_size = size j;
    work_size = works j;
    file = lent (room j);
  }) p

  draws : {b t' : Bytes} {n : ℕ} → bundled b ≡ holds c
      → t' ≡ verdict_drawn (verdict given) (file_on given) ++ drop (length (verdict_drawn (verdict given) (file_on given))) t
      → n ≡ length (verdict_drawn (verdict given) (file_on given)) → Draws b r w t r' w' t' n
  draws e f l = draws_of e f l promised.promise.result (promised.promise.work ∙ work-cleared given (omega arith) refl refl w)

  -- after an end the file is there
  pub draws_file : {b : Bytes} {x : Drawn} → d ≡ Ok x → bundled b ≡ holds c → Draws b r w t r' w' t₁ x.file
  draws_file {b = b} {x = x} ok e = go (verdict given) refl (ap told (ap answer_of (sym ok)) ∙ promised.promise.answer)
    where
      go : (v : Verdict) → verdict given ≡ v → told (Ok x.sheet) ≡ tells v → Draws b r w t r' w' t₁ x.file
      go (refused k at) h a = absurd (let o : ◌≡◌ {A = ℕ} 0 1 = cc in omega arith)
      go (ended s) h a =
          draws e
          (promised.file ∙ ap (λ (v : Verdict). file_after v (file_on given) t) h ∙ sym (ap (λ (v : Verdict). verdict_drawn v (file_on given) ++ drop (length (verdict_drawn v (file_on given))) t) h))
          (ap file_size (sym ok) ∙ promised.length ∙ ap (λ (v : Verdict). size_after v (file_on given)) h ∙ sym (ap (λ (v : Verdict). length (verdict_drawn v (file_on given))) h))

  -- after a refusal the memory is as before, and the line is written
  pub draws_refusal : {b t' : Bytes} {n : ℕ} {why : Refused} → d ≡ Err why → bundled b ≡ holds c
      → Written 0 (refused_line (refusal_number why) (refusal_place why)) t₁ t' n
      → length (refused_line (refusal_number why) (refusal_place why)) ≤ 64 → Draws b r w t r' w' t' n
  draws_refusal {b = b} {t' = t'} {n = n} {why = why} err e q l = go (verdict given) refl (ap told (ap answer_of (sym err)) ∙ promised.promise.answer)
    where
      go : (v : Verdict) → verdict given ≡ v → told (Err why) ≡ tells v → Draws b r w t r' w' t' n
      go (ended s) h a = absurd (let o : ◌≡◌ {A = ℕ} 0 1 = cc in omega arith)
      go (refused k at) h a =
          let line : refused_line (refusal_number why) (refusal_place why) ≡ verdict_drawn (verdict given) (file_on given) =
          (let z : refused_line (refusal_number why) (refusal_place why) ≡ refused_line k at = cc in z ∙ sym (ap (λ (v : Verdict). verdict_drawn v (file_on given)) h)) in
          let before : t₁ ≡ t = promised.file ∙ ap (λ (v : Verdict). file_after v (file_on given) t) h in
          let put = subst (λ (s : Bytes). Written 0 s t t' n) line (subst (λ (u : Bytes). Written 0 (refused_line (refusal_number why) (refusal_place why)) u t' n) before q) in
          draws e (front _ t t' put.put (omega (arith, room, ap length line, l))) (omega (arith, put.end))

-- BOTH TEXTS

begins : (i : Inputs) → get_or (file_on i) 0 0 ≡ 35
unfolding file_of file_lines F.ended
begins i = refl

pub drawn_like_printed_lem : DrawnLikePrinted
unfolding printed drawn verdict_text
drawn_like_printed_lem b = go (bundled b) refl
  where
    by_end : (c : Contents) → bundled b ≡ holds c → (v : Verdict) → verdict (inputs_of not_lent c) ≡ v → printed b ≡ verdict_text c.sheet v
        → drawn b ≡ verdict_drawn v (file_on (inputs_of text_memory c)) → Agree b
    by_end c e (refused n p) v x y = no_end c n p e v x y
    by_end c e (ended s) v x y = an_end c s e v x y (ap (λ (l : Bytes). get_or l 0 0) y ∙ begins (inputs_of text_memory c))

    by-verdict : (c : Contents) → bundled b ≡ holds c → (v : Verdict) → verdict (inputs_of not_lent c) ≡ v → verdict (inputs_of text_memory c) ≡ v → Agree b
    by-verdict c e v p q =
        let x : printed b ≡ verdict_text c.sheet v = ap bundle_text e ∙ ap (verdict_text c.sheet) p in
        let y : drawn b ≡ verdict_drawn v (file_on (inputs_of text_memory c)) =
        ap bundle_drawn e ∙ ap (λ (u : Verdict). verdict_drawn u (file_on (inputs_of text_memory c))) q in
        by_end c e v p x y

    go : (x : Bundled) → bundled b ≡ x → Agree b
    go wrong e = no_bundle e (ap bundle_text e) (ap bundle_drawn e)
    go (holds c) e = by-verdict c e (verdict (inputs_of not_lent c)) refl (like_plain (inputs_of text_memory c) refl)
