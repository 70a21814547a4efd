-- What a run promised is what is printed.
use Prim.Native.Nat.{ℕ, ◌≤◌}
use native.Mathlib.Omega.{arith}
use mathlib.Core.List.{◌++◌}
use mathlib.Core.Path.{◌≡◌, refl, sym, ap, ◌∙◌, subst}
use lib.ListN.{length, drop, replicate, length-replicate}
use Rattle.std.specs.Prelude.{Ok, Err}
use Rattle.rules.specs.Syntax.{Bytes}
use Rattle.sheet.specs.Order.{Inputs, not_lent}
use Rattle.memory.specs.Posts.{Written}
use Rattle.result.specs.Encoding.{sheet_bytes}
use Rattle.runner.specs.declared.Refused.{Refused}
use Rattle.runner.specs.Verdict.{Verdict, refused, ended, verdict}
use Rattle.runner.specs.Promise.{Answer, refusal_number, refusal_place, told, tells, result_after, Promise, inputs}
use Rattle.runner.proofs.Ordering.{work-cleared}
use Rattle.runner.proofs.Rendering.{front}
use Rattle.bundle.specs.Contents.{Contents, Bundled, wrong, holds, bundled}
use Rattle.profile.specs.Lines.{bundle_line, refused_line}
use Rattle.profile.specs.Printed.{inputs_of, verdict_text, bundle_text, printed, result_left, work_left, Prints}
use Rattle.profile.specs.Rendered.{Readable, profile_in}
use Rattle.profile.proofs.Verdicts.{ended_is}
use Rattle.profile.proofs.Records.{readable, profile-read}

-- THE PROMISE, of a bundle x

prints_of : {b r w t r' w' t' : Bytes} {x : Bundled} {n : ℕ} → bundled b ≡ x → Written 0 (bundle_text x) t t' n → length (bundle_text x) ≤ length t
    → r' ≡ result_left not_lent x r → w' ≡ work_left x w → Prints b r w t r' w' t' n
unfolding printed
prints_of {b} {r} {w} {t} {r'} {w'} {t'} {x} {n} e p l g k =
    record {
      text = subst (λ (y : Bundled). t' ≡ bundle_text y ++ drop (length (bundle_text y)) t) (sym e) (front (bundle_text x) t t' p.put l);
      length = omega (arith, p.end) ∙ ap (λ (y : Bundled). length (bundle_text y)) (sym e);
      result = g ∙ ap (λ (y : Bundled). result_left not_lent y r) (sym e);
      work = k ∙ ap (λ (y : Bundled). work_left y w) (sym e);
    }

-- NO RUN

pub no_bundle_lem : {b r w t t' : Bytes} {n : ℕ} → bundled b ≡ wrong → length t ≡ 4096 → Written 0 bundle_line t t' n → Prints b r w t r w t' n
unfolding bundle_line
no_bundle_lem e l p = prints_of e p (omega arith) refl refl

-- A RUN

module _ (c : Contents) {r w r' w' : Bytes} {x : Answer} (size : length r ≡ 4096) (works : length w ≡ 65536)
    (p : Promise (inputs c.sheet c.arguments c.input c.loop c.stack c.budget r w) r w r' w' x) where
  promised : Promise (inputs_of not_lent c) r w r' w' x
  promised = subst (λ (i : Inputs). Promise i r w r' w' x) (λ j. record {
    sheet = c.sheet;
    arguments = c.arguments;
    input = c.input;
    loop = c.loop;
    stack = c.stack;
    budget = c.budget;
    result_size = size j;
    work_size = works j;
    file = not_lent;
  }) p

  cleared : w' ≡ replicate (length w) 0
  cleared = promised.work ∙ work-cleared (inputs_of not_lent c) (omega arith) refl refl w

  pub worked : length w' ≡ 65536
  worked = ap length cleared ∙ length-replicate (length w) 0 ∙ works

  -- an end: its result sheet is read back
  module _ {n : ℕ} (ok : x ≡ Ok n) where
    pub readable_lem : Readable c.sheet r' n
    readable_lem = go (verdict (inputs_of not_lent c)) refl (ap told (sym ok) ∙ promised.answer) promised.result
      where
        go : (v : Verdict) → verdict (inputs_of not_lent c) ≡ v → told (Ok n) ≡ tells v → r' ≡ result_after v r → Readable c.sheet r' n
        go (refused k q) d t z = absurd (let o : ◌≡◌ {A = ℕ} 0 1 = cc in omega arith)
        go (ended y) d t z = readable (ended_is c y d) (drop (length (sheet_bytes y)) r) z (cc)

    profile-is : profile_in c.sheet r' n ≡ verdict_text c.sheet (verdict (inputs_of not_lent c))
    profile-is = go (verdict (inputs_of not_lent c)) refl (ap told (sym ok) ∙ promised.answer) promised.result
      where
        go : (v : Verdict) → verdict (inputs_of not_lent c) ≡ v → told (Ok n) ≡ tells v → r' ≡ result_after v r → profile_in c.sheet r' n ≡ verdict_text c.sheet v
        go (refused k q) d t z = absurd (let o : ◌≡◌ {A = ℕ} 0 1 = cc in omega arith)
        go (ended y) d t z = profile-read (ended_is c y d) (drop (length (sheet_bytes y)) r) z (cc)

    pub prints_profile : {b t t' w'' : Bytes} {e : ℕ} → bundled b ≡ holds c → Written 0 (profile_in c.sheet r' n) t t' e
        → length (profile_in c.sheet r' n) ≤ length t → w'' ≡ replicate (length w') 0 → Prints b r w t r' w'' t' e
    prints_profile {t = t} {t' = t'} {e = e} d q l k =
        prints_of d (subst (λ (s : Bytes). Written 0 s t t' e) profile-is q) (omega (arith, ap length profile-is, l)) promised.result
        (k ∙ ap (λ (m : ℕ). replicate m 0) (worked ∙ sym works))

  -- a refusal
  module _ {why : Refused} (err : x ≡ Err why) where
    line-is : refused_line (refusal_number why) (refusal_place why) ≡ verdict_text c.sheet (verdict (inputs_of not_lent c))
    unfolding verdict_text
    line-is = go (verdict (inputs_of not_lent c)) (ap told (sym err) ∙ promised.answer)
      where
        go : (v : Verdict) → told (Err why) ≡ tells v → refused_line (refusal_number why) (refusal_place why) ≡ verdict_text c.sheet v
        go (refused k q) t = cc
        go (ended y) t = absurd (let o : ◌≡◌ {A = ℕ} 0 1 = cc in omega arith)

    pub prints_refusal : {b t t' : Bytes} {e : ℕ} → bundled b ≡ holds c → Written 0 (refused_line (refusal_number why) (refusal_place why)) t t' e
        → length (refused_line (refusal_number why) (refusal_place why)) ≤ length t → Prints b r w t r' w' t' e
    prints_refusal {t = t} {t' = t'} {e = e} d q l =
        prints_of d (subst (λ (s : Bytes). Written 0 s t t' e) line-is q) (omega (arith, ap length line-is, l)) promised.result cleared
