-- Raising a limit is harmless: of the verdict, of the bytes, and of the file.
-- Assumes nothing.
use mathlib.Core.Path.{◌≡◌, refl, sym, ap, ◌∙◌, subst}
use mathlib.Core.Bool.{Bool, true, false, not}
use Prim.Native.Nat.{ℕ}
use lib.Dec.{T}
use lib.ListN.{take}
use borrow.Author.Tests.{ne_eqb}
use Rattle.rules.specs.declared.Behaviour.{Behaviour}
use Rattle.rules.specs.declared.Behaviour.TheVariants.{Normal, Return, Exit, Failure}
use Rattle.rules.specs.declared.Refusal.TheVariants.{BudgetUsedUp, LongString, LongList, LongStream, ManyHolds}
use Rattle.rules.specs.Syntax.{Bytes}
use Rattle.rules.specs.State.{Outcome, refused, ended, trace_of, behaviour_number}
use Rattle.rules.specs.Flow.{is_failure}
use Rattle.rules.specs.Ruling.{ruling_of, Sheet}
use Rattle.rules.specs.Claims.{no_smaller, lasting}
use Rattle.rules.specs.Graph.{graph_of}
use Rattle.rules.proofs.Beginnings.{both_hold}
use Rattle.rules.proofs.Raising.{outcome-lasts}
use Rattle.sheet.specs.Order.{Inputs, Ruled, wrong_sizes, is_short, wrong_limits, rows, first_of}
use Rattle.sheet.specs.Order as O
use Rattle.sheet.proofs.Ordered.{sizes_first, file-next, limits-next, sheet-next}
use Rattle.callgrind.specs.File.{file_of}
use Rattle.runner.specs.Verdict.{Verdict, verdict, ruled, decided, from_rules}
use Rattle.runner.specs.Verdict as D
use Rattle.runner.specs.Promise.{Answer, Promise, told, tells, wrote, refuses}
use Rattle.runner.specs.Ran.{program_of, limits_in, given_on, outcome_on, functions_of}
use Rattle.runner.specs.Reading.{read_behaviour}
use Rattle.runner.specs.Claims.{under_limits, raised, lasting_verdict, VerdictLasts, RaisingHarmless}
use Rattle.runner.specs.Graph.{answer_of, file_size, file_on, size_after}
use Rattle.runner.specs.GraphClaims.{FileUnharmed}
use Rattle.runner.proofs.After.{front, front-is, not_both}
use Rattle.runner.proofs.Graphs as G
use Rattle.runner.proofs.Ending.{ending, ruled-is}
use Rattle.runner.proofs.Ordering.{by_order}
use Rattle.runner.proofs.ReadingBack.{behaviour-read}
use Rattle.runner.proofs.Telling.{told-once, drawn-once}

-- THE VERDICT

module _ (i : Inputs) (loop stack budget : ℕ) (h : T (raised i loop stack budget)) where
  abbrev i' : Inputs
  i' = under_limits i loop stack budget

  premises : T (no_smaller (limits_in i) (limits_in i')) × T (not (wrong_limits i'))
  premises = both_hold (no_smaller (limits_in i) (limits_in i')) _ h

  pub ran-lasts : T (lasting (outcome_on i)) → outcome_on i' ≡ outcome_on i
  ran-lasts = outcome-lasts (limits_in i) loop stack budget (given_on i) premises.0

  right-limits : wrong_limits i' ≡ false
  right-limits = go (wrong_limits i') premises.1
    where
      go : (b : Bool) → T (not b) → b ≡ false
      go true n = absurd n
      go false n = refl

  -- a lasting verdict that is the rules' own comes of an outcome that lasts
  of_outcome : (n : ℕ) (o : Outcome Behaviour) → T (lasting_verdict (from_rules (ruling_of n o))) → T (lasting o)
  of_outcome n (ended b s t) l = l
  of_outcome n (refused BudgetUsedUp p t) l = l
  of_outcome n (refused LongString p t) l = tt
  of_outcome n (refused LongList p t) l = tt
  of_outcome n (refused LongStream p t) l = tt
  of_outcome n (refused ManyHolds p t) l = tt

  by-ruling : T (lasting_verdict (from_rules (ruled i))) → from_rules (ruled i') ≡ from_rules (ruled i)
  by-ruling l =
      ap from_rules
      (ruled-is i'
      ∙ ap (ruling_of (functions_of i)) (ran-lasts (of_outcome (functions_of i) (outcome_on i) (subst (λ r. T (lasting_verdict (from_rules r))) (ruled-is i) l)))
      ∙ sym (ruled-is i))

  by_decision : (x : Ruled) → T (lasting_verdict (decided x (ruled i))) → decided x (ruled i') ≡ decided x (ruled i)
  by_decision (O.refused n p) l = refl
  by_decision O.passes l = by-ruling l

  pub unchanged : T (lasting_verdict (verdict i)) → verdict i' ≡ verdict i
  unchanged l = sizes (wrong_sizes i) refl
    where
      -- both are decided by the same row
      alike : (x : Ruled) → first_of (rows i) ≡ x → first_of (rows i') ≡ x → verdict i' ≡ verdict i
      alike x e e' = by_order i' x e' ∙ by_decision x (subst (λ v. T (lasting_verdict v)) (by_order i x e) l) ∙ sym (by_order i x e)

      limits : wrong_sizes i ≡ false → is_short i.file ≡ false → (b : Bool) → wrong_limits i ≡ b → verdict i' ≡ verdict i
      limits a f true e = absurd (subst (λ v. T (lasting_verdict v)) (by_order i (O.refused 2 0) (limits-next i a f e)) l)
      limits a f false e = alike _ (sheet-next i a f e) (sheet-next i' a f right-limits)

      file : wrong_sizes i ≡ false → (b : Bool) → is_short i.file ≡ b → verdict i' ≡ verdict i
      file a true e = alike (O.refused 14 0) (file-next i a e) (file-next i' a e)
      file a false e = limits a e (wrong_limits i) refl

      sizes : (b : Bool) → wrong_sizes i ≡ b → verdict i' ≡ verdict i
      sizes true e = alike (O.refused 1 0) (sizes_first i e) (sizes_first i' e)
      sizes false e = file e (is_short i.file) refl

pub verdict-lasts : VerdictLasts
verdict-lasts = unchanged

-- THE BYTES

not-failure : (b : Behaviour) → ¬ (behaviour_number b ≡ behaviour_number Failure) → T (not (is_failure b))
not-failure Normal n = tt
not-failure Return n = tt
not-failure Exit n = tt
not-failure Failure n = absurd (n refl)

-- a sheet without Failure in it is that of a verdict that lasts
end-lasts : (v : Verdict) (n : ℕ) → tells v ≡ wrote n → ¬ (read_behaviour (front v) ≡ behaviour_number Failure) → T (lasting_verdict v)
end-lasts (D.refused m p) n e h = not_both (sym e)
end-lasts (D.ended s) n e h = not-failure s.behaviour (λ q. h (behaviour-read s ∙ q))

refusal-lasts : (v : Verdict) (n p : ℕ) → tells v ≡ refuses n p → ¬ (n ≡ 2) → ¬ (n ≡ 6) → T (lasting_verdict v)
refusal-lasts (D.ended s) n p e a b = not_both e
refusal-lasts (D.refused m q) n p e a b =
    let z : m ≡ n = cc in
    rw (ne_eqb m 2 (λ y. a (sym z ∙ y)), ne_eqb m 6 (λ y. b (sym z ∙ y))) tt

-- of a run that wrote n bytes in which a reader does not find Failure
module _ (i : Inputs) (r w r₁ w₁ : Bytes) (a : Answer) (p : Promise i r w r₁ w₁ a) (n : ℕ) (t : told a ≡ wrote n)
    (k : ¬ (read_behaviour (take n r₁) ≡ behaviour_number Failure)) where
  written : take n r₁ ≡ front (verdict i)
  written = ap (take n) p.result ∙ front-is (verdict i) n r (sym p.answer ∙ t)

  without_failure : T (lasting_verdict (verdict i))
  without_failure = end-lasts (verdict i) n (sym p.answer ∙ t) (λ y. k (ap read_behaviour written ∙ y))

pub raising_harmless_lem : RaisingHarmless
raising_harmless_lem i loop stack budget r w r₁ w₁ s v s₁ v₁ a₁ a₂ h p q = record {
  end = λ n t k.
      let same = verdict-lasts i loop stack budget h (without_failure i r w r₁ w₁ a₁ p n t k) in (
        told-once a₂ a₁ (q.answer ∙ ap tells same ∙ sym p.answer),
        ap (take n) q.result ∙ front-is (verdict (under_limits i loop stack budget)) n s (ap tells same ∙ sym p.answer ∙ t) ∙ ap front same
            ∙ sym (written i r w r₁ w₁ a₁ p n t k),
      );
  refusal = λ n m t a b.
      let same = verdict-lasts i loop stack budget h (refusal-lasts (verdict i) n m (sym p.answer ∙ t) a b) in
      told-once a₂ a₁ (q.answer ∙ ap tells same ∙ sym p.answer);
}

-- THE FILE

-- if the verdict is an end that lasts, so does the outcome of the rules' run
of_end : (i : Inputs) (v : Verdict) (n : ℕ) → verdict i ≡ v → tells v ≡ wrote n → T (lasting_verdict v) → T (lasting (outcome_on i))
of_end i (D.refused m p) n e t l = not_both (sym t)
of_end i (D.ended s) n e t l =
    let d = ending i s e in
    let same : s.behaviour ≡ d.behaviour = ap (λ (x : Sheet). x.behaviour) (sym d.is) in
    subst (λ o. T (lasting o)) (sym d.ran) (subst (λ b. T (not (is_failure b))) same l)

pub file_unharmed_lem : FileUnharmed
file_unharmed_lem i loop stack budget r w f r₁ w₁ f₁ s v g s₁ v₁ g₁ d₁ d₂ h p q n t k =
    let j = under_limits i loop stack budget in
    let l = without_failure i r w r₁ w₁ (answer_of d₁) p.promise n t k in
    let same = verdict-lasts i loop stack budget h l in
    let ran = ran-lasts i loop stack budget h (of_end i (verdict i) n refl (sym p.promise.answer ∙ t) l) in
    let file : file_on j ≡ file_on i = ap (λ o. file_of (graph_of (program_of i).functions (trace_of o))) ran in
    let size : file_size d₂ ≡ file_size d₁ = q.length ∙ (λ e. size_after (same e) (file e)) ∙ sym p.length in
    let answer = told-once (answer_of d₂) (answer_of d₁) (q.promise.answer ∙ ap tells same ∙ sym p.promise.answer) in (
      drawn-once d₂ d₁ answer size,
      (λ e. take ((sym size ∙ q.length) e) (q.file e)) ∙ G.front-is (verdict j) (file_on j) g ∙ (λ e. G.front (same e) (file e))
          ∙ sym ((λ e. take (p.length e) (p.file e)) ∙ G.front-is (verdict i) (file_on i) f),
    )
