-- The beginning of a run: sizes, limits and the sheet, and the end of it: the work memory cleared.
use mathlib.Core.Path.{◌≡◌, refl, sym, ap, ◌∙◌, subst}
use mathlib.Core.Bool.{Bool, true, false, cond}
use Prim.Native.Nat.{ℕ, ◌<◌, ◌≤◌}
use native.Mathlib.Omega.{arith}
use lib.Dec.{ltb, eqb}
use lib.ListN.{length, replicate, length-replicate}
use borrow.Author.Tests.{ltb-false, eqb-false}
use Rattle.std.specs.Prelude.{Result, Ok, Err}
use Rattle.std.proofs.lemmas.Bool.{or_parts}
use Rattle.rules.specs.Syntax.{Bytes}
use Rattle.sheet.specs.declared.Accepted.{Accepted}
use Rattle.sheet.specs.declared.Refused.{Refused}
use Rattle.sheet.specs.Check.{Checked, accepted, refused, check, count}
use Rattle.sheet.specs.Table.{leaves}
use Rattle.sheet.specs.Ready.{finding_of, fault_number}
use Rattle.sheet.specs.Order.{Inputs, not_lent, wrong_limits}
use Rattle.sheet.specs.Check.{known_in, known_of}
use Rattle.runner.specs.declared.Done.{Done}
use Rattle.runner.specs.declared.Refused.{Refused as Why}
use Rattle.runner.specs.declared.Refused.TheVariants as why
use Rattle.runner.specs.Verdict.{Verdict, verdict}
use Rattle.runner.specs.Verdict as D
use Rattle.runner.specs.Promise.{refusal_number, refusal_place, Promise, tells, result_after, of_size, work_after, inputs}
use Rattle.runner.specs.Stages.{Cleared, Sheeted, answer_in, Inner}
use Rattle.runner.proofs.Tables.{leaves-length}
use Rattle.runner.proofs.Ordering.{small_result, odd_work, limits-refused, sheet-refused, work-cleared}

-- A REFUSAL, where the verdict is that

module _ (i : Inputs) (r : Bytes) (y : Why) (v : verdict i ≡ D.refused (refusal_number y) (refusal_place y)) where
  -- of what is asked after the sizes
  pub inner-refused : (w' : Bytes) → length w' ≡ 65536 → Inner i r r w' (Err y)
  inner-refused w' e = record { answer = ap tells (sym v); result = ap (λ (x : Verdict). result_after x r) (sym v); size = e; left = tt }

  -- of a size: neither memory is touched
  pub size-refused : (w : Bytes) → of_size (refusal_number y) ≡ true → Promise i r w r w (Err y)
  size-refused w o = record {
    answer = ap tells (sym v);
    result = ap (λ (x : Verdict). result_after x r) (sym v);
    work = sym (ap (λ (x : Verdict). work_after x w) v ∙ ap (λ (b : Bool). cond b w (replicate (length w) 0)) o);
  }

-- THE SHEET

record Accepts (c : Checked) (x : Accepted) : Type 0 where
  is : c ≡ accepted (known_in c)
  slots : x.slots ≡ length (known_in c).variables
  functions : x.functions ≡ length (known_in c).functions

told-accepted : (c : Checked) (x : Accepted) → Ok x ≡ finding_of c → Accepts c x
told-accepted (accepted K) x e =
    let z : x ≡ record { records = count K; slots = length K.variables; functions = length K.functions } = cc in
    record { is = refl; slots = ap (λ (y : Accepted). y.slots) z; functions = ap (λ (y : Accepted). y.functions) z }
told-accepted (refused m p) x e = absurd (let z : ◌≡◌ {A = ℕ} 0 1 = cc in omega arith)

-- A CLEARED WORK MEMORY

module _ {r w : Bytes} (h : Cleared r w) (s a i : Bytes) (l k b : ℕ) where
  pub limits-answer : wrong_limits (inputs s a i l k b r w) ≡ true → Inner (inputs s a i l k b r w) r r w (Err why.Limits)
  limits-answer e = inner-refused (inputs s a i l k b r w) r why.Limits (limits-refused (inputs s a i l k b r w) h.room h.size refl e) w h.size

  module _ (limits : wrong_limits (inputs s a i l k b r w) ≡ false) {w' : Bytes} (left : w' ≡ leaves s (check s) w) where
    pub sheet-answer : (of : Refused) → check s ≡ refused (fault_number of.why) of.place
        → Inner (inputs s a i l k b r w) r r w' (Err (why.Sheet of))
    sheet-answer of e =
        inner-refused (inputs s a i l k b r w) r (why.Sheet of)
        (sheet-refused (inputs s a i l k b r w) h.room h.size refl limits (fault_number of.why) of.place e)
        w' (ap length left ∙ leaves-length s w (check s) ∙ h.size)

    pub sheeted : (x : Accepted) → Ok x ≡ finding_of (check s)
        → Sheeted s i r w' (record { loops = l; stack = k; budget = b; unit = 64; slots = x.slots }) x.functions
    unfolding known_of
    sheeted x e =
        let c = told-accepted (check s) x e in
        let loops = or_parts (ltb 65535 l) _ limits in
        let stack = or_parts (ltb 10 k) _ loops.1 in
        let some = or_parts (eqb b 0) _ stack.1 in
        let budget = or_parts (ltb 1000000 b) _ some.1 in
        record {
          before = w;
          cleared = h;
          accepts = c.is;
          tables = left;
          functions = c.functions;
          slots = c.slots;
          unit = refl;
          loops = ltb-false 65535 l loops.0;
          stack = ltb-false 10 k stack.0;
          some = let z = eqb-false b 0 some.0 in omega arith;
          budget = ltb-false 1000000 b budget.0;
          input = ltb-false 1024 (length i) budget.1;
        }

-- THE WHOLE RUN

size-cleared : (w : Bytes) {w₁ : Bytes} → w₁ ≡ replicate (length w) 0 → length w₁ ≡ length w
size-cleared w zeros = ap length zeros ∙ length-replicate (length w) 0

module _ (s a i : Bytes) (l k b : ℕ) (r w : Bytes) where
  pub sizes_small : length r < 4096 → Promise (inputs s a i l k b r w) r w r w (Err why.Sizes)
  sizes_small h = size-refused (inputs s a i l k b r w) r why.Sizes (small_result (inputs s a i l k b r w) h) w refl

  pub sizes_odd : 4096 ≤ length r → (length w ≡ 65536 → ⊥) → Promise (inputs s a i l k b r w) r w r w (Err why.Sizes)
  sizes_odd h n = size-refused (inputs s a i l k b r w) r why.Sizes (odd_work (inputs s a i l k b r w) h n) w refl

  -- the inputs speak of the work memory's size alone
  pub kept : {r' w₁ w₂ w₃ : Bytes} {x : Result Done Why} → 4096 ≤ length r → length w ≡ 65536 → w₁ ≡ replicate (length w) 0
      → Inner (inputs s a i l k b r w₁) r r' w₂ x → w₃ ≡ replicate (length w₂) 0
      → Promise (inputs s a i l k b r w) r w r' w₃ (answer_in x)
  kept {r'} {w₁} {w₂} {w₃} {x} room size zeros d z =
      let o : Inner (inputs s a i l k b r w) r r' w₂ x =
      subst (λ (n : ℕ). Inner (record { sheet = s; arguments = a; input = i; loop = l; stack = k; budget = b; result_size = length r; work_size = n; file = not_lent }) r r' w₂ x)
      (size-cleared w zeros) d in
      record {
        answer = o.answer;
        result = o.result;
        work = z ∙ ap (λ (n : ℕ). replicate n 0) (d.size ∙ sym size) ∙ sym (work-cleared (inputs s a i l k b r w) room size refl w);
      }
