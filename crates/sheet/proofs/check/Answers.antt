use mathlib.Core.Path.{◌≡◌, refl, ap, ◌∙◌}
use mathlib.Core.Logic.{◌⊎◌, ⊎_elim}
use Prim.Native.Nat.{ℕ}
use native.Mathlib.Omega.{arith}
use Rattle.std.specs.Prelude.{Err}
use Rattle.std.proofs.lemmas.Result.{err_from_is_err_and}
use Rattle.rules.specs.Syntax.{Bytes}
use Rattle.sheet.specs.declared.Refused.{Refused}
use Rattle.sheet.specs.Check.{Checked, accepted, refused, check}
use Rattle.sheet.specs.Ready.{finding_of, refused_of, fault_number, fault_of}
use Rattle.sheet.proofs.Theorems.{only_three_or_four_lem}
use Rattle.sheet.proofs.Finished.{long_finding, refused_finding, good_resolving, good-some, good_finding}
use Rattle.sheet.proofs.check.Goals as goal

-- a refusal has the number of its fault: it is 3 or 4
numbered : (s : Bytes) (e : Refused) → Err e ≡ finding_of (check s) → check s ≡ refused (fault_number e.why) e.place
numbered s e f = go (check s) refl f
  where
    back : (n : ℕ) → (n ≡ 3) ⊎ (n ≡ 4) → n ≡ fault_number (fault_of n)
    back n h = ⊎_elim (λ z. rw z) (λ z. rw z) h

    go : (a : Checked) → check s ≡ a → Err e ≡ finding_of a → check s ≡ refused (fault_number e.why) e.place
    go (accepted K) p q = let z : ◌≡◌ {A = ℕ} 0 1 = cc in absurd (omega arith)
    go (refused n r) p q =
        let x : e ≡ refused_of n r = cc in
        rw x (p ∙ ap (λ (k : ℕ). refused k r) (back n (only_three_or_four_lem s n r p).0))

pub returns-then-sheet-gt-SHEET_BYTES : goal.returns-then-sheet-gt-SHEET_BYTES
returns-then-sheet-gt-SHEET_BYTES c =
    let h = long_finding c.args.sheet.now c.args.table.now c.if-sheet-gt-SHEET_BYTES.true in
    rw c.at.ensures (record { value = h.0; number = numbered c.args.sheet.now _ h.0; table_after = h.1 })

pub returns-in_err-c : goal.returns-in_err-c
returns-in_err-c c =
    let p = err_from_is_err_and c.from_residual.result c.from_residual.ensures.1 in
    let h = refused_finding c.args.sheet.now c.args.table.now _ _ c.if-sheet-gt-SHEET_BYTES.false c.in_err-c.ensures.value c.in_err-c.ensures.table_after in
    rw (p.1, p.2) (record { value = h.0; number = numbered c.args.sheet.now _ h.0; table_after = h.1 })

pub finish-requires : goal.finish-requires
finish-requires c = (
  good_resolving c.args.sheet.now c.args.table.now _ c.in_ok-c.c c.if-sheet-gt-SHEET_BYTES.false c.requires c.in_ok-c.ensures.value c.in_ok-c.ensures.table_after,
  good-some c.args.sheet.now c.args.table.now _ c.in_ok-c.c c.if-sheet-gt-SHEET_BYTES.false c.requires c.in_ok-c.ensures.value c.in_ok-c.ensures.table_after,
)

pub returns : goal.returns
returns c =
    let h = good_finding c.args.sheet.now c.args.table.now _ c.in_ok-c.c c.if-sheet-gt-SHEET_BYTES.false c.requires c.in_ok-c.ensures.value c.in_ok-c.ensures.table_after _ _ c.finish.ensures.value c.finish.ensures.completed in
    record { value = h.0; number = tt; table_after = h.1 }
