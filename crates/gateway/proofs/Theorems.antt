-- The claims of specs/Claims.antt, proved.
-- Assumes nothing.
use mathlib.Core.Path.{◌≡◌, refl, sym, ap, ◌∙◌, subst}
use Prim.Native.Nat.{ℕ, ◌+◌, ◌*◌, ◌≤◌}
use native.Mathlib.Omega.{arith}
use lib.ListN.{length}
use Rattle.rules.specs.Ruling.{Sheet}
use Rattle.result.specs.Encoding.{sheet_bytes}
use Rattle.sheet.specs.Order.{Inputs}
use Rattle.runner.specs.Verdict.{Verdict, refused, ended, verdict}
use Rattle.runner.specs.Promise.{Told, wrote, refuses, tells}
use Rattle.runner.proofs.Theorems.{sheet-fits}
use Rattle.runner.proofs.Graphs.{file-short}
use Rattle.gateway.specs.Exported.{numbered, Refusable, Sayable}
use Rattle.gateway.specs.Claims.{OneNumber, RefusalRead, EveryRefusalRead, PlainUpToTen, EveryEndSmall, NumberFixesAnswer}
use Rattle.gateway.specs.Claims.{OneGraphNumber, EveryGraphRefusalRead, EveryGraphEndRead}
use Rattle.gateway.proofs.Ranged.{every_verdict}
use Rattle.gateway.proofs.Ranged as R
use Rattle.gateway.specs.Proved.{Proved}

pub one_number_lem : OneNumber
one_number_lem i r w r₁ w₁ r₂ w₂ n₁ n₂ p q = (p.answer ∙ sym q.answer, p.result ∙ sym q.result, p.work ∙ sym q.work)

read : (n p : ℕ) → Refusable n p → RefusalRead n p (n * 4294967296 + p)
read n p h = record {
  range = h;
  large = omega (arith, h.first);
  upper = omega (arith, h.record512);
  lower = omega (arith, h.record512);
}

pub every_refusal_read_lem : EveryRefusalRead
every_refusal_read_lem i n p e = rw e (read n p (subst (λ (v : Verdict). Sayable (tells v)) e (every_verdict i)))

pub plain_up_to_ten_lem : PlainUpToTen
plain_up_to_ten_lem = R.plain_up_to_ten_lem

pub every_end_small_lem : EveryEndSmall
every_end_small_lem i s e = rw e (sheet-fits i s e)

-- what can be said of a run: a refusal in range, or a length below every refusal
abbrev Said : Told → Type 0
Said (wrote length) = length ≤ 3744
Said (refuses number place) = Refusable number place

said : (v : Verdict) → Sayable (tells v) → ((s : Sheet) → v ≡ ended s → length (sheet_bytes s) ≤ 3744) → Said (tells v)
said (refused n p) h k = h
said (ended s) h k = k s refl

apart : (t u : Told) → Said t → Said u → numbered t ≡ numbered u → t ≡ u
apart (wrote m) (wrote n) h k e = ap wrote e
apart (wrote m) (refuses n p) h k e = absurd (omega (arith, k.first))
apart (refuses n p) (wrote m) h k e = absurd (omega (arith, h.first))
apart (refuses n p) (refuses m q) h k e =
    let f : n ≡ m = omega (arith, h.record512, k.record512) in
    let g : p ≡ q = omega (arith, h.record512, k.record512) in
    λ j. refuses (f j) (g j)

pub number_fixes_answer_lem : NumberFixesAnswer
number_fixes_answer_lem i j e = apart (tells (verdict i)) (tells (verdict j)) (known i) (known j) e
  where
    known : (k : Inputs) → Said (tells (verdict k))
    known k = said (verdict k) (every_verdict k) (sheet-fits k)

-- WITH THE CALL GRAPH

pub one_graph_number_lem : OneGraphNumber
one_graph_number_lem i r w f r₁ w₁ f₁ r₂ w₂ f₂ n₁ n₂ p q =
    (p.answer ∙ sym q.answer, p.result ∙ sym q.result, p.work ∙ sym q.work, p.file ∙ sym q.file)

pub every_graph_refusal_read_lem : EveryGraphRefusalRead
every_graph_refusal_read_lem i n p e =
    let h : Refusable n p = subst (λ (v : Verdict). Sayable (tells v)) e (every_verdict i) in
    let z : 65536 * 0 + (n * 4294967296 + p) ≡ n * 4294967296 + p = omega arith in
    rw (e, z) (read n p h)

pub every_graph_end_read_lem : EveryGraphEndRead
every_graph_end_read_lem i s e =
    let l = sheet-fits i s e in
    let f = file-short i s e in
    rw e (record { small = omega arith; upper = omega arith; lower = omega arith })

-- ALL OF THEM

pub proved : Proved
proved = record {
  one_number = one_number_lem;
  every_refusal_read = every_refusal_read_lem;
  plain_up_to_ten = plain_up_to_ten_lem;
  every_end_small = every_end_small_lem;
  number_fixes_answer = number_fixes_answer_lem;
  one_graph_number = one_graph_number_lem;
  every_graph_refusal_read = every_graph_refusal_read_lem;
  every_graph_end_read = every_graph_end_read_lem;
}
