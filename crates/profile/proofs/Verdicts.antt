-- What is known of a run that ended: its sheet was accepted, and its rows are those of a trace.
use Prim.Native.Nat.{ℕ, suc}
use native.Mathlib.Omega.{arith}
use mathlib.Core.Path.{◌≡◌, refl, sym, ◌∙◌}
use mathlib.Core.Bool.{Bool, true, false}
use mathlib.Core.List.{[]}
use lib.ListN.{length, get_or, drop}
use Rattle.rules.specs.declared.Behaviour.{Behaviour}
use Rattle.rules.specs.Syntax.{Bytes}
use Rattle.rules.specs.Trace.{Trace}
use Rattle.rules.specs.State.{Outcome, limits_of}
use Rattle.rules.specs.State as State
use Rattle.rules.specs.Evaluation.{run}
use Rattle.rules.specs.Ruling.{Sheet, ruling, ruling_of, profile}
use Rattle.sheet.specs.Check.{Checked, check}
use Rattle.sheet.specs.Check as C
use Rattle.sheet.specs.Arguments.{Arguments, arguments}
use Rattle.sheet.specs.Arguments as A
use Rattle.sheet.specs.Decode.{program}
use Rattle.sheet.specs.Order.{not_lent, wrong_limits}
use Rattle.sheet.specs.Check.{known_of}
use Rattle.runner.specs.Verdict.{refused, ended, verdict, from_rules}
use Rattle.runner.proofs.Ordering.{limits-refused, sheet-refused, arguments-refused, by_rules}
use Rattle.bundle.specs.Contents.{Contents}
use Rattle.profile.specs.Printed.{inputs_of}
use Rattle.text.specs.Names.{functions_of}

pub record Ended (s : Bytes) (x : Sheet) : Type 0 where
  pub accepts : check s ≡ C.accepted (known_of s)
  pub trace : Trace
  pub rows : x.profile ≡ profile 0 (suc (length (functions_of s))) trace

never : {A : Type 0} {n p : ℕ} {x : Sheet} → refused n p ≡ ended x → A
never e = absurd (let z : ◌≡◌ {A = ℕ} 0 1 = cc in omega arith)

known_is : (s : Bytes) (K : C.Known) → check s ≡ C.accepted K → check s ≡ C.accepted (known_of s)
unfolding known_of
known_is s K e = rw e

by-outcome : (s : Bytes) (x : Sheet) → check s ≡ C.accepted (known_of s) → (o : Outcome Behaviour)
    → from_rules (ruling_of (length (functions_of s)) o) ≡ ended x → Ended s x
by-outcome s x a (State.refused why place t) e = never e
by-outcome s x a (State.ended b st t) e = record { accepts = a; trace = t; rows = cc }

module _ (c : Contents) (x : Sheet) (e : verdict (inputs_of not_lent c) ≡ ended x) where
  pub ended_is : Ended c.sheet x
  unfolding ruling
  ended_is = limits (wrong_limits (inputs_of not_lent c)) refl
    where
      by-arguments : wrong_limits (inputs_of not_lent c) ≡ false → check c.sheet ≡ C.accepted (known_of c.sheet)
          → (y : Arguments) → arguments c.arguments ≡ y → Ended c.sheet x
      by-arguments l a (A.refused n p) q = never (sym (arguments-refused (inputs_of not_lent c) (omega arith) refl refl l n p a q) ∙ e)
      by-arguments l a (A.given texts) q =
          by-outcome c.sheet x a
          (run (limits_of c.loop c.stack c.budget) (program (known_of c.sheet)) (get_or texts 0 []) (drop 1 texts) c.input)
          (sym (by_rules (inputs_of not_lent c) (omega arith) refl refl l texts a q) ∙ e)

      by-check : wrong_limits (inputs_of not_lent c) ≡ false → (y : Checked) → check c.sheet ≡ y → Ended c.sheet x
      by-check l (C.accepted K) q = by-arguments l (known_is c.sheet K q) (arguments c.arguments) refl
      by-check l (C.refused n p) q = never (sym (sheet-refused (inputs_of not_lent c) (omega arith) refl refl l n p q) ∙ e)

      limits : (b : Bool) → wrong_limits (inputs_of not_lent c) ≡ b → Ended c.sheet x
      limits true l = never (sym (limits-refused (inputs_of not_lent c) (omega arith) refl refl l) ∙ e)
      limits false l = by-check l (check c.sheet) refl
