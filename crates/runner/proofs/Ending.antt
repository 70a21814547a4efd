-- An ended run holds what the rules' run on its inputs came to; and the sheet of it keeps the limits.
use mathlib.Core.Path.{◌≡◌, refl, sym, ap, ◌∙◌, subst}
use mathlib.Core.Bool.{Bool}
use mathlib.Core.List.{List, [], ◌∷◌, map}
use Prim.Native.Nat.{ℕ, zero, suc, ◌≤◌}
use native.Mathlib.Omega.{arith}
use lib.ListN.{length, get_or, drop, length-map, length-drop}
use Rattle.rules.specs.declared.Behaviour.{Behaviour}
use Rattle.rules.specs.Lists.{Every}
use Rattle.rules.specs.Syntax.{Bytes}
use Rattle.rules.specs.Trace.{Trace, steps}
use Rattle.rules.specs.State.{Value, unset, bytes, Variable, State, Outcome, refused, ended, result, written, variables}
use Rattle.rules.specs.Words.{bytes_of}
use Rattle.rules.specs.Fits.{Fits}
use Rattle.rules.specs.Ruling.{sheet, Sheet, shown, profile, ruling, ruling_of}
use Rattle.rules.proofs.Lists.{every_get, every_drop}
use Rattle.rules.proofs.Theorems.{every_run_fits_lem}
use Rattle.sheet.specs.Order.{Inputs}
use Rattle.sheet.specs.Check.{known_of}
use Rattle.result.specs.Claims.{ShortStrings, Bounded}
use Rattle.runner.specs.Verdict.{verdict, ruled}
use Rattle.runner.specs.Verdict as D
use Rattle.runner.specs.Ran.{program_of, limits_in, given_to, given_on, outcome_on, functions_of}
use Rattle.runner.proofs.Passing.{ended-accepts, ended_answers, ended-input, arguments-short, arguments-few}
use Rattle.runner.proofs.Texts.{accepted-fits, accepted-names, accepted-functions}
use Rattle.runner.proofs.Names.{name_of, run-names}

-- THE END

abbrev pub sheet_of : (functions : ℕ) → Behaviour → State → Trace → Sheet
sheet_of functions b s t = record {
  behaviour = b;
  result = result s;
  steps = steps t;
  output = written s;
  variables = shown (variables s);
  profile = profile 0 (suc functions) t;
}

pub record Ending (i : Inputs) (s : Sheet) : Type 0 where
  pub behaviour : Behaviour
  pub after : State
  pub trace : Trace
  pub ran : outcome_on i ≡ ended behaviour after trace
  pub is : sheet_of (functions_of i) behaviour after trace ≡ s

pub ruled-is : (i : Inputs) → ruled i ≡ ruling_of (functions_of i) (outcome_on i)
unfolding ruled ruling
ruled-is i = refl

pub ending : (i : Inputs) (s : Sheet) → verdict i ≡ D.ended s → Ending i s
ending i s e = go (outcome_on i) refl (sym (ruled-is i) ∙ ended_answers i s e)
  where
    go : (o : Outcome Behaviour) → outcome_on i ≡ o → ruling_of (functions_of i) o ≡ sheet s → Ending i s
    go (refused why place t) q a = absurd (let z : ◌≡◌ {A = ℕ} 0 1 = cc in omega arith)
    go (ended b st t) q a = record { behaviour = b; after = st; trace = t; ran = q; is = cc }

-- ITS SIZE

-- the variables that are shown: no more than there are, and none with a long string
abbrev Shows : List Variable → Type 0
Shows vs = Every ShortStrings (shown vs) × (length (shown vs) ≤ length vs)

shows_more : (n : Bytes) (x : Value) (m : Bool) (vs : List Variable) → length n ≤ 63 → length (bytes_of x) ≤ 63 → Shows vs
    → Shows ((record { name = n; value = x; exported = m }) ∷ vs)
shows_more n unset m vs h k q = (q.0, omega (arith, q.1))
shows_more n (bytes s) m vs h k q = ((record { name = h; value = k }, q.0), omega (arith, q.1))

shows : (vs : List Variable) → Every (λ (x : Bytes). length x ≤ 63) (map name_of vs) → Every (λ (v : Variable). length (bytes_of v.value) ≤ 63) vs → Shows vs
shows [] h k = (tt, omega arith)
shows (v ∷ vs) h k = shows_more v.name v.value v.exported vs h.0 k.0 (shows vs h.1 k.1)

pub profile-length : (f n : ℕ) (t : Trace) → length (profile f n t) ≡ n
profile-length f zero t = refl
profile-length f (suc n) t = ap suc (profile-length (suc f) n t)

module _ (i : Inputs) (s : Sheet) (e : verdict i ≡ D.ended s) where
  after-fits : (b : Behaviour) (st : State) (t : Trace) → outcome_on i ≡ ended b st t → Fits (limits_in i) st
  after-fits =
      every_run_fits_lem (limits_in i)
      (given_on i)
      (accepted-fits (limits_in i) (omega arith) i.sheet (known_of i.sheet) (ended-accepts i s e))
      (every_get _ (given_to i) 0 [] (omega arith) (arguments-short i.arguments))
      (omega (arith, length-drop 1 (given_to i), arguments-few i.arguments), every_drop _ 1 (given_to i) (arguments-short i.arguments))
      (ended-input i s e)

  bounded : (b : Behaviour) (st : State) (t : Trace) → outcome_on i ≡ ended b st t → Bounded (sheet_of (functions_of i) b st t)
  bounded b st t q =
      let f = after-fits b st t q in
      let names = run-names (limits_in i) (program_of i) (get_or (given_to i) 0 []) (drop 1 (given_to i)) i.input b st t q in
      let n = accepted-names i.sheet (known_of i.sheet) (ended-accepts i s e) in
      let m = length-map (variables st) name_of in
      let v = shows (variables st) (rw names n.0) f.variables in
      record {
        output = f.output;
        variables = omega (arith, v.1, n.1, ap length names);
        strings = v.0;
        functions = omega (arith, profile-length 0 (suc (functions_of i)) t, accepted-functions i.sheet (known_of i.sheet) (ended-accepts i s e));
      }

  pub sheet_bounded : Bounded s
  sheet_bounded = let d = ending i s e in subst Bounded d.is (bounded d.behaviour d.after d.trace d.ran)
