-- The first three of README's promises (specs/Demands), proved of every run that keeps the promise of `run`.
use mathlib.Core.Path.{◌≡◌, refl, sym, ap, ◌∙◌, subst}
use mathlib.Core.Bool.{Bool, true, false}
use mathlib.Core.Logic.{◌⊎◌, ⊎_elim}
use mathlib.Core.List.{[]}
use Prim.Native.Nat.{ℕ, ◌<◌, ◌≤◌}
use native.Mathlib.Omega.{arith}
use lib.ListN.{length, get_or, take, drop}
use Rattle.rules.specs.declared.Behaviour.{Behaviour}
use Rattle.rules.specs.declared.Refusal.{Refusal}
use Rattle.rules.specs.declared.Refusal.TheVariants.{BudgetUsedUp, LongString, LongList, LongStream, ManyHolds}
use Rattle.rules.specs.Syntax.{Bytes, Program}
use Rattle.rules.specs.Trace.{Trace, one_if}
use Rattle.rules.specs.State.{State, Outcome, trace_of, number, refused, ended, result}
use Rattle.rules.specs.Evaluation.{run}
use Rattle.rules.specs.Ruling.{Sheet, ruling_of}
use Rattle.sheet.specs.Arguments.{arguments, given}
use Rattle.sheet.specs.Check.{known_of}
use Rattle.sheet.specs.Decode.{program}
use Rattle.sheet.specs.Order.{Inputs}
use Rattle.result.specs.Encoding.{one_byte, sheet_bytes}
use Rattle.std.specs.Prelude.{Ok}
use Rattle.runner.specs.Verdict.{arguments_in, verdict, from_rules}
use Rattle.runner.specs.Verdict as D
use Rattle.runner.specs.Promise.{Answer, Told, wrote, refuses, told, tells, Promise}
use Rattle.runner.specs.Ran.{program_of, limits_in, outcome_on, trace_on, functions_of}
use Rattle.runner.specs.Demands.{Fault, Accepted, script, outcome, Bytewise, First, EndRead, EndsWith, IsEnd, Reaches, Second, FirstPromise, SecondPromise, ThirdPromise}
use Rattle.runner.specs.Claims.{ProfileRead}
use Rattle.runner.proofs.Ordering.{by-ruled}
use Rattle.runner.proofs.After.{number_in, place_in, not_both, front, front-is, rest-kept, end-cleared, nothing_written_lem, refusal-cleared, untouched}
use Rattle.runner.proofs.Ending.{sheet_of, ruled-is}
use Rattle.runner.proofs.Faults.{room, size, file-right, limits-right, script-accepted, fault_given, Sorted, faulty, fine, sorted}
use Rattle.runner.proofs.Profiles.{profile-read}
use Rattle.runner.proofs.Telling.{told-once}
use Rattle.runner.proofs.ReadingBack.{behaviour-read, result-read, output-read, variables-read}
use Rattle.sheet.proofs.Theorems.{program_of_records_lem, arguments-exactly}

-- THE FIRST

-- a refusal midway has a number from 6 to 10
midway_between : (why : Refusal) → (5 < number why) × (number why < 14)
midway_between BudgetUsedUp = (omega arith, omega arith)
midway_between LongString = (omega arith, omega arith)
midway_between LongList = (omega arith, omega arith)
midway_between LongStream = (omega arith, omega arith)
midway_between ManyHolds = (omega arith, omega arith)

module _ (i : Inputs) (b : Bytewise i) (x : Accepted i) where
  texts-given : arguments i.arguments ≡ given x.arguments.texts
  texts-given = ((arguments-exactly i.arguments b.arguments).given x.arguments.texts).1 x.arguments.are

  -- the verdict on accepted inputs
  accepted-verdict : verdict i ≡ from_rules (ruling_of (functions_of i) (outcome_on i))
  accepted-verdict =
      by-ruled i (room i x.memory) (size i x.memory) (file-right i x.file) (limits-right i x.limits) x.arguments.texts (script-accepted i.sheet x.script) texts-given
      ∙ ap from_rules (ruled-is i)

  -- what the check knows of the sheet stands for the program of its records
  pub script-is : program_of i ≡ script i x
  script-is = ap (λ (s : Bytes). program (known_of s)) x.script.is ∙ program_of_records_lem x.script.records x.script.good

  pub outcome-is : outcome_on i ≡ outcome i x
  outcome-is = λ j. run (limits_in i) (script-is j) (get_or (arguments_in (texts-given j)) 0 []) (drop 1 (arguments_in (texts-given j))) i.input

-- a result's byte
bit-same : (b : Bool) → one_byte b ≡ one_if b
bit-same true = refl
bit-same false = refl

rules_between : (functions n p : ℕ) (o : Outcome Behaviour) → tells (from_rules (ruling_of functions o)) ≡ refuses n p → (5 < n) × (n < 14)
rules_between functions n p (refused why place t) e = subst (λ (m : ℕ). (5 < m) × (m < 14)) (ap number_in e) (midway_between why)
rules_between functions n p (ended b s t) e = not_both e

module _ (i : Inputs) (r w r' w' : Bytes) (a : Answer) (b : Bytewise i) (p : Promise i r w r' w' a) where
  every_fault_lem : (n q : ℕ) → Fault i n q → told a ≡ refuses n q
  every_fault_lem n q f = p.answer ∙ ap tells (fault_given i b n q f)

  only_faults_lem : (n q : ℕ) → (n ≤ 5) ⊎ (n ≡ 14) → told a ≡ refuses n q → Fault i n q
  only_faults_lem n q l e = go (sorted i b)
    where
      go : Sorted i b → Fault i n q
      go (faulty m s f) =
          let z = sym (every_fault_lem m s f) ∙ e in
          subst (λ (k : ℕ). Fault i k q) (ap number_in z) (subst (Fault i m) (ap place_in z) f)
      go (fine x) =
          let h = rules_between (functions_of i) n q (outcome_on i) (sym (ap tells (accepted-verdict i b x)) ∙ sym p.answer ∙ e) in
          absurd (⊎_elim (λ s. omega arith) (λ s. omega arith) l)

  accepted-else : ((n q : ℕ) → ¬ Fault i n q) → Accepted i
  accepted-else none = go (sorted i b)
    where
      go : Sorted i b → Accepted i
      go (faulty m s f) = absurd (none m s f)
      go (fine x) = x

  -- what the verdict says, if that is said
  said : {x : Told} → told a ≡ x → tells (verdict i) ≡ x
  said e = sym p.answer ∙ e

  first : First i r w r' w' a
  first = record {
    only_faults = only_faults_lem;
    every_fault = every_fault_lem;
    else = accepted-else;
    nothing_written = λ n q e. p.result ∙ nothing_written_lem (verdict i) n q r (said e);
    cleared = λ n q e h. p.work ∙ refusal-cleared (verdict i) n q w (said e) h;
    untouched = λ n q e h. p.work ∙ untouched (verdict i) n q w (said e) h;
    cleared_at_end = λ n e. p.work ∙ end-cleared (verdict i) n w (said e);
    rest_kept = λ n e. ap (drop n) p.result ∙ rest-kept (verdict i) n r (said e);
  }

  -- THE SECOND

  module _ (x : Accepted i) where
    -- what is said is what the rules' outcome says
    rules_say : told a ≡ tells (from_rules (ruling_of (functions_of i) (outcome_on i)))
    rules_say = p.answer ∙ ap tells (accepted-verdict i b x)

    module _ (c : Behaviour) (s : State) (t : Trace) (e : outcome_on i ≡ ended c s t) where
      abbrev end : Sheet
      end = sheet_of (functions_of i) c s t

      is-end : verdict i ≡ D.ended end
      is-end = accepted-verdict i b x ∙ ap (λ (o : Outcome Behaviour). from_rules (ruling_of (functions_of i) o)) e

      end_read : (n : ℕ) → told a ≡ wrote n → EndRead c s (take n r')
      end_read n q =
          let bytes : take n r' ≡ sheet_bytes end =
          ap (take n) p.result ∙ front-is (verdict i) n r (said q) ∙ ap front is-end in
          subst (EndRead c s) (sym bytes) (record {
            behaviour = behaviour-read end;
            result = result-read end ∙ bit-same (result s);
            output = output-read end;
            variables = variables-read end;
          })

      ends_so_lem : EndsWith c s r' a
      ends_so_lem =
          let e : told a ≡ wrote (length (sheet_bytes end)) = p.answer ∙ ap tells is-end in
          record { size = length (sheet_bytes end); said = e; read = end_read (length (sheet_bytes end)) e }

    only-ends : (n : ℕ) → told a ≡ wrote n → IsEnd (outcome_on i)
    only-ends n e = go (outcome_on i) (sym rules_say ∙ e)
      where
        go : (o : Outcome Behaviour) → tells (from_rules (ruling_of (functions_of i) o)) ≡ wrote n → IsEnd o
        go (refused why place t) q = not_both (sym q)
        go (ended c s t) q = tt

    only-refused : (n q : ℕ) → told a ≡ refuses n q → Reaches n q (outcome_on i)
    only-refused n q e = go (outcome_on i) (sym rules_say ∙ e)
      where
        go : (o : Outcome Behaviour) → tells (from_rules (ruling_of (functions_of i) o)) ≡ refuses n q → Reaches n q o
        go (refused why place t) z = (ap number_in z, ap place_in z)
        go (ended c s t) z = not_both z

    second : Second (outcome_on i) r' a
    second = record {
      ends_so = ends_so_lem;
      only_ends = only-ends;
      refused_so = λ why place t e. rules_say ∙ ap (λ (o : Outcome Behaviour). tells (from_rules (ruling_of (functions_of i) o))) e;
      only_refused = only-refused;
    }

-- THE CLAIMS

pub first-promise : FirstPromise
first-promise = first

pub second-promise : SecondPromise
second-promise i r w r' w' a b p x = subst (λ (o : Outcome Behaviour). Second o r' a) (outcome-is i b x) (second i r w r' w' a b p x)

pub third_promise_lem : ThirdPromise
third_promise_lem i r w r' w' a b p x n e =
    subst (λ (t : Trace). ProfileRead i (script i x) t (take n r')) (ap trace_of (outcome-is i b x))
    (subst (λ (q : Program). ProfileRead i q (trace_on i) (take n r')) (script-is i b x) (profile-read (subst (Promise i r w r' w') (told-once a (Ok n) e) p)))
