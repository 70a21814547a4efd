-- The inner parts answer what the verdict says.
use mathlib.Core.Path.{◌≡◌, refl, sym, ap, ◌∙◌, subst}
use mathlib.Core.Bool.{false, ◌||◌}
use mathlib.Core.List.{[]}
use Prim.Native.Nat.{ℕ, ◌-◌}
use native.Mathlib.Omega.{arith}
use lib.ListN.{length, get_or, drop}
use borrow.Author.Tests.{le-ltb, ne_eqb}
use Rattle.std.specs.Prelude.{Option, Some, None, Ok, Err}
use Rattle.std.specs.Option.{ok_or}
use Rattle.rules.specs.Syntax.{Bytes}
use Rattle.rules.specs.Trace.{Trace}
use Rattle.rules.specs.State.{limits_of, trace_of}
use Rattle.rules.specs.Evaluation.{run}
use Rattle.rules.specs.Ruling.{ruling}
use Rattle.sheet.specs.Arguments.{arguments, given_of}
use Rattle.sheet.specs.Decode.{program}
use Rattle.sheet.specs.Order.{wrong_limits}
use Rattle.memory.specs.Layout.{fields_at, list_place}
use Rattle.memory.specs.declared.Given.{Given}
use Rattle.sheet.specs.Check.{known_of}
use Rattle.engine.specs.Start.{Taken}
use Rattle.runner.specs.declared.Refused.{Refused}
use Rattle.runner.specs.declared.Refused.TheVariants as why
use Rattle.runner.specs.Verdict.{Verdict, verdict, from_rules, arguments_in}
use Rattle.runner.specs.Promise.{tells, result_after, inputs}
use Rattle.runner.specs.Stages.{Sheeted, Left, Inner, Rendered, ruling_in, trace_in}
use Rattle.runner.specs.Ran.{trace_on}
use Rattle.runner.proofs.Beginning.{inner-refused}
use Rattle.runner.proofs.Ordering.{arguments-refused, by_rules}
use Rattle.runner.proofs.Preparing.{Gives, refuses-arguments, sheeted_size}

module _ {s i r w : Bytes} {g : Given} {f : ℕ} (h : Sheeted s i r w g f) (a : Bytes) where
  in_limits : wrong_limits (inputs s a i g.loops g.stack g.budget r w) ≡ false
  in_limits =
      let z = h.some in
      λ j. le-ltb 65535 g.loops h.loops j || (le-ltb 10 g.stack h.stack j || (ne_eqb g.budget 0 (λ e. omega arith) j
      || (le-ltb 1000000 g.budget h.budget j || le-ltb 1024 (length i) h.input j)))

  pub no_arguments : {y : Refused} (o : Option ℕ) → Err y ≡ ok_or o why.Arguments → o ≡ given_of (arguments a)
      → Inner (inputs s a i g.loops g.stack g.budget r w) r r w (Err y)
  no_arguments (Some n) e f = absurd (let z : ◌≡◌ {A = ℕ} 0 1 = cc in omega arith)
  no_arguments {y} None e f =
      let q = refuses-arguments (arguments a) f in
      let v = arguments-refused (inputs s a i g.loops g.stack g.budget r w) h.cleared.room (sheeted_size h) refl in_limits q.0 q.1 h.accepts q.2 in
      let z : y ≡ why.Arguments = cc in
      rw z (inner-refused (inputs s a i g.loops g.stack g.budget r w) r why.Arguments v w (sheeted_size h))

  module _ {n : ℕ} (q : Gives a n) {w₂ : Bytes} (d : Taken a 64 w w₂) where
    others : fields_at 64 w₂ (list_place 64 0) (n - 1) ≡ drop 1 q.list
    others = ap (λ (k : ℕ). fields_at 64 w₂ (list_place 64 0) (k - 1)) (sym q.count) ∙ d.others q.list q.is

    trace-is : trace_in s i w₂ g (n - 1) ≡ trace_on (inputs s a i g.loops g.stack g.budget r w)
    trace-is =
        (λ j. trace_of (run (limits_of g.loops g.stack g.budget) (program (known_of s)) (d.zero q.list q.is j) (others j) i))
        ∙ sym (λ j. trace_of (run (limits_of g.loops g.stack g.budget) (program (known_of s))
        (get_or (arguments_in (q.is j)) 0 []) (drop 1 (arguments_in (q.is j))) i))

    ruled-is : from_rules (ruling_in s i w₂ g (n - 1)) ≡ verdict (inputs s a i g.loops g.stack g.budget r w)
    ruled-is =
        (λ j. from_rules (ruling (limits_of g.loops g.stack g.budget) (program (known_of s)) (d.zero q.list q.is j) (others j) i))
        ∙ sym (by_rules (inputs s a i g.loops g.stack g.budget r w) h.cleared.room (sheeted_size h) refl in_limits q.list h.accepts q.is)

    pub ran : {r' w₃ : Bytes} {k : ℕ} → Rendered (ruling_in s i w₂ g (n - 1)) s (trace_in s i w₂ g (n - 1)) f r r' w₃ (Ok k)
        → Inner (inputs s a i g.loops g.stack g.budget r w) r r' w₃ (Ok (record { length = k; functions = f }))
    ran {r'} {w₃} {k} o = record {
      answer = o.answer ∙ ap tells ruled-is;
      result = o.result ∙ ap (λ (x : Verdict). result_after x r) ruled-is;
      size = o.size;
      left = subst (λ (t : Trace). Left s t f w₃) trace-is o.left;
    }

    pub halted : {r' w₃ : Bytes} {y : Refused} → Rendered (ruling_in s i w₂ g (n - 1)) s (trace_in s i w₂ g (n - 1)) f r r' w₃ (Err y)
        → Inner (inputs s a i g.loops g.stack g.budget r w) r r' w₃ (Err y)
    halted o = record {
      answer = o.answer ∙ ap tells ruled-is;
      result = o.result ∙ ap (λ (x : Verdict). result_after x r) ruled-is;
      size = o.size;
      left = tt;
    }
