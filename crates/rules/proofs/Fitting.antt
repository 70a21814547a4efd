-- How large values get: whatever fits before an evaluation fits after it (specs/Fits.antt), as an invariant of proofs/Invariant.antt.
-- Assumes nothing.
use mathlib.Core.Path.{◌≡◌, refl, subst}
use mathlib.Core.Bool.{Bool, true, false, cond}
use mathlib.Core.List.{List, [], ◌∷◌, map}
use Prim.Native.Nat.{ℕ, suc, ◌≤◌}
use native.Mathlib.Omega.{arith}
use lib.Dec.{leb→le}
use lib.ListN.{length, length-drop}
use Rattle.rules.specs.declared.Behaviour.{Behaviour}
use Rattle.rules.specs.Lists.{Every}
use Rattle.rules.specs.Syntax.{Bytes, Program, Str, Lst, Ins}
use Rattle.rules.specs.State.{Limits, State, Inherited, Evaluated, error, value, Outcome, refused, ended, inside, as_call}
use Rattle.rules.specs.Words.{is_blank, in_front, pieces, non_empty, stretches, unset_variable}
use Rattle.rules.specs.Refusals.{at_top}
use Rattle.rules.specs.Rules.{Enter}
use Rattle.rules.specs.Evaluation.{eval_ins, eval_str, eval_lst, enter_at, start, main, run}
use Rattle.rules.specs.Genuine.{Reached, from_main, str, lst, ins}
use Rattle.rules.specs.Fits.{Short, ShortValue, Few, Narrow, Fits, FitsProgram, ShortString, FewFields}
use Rattle.rules.specs.Claims.{EvaluationFits}
use Rattle.rules.proofs.Lists.{every_get, every_set, every_drop, every_append}
use Rattle.rules.proofs.Outcomes.{Ends}
use Rattle.rules.proofs.Invariant.{Invariant, Known, Kept, Left}
use Rattle.rules.proofs.Pieces.{Anything}
use Rattle.rules.proofs.Soundness.{IsString, IsFields, sound_str, sound_lst, sound_ins, enters}

-- THE STRETCHES of a string are no longer than the string

abbrev AtMost : ℕ → Bytes → Type 0
AtMost n s = length s ≤ n

every_longer : (m n : ℕ) → m ≤ n → (ss : List Bytes) → Every (AtMost m) ss → Every (AtMost n) ss
every_longer m n l [] h = tt
every_longer m n l (s ∷ ss) h = (omega (arith, h.0), every_longer m n l ss h.1)

in_front_short : (c n : ℕ) (ss : List Bytes) → Every (AtMost n) ss → Every (AtMost (suc n)) (in_front c ss)
in_front_short c n [] h = (omega arith, tt)
in_front_short c n (s ∷ ss) h = (omega (arith, h.0), every_longer n (suc n) (omega arith) ss h.1)

pieces-short : (s : Bytes) → Every (AtMost (length s)) (pieces s)
pieces-short [] = (omega arith, tt)
pieces-short (c ∷ cs) = go (is_blank c) (pieces-short cs)
  where
    go : (b : Bool) → Every (AtMost (length cs)) (pieces cs) → Every (AtMost (suc (length cs))) (cond b ([] ∷ pieces cs) (in_front c (pieces cs)))
    go true h = (omega arith, every_longer (length cs) (suc (length cs)) (omega arith) (pieces cs) h)
    go false h = in_front_short c (length cs) (pieces cs) h

every_non_empty : (P : Bytes → Type 0) (ss : List Bytes) → Every P ss → Every P (non_empty ss)
every_non_empty P [] h = tt
every_non_empty P ([] ∷ ss) h = every_non_empty P ss h.1
every_non_empty P ((c ∷ cs) ∷ ss) h = (h.0, every_non_empty P ss h.1)

stretches-short : (n : ℕ) (s : Bytes) → length s ≤ n → Every (AtMost n) (stretches s)
stretches-short n s l = every_longer (length s) n l (stretches s) (every_non_empty (AtMost (length s)) (pieces s) (pieces-short s))

-- THE INVARIANT

module _ (limits : Limits) where
  nothing-short : Short limits []
  nothing-short = omega arith

  fitting : (program : Program) → FitsProgram limits program → Invariant limits program
  fitting program fits = record {
    String = Short limits;
    Fields = Few limits;
    Variables = Every (ShortValue limits);
    Stream = Narrow limits;
    text_is = fits.texts;
    name_is = fits.names;
    variable_is = λ x vs h. every_get (ShortValue limits) vs x (unset_variable []) nothing-short h;
    argument_is = λ n a later s h. every_get (Short limits) (a ∷ later) n [] nothing-short (s, h.1);
    made_is = λ s t. leb→le _ _ t;
    no_fields = (omega arith, tt);
    one_more = λ so_far s h k t. (leb→le _ _ t, every_append (Short limits) so_far (s ∷ []) h.1 (k, tt));
    some_more = λ so_far s h k t. (leb→le _ _ t, every_append (Short limits) so_far (stretches s) h.1 (stretches-short _ s k));
    first_field = λ s more h. h.1.0;
    other_fields = λ s more h. (omega (arith, h.0), h.1.1);
    fewer = λ n fields h. (omega (arith, h.0, length-drop n fields), every_drop (Short limits) n fields h.1);
    assign = λ x s vs h k. every_set (ShortValue limits) vs x _ k h;
    mark = λ x vs h. every_set (ShortValue limits) vs x _ (every_get (ShortValue limits) vs x (unset_variable []) nothing-short h) h;
    no_bytes = omega arith;
    stream_is = λ s t. leb→le _ _ t;
  }

  -- the variables are unset at first
  unset-short : (slots : List Bytes) → Every (ShortValue limits) (map unset_variable slots)
  unset-short [] = tt
  unset-short (n ∷ ns) = (nothing-short, unset-short ns)

  module _ (program : Program) (fits : FitsProgram limits program) where
    abbrev inv : Invariant limits program
    inv = fitting program fits

    to-known : (s : State) → Fits limits s → Known inv s
    unfolding fitting
    to-known s f = record { in_context = (f.variables, f.arguments); in_input = f.input; in_output = f.output }

    from-known : (s : State) → Known inv s → Fits limits s
    unfolding fitting
    from-known s k = record { variables = k.in_context.0; arguments = k.in_context.1; input = k.in_input; output = k.in_output }

    from-string : (v : Evaluated (Bytes × Bool)) → IsString inv v → ShortString limits v
    unfolding fitting
    from-string error w = tt
    from-string (value p) w = w

    from_fields : (v : Evaluated (List Bytes)) → IsFields inv v → FewFields limits v
    unfolding fitting
    from_fields error w = tt
    from_fields (value fields) w = w

    module _ (left : ℕ) (h : Inherited) (n : Short limits h.argument0) (s : State) (f : Fits limits s) where
      abbrev enter : Enter
      enter = enter_at limits program.functions left

      abbrev After : {A : Type 0} → (A → Type 0) → Outcome A → Type 0
      After post o = Left inv left post o

      after-str : (x : Str) → Reached program (str x) → (flag : Bool) → After (IsString inv) (eval_str limits program.functions enter x flag h s)
      unfolding fitting
      after-str x r flag = (sound_str inv left (enters inv left) x r flag h n).from s (to-known s f)

      after-lst : (l : Lst) → Reached program (lst l) → (so_far : List Bytes) → Few limits so_far
          → After (IsFields inv) (eval_lst limits program.functions enter l so_far h s)
      unfolding fitting
      after-lst l r so_far w = (sound_lst inv left (enters inv left) l r so_far w h n).from s (to-known s f)

      after-ins : (i : Ins) → Reached program (ins i) → After Anything (eval_ins limits program.functions enter i h s)
      unfolding fitting
      after-ins i r = (sound_ins inv left (enters inv left) i r h n).from s (to-known s f)

      pub evaluation_fits : EvaluationFits limits program left h s
      evaluation_fits = record {
        strings = λ x r flag v s' t e.
            let k : Kept inv left (IsString inv) v s' t = subst (After (IsString inv)) e (after-str x r flag) in
            (from-string v k.answer, from-known s' k.state);
        lists = λ l r so_far w v s' t e.
            let k : Kept inv left (IsFields inv) v s' t = subst (After (IsFields inv)) e (after-lst l r so_far w) in
            (from_fields v k.answer, from-known s' k.state);
        instructions = λ i r b s' t e.
            let k : Kept inv left Anything b s' t = subst (After Anything) e (after-ins i r) in
            from-known s' k.state;
      }

  -- what a run starts from fits
  start_fits : (program : Program) (arguments : List Bytes) (stdin : Bytes) → Few limits arguments → Narrow limits stdin
      → Fits limits (start program arguments stdin)
  start_fits program arguments stdin a i = record { variables = unset-short program.slots; arguments = a; input = i; output = omega arith }

  pub run_fits : (program : Program) (argument0 : Bytes) (arguments : List Bytes) (stdin : Bytes) → FitsProgram limits program
      → Short limits argument0 → Few limits arguments → Narrow limits stdin
      → Ends (λ _ s _. Fits limits s) (run limits program argument0 arguments stdin)
  unfolding run as_call
  run_fits program argument0 arguments stdin fits n a i =
      go (main limits program argument0 s₀) refl
    where
      s₀ : State
      s₀ = start program arguments stdin

      go : (o : Outcome Behaviour) → main limits program argument0 s₀ ≡ o → Ends (λ _ s _. Fits limits s) (inside 0 o)
      go (refused why place t) e = tt
      go (ended b s t) e =
          (evaluation_fits program fits limits.stack (at_top argument0) n s₀ (start_fits program arguments stdin a i)
          ).instructions program.main from_main b s t e
