-- Every evaluation is sound (proofs/Invariant.antt): by one induction over the syntax, for each number of calls that may still be opened.
-- Assumes nothing.
use mathlib.Core.Bool.{Bool, true, false}
use mathlib.Core.List.{List, []}
use Prim.Native.Nat.{ℕ, zero, suc}
use Rattle.rules.specs.Lists.{first, later}
use Rattle.rules.specs.Syntax.{Bytes, Program}
use Rattle.rules.specs.Syntax.{Str, text, variable, argument, embedded, join}
use Rattle.rules.specs.Syntax.{Lst, empty, field, split}
use Rattle.rules.specs.Syntax.{Ins, assign, export, sequence, subshell, not, if, nooutput, pipe, utility, call, for, while, exit, return, shift}
use Rattle.rules.specs.State.{Limits, dropped, kept_bytes, Inherited, Evaluated, look, context, output, input, written, variables, arguments}
use Rattle.rules.specs.Rules.{text_rule, variable_rule, argument_rule, join_rule, embedded_rule, empty_rule, field_rule, split_rule}
use Rattle.rules.specs.Rules.{assign_rule, export_rule, sequence_rule, subshell_rule, not_rule, if_rule, nooutput_rule, pipe_rule, utility_rule}
use Rattle.rules.specs.Rules.{for_rule, while_rule, exit_rule, return_rule, shift_rule}
use Rattle.rules.specs.Evaluation.{ins_rule, eval_ins, eval_str, eval_lst}
use Rattle.rules.specs.Genuine.{str, lst, ins, Reached, from_parent}
use Rattle.rules.proofs.Invariant.{Invariant, KnownContext, Named, Sound, sound_give, sound_look, sound_change, sound_choose, sound_bind, sound_next}
use Rattle.rules.proofs.Pieces.{Anything, IfValue, known-context, known-variables, known-arguments, known-input, known-output}
use Rattle.rules.proofs.Pieces.{sound_any, sound_stepped, sound_made, sound_add, sound_hold, sound_result, sound_finish, sound_finish_unless, sound_end}
use Rattle.rules.proofs.Pieces.{sound_normal, sound_unless, sound_value, sound_utility, sound_assigned, sound_each, sound_while}
use Rattle.rules.proofs.Calls.{Enters, enter_with, sound_call, enters_none, enters_more}

module _ {limits : Limits} {program : Program} (inv : Invariant limits program) where
  -- what is read off a state that is known
  look-context : {left : ℕ} → Sound inv left (KnownContext inv) (look context)
  look-context = sound_look _ (λ s k. k.in_context)

  look-output : {left : ℕ} → Sound inv left (λ o. inv.Stream (kept_bytes o)) (look output)
  look-output = sound_look _ (λ s k. k.in_output)

  look-written : {left : ℕ} → Sound inv left inv.Stream (look written)
  look-written = sound_look _ (λ s k. k.in_output)

  look-input : {left : ℕ} → Sound inv left inv.Stream (look input)
  look-input = sound_look _ (λ s k. k.in_input)

  look-variables : {left : ℕ} → Sound inv left inv.Variables (look variables)
  look-variables = sound_look _ (λ s k. k.in_context.0)

  look-arguments : {left : ℕ} → Sound inv left inv.Fields (look arguments)
  look-arguments = sound_look _ (λ s k. k.in_context.1)

  -- what a string and a list come to
  abbrev pub IsString : Evaluated (Bytes × Bool) → Type 0
  IsString v = IfValue (λ p. inv.String p.0) v

  abbrev pub IsFields : Evaluated (List Bytes) → Type 0
  IsFields v = IfValue inv.Fields v

  module _ (left : ℕ) (enters : Enters inv left) where
    mutual
      unfolding ins_rule text_rule variable_rule argument_rule join_rule embedded_rule empty_rule field_rule split_rule assign_rule export_rule sequence_rule subshell_rule not_rule if_rule nooutput_rule pipe_rule utility_rule for_rule while_rule exit_rule return_rule shift_rule

      pub sound_str : (s : Str) → Reached program (str s) → (flag : Bool) (h : Inherited) → Named inv h
          → Sound inv left IsString (eval_str limits program.functions (enter_with inv left) s flag h)
      sound_str (text at s) r flag h n = sound_stepped _ _ h r (sound_give _ (inv.text_is at s r))
      sound_str (variable at x) r flag h n = sound_stepped _ _ h r (sound_bind look-variables (λ vs w. sound_give _ (inv.variable_is x vs w)))
      sound_str (argument at k) r flag h n = sound_stepped _ _ h r (sound_bind look-arguments (λ later w. sound_give _ (inv.argument_is k _ later n w)))
      sound_str (embedded at i) r flag h n =
          sound_stepped _ _ h r (sound_bind (sound_hold at h n) (λ inner m. sound_bind look-context (λ before c. sound_bind look-output (λ stream o.
          sound_next (sound_change _ (known-output _ inv.no_bytes)) (sound_bind (sound_ins i (from_parent r first) inner m)
          (λ b _. sound_bind look-written (λ new w. sound_bind (sound_any _) (λ q _. sound_next (sound_change _ (known-context before c))
          (sound_next (sound_change _ (known-output stream o)) (sound_unless b _ tt (sound_made at _ q)))))))))))
      sound_str (join at s t) r flag h n =
          sound_stepped _ _ h r (sound_bind (sound_str s (from_parent r first) flag h n) (λ v w. sound_value v _ w tt
          (λ p _. sound_bind (sound_str t (from_parent r (later first)) p.1 h n) (λ v₁ w₁. sound_value v₁ _ w₁ tt (λ q _. sound_made at _ _)))))

      pub sound_lst : (l : Lst) → Reached program (lst l) → (so_far : List Bytes) → inv.Fields so_far → (h : Inherited) → Named inv h
          → Sound inv left IsFields (eval_lst limits program.functions (enter_with inv left) l so_far h)
      sound_lst (empty at) r so_far f h n = sound_stepped _ _ h r (sound_give _ f)
      sound_lst (field at s l) r so_far f h n =
          sound_stepped _ _ h r (sound_bind (sound_str s (from_parent r first) true h n) (λ v w. sound_value v _ w tt
          (λ p q. sound_bind (sound_add at so_far _ (inv.one_more so_far p.0 f q)) (λ fs fw. sound_lst l (from_parent r (later first)) fs fw h n))))
      sound_lst (split at s l) r so_far f h n =
          sound_stepped _ _ h r (sound_bind (sound_str s (from_parent r first) true h n) (λ v w. sound_value v _ w tt
          (λ p q. sound_bind (sound_add at so_far _ (inv.some_more so_far p.0 f q)) (λ fs fw. sound_lst l (from_parent r (later first)) fs fw h n))))

      pub sound_ins : (i : Ins) → Reached program (ins i) → (h : Inherited) → Named inv h
          → Sound inv left Anything (eval_ins limits program.functions (enter_with inv left) i h)
      sound_ins (assign at x s) r h n =
          sound_stepped _ _ h r (sound_bind (sound_str s (from_parent r first) true h n) (λ v w. sound_value v _ w tt
          (λ p q. sound_assigned x p.0 q (sound_finish h p.1))))
      sound_ins (export at x) r h n =
          sound_stepped _ _ h r (sound_bind look-variables (λ vs w. sound_next (sound_change _ (known-variables _ (inv.mark x vs w))) (sound_end true)))
      sound_ins (sequence at i j) r h n =
          sound_stepped _ _ h r (sound_bind (sound_ins i (from_parent r first) h n) (λ b _. sound_normal b (sound_ins j (from_parent r (later first)) h n)))
      sound_ins (subshell at i) r h n =
          sound_stepped _ _ h r (sound_bind (sound_hold at h n) (λ inner m. sound_bind look-context (λ before c.
          sound_bind (sound_ins i (from_parent r first) inner m)
          (λ b _. sound_bind (sound_any _) (λ q _. sound_next (sound_change _ (known-context before c)) (sound_finish_unless h b q))))))
      sound_ins (not at i) r h n =
          sound_stepped _ _ h r (sound_bind (sound_ins i (from_parent r first) _ n) (λ b _. sound_bind (sound_any _) (λ q _. sound_normal b (sound_end _))))
      sound_ins (if at i j k) r h n =
          sound_stepped _ _ h r (sound_bind (sound_ins i (from_parent r first) _ n) (λ b _. sound_bind (sound_any _)
          (λ q _. sound_normal b (sound_choose q (λ _. sound_ins j (from_parent r (later first)) h n) (sound_ins k (from_parent r (later (later first))) h n)))))
      sound_ins (nooutput at i) r h n =
          sound_stepped _ _ h r (sound_bind (sound_hold at h n) (λ inner m. sound_bind look-output (λ stream o.
          sound_next (sound_change _ (known-output dropped inv.no_bytes)) (sound_bind (sound_ins i (from_parent r first) inner m)
          (λ b _. sound_next (sound_change _ (known-output stream o)) (sound_give _ tt))))))
      sound_ins (pipe at i j) r h n =
          sound_stepped _ _ h r (sound_bind (sound_hold at h n) (λ inner m. sound_bind look-context (λ before c. sound_bind look-output (λ stream o.
          sound_next (sound_change _ (known-output _ inv.no_bytes)) (sound_bind (sound_ins i (from_parent r first) inner m)
          (λ b _. sound_bind look-written (λ piped w. sound_bind look-input (λ rest v.
          sound_next (sound_change _ (known-context before c)) (sound_next (sound_change _ (known-output stream o)) (sound_unless b _ tt
          (sound_next (sound_change _ (known-input piped w)) (sound_bind (sound_ins j (from_parent r (later first)) inner m)
          (λ d _. sound_bind (sound_any _) (λ q _. sound_next (sound_change _ (known-context before c))
          (sound_next (sound_change _ (known-input rest v)) (sound_finish_unless h d q))))))))))))))))
      sound_ins (utility at name l) r h n =
          sound_stepped _ _ h r (sound_bind (sound_lst l (from_parent r first) [] inv.no_fields h n) (λ v w. sound_value v _ w tt (λ fs _. sound_utility _ at fs h)))
      sound_ins (call at name l) r h n = sound_call inv at name l r left enters h (sound_lst l (from_parent r first) [] inv.no_fields h n)
      sound_ins (for at x l i) r h n =
          sound_stepped _ _ h r (sound_bind (sound_lst l (from_parent r first) [] inv.no_fields h n) (λ v w. sound_value v _ w tt
          (λ fs f. sound_bind (sound_hold at h n) (λ inner m. sound_each x (sound_ins i (from_parent r (later first)) inner m) true fs f))))
      sound_ins (while at i j) r h n = sound_stepped _ _ h r (sound_while (sound_ins i (from_parent r first) _ n) (sound_ins j (from_parent r (later first)) h n) true limits.loop)
      sound_ins (exit at c) r h n = sound_stepped _ _ h r (sound_bind (sound_any _) (λ q _. sound_next (sound_result _) (sound_give _ tt)))
      sound_ins (return at c) r h n = sound_stepped _ _ h r (sound_bind (sound_any _) (λ q _. sound_next (sound_result _) (sound_give _ tt)))
      sound_ins (shift at k) r h n =
          sound_stepped _ _ h r (sound_bind look-arguments (λ before w. sound_choose _
          (λ _. sound_next (sound_change _ (known-arguments _ (inv.fewer k before w))) (sound_finish h true))
          (sound_finish h false)))

  -- and so for every number of calls that may still be opened
  pub enters : (left : ℕ) → Enters inv left
  enters zero = enters_none inv
  enters (suc left) = enters_more inv left (sound_ins left (enters left))
