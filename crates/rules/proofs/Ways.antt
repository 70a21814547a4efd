-- Each rule, read as a function of the outcomes of its parts: how it goes on from the first of them, in the terms of Outcomes.antt. The
-- rules are in the order of specs/Rules.antt. `h` is what is handed down and `s` the state before.
-- Assumes nothing.
use mathlib.Core.Path.{◌≡◌, refl, ◌∙◌, ap, fun_ext}
use mathlib.Core.Bool.{Bool, true, false, cond}
use mathlib.Core.Bool.{not as negation}
use mathlib.Core.List.{List, [], ◌∷◌, ◌++◌}
use Prim.Native.Nat.{ℕ, zero, suc}
use lib.Dec.{leb}
use lib.ListN.{length, get_or, drop}
use Rattle.rules.specs.declared.Behaviour.{Behaviour}
use Rattle.rules.specs.declared.Behaviour.TheVariants.{Normal, Return, Exit, Failure}
use Rattle.rules.specs.Syntax.{Bytes, Slot, Code}
use Rattle.rules.specs.Trace.{end}
use Rattle.rules.specs.State.{Limits, kept, dropped, State, Inherited, error, value}
use Rattle.rules.specs.State.{ended, Run, and_then, inside, ◌>>=◌, ◌>>◌, give, look, change, choose, as_call}
use Rattle.rules.specs.State.{set_context, set_input, set_output, written, variables, set_variables, arguments, set_arguments, result, set_result}
use Rattle.rules.specs.Words.{embedded_value, stretches, read_variable, assigned, marked, Utility, Callee}
use Rattle.rules.specs.Flow.{unless_failure, returned}
use Rattle.rules.specs.Refusals.{Meaning, StrMeaning, LstMeaning, under_condition, one_more_hold, named, made_string, add_fields}
use Rattle.rules.specs.Rules.{Enter, settle, finish, finish_unless_failure, end_with, code_result}
use Rattle.rules.specs.Rules.{text_rule, variable_rule, argument_rule, join_rule, embedded_rule, empty_rule, field_rule, split_rule}
use Rattle.rules.specs.Rules.{assign_rule, export_rule, sequence_rule, subshell_rule, not_rule, if_rule, nooutput_rule, pipe_rule, run_utility, utility_rule}
use Rattle.rules.specs.Rules.{call_of, call_rule, full_stack_rule, enter_rule, for_each, for_rule, while_test, while_true, while_rule, exit_rule, return_rule, shift_rule}
use Rattle.rules.proofs.Outcomes.{bind_on, look_at, look_on, change-at, change_on, on_normal, on_value, on_hold, if_normal_lem, if_normal_look, unless-error, held}

-- SETTLE

-- Failure stays, else Settle
abbrev pub settle_unless_failure : Inherited → Behaviour → (result : Bool) → Behaviour
settle_unless_failure h Normal r = settle h r
settle_unless_failure h Return r = settle h r
settle_unless_failure h Exit r = settle h r
settle_unless_failure h Failure r = Failure

pub finish_on : (h : Inherited) (r : Bool) (s : State) → finish h r s ≡ ended (settle h r) (set_result r s) end
unfolding finish ◌>>◌ ◌>>=◌ change give
finish_on h r s = refl

pub finish_unless_on : (h : Inherited) (b : Behaviour) (r : Bool) (s : State)
    → finish_unless_failure h b r s ≡ ended (settle_unless_failure h b r) (set_result r s) end
unfolding finish_unless_failure finish ◌>>◌ ◌>>=◌ change give
finish_unless_on h Normal r s = refl
finish_unless_on h Return r s = refl
finish_unless_on h Exit r s = refl
finish_unless_on h Failure r s = refl

pub end_with_on : (r : Bool) (s : State) → end_with r s ≡ ended Normal (set_result r s) end
unfolding end_with ◌>>◌ ◌>>=◌ change give
end_with_on r s = refl

module _ (h : Inherited) (s : State) where
  -- STRINGS

  pub text_on : (w : Bytes) (flag : Bool) → text_rule w flag h s ≡ ended (value (w, flag)) s end
  unfolding text_rule give
  text_on w flag = refl

  pub variable_on : (x : Slot) (flag : Bool) → variable_rule x flag h s ≡ ended (value (read_variable x (variables s), flag)) s end
  unfolding variable_rule ◌>>=◌ look give
  variable_on x flag = refl

  pub argument_on : (n : ℕ) (flag : Bool) → argument_rule n flag h s ≡ ended (value (get_or (h.argument0 ∷ arguments s) n [], flag)) s end
  unfolding argument_rule ◌>>=◌ look give
  argument_on n flag = refl

  pub join_on : (L : Limits) (at : ℕ) (left right : StrMeaning) (flag : Bool)
      → join_rule L at left right flag h s
      ≡ on_value (left flag h s) error (λ p s₁. on_value (right p.1 h s₁) error (λ q. made_string L at (p.0 ++ q.0) q.1))
  unfolding join_rule
  join_on L at left right flag =
      unless-error _ _ _ s ∙ ap (on_value (left flag h s) error) (fun_ext (λ p. fun_ext (λ s₁. unless-error _ _ _ s₁)))

  pub embedded_on : (L : Limits) (at : ℕ) (body : Meaning) (flag : Bool)
      → embedded_rule L at body flag h s
      ≡ on_hold L at h (and_then (body (one_more_hold h) (set_output (kept []) s))
      (λ b s₁. unless_failure b error (made_string L at (embedded_value (written s₁)) (result s₁)) (set_output s.output (set_context s.context s₁))))
  unfolding embedded_rule
  embedded_on L at body flag = held L at h _ s ∙ simp (look_on, change_on, bind_on, look_at)

  -- LISTS

  pub empty_on : (so_far : List Bytes) → empty_rule so_far h s ≡ ended (value so_far) s end
  unfolding empty_rule give
  empty_on so_far = refl

  pub field_on : (L : Limits) (at : ℕ) (string : StrMeaning) (rest : LstMeaning) (so_far : List Bytes)
      → field_rule L at string rest so_far h s
      ≡ on_value (string true h s) error (λ p. ◌>>=◌ (add_fields L at so_far (p.0 ∷ [])) (λ fs. rest fs h))
  unfolding field_rule
  field_on L at string rest so_far = unless-error _ _ _ s

  pub split_on : (L : Limits) (at : ℕ) (string : StrMeaning) (rest : LstMeaning) (so_far : List Bytes)
      → split_rule L at string rest so_far h s
      ≡ on_value (string true h s) error (λ p. ◌>>=◌ (add_fields L at so_far (stretches p.0)) (λ fs. rest fs h))
  unfolding split_rule
  split_on L at string rest so_far = unless-error _ _ _ s

  -- INSTRUCTIONS

  pub assign_on : (x : Slot) (string : StrMeaning)
      → assign_rule x string h s
      ≡ on_value (string true h s) Failure (λ p s₁. ended (settle h p.1) (set_result p.1 (set_variables (assigned x p.0 (variables s₁)) s₁)) end)
  unfolding assign_rule finish ◌>>=◌ ◌>>◌ look change give
  assign_on x string = unless-error (string true h) _ _ s

  pub export_on : (x : Slot) → export_rule x h s ≡ ended Normal (set_result true (set_variables (marked x (variables s)) s)) end
  unfolding export_rule end_with ◌>>=◌ ◌>>◌ look change give
  export_on x = refl

  pub sequence_on : (first second : Meaning) → sequence_rule first second h s ≡ on_normal (first h s) (second h)
  unfolding sequence_rule
  sequence_on first second = if_normal_lem _ _ s

  pub subshell_on : (L : Limits) (at : ℕ) (body : Meaning)
      → subshell_rule L at body h s
      ≡ on_hold L at h (and_then (body (one_more_hold h) s) (λ b s₁. finish_unless_failure h b (result s₁) (set_context s.context s₁)))
  unfolding subshell_rule
  subshell_on L at body = held L at h _ s ∙ simp (look_on, change_on, bind_on, look_at)

  pub not_on : (body : Meaning) → not_rule body h s ≡ on_normal (body (under_condition h) s) (λ s₁. end_with (negation (result s₁)) s₁)
  unfolding not_rule
  not_on body = if_normal_look _ _ s

  pub if_on : (test first second : Meaning)
      → if_rule test first second h s ≡ on_normal (test (under_condition h) s) (λ s₁. choose (result s₁) (first h) (second h) s₁)
  unfolding if_rule
  if_on test first second = if_normal_look _ _ s

  pub nooutput_on : (L : Limits) (at : ℕ) (body : Meaning)
      → nooutput_rule L at body h s
      ≡ on_hold L at h (and_then (body (one_more_hold h) (set_output dropped s)) (λ b s₁. give b (set_output s.output s₁)))
  unfolding nooutput_rule
  nooutput_on L at body = held L at h _ s ∙ simp (change_on, bind_on, look_at)

  pub pipe_on : (L : Limits) (at : ℕ) (first second : Meaning)
      → pipe_rule L at first second h s
      ≡ on_hold L at h (and_then (first (one_more_hold h) (set_output (kept []) s))
      (λ b s₁. unless_failure b Failure
      (λ s₂. and_then (second (one_more_hold h) (set_input (written s₁) s₂))
      (λ c s₃. finish_unless_failure h c (result s₃) (set_input s₁.input (set_context s.context s₃))))
      (set_output s.output (set_context s.context s₁))))
  unfolding pipe_rule
  pipe_on L at first second = held L at h _ s ∙ simp (look_on, change_on, bind_on, look_at)

  pub utility_on : (L : Limits) (at : ℕ) (u : Utility) (list : LstMeaning)
      → utility_rule L at u list h s ≡ on_value (list [] h s) Failure (λ fs. run_utility L at u fs h)
  unfolding utility_rule
  utility_on L at u list = unless-error _ _ _ s

  pub call_on : (enter : Enter) (at : ℕ) (c : Callee) (list : LstMeaning)
      → call_rule enter at c list h s ≡ on_value (list [] h s) Failure (λ fs. call_of enter at c fs h)
  unfolding call_rule
  call_on enter at c list = unless-error _ _ _ s

  pub full_stack_on : full_stack_rule h s ≡ ended Failure s end
  unfolding full_stack_rule give
  full_stack_on = refl

  pub enter_on : (L : Limits) (at f : ℕ) (name : Bytes) (body : Meaning) (new : List Bytes)
      → enter_rule L at f name body new h s
      ≡ on_hold L at h (and_then (inside f (body (named name (one_more_hold h)) (set_arguments new s)))
      (λ b s₁. give (returned b) (set_arguments (arguments s) s₁)))
  unfolding enter_rule as_call
  enter_on L at f name body new = held L at h _ s ∙ simp (change_on, bind_on, look_at)

  pub for_on : (L : Limits) (at : ℕ) (x : Slot) (list : LstMeaning) (body : Meaning)
      → for_rule L at x list body h s ≡ on_value (list [] h s) Failure (λ fs s₁. on_hold L at h (for_each x (body (one_more_hold h)) true fs s₁))
  unfolding for_rule
  for_on L at x list body =
      unless-error _ _ _ s ∙ ap (on_value (list [] h s) Failure) (fun_ext (λ fs. fun_ext (λ s₁. held L at h _ s₁)))

  pub while_on : (L : Limits) (test body : Meaning) → while_rule L test body h s ≡ while_true (test (under_condition h)) (body h) true L.loop s
  unfolding while_rule
  while_on L test body = refl

  pub exit_on : (c : Code) → exit_rule c h s ≡ ended Exit (set_result (code_result c (result s)) s) end
  unfolding exit_rule ◌>>=◌ ◌>>◌ look change give
  exit_on c = refl

  pub return_on : (c : Code) → return_rule c h s ≡ ended Return (set_result (code_result c (result s)) s) end
  unfolding return_rule ◌>>=◌ ◌>>◌ look change give
  return_on c = refl

  pub shift_on : (n : ℕ)
      → shift_rule n h s ≡ cond (leb n (length (arguments s))) (finish h true (set_arguments (drop n (arguments s)) s)) (finish h false s)
  unfolding shift_rule choose
  shift_on n = look_at _ _ s ∙ go (leb n (length (arguments s)))
    where
      go : (b : Bool)
          → choose b (◌>>◌ (change (set_arguments (drop n (arguments s)))) (finish h true)) (finish h false) s
          ≡ cond b (finish h true (set_arguments (drop n (arguments s)) s)) (finish h false s)
      go true = change-at _ _ s
      go false = refl

-- THE LOOPS, round by round

module _ (s : State) where
  pub for-none : (x : Slot) (body : Run Behaviour) (flag : Bool) → for_each x body flag [] s ≡ end_with flag s
  unfolding for_each
  for-none x body flag = refl

  pub for-more : (x : Slot) (body : Run Behaviour) (flag : Bool) (f : Bytes) (fs : List Bytes)
      → for_each x body flag (f ∷ fs) s ≡ on_normal (body (set_variables (assigned x f (variables s)) s)) (λ s₁. for_each x body (result s₁) fs s₁)
  unfolding for_each
  for-more x body flag f fs = look_at _ _ s ∙ change-at _ _ s ∙ if_normal_look _ _ _

  pub while-none : (test body : Run Behaviour) (flag : Bool)
      → while_true test body flag zero s ≡ on_normal (test s) (λ s₁. choose (result s₁) (give Failure) (end_with flag) s₁)
  unfolding while_true while_test
  while-none test body flag = if_normal_look _ _ s

  pub while-more : (test body : Run Behaviour) (flag : Bool) (left : ℕ)
      → while_true test body flag (suc left) s
      ≡ on_normal (test s) (λ s₁. choose (result s₁) (λ s₂. on_normal (body s₂) (λ s₃. while_true test body (result s₃) left s₃)) (end_with flag) s₁)
  unfolding while_true while_test
  while-more test body flag left =
      if_normal_look _ _ s
      ∙ ap (λ (k : Run Behaviour). on_normal (test s) (λ s₁. choose (result s₁) k (end_with flag) s₁)) (fun_ext (λ s₂. if_normal_look _ _ s₂))
