-- One induction over the rules, for two runs at once: of the same program from the same state. The limits that a run chooses may differ, and the
-- second run may be watched (specs/Watched.antt). A relation between runs that obeys `Laws` holds of the two. Runs.antt, Budget.antt, Raising.antt
-- and Losing.antt each take a relation and get their theorem.
-- Assumes nothing.
use mathlib.Core.Path.{◌≡◌, refl, subst, ◌∙◌}
use mathlib.Core.Bool.{Bool, true, false}
use mathlib.Core.List.{List, [], ◌∷◌}
use Prim.Native.Nat.{ℕ, zero, suc, ◌≤◌, ◌<◌}
use native.Mathlib.Omega.{arith}
use lib.Dec.{T}
use Rattle.rules.specs.declared.Behaviour.{Behaviour}
use Rattle.rules.specs.declared.Behaviour.TheVariants.{Normal, Return, Exit, Failure}
use Rattle.rules.specs.declared.Refusal.{Refusal}
use Rattle.rules.specs.Syntax.{Bytes, Slot, Function}
use Rattle.rules.specs.Syntax.{Str, text, variable, argument, embedded, join}
use Rattle.rules.specs.Syntax.{Lst, empty, field, split}
use Rattle.rules.specs.Syntax.{Ins, assign, export, sequence, subshell, not, if, nooutput, pipe, utility, call, for, while, exit, return, shift}
use Rattle.rules.specs.Trace.{end}
use Rattle.rules.specs.State.{Limits, with_limits, number, Stream, kept, dropped, State, Inherited, Evaluated, error, value}
use Rattle.rules.specs.State.{ended, Run, ◌>>=◌, ◌>>◌, give, refuse, look, change, choose, as_call, set_result}
use Rattle.rules.specs.Words.{Utility, True, False, Echo, Test, Cat, Env, Other, Callee, unknown, known, find}
use Rattle.rules.specs.Flow.{if_normal, unless_failure, unless_error, is_failure, returned}
use Rattle.rules.specs.Refusals.{begin, stepped, made_string, add_fields, write_to, write, hold}
use Rattle.rules.specs.Rules.{Enter, finish, finish_unless_failure, end_with, text_rule, variable_rule, argument_rule, join_rule, embedded_rule, empty_rule, field_rule, split_rule}
use Rattle.rules.specs.Rules.{assign_rule, export_rule, sequence_rule, subshell_rule, not_rule, if_rule, nooutput_rule, pipe_rule, run_utility, utility_rule}
use Rattle.rules.specs.Rules.{call_of, call_rule, full_stack_rule, enter_rule, for_each, for_rule, while_test, while_true, while_rule, exit_rule, return_rule, shift_rule}
use Rattle.rules.specs.Evaluation.{ins_rule, eval_ins, eval_str, eval_lst, enter_at}
use Rattle.rules.specs.Watched.{Watch, idle, is_error, seen, watched, watched_str, watched_lst, watched_ins, watched_enter}
use Rattle.rules.proofs.Outcomes.{after-end}
use Rattle.rules.proofs.Unwatched.{enters, ins as unwatched}

-- a relation between two runs, told which of their answers are bad: Failure, or an error
abbrev pub TwoRuns : Type 1
TwoRuns = (A : Type 0) → (bad : A → Bool) → Run A → Run A → Type 0

-- no answer is bad
abbrev pub never : {A : Type 0} → A → Bool
never a = false

-- from s it ends at once, in a bad answer: that is how Failure is handed on
pub record Spoilt {A : Type 0} (bad : A → Bool) (m : Run A) (s : State) : Type 0 where
  pub answer : A
  pub is_bad : T (bad answer)
  pub after : State
  pub ends : m s ≡ ended answer after end

-- a limit n of the first run and n' of the second, which may be larger if `More` allows it
pub record AtMost (More : Type 0) (n n' : ℕ) : Type 0 where
  pub most : n ≤ n'
  pub strictly : n < n' → More

pub as_many : (n : ℕ) → AtMost ⊥ n n
as_many n = record { most = omega arith; strictly = λ l. absurd (omega arith) }

-- and the two limits one round, or one call, further in
fewer : {More : Type 0} (n n' : ℕ) → AtMost More (suc n) (suc n') → AtMost More n n'
fewer n n' m = record { most = omega (arith, m.most); strictly = λ l. m.strictly (omega arith) }

pub record Laws (watch : Watch) (L L' : Limits) (More : Type 0) (rel : TwoRuns) : Type 1 where
  pub loops : AtMost More L.loop L'.loop
  pub gives : {A : Type 0} {bad : A → Bool} (a : A) → rel A bad (give a) (give a)
  -- with 6 a record's beginning alone refuses
  pub refuses : {A : Type 0} {bad : A → Bool} (why : Refusal) (place : ℕ) → 6 < number why → rel A bad (refuse why place) (refuse why place)
  pub looks : {A : Type 0} (f : State → A) → rel A never (look f) (look f)
  pub changes : (f : State → State) → ((s : State) → (f s).used ≡ s.used) → rel _ never (change f) (change f)
  pub begins : {A : Type 0} {bad : A → Bool} (at : ℕ) {m m' : Run A} → rel A bad m m'
      → rel A bad (◌>>◌ (begin L at) m) (λ s. seen watch bad at (◌>>◌ (begin L' at) m' s))
  pub calls : (f : ℕ) {m m' : Run Behaviour} → rel _ is_failure m m' → rel _ is_failure (as_call f m) (as_call f m')
  -- where a limit is used up, and the second run's is not
  pub gave_up : More → (m : Run Behaviour) → rel _ is_failure (give Failure) m
  pub bind : {A B : Type 0} {bad : A → Bool} {bad' : B → Bool} {m m' : Run A} {k k' : A → Run B}
      → rel A bad m m' → ((a : A) → rel B bad' (k a) (k' a)) → ((a : A) → T (bad a) → (s : State) → Spoilt bad' (k a) s)
      → rel B bad' (◌>>=◌ m k) (◌>>=◌ m' k')

-- WHAT HANDS A BAD ANSWER ON

module _ {B : Type 0} {bad : B → Bool} where
  gives_bad : (b : B) → T (bad b) → (s : State) → Spoilt bad (give b) s
  unfolding give
  gives_bad b h s = record { answer = b; is_bad = h; after = s; ends = refl }

  looks_first : {A : Type 0} (f : State → A) (k : A → Run B) (s : State) → Spoilt bad (k (f s)) s → Spoilt bad (◌>>=◌ (look f) k) s
  unfolding ◌>>=◌ look
  looks_first f k s p = record { answer = p.answer; is_bad = p.is_bad; after = p.after; ends = after-end (k (f s) s) ∙ p.ends }

  changes-first : (f : State → State) (k : Run B) (s : State) → Spoilt bad k (f s) → Spoilt bad (◌>>◌ (change f) k) s
  unfolding ◌>>=◌ ◌>>◌ change
  changes-first f k s p = record { answer = p.answer; is_bad = p.is_bad; after = p.after; ends = after-end (k (f s)) ∙ p.ends }

module _ (functions : List Function) (watch : Watch) (L : Limits) (loop stack budget : ℕ) (More : Type 0) (rel : TwoRuns)
    (laws : Laws watch L (with_limits L loop stack budget) More rel) where
  abbrev L' : Limits
  L' = with_limits L loop stack budget

  -- THE PIECES

  then : {A B : Type 0} {bad : B → Bool} {m m' : Run A} {k k' : A → Run B}
      → rel A never m m' → ((a : A) → rel B bad (k a) (k' a)) → rel B bad (◌>>=◌ m k) (◌>>=◌ m' k')
  then hm hk = laws.bind hm hk (λ a t s. absurd t)

  next : {A B : Type 0} {bad : B → Bool} {m m' : Run A} {k k' : Run B} → rel A never m m' → rel B bad k k' → rel B bad (◌>>◌ m k) (◌>>◌ m' k')
  unfolding ◌>>◌
  next hm hk = then hm (λ a. hk)

  -- a change that leaves the steps used as they are
  sets : (f : State → State) → ((s : State) → (f s).used ≡ s.used) → {B : Type 0} {bad : B → Bool} {k k' : Run B} → rel B bad k k'
      → rel B bad (◌>>◌ (change f) k) (◌>>◌ (change f) k')
  sets f e hk = next (laws.changes f e) hk

  choice : {A : Type 0} {bad : A → Bool} (b : Bool) {m m' k k' : Run A} → rel A bad m m' → rel A bad k k' → rel A bad (choose b m k) (choose b m' k')
  unfolding choose
  choice true hm hk = hm
  choice false hm hk = hk

  finishes : (h : Inherited) (r : Bool) → rel _ is_failure (finish h r) (finish h r)
  unfolding finish
  finishes h r = sets _ (λ s. refl) (laws.gives _)

  ends : (flag : Bool) → rel _ is_failure (end_with flag) (end_with flag)
  unfolding end_with
  ends flag = sets _ (λ s. refl) (laws.gives _)

  -- HOW A RULE GOES ON FROM A BEHAVIOUR: alike, and from Failure to a bad answer

  record Onward {B : Type 0} (bad : B → Bool) (k k' : Behaviour → Run B) : Type 0 where
    alike : (b : Behaviour) → rel B bad (k b) (k' b)
    hands_on : (s : State) → Spoilt bad (k Failure) s

  behaves : {B : Type 0} {bad : B → Bool} {m m' : Run Behaviour} {k k' : Behaviour → Run B}
      → rel _ is_failure m m' → Onward bad k k' → rel B bad (◌>>=◌ m k) (◌>>=◌ m' k')
  behaves {B} {bad} {m} {m'} {k} {k'} hm o = laws.bind hm o.alike handed
    where
      handed : (b : Behaviour) → T (is_failure b) → (s : State) → Spoilt bad (k b) s
      handed Normal h s = absurd h
      handed Return h s = absurd h
      handed Exit h s = absurd h
      handed Failure h s = o.hands_on s

  then_look : {A B : Type 0} {bad : B → Bool} (f : State → A) {k k' : A → Behaviour → Run B} → ((a : A) → Onward bad (k a) (k' a))
      → Onward bad (λ b. ◌>>=◌ (look f) (λ a. k a b)) (λ b. ◌>>=◌ (look f) (λ a. k' a b))
  then_look f h = record { alike = λ b. then (laws.looks f) (λ a. (h a).alike b); hands_on = λ s. looks_first f _ s ((h (f s)).hands_on s) }

  then_set : {B : Type 0} {bad : B → Bool} (f : State → State) → ((s : State) → (f s).used ≡ s.used) → {k k' : Behaviour → Run B} → Onward bad k k'
      → Onward bad (λ b. ◌>>◌ (change f) (k b)) (λ b. ◌>>◌ (change f) (k' b))
  then_set f e o = record { alike = λ b. sets f e (o.alike b); hands_on = λ s. changes-first f _ s (o.hands_on (f s)) }

  if_normal_lem : {m m' : Run Behaviour} → rel _ is_failure m m' → Onward is_failure (λ b. if_normal b m) (λ b. if_normal b m')
  unfolding if_normal
  if_normal_lem {m} {m'} h = record { alike = go; hands_on = gives_bad Failure tt }
    where
      go : (b : Behaviour) → rel _ is_failure (if_normal b m) (if_normal b m')
      go Normal = h
      go Return = laws.gives _
      go Exit = laws.gives _
      go Failure = laws.gives _

  unless-failure : {A : Type 0} {bad : A → Bool} (a : A) → T (bad a) → {m m' : Run A} → rel A bad m m'
      → Onward bad (λ b. unless_failure b a m) (λ b. unless_failure b a m')
  unfolding unless_failure
  unless-failure {A} {bad} a t {m} {m'} h = record { alike = go; hands_on = gives_bad a t }
    where
      go : (b : Behaviour) → rel A bad (unless_failure b a m) (unless_failure b a m')
      go Normal = h
      go Return = h
      go Exit = h
      go Failure = laws.gives _

  finishes_unless : (h : Inherited) (r : Bool) → Onward is_failure (λ b. finish_unless_failure h b r) (λ b. finish_unless_failure h b r)
  unfolding finish_unless_failure
  finishes_unless h r = record { alike = go; hands_on = λ s. changes-first (set_result r) (give Failure) s (gives_bad Failure tt _) }
    where
      go : (b : Behaviour) → rel _ is_failure (finish_unless_failure h b r) (finish_unless_failure h b r)
      go Normal = finishes h r
      go Return = finishes h r
      go Exit = finishes h r
      go Failure = sets _ (λ s. refl) (laws.gives _)

  -- the behaviour itself, or what a call makes of it
  hands_over : (f : Behaviour → Behaviour) → T (is_failure (f Failure)) → Onward is_failure (λ b. give (f b)) (λ b. give (f b))
  hands_over f t = record { alike = λ b. laws.gives (f b); hands_on = gives_bad (f Failure) t }

  -- and from a value, or from an error to a bad answer
  unless-error : {A B : Type 0} {bad : B → Bool} {m m' : Run (Evaluated A)} (b : B) → T (bad b) → {k k' : A → Run B}
      → rel _ is_error m m' → ((a : A) → rel B bad (k a) (k' a))
      → rel B bad (◌>>=◌ m (λ v. unless_error v b k)) (◌>>=◌ m' (λ v. unless_error v b k'))
  unfolding unless_error
  unless-error {A} {B} {bad} b t {k} {k'} hm hk = laws.bind hm alike handed
    where
      alike : (v : Evaluated A) → rel B bad (unless_error v b k) (unless_error v b k')
      alike error = laws.gives _
      alike (value a) = hk a

      handed : (v : Evaluated A) → T (is_error v) → (s : State) → Spoilt bad (unless_error v b k) s
      handed error h s = gives_bad b t s
      handed (value a) h s = absurd h

  -- REFUSALS AND UTILITIES

  holds : (at : ℕ) (h : Inherited) → rel _ never (hold L at h) (hold L' at h)
  unfolding hold
  holds at h = choice _ (laws.gives _) (laws.refuses _ _ (omega arith))

  makes : (at : ℕ) (s : Bytes) (flag : Bool) → rel _ is_error (made_string L at s flag) (made_string L' at s flag)
  unfolding made_string
  makes at s flag = choice _ (laws.gives _) (laws.refuses _ _ (omega arith))

  adds : (at : ℕ) (so_far new : List Bytes) → rel _ never (add_fields L at so_far new) (add_fields L' at so_far new)
  unfolding add_fields
  adds at so_far new = choice _ (laws.gives _) (laws.refuses _ _ (omega arith))

  writes_to : (o : Stream) (at : ℕ) (new : Bytes) → rel _ never (write_to L at o new) (write_to L' at o new)
  unfolding write_to
  writes_to dropped at new = laws.gives _
  writes_to (kept s) at new = choice _ (laws.changes _ (λ s. refl)) (laws.refuses _ _ (omega arith))

  writes : (at : ℕ) (new : Bytes) → rel _ never (write L at new) (write L' at new)
  unfolding write
  writes at new = then (laws.looks _) (λ o. writes_to o at new)

  utilities : (u : Utility) (at : ℕ) (h : Inherited) (fs : List Bytes) → rel _ is_failure (run_utility L at u fs h) (run_utility L' at u fs h)
  unfolding run_utility
  utilities True at h fs = finishes _ _
  utilities False at h fs = finishes _ _
  utilities Echo at h fs = next (writes _ _) (finishes _ _)
  utilities Test at h fs = finishes _ _
  utilities Cat at h [] = then (laws.looks _) (λ s. sets _ (λ s. refl) (next (writes _ _) (finishes _ _)))
  utilities Cat at h (f ∷ fs) = finishes _ _
  utilities Env at h [] = then (laws.looks _) (λ vs. next (writes _ _) (finishes _ _))
  utilities Env at h (f ∷ fs) = finishes _ _
  utilities Other at h fs = finishes _ _

  -- LOOPS

  for_each_lem : (x : Slot) {body body' : Run Behaviour} → rel _ is_failure body body' → (flag : Bool) (fs : List Bytes)
      → rel _ is_failure (for_each x body flag fs) (for_each x body' flag fs)
  unfolding for_each
  for_each_lem x hb flag [] = ends flag
  for_each_lem x hb flag (f ∷ fs) =
      then (laws.looks _) (λ vs. sets _ (λ s. refl) (behaves hb (then_look _ (λ r. if_normal_lem (for_each_lem x hb r fs)))))

  while_test_lem : {test test' : Run Behaviour} → rel _ is_failure test test' → (flag : Bool) {m m' : Run Behaviour} → rel _ is_failure m m'
      → rel _ is_failure (while_test test flag m) (while_test test' flag m')
  unfolding while_test
  while_test_lem ht flag hm = behaves ht (then_look _ (λ r. if_normal_lem (choice r hm (ends flag))))

  while_true_lem : {test test' body body' : Run Behaviour} → rel _ is_failure test test' → rel _ is_failure body body'
      → (flag : Bool) (left left' : ℕ) → AtMost More left left'
      → rel _ is_failure (while_true test body flag left) (while_true test' body' flag left')
  unfolding while_true
  while_true_lem ht hb flag zero zero m = while_test_lem ht flag (laws.gives _)
  while_true_lem ht hb flag zero (suc left') m = while_test_lem ht flag (laws.gave_up (m.strictly (omega arith)) _)
  while_true_lem ht hb flag (suc left) zero m = absurd (omega (arith, m.most))
  while_true_lem ht hb flag (suc left) (suc left') m =
      while_test_lem ht flag (behaves hb (then_look _ (λ r. if_normal_lem (while_true_lem ht hb r left left' (fewer left left' m)))))

  -- EVALUATION

  module _ (enter enter' : Enter)
      (enters : (at : ℕ) (h : Inherited) (f : ℕ) (g : Function) (fs : List Bytes) → rel _ is_failure (enter at f g fs h) (enter' at f g fs h)) where
    call_of_lem : (at : ℕ) (h : Inherited) (c : Callee) (fs : List Bytes) → rel _ is_failure (call_of enter at c fs h) (call_of enter' at c fs h)
    unfolding call_of
    call_of_lem at h unknown fs = finishes h false
    call_of_lem at h (known f g) fs = enters at h f g fs

    mutual
      unfolding ins_rule stepped text_rule variable_rule argument_rule join_rule embedded_rule empty_rule field_rule split_rule assign_rule export_rule sequence_rule subshell_rule not_rule if_rule nooutput_rule pipe_rule utility_rule call_rule for_rule while_rule exit_rule return_rule shift_rule watched watched_str watched_lst watched_ins

      str : (h : Inherited) (flag : Bool) (s : Str) → rel _ is_error (eval_str L functions enter s flag h) (watched_str watch L' functions enter' s flag h)
      str h flag (text at s) = laws.begins at (laws.gives _)
      str h flag (variable at x) = laws.begins at (then (laws.looks _) (λ vs. laws.gives _))
      str h flag (argument at n) = laws.begins at (then (laws.looks _) (λ later. laws.gives _))
      str h flag (embedded at body) =
          laws.begins at (then (holds at h) (λ inner. then (laws.looks _) (λ before. then (laws.looks _) (λ stream.
          sets _ (λ s. refl) (behaves (ins inner body) (then_look _ (λ new. then_look _ (λ r.
          then_set _ (λ s. refl) (then_set _ (λ s. refl) (unless-failure error tt (makes at _ r)))))))))))
      str h flag (join at left right) =
          laws.begins at (unless-error error tt (str h flag left) (λ p.
          unless-error error tt (str h p.1 right) (λ q. makes at _ _)))

      lst : (h : Inherited) (so_far : List Bytes) (l : Lst) → rel _ is_error (eval_lst L functions enter l so_far h) (watched_lst watch L' functions enter' l so_far h)
      lst h so_far (empty at) = laws.begins at (laws.gives _)
      lst h so_far (field at s rest) =
          laws.begins at (unless-error error tt (str h true s) (λ p. then (adds at so_far _) (λ fs. lst h fs rest)))
      lst h so_far (split at s rest) =
          laws.begins at (unless-error error tt (str h true s) (λ p. then (adds at so_far _) (λ fs. lst h fs rest)))

      ins : (h : Inherited) (i : Ins) → rel _ is_failure (eval_ins L functions enter i h) (watched_ins watch L' functions enter' i h)
      ins h (assign at x s) =
          laws.begins at (unless-error Failure tt (str h true s) (λ p. then (laws.looks _) (λ vs. sets _ (λ s. refl) (finishes h _))))
      ins h (export at x) = laws.begins at (then (laws.looks _) (λ vs. sets _ (λ s. refl) (ends true)))
      ins h (sequence at first second) = laws.begins at (behaves (ins h first) (if_normal_lem (ins h second)))
      ins h (subshell at body) =
          laws.begins at (then (holds at h) (λ inner. then (laws.looks _) (λ before. behaves (ins inner body)
          (then_look _ (λ r. then_set _ (λ s. refl) (finishes_unless h r))))))
      ins h (not at body) = laws.begins at (behaves (ins _ body) (then_look _ (λ r. if_normal_lem (ends _))))
      ins h (if at test first second) =
          laws.begins at (behaves (ins _ test) (then_look _ (λ r. if_normal_lem (choice r (ins h first) (ins h second)))))
      ins h (nooutput at body) =
          laws.begins at (then (holds at h) (λ inner. then (laws.looks _) (λ stream.
          sets _ (λ s. refl) (behaves (ins inner body) (then_set _ (λ s. refl) (hands_over (λ b. b) tt))))))
      ins h (pipe at first second) =
          laws.begins at (then (holds at h) (λ inner. then (laws.looks _) (λ before. then (laws.looks _) (λ stream.
          sets _ (λ s. refl) (behaves (ins inner first) (then_look _ (λ piped. then_look _ (λ rest.
          then_set _ (λ s. refl) (then_set _ (λ s. refl) (unless-failure Failure tt (sets _ (λ s. refl) (behaves (ins inner second)
          (then_look _ (λ r. then_set _ (λ s. refl) (then_set _ (λ s. refl) (finishes_unless h r))))))))))))))))
      ins h (utility at name list) = laws.begins at (unless-error Failure tt (lst h [] list) (λ fs. utilities _ at h fs))
      ins h (call at name list) = laws.begins at (unless-error Failure tt (lst h [] list) (λ fs. call_of_lem at h (find name 1 functions) fs))
      ins h (for at x list body) =
          laws.begins at (unless-error Failure tt (lst h [] list) (λ fs. then (holds at h) (λ inner. for_each_lem x (ins inner body) true fs)))
      ins h (while at test body) = laws.begins at (while_true_lem (ins _ test) (ins h body) true L.loop loop laws.loops)
      ins h (exit at code) = laws.begins at (then (laws.looks _) (λ r. sets _ (λ s. refl) (laws.gives _)))
      ins h (return at code) = laws.begins at (then (laws.looks _) (λ r. sets _ (λ s. refl) (laws.gives _)))
      ins h (shift at n) =
          laws.begins at (then (laws.looks _) (λ before. choice _ (sets _ (λ s. refl) (finishes h true)) (finishes h false)))

  entering : (left left' : ℕ) → AtMost More left left' → (at : ℕ) (h : Inherited) (f : ℕ) (g : Function) (fs : List Bytes)
      → rel _ is_failure (enter_at L functions left at f g fs h) (watched_enter watch L' functions left' at f g fs h)
  unfolding enter_at full_stack_rule enter_rule watched_enter
  entering zero zero m at h f g fs = laws.gives _
  entering zero (suc left') m at h f g fs = laws.gave_up (m.strictly (omega arith)) _
  entering (suc left) zero m at h f g fs = absurd (omega (arith, m.most))
  entering (suc left) (suc left') m at h f g fs =
      then (holds at h) (λ inner. then (laws.looks _) (λ before. sets _ (λ s. refl)
      (behaves (laws.calls f (ins (enter_at L functions left) (watched_enter watch L' functions left') (entering left left' (fewer left left' m)) _ g.body))
      (then_set _ (λ s. refl) (hands_over returned tt)))))

  -- the relation holds of the two runs of any instruction, however many calls are left
  pub holds_of : (left left' : ℕ) → AtMost More left left' → (h : Inherited) (i : Ins)
      → rel _ is_failure (eval_ins L functions (enter_at L functions left) i h) (watched_ins watch L' functions (watched_enter watch L' functions left') i h)
  holds_of left left' m h i = ins _ _ (entering left left' m) h i

-- and, the second being unwatched, of the rules' own two runs
module _ (functions : List Function) (L : Limits) (loop stack budget : ℕ) (More : Type 0) (rel : TwoRuns)
    (laws : Laws idle L (with_limits L loop stack budget) More rel) where
  pub holds_of_both : (left left' : ℕ) → AtMost More left left' → (h : Inherited) (i : Ins)
      → rel _ is_failure (eval_ins L functions (enter_at L functions left) i h)
      (eval_ins (with_limits L loop stack budget) functions (enter_at (with_limits L loop stack budget) functions left') i h)
  holds_of_both left left' m h i =
      let L' = with_limits L loop stack budget in
      subst (λ meaning. rel _ is_failure (eval_ins L functions (enter_at L functions left) i h) (meaning h))
      (unwatched L' functions (enters L' functions left') i)
      (holds_of functions idle L loop stack budget More rel laws left left' m h i)
