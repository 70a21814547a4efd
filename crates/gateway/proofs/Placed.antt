-- The rules refuse only at a record of the program: one induction over the rules.
-- Assumes nothing.
use mathlib.Core.Path.{◌≡◌, refl}
use mathlib.Core.Bool.{Bool, true, false, cond}
use mathlib.Core.List.{List, [], ◌∷◌}
use Prim.Native.Nat.{ℕ, zero, suc}
use lib.Dec.{ltb}
use Rattle.rules.specs.declared.Behaviour.{Behaviour}
use Rattle.rules.specs.declared.Behaviour.TheVariants.{Normal, Return, Exit, Failure}
use Rattle.rules.specs.declared.Refusal.{Refusal}
use Rattle.rules.specs.declared.Refusal.TheVariants.{BudgetUsedUp}
use Rattle.rules.specs.Lists.{Among, first, later}
use Rattle.rules.specs.Syntax.{Bytes, Slot, Function, Program}
use Rattle.rules.specs.Syntax.{Str, text, variable, argument, embedded, join}
use Rattle.rules.specs.Syntax.{Lst, empty, field, split}
use Rattle.rules.specs.Syntax.{Ins, assign, export, sequence, subshell, not, if, nooutput, pipe, utility, call, for, while, exit, return, shift}
use Rattle.rules.specs.Trace.{Trace, step, end}
use Rattle.rules.specs.State.{Limits, Stream, kept, dropped, State, Inherited, Evaluated, error, value, Outcome, refused, ended, set_used}
use Rattle.rules.specs.State.{Run, after, and_then, inside, ◌>>=◌, ◌>>◌, give, refuse, look, change, choose, as_call}
use Rattle.rules.specs.Words.{Utility, True, False, Echo, Test, Cat, Env, Other, Callee, unknown, known, find}
use Rattle.rules.specs.Flow.{if_normal, unless_failure, unless_error}
use Rattle.rules.specs.Refusals.{Means, at_top, begin, stepped, made_string, add_fields, write_to, write, hold}
use Rattle.rules.specs.Rules.{Enter, finish, finish_unless_failure, end_with, text_rule, variable_rule, argument_rule, join_rule, embedded_rule, empty_rule, field_rule, split_rule}
use Rattle.rules.specs.Rules.{assign_rule, export_rule, sequence_rule, subshell_rule, not_rule, if_rule, nooutput_rule, pipe_rule, run_utility, utility_rule}
use Rattle.rules.specs.Rules.{call_of, call_rule, full_stack_rule, enter_rule, for_each, for_rule, while_test, while_true, while_rule, exit_rule, return_rule, shift_rule}
use Rattle.rules.specs.Evaluation.{ins_rule, eval_ins, eval_str, eval_lst, enter_at, start, run}
use Rattle.rules.specs.Genuine.{Node, str, lst, ins, record_of, Reached, from_main, from_body, from_parent}
use Rattle.rules.proofs.Calls.{find_among}

-- the number of a record of the program
pub data Placed (program : Program) : ℕ → Type 0 where
  placed : (x : Node) → Reached program x → Placed program (record_of x)

-- if an outcome is a refusal, then at such a record
abbrev pub RefusedAt : {A : Type 0} → Program → Outcome A → Type 0
RefusedAt program (refused why place t) = Placed program place
RefusedAt program (ended a s t) = Unit {0}

record Refuses {A : Type 0} (program : Program) (m : Run A) : Type 0 where
  from : (s : State) → RefusedAt program (m s)

module _ (program : Program) where
  -- THE PIECES

  gives : {A : Type 0} (a : A) → Refuses program (give a)
  unfolding give
  gives a = record { from = λ s. tt }

  refuses : {A : Type 0} (why : Refusal) (place : ℕ) → Placed program place → Refuses {A = A} program (refuse why place)
  unfolding refuse
  refuses why place p = record { from = λ s. p }

  looks : {A : Type 0} (f : State → A) → Refuses program (look f)
  unfolding look
  looks f = record { from = λ s. tt }

  changes : (f : State → State) → Refuses program (change f)
  unfolding change
  changes f = record { from = λ s. tt }

  bind : {A B : Type 0} {m : Run A} {k : A → Run B} → Refuses program m → ((a : A) → Refuses program (k a)) → Refuses program (◌>>=◌ m k)
  unfolding ◌>>=◌
  bind {A} {B} {m} {k} hm hk = record { from = λ s. one (m s) (hm.from s) }
    where
      two : (t : Trace) (o : Outcome B) → RefusedAt program o → RefusedAt program (after t o)
      two t (refused why place u) p = p
      two t (ended b s u) p = tt

      one : (o : Outcome A) → RefusedAt program o → RefusedAt program (and_then o k)
      one (refused why place t) p = p
      one (ended a s t) p = two t (k a s) ((hk a).from s)

  next : {A B : Type 0} {m : Run A} {k : Run B} → Refuses program m → Refuses program k → Refuses program (◌>>◌ m k)
  unfolding ◌>>◌
  next hm hk = bind hm (λ a. hk)

  sets : (f : State → State) {B : Type 0} {k : Run B} → Refuses program k → Refuses program (◌>>◌ (change f) k)
  sets f hk = next (changes f) hk

  choice : {A : Type 0} (b : Bool) {m k : Run A} → Refuses program m → Refuses program k → Refuses program (choose b m k)
  unfolding choose
  choice true hm hk = hm
  choice false hm hk = hk

  calls : (f : ℕ) {m : Run Behaviour} → Refuses program m → Refuses program (as_call f m)
  unfolding as_call
  calls f {m} h = record { from = λ s. go (m s) (h.from s) }
    where
      go : (o : Outcome Behaviour) → RefusedAt program o → RefusedAt program (inside f o)
      go (refused why place t) p = p
      go (ended b s t) p = tt

  finishes : (h : Inherited) (r : Bool) → Refuses program (finish h r)
  unfolding finish
  finishes h r = sets _ (gives _)

  ends : (r : Bool) → Refuses program (end_with r)
  unfolding end_with
  ends r = sets _ (gives _)

  finishes_unless : (h : Inherited) (b : Behaviour) (r : Bool) → Refuses program (finish_unless_failure h b r)
  unfolding finish_unless_failure
  finishes_unless h Normal r = finishes h r
  finishes_unless h Return r = finishes h r
  finishes_unless h Exit r = finishes h r
  finishes_unless h Failure r = sets _ (gives _)

  if_normal_lem : (b : Behaviour) {m : Run Behaviour} → Refuses program m → Refuses program (if_normal b m)
  unfolding if_normal
  if_normal_lem Normal h = h
  if_normal_lem Return h = gives _
  if_normal_lem Exit h = gives _
  if_normal_lem Failure h = gives _

  unless-failure : {A : Type 0} (b : Behaviour) (a : A) {m : Run A} → Refuses program m → Refuses program (unless_failure b a m)
  unfolding unless_failure
  unless-failure Normal a h = h
  unless-failure Return a h = h
  unless-failure Exit a h = h
  unless-failure Failure a h = gives _

  unless-error : {A B : Type 0} (v : Evaluated A) (b : B) {k : A → Run B} → ((a : A) → Refuses program (k a)) → Refuses program (unless_error v b k)
  unfolding unless_error
  unless-error error b h = gives _
  unless-error (value a) b h = h a

  module _ (L : Limits) where
    -- WHERE IT CAN BE REFUSED, at a record of the program

    module _ (at : ℕ) (p : Placed program at) where
      begins : Refuses program (begin L at)
      unfolding begin
      begins = record { from = λ s. go s (ltb s.used L.budget) }
        where
          go : (s : State) (b : Bool)
              → RefusedAt {A = Unit {0}} program (cond b (ended tt (set_used (suc s.used) s) (step at end)) (refused BudgetUsedUp at end))
          go s true = tt
          go s false = p

      steps : {A : Type 0} (m : Means A) (h : Inherited) → Refuses program (m h) → Refuses program (stepped L at m h)
      unfolding stepped
      steps m h r = next begins r

      makes : (s : Bytes) (flag : Bool) → Refuses program (made_string L at s flag)
      unfolding made_string
      makes s flag = choice _ (gives _) (refuses _ _ p)

      adds : (so_far new : List Bytes) → Refuses program (add_fields L at so_far new)
      unfolding add_fields
      adds so_far new = choice _ (gives _) (refuses _ _ p)

      writes_to : (o : Stream) (new : Bytes) → Refuses program (write_to L at o new)
      unfolding write_to
      writes_to dropped new = gives _
      writes_to (kept s) new = choice _ (changes _) (refuses _ _ p)

      writes : (new : Bytes) → Refuses program (write L at new)
      unfolding write
      writes new = bind (looks _) (λ o. writes_to o new)

      holds : (h : Inherited) → Refuses program (hold L at h)
      unfolding hold
      holds h = choice _ (gives _) (refuses _ _ p)

      utilities : (u : Utility) (fs : List Bytes) (h : Inherited) → Refuses program (run_utility L at u fs h)
      unfolding run_utility
      utilities True fs h = finishes h _
      utilities False fs h = finishes h _
      utilities Echo fs h = next (writes _) (finishes h _)
      utilities Test fs h = finishes h _
      utilities Cat [] h = bind (looks _) (λ s. sets _ (next (writes _) (finishes h _)))
      utilities Cat (f ∷ fs) h = finishes h _
      utilities Env [] h = bind (looks _) (λ vs. next (writes _) (finishes h _))
      utilities Env (f ∷ fs) h = finishes h _
      utilities Other fs h = finishes h _

    -- LOOPS

    for_each_lem : (x : Slot) {body : Run Behaviour} → Refuses program body → (flag : Bool) (fs : List Bytes) → Refuses program (for_each x body flag fs)
    unfolding for_each
    for_each_lem x hb flag [] = ends flag
    for_each_lem x hb flag (f ∷ fs) =
        bind (looks _) (λ vs. sets _ (bind hb (λ b. bind (looks _) (λ r. if_normal_lem b (for_each_lem x hb r fs)))))

    while_test_lem : {test : Run Behaviour} → Refuses program test → (flag : Bool) {m : Run Behaviour} → Refuses program m
        → Refuses program (while_test test flag m)
    unfolding while_test
    while_test_lem ht flag hm = bind ht (λ b. bind (looks _) (λ r. if_normal_lem b (choice r hm (ends flag))))

    while_true_lem : {test body : Run Behaviour} → Refuses program test → Refuses program body → (flag : Bool) (left : ℕ)
        → Refuses program (while_true test body flag left)
    unfolding while_true
    while_true_lem ht hb flag zero = while_test_lem ht flag (gives _)
    while_true_lem ht hb flag (suc left) = while_test_lem ht flag (bind hb (λ b. bind (looks _) (λ r. if_normal_lem b (while_true_lem ht hb r left))))

    -- EVALUATION

    module _ (enter : Enter)
        (enters : (at : ℕ) → Placed program at → (f : ℕ) (g : Function) → Among g program.functions → (fs : List Bytes) (h : Inherited)
        → Refuses program (enter at f g fs h)) where
      call_of_lem : (at : ℕ) → Placed program at → (c : Callee) → ((f : ℕ) (g : Function) → c ≡ known f g → Among g program.functions)
          → (fs : List Bytes) (h : Inherited) → Refuses program (call_of enter at c fs h)
      unfolding call_of
      call_of_lem at p unknown a fs h = finishes h false
      call_of_lem at p (known f g) a fs h = enters at p f g (a f g refl) fs h

      mutual
        unfolding ins_rule text_rule variable_rule argument_rule join_rule embedded_rule empty_rule field_rule split_rule assign_rule export_rule sequence_rule subshell_rule not_rule if_rule nooutput_rule pipe_rule utility_rule call_rule for_rule while_rule exit_rule return_rule shift_rule

        of_str : (s : Str) → Reached program (str s) → (flag : Bool) (h : Inherited) → Refuses program (eval_str L program.functions enter s flag h)
        of_str (text at s) r flag h = steps at (placed _ r) _ h (gives _)
        of_str (variable at x) r flag h = steps at (placed _ r) _ h (bind (looks _) (λ vs. gives _))
        of_str (argument at n) r flag h = steps at (placed _ r) _ h (bind (looks _) (λ later. gives _))
        of_str (embedded at i) r flag h =
            steps at (placed _ r) _ h (bind (holds at (placed _ r) h) (λ inner. bind (looks _) (λ before. bind (looks _) (λ stream.
            sets _ (bind (of_ins i (from_parent r first) inner) (λ b. bind (looks _) (λ new. bind (looks _) (λ q.
            sets _ (sets _ (unless-failure b _ (makes at (placed _ r) _ q)))))))))))
        of_str (join at s t) r flag h =
            steps at (placed _ r) _ h (bind (of_str s (from_parent r first) flag h) (λ v. unless-error v _ (λ p.
            bind (of_str t (from_parent r (later first)) p.1 h) (λ w. unless-error w _ (λ q. makes at (placed _ r) _ _)))))

        of_lst : (l : Lst) → Reached program (lst l) → (so_far : List Bytes) (h : Inherited) → Refuses program (eval_lst L program.functions enter l so_far h)
        of_lst (empty at) r so_far h = steps at (placed _ r) _ h (gives _)
        of_lst (field at s l) r so_far h =
            steps at (placed _ r) _ h (bind (of_str s (from_parent r first) true h) (λ v. unless-error v _ (λ p.
            bind (adds at (placed _ r) so_far _) (λ fs. of_lst l (from_parent r (later first)) fs h))))
        of_lst (split at s l) r so_far h =
            steps at (placed _ r) _ h (bind (of_str s (from_parent r first) true h) (λ v. unless-error v _ (λ p.
            bind (adds at (placed _ r) so_far _) (λ fs. of_lst l (from_parent r (later first)) fs h))))

        of_ins : (i : Ins) → Reached program (ins i) → (h : Inherited) → Refuses program (eval_ins L program.functions enter i h)
        of_ins (assign at x s) r h =
            steps at (placed _ r) _ h (bind (of_str s (from_parent r first) true h) (λ v. unless-error v _ (λ p.
            bind (looks _) (λ vs. sets _ (finishes h _)))))
        of_ins (export at x) r h = steps at (placed _ r) _ h (bind (looks _) (λ vs. sets _ (ends true)))
        of_ins (sequence at i j) r h =
            steps at (placed _ r) _ h (bind (of_ins i (from_parent r first) h) (λ b. if_normal_lem b (of_ins j (from_parent r (later first)) h)))
        of_ins (subshell at i) r h =
            steps at (placed _ r) _ h (bind (holds at (placed _ r) h) (λ inner. bind (looks _) (λ before. bind (of_ins i (from_parent r first) inner)
            (λ b. bind (looks _) (λ q. sets _ (finishes_unless h b q))))))
        of_ins (not at i) r h =
            steps at (placed _ r) _ h (bind (of_ins i (from_parent r first) _) (λ b. bind (looks _) (λ q. if_normal_lem b (ends _))))
        of_ins (if at i j k) r h =
            steps at (placed _ r) _ h (bind (of_ins i (from_parent r first) _) (λ b. bind (looks _) (λ q. if_normal_lem b (choice q
            (of_ins j (from_parent r (later first)) h) (of_ins k (from_parent r (later (later first))) h)))))
        of_ins (nooutput at i) r h =
            steps at (placed _ r) _ h (bind (holds at (placed _ r) h) (λ inner. bind (looks _) (λ stream.
            sets _ (bind (of_ins i (from_parent r first) inner) (λ b. sets _ (gives b))))))
        of_ins (pipe at i j) r h =
            steps at (placed _ r) _ h (bind (holds at (placed _ r) h) (λ inner. bind (looks _) (λ before. bind (looks _) (λ stream.
            sets _ (bind (of_ins i (from_parent r first) inner) (λ b. bind (looks _) (λ piped. bind (looks _) (λ rest.
            sets _ (sets _ (unless-failure b _ (sets _ (bind (of_ins j (from_parent r (later first)) inner)
            (λ c. bind (looks _) (λ q. sets _ (sets _ (finishes_unless h c q))))))))))))))))
        of_ins (utility at name l) r h =
            steps at (placed _ r) _ h (bind (of_lst l (from_parent r first) [] h) (λ v. unless-error v _ (λ fs. utilities at (placed _ r) _ fs h)))
        of_ins (call at name l) r h =
            steps at (placed _ r) _ h (bind (of_lst l (from_parent r first) [] h) (λ v. unless-error v _ (λ fs.
            call_of_lem at (placed _ r) (find name 1 program.functions) (find_among name 1 program.functions) fs h)))
        of_ins (for at x l i) r h =
            steps at (placed _ r) _ h (bind (of_lst l (from_parent r first) [] h) (λ v. unless-error v _ (λ fs.
            bind (holds at (placed _ r) h) (λ inner. for_each_lem x (of_ins i (from_parent r (later first)) inner) true fs))))
        of_ins (while at i j) r h =
            steps at (placed _ r) _ h (while_true_lem (of_ins i (from_parent r first) _) (of_ins j (from_parent r (later first)) h) true L.loop)
        of_ins (exit at c) r h = steps at (placed _ r) _ h (bind (looks _) (λ q. sets _ (gives _)))
        of_ins (return at c) r h = steps at (placed _ r) _ h (bind (looks _) (λ q. sets _ (gives _)))
        of_ins (shift at n) r h =
            steps at (placed _ r) _ h (bind (looks _) (λ before. choice _ (sets _ (finishes h true)) (finishes h false)))

    entering : (left : ℕ) (at : ℕ) → Placed program at → (f : ℕ) (g : Function) → Among g program.functions → (fs : List Bytes) (h : Inherited)
        → Refuses program (enter_at L program.functions left at f g fs h)
    unfolding enter_at full_stack_rule enter_rule
    entering zero at p f g a fs h = gives _
    entering (suc left) at p f g a fs h =
        bind (holds at p h) (λ inner. bind (looks _) (λ before. sets _
        (bind (calls f (of_ins (enter_at L program.functions left) (entering left) g.body (from_body g a) _)) (λ b. sets _ (gives _)))))

    -- a refused run names a record of its program
    pub run-refused : (argument0 : Bytes) (arguments : List Bytes) (stdin : Bytes) → RefusedAt program (run L program argument0 arguments stdin)
    unfolding run
    run-refused argument0 arguments stdin =
        (calls 0 (of_ins (enter_at L program.functions L.stack) (entering L.stack) program.main from_main (at_top argument0))
        ).from (start program arguments stdin)
