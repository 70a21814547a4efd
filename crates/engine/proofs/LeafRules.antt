-- Export, exit, return, shift: the rules that evaluate nothing further.
-- Assumes nothing.
use Prim.Native.Nat.{ℕ, ◌≤◌, ◌<◌, ◌+◌, ◌*◌, ◌-◌}
use native.Mathlib.Nat.{le_refl, mul-add, mul-le-mul_left}
use native.Mathlib.Omega.{arith}
use mathlib.Core.Path.{◌≡◌, refl, sym, ap, ◌∙◌}
use mathlib.Core.Bool.{true, false, cond}
use mathlib.Core.Logic.{⊎_elim}
use lib.ListN.{length, drop}
use lib.Dec.{leb}
use borrow.Author.Tests.{le-leb, lt-leb}
use Rattle.rules.specs.declared.Behaviour.TheVariants.{Normal, Return, Exit}
use Rattle.rules.specs.declared.Behaviour.{Behaviour}
use Rattle.rules.specs.Syntax.{Bytes}
use Rattle.rules.specs.Trace.{end}
use Rattle.rules.specs.State.{State, ended, result, set_result, arguments, set_arguments, variables, set_variables}
use Rattle.rules.specs.Words.{marked}
use Rattle.rules.specs.Rules.{finish, code_result}
use Rattle.rules.proofs.Ways.{export_on, exit_on, return_on, shift_on}
use Rattle.sheet.specs.Nodes.{code_of}
use Rattle.sheet.specs.Filled.{in_record, mark_in, start_of}
use Rattle.sheet.proofs.Reading.{export_law, exit_law, return_law, shift_law}
use Rattle.memory.specs.Layout.{field_at, variables_place}
use Rattle.memory.specs.Posts.{Marked}
use Rattle.memory.specs.Abstract.{state_of}
use Rattle.memory.proofs.Parts.{under}
use Rattle.memory.proofs.Rows.{row-length}
use Rattle.memory.proofs.Texts.{step}
use Rattle.memory.proofs.Keeping.{kept-level, level-end, low-lists}
use Rattle.memory.proofs.Levels.{fields-dropped}
use Rattle.memory.proofs.States.{state_marked}
use Rattle.memory.specs.declared.Given.{Given}
use Rattle.memory.specs.Scope.{Scope}
use Rattle.memory.specs.declared.Course.{Course}
use Rattle.engine.specs.Values.{RunEnd}
use Rattle.engine.specs.Ends.{finished, coded}
use Rattle.engine.specs.Moves.{with_result, with_arguments}
use Rattle.engine.specs.Meaning.{ins_rule, ins_rule_at, handed}
use Rattle.engine.specs.Post.{Ready, OfKind, Leaves, Onward, InsRuled, does}
use Rattle.engine.proofs.Going.{still, quiet, onward_trans}
use Rattle.engine.proofs.Follows.{can_read}
use Rattle.engine.proofs.Settles.{handed-condition, state_result, onward-result, finish-settled}

-- WHAT THE STATE BECOMES

module _ (i w : Bytes) (g : Given) (e : Scope) (c : Course) where
  state_coded : (code : ℕ) → set_result (code_result (code_of code) (result (state_of i w g e c))) (state_of i w g e c) ≡ state_of i w g e (coded c code)
  unfolding state_of
  state_coded code = refl

  abbrev shifted : ℕ → Course
  shifted n = with_arguments (c.arguments + g.unit * n) (c.count - n) c

  state_shifted : (n : ℕ) → n ≤ c.count → set_arguments (drop n (arguments (state_of i w g e c))) (state_of i w g e c) ≡ state_of i w g e (shifted n)
  unfolding state_of
  state_shifted n h = rw (fields-dropped g.unit w c.arguments n c.count h) refl

  how_many : length (arguments (state_of i w g e c)) ≡ c.count
  unfolding state_of
  how_many = row-length c.count (field_at g.unit w c.arguments)

  onward_shifted : (n : ℕ) → n ≤ c.count → Onward g c (shifted n)
  onward_shifted n h =
      let all : n + (c.count - n) ≡ c.count = omega arith in
      record {
        used = le_refl _;
        longer = le_refl _;
        short = λ k. k;
        low = omega arith;
        high = omega (arith, mul-add g.unit n (c.count - n), ap (λ (m : ℕ). g.unit * m) all);
        count = omega arith;
        from = refl;
        rest = le_refl _;
      }

-- where the arguments would begin is a small number
pub shift-room : {s i w : Bytes} {g : Given} {e : Scope} {c : Course} → Ready s i w g e c → (n : ℕ) → n ≤ c.count → c.arguments + g.unit * n ≤ 200000
shift-room {g = g} ready n h = omega (arith, mul-le-mul_left g.unit h, low-lists g.unit ready.placed, ready.fits.high, ready.roomy.small)

module _ {s i w : Bytes} {g : Given} {e : Scope} {c : Course} (ready : Ready s i w g e c) {r : ℕ} where
  -- EXIT, RETURN

  exit-starts : OfKind s w r 28 → does s i w g e c (ins_rule_at s g e.calls r) ≡ ended Exit (state_of i w g e (coded c (in_record s w r 4))) end
  unfolding does ins_rule_at ins_rule
  exit-starts kind = rw (exit_law ready.loaded r kind.known kind.kind).0 (exit_on _ _ _ ∙ ap (λ (t : State). ended Exit t end) (state_coded i w g e c (in_record s w r 4)))

  return-starts : OfKind s w r 29 → does s i w g e c (ins_rule_at s g e.calls r) ≡ ended Return (state_of i w g e (coded c (in_record s w r 4))) end
  unfolding does ins_rule_at ins_rule
  return-starts kind = rw (return_law ready.loaded r kind.known kind.kind).0 (return_on _ _ _ ∙ ap (λ (t : State). ended Return t end) (state_coded i w g e c (in_record s w r 4)))

  module _ {code : ℕ} {d : Course} (read : code ≡ in_record s w r 4) (set : d ≡ coded c code) where
    pub leave_done : {b : Behaviour} → Leaves s w r b → InsRuled s i w g e c r w (RunEnd.Ended b d)
    leave_done leaves =
        rw (set, read)
        (⊎_elim
        (λ l. rw l.1 (record { by = still (exit-starts l.0) (onward-result g c _) }))
        (λ l. rw l.1 (record { by = still (return-starts l.0) (onward-result g c _) }))
        leaves)

  -- its code can be read
  pub leave_reads : {b : Behaviour} → Leaves s w r b → ((r < 512) × (4096 ≤ length w)) × ((4 < 65536) × (start_of w r + 4 + 2 ≤ length s))
  leave_reads leaves =
      ⊎_elim
      (λ l. can_read r 4 ready l.0.known (omega arith) (omega (arith, (exit_law ready.loaded r l.0.known l.0.kind).2)))
      (λ l. can_read r 4 ready l.0.known (omega arith) (omega (arith, (return_law ready.loaded r l.0.known l.0.kind).2)))
      leaves

  -- EXPORT

  export-starts : {x : ℕ} → OfKind s w r 17 → x ≡ mark_in w r
      → does s i w g e c (ins_rule_at s g e.calls r) ≡ ended Normal (set_result true (set_variables (marked x (variables (state_of i w g e c))) (state_of i w g e c))) end
  unfolding does ins_rule_at ins_rule
  export-starts kind read = rw ((export_law ready.loaded r kind.known kind.kind).0, read) (export_on _ _ _)

  pub export_done : {v : Bytes} {x a : ℕ} {d : Course} → OfKind s w r 17 → x ≡ mark_in w r → a ≡ variables_place g.unit e.level → Marked g.unit a x w v → d ≡ with_result true c
      → InsRuled s i w g e c r v (RunEnd.Ended Normal d)
  export_done {v} {x} kind read place made set =
      let new = rw place at made in
      let slot : x < g.slots = omega (arith, read, ready.slots, (export_law ready.loaded r kind.known kind.kind).1) in
      let last = level-end g.unit ready.placed in
      let within = step (g.unit + 2) x 16 (omega (arith, ready.roomy.slots, slot)) in
      rw set (record {
        by = quiet
            (export-starts kind read ∙ ap (λ (t : State). ended Normal (set_result true t) end) (sym (state_marked ready.roomy ready.placed ready.fits x new slot)) ∙ ap (λ (t : State). ended Normal t end) (sym (state_result i v g e c true)))
            (under _ _ (omega arith) new.only)
            (kept-level ready.placed new.only (omega arith) (omega (arith, last, within)))
            (onward-result g c true);
      })

  -- SHIFT

  shift-starts : OfKind s w r 30 → {n : ℕ} → n ≡ in_record s w r 4
      → does s i w g e c (ins_rule_at s g e.calls r)
      ≡ cond (leb n c.count) (finish (handed s w g e) true (set_arguments (drop n (arguments (state_of i w g e c))) (state_of i w g e c))) (finish (handed s w g e) false (state_of i w g e c))
  unfolding does ins_rule_at ins_rule
  shift-starts kind {n} read =
      rw ((shift_law ready.loaded r kind.known kind.kind).0, sym read)
      (
      shift_on _ _ n
      ∙ ap
      (λ (m : ℕ). cond (leb n m) (finish (handed s w g e) true (set_arguments (drop n (arguments (state_of i w g e c))) (state_of i w g e c))) (finish (handed s w g e) false (state_of i w g e c)))
      (how_many i w g e c)
      )

  module _ (kind : OfKind s w r 30) {n : ℕ} (read : n ≡ in_record s w r 4) where
    pub shift_none : c.count < n → {a : RunEnd} → a ≡ finished e c false → InsRuled s i w g e c r w a
    shift_none h end_is = rw end_is (record {
      by = still (shift-starts kind read ∙ rw (lt-leb _ _ h) (finish-settled i w g e c _ false (handed-condition s w g e))) (onward-result g c false);
    })

    pub shift-some : n ≤ c.count → {d : Course} → d ≡ shifted i w g e c n → {a : RunEnd} → a ≡ finished e d true → InsRuled s i w g e c r w a
    shift-some h set end_is = rw (end_is, set) (record {
      by = still (shift-starts kind read ∙ rw (le-leb _ _ h, state_shifted i w g e c n h) (finish-settled i w g e (shifted i w g e c n) _ true (handed-condition s w g e))) (onward_trans (onward_shifted i w g e c n h) (onward-result g (shifted i w g e c n) true));
    })
