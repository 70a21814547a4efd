-- An instruction record: the budget, the step, then the rule of its kind.
-- Assumes nothing.
use Prim.Native.Nat.{ℕ, ◌≤◌, ◌<◌, ◌+◌, ◌*◌, ◌-◌}
use native.Mathlib.Omega.{arith}
use mathlib.Core.Path.{◌≡◌, sym, ap, ◌∙◌}
use Rattle.rules.specs.declared.Refusal.TheVariants.{BudgetUsedUp}
use Rattle.rules.specs.Syntax.{Bytes}
use Rattle.sheet.specs.Filled.{in_record}
use Rattle.memory.specs.Layout.{own_place}
use Rattle.memory.specs.Profile.{Counted}
use Rattle.memory.specs.declared.Given.{Given}
use Rattle.memory.specs.Scope.{Scope}
use Rattle.memory.specs.declared.Course.{Course}
use Rattle.words.specs.Words.{budget_of}
use Rattle.words.specs.declared.LimitsNumber.{LimitsNumber}
use Rattle.words.proofs.Reached.{budget-small}
use Rattle.engine.specs.Values.{RunEnd}
use Rattle.engine.specs.Moves.{stepped}
use Rattle.engine.specs.Post.{Ready, Instruction, OfKind, InsDone, InsRuled}
use Rattle.engine.proofs.Begins.{used_up, ins-begun, ins-begins}

-- the step made
pub step-used : (c : Course) {d : Course} → d ≡ stepped c → d.used ≡ c.used + 1
step-used c h = ap (λ (x : Course). x.used) h

-- a step is left, and there is room for it in the number
pub step_room : (limits : LimitsNumber) {p : ℕ} → p < budget_of limits → p + 1 < 1048576
step_room limits left = omega (arith, left, budget-small limits)

-- the measure falls when the step is made
pub fewer : (b p q t : ℕ) → 3 * (b - p) ≡ t → q ≡ p + 1 → p < b → 3 * (b - q) + 2 < t
fewer b p q t h k l = omega (arith, h, k, l)

-- WHICH KIND

pub this_kind : {s v : Bytes} {r k : ℕ} (n : ℕ) → Instruction s r → k ≡ in_record s v r 2 → k ≡ n → OfKind s v r n
this_kind n h read is = record { known = h.0; kind = sym read ∙ is }

-- WHAT IT COMES TO

module _ {s i w : Bytes} {g : Given} {e : Scope} {c : Course} {r : ℕ} (ready : Ready s i w g e c) (h : Instruction s r) where
  pub instr_used_up : g.budget ≤ c.used → InsDone s i w g e c r w (RunEnd.Refused BudgetUsedUp r)
  instr_used_up l = record { by = used_up ready r _ _ (ins-begins ready.loaded r g e.calls h) h.0 l }

  pub instr_done : {v x : Bytes} {d : Course} (a : RunEnd) → Counted (own_place e.function) 1 w v → c.used < g.budget → d ≡ stepped c → InsRuled s i v g e d r x a → InsDone s i w g e c r x a
  instr_done a counted left made ran = ins-begun ready r counted left _ _ a (ins-begins ready.loaded r g e.calls h) (rw made at ran)
