-- What the rules read of variables and arguments, as bytes of work memory; and the variables that a run starts with.
use Prim.Native.Nat.{ℕ, ◌≤◌, ◌<◌, ◌+◌, ◌*◌}
use native.Mathlib.Omega.{arith}
use mathlib.Core.Path.{◌≡◌, sym, ◌∙◌}
use mathlib.Core.List.{List, [], map}
use lib.ListN.{get_or}
use Rattle.rules.specs.State.{variables, arguments}
use Rattle.rules.specs.Words.{read_variable, unset_variable}
use Rattle.memory.specs.declared.Given.{Given}
use Rattle.memory.specs.Scope.{Scope}
use Rattle.memory.specs.declared.Course.{Course}
use Rattle.memory.specs.Layout.{Same, text_at, field_at, fields_at, value_at, value_if, mark_at, variable_in, variables_at, variables_place}
use Rattle.memory.specs.Posts.{looked}
use Rattle.memory.specs.declared.Source.TheVariants.{Variable}
use Rattle.memory.specs.Abstract.{state_of}
use Rattle.memory.proofs.Rows.{row_at, row_beyond, row_same, row-map}
use Rattle.memory.proofs.Texts.{step}

module _ (i w : List ℕ) (g : Given) (e : Scope) (c : Course) where
  -- variable x, as `lookup` finds it
  pub variable-read : (sheet : List ℕ) (x : ℕ) → x < g.slots
      → read_variable x (variables (state_of i w g e c)) ≡ looked g.unit sheet w (Variable (variables_place g.unit e.level + (g.unit + 2) * x))
  unfolding state_of variable_in looked
  variable-read sheet x h = rw (row_at g.slots (variable_in g.unit w (variables_place g.unit e.level)) x (unset_variable []) h)

  -- the argument k places behind argument 1
  pub argument-read : (k : ℕ) → k < c.count → get_or (arguments (state_of i w g e c)) k [] ≡ text_at g.unit w (c.arguments + g.unit * k)
  unfolding state_of
  argument-read k h = row_at c.count (field_at g.unit w c.arguments) k [] h

  pub argument-none : (k : ℕ) → c.count ≤ k → get_or (arguments (state_of i w g e c)) k [] ≡ []
  unfolding state_of
  argument-none k h = row_beyond c.count (field_at g.unit w c.arguments) k [] h

blank : (u : ℕ) (w : List ℕ) (a k : ℕ) → get_or w (a + (u + 2) * k) 0 ≡ 0 → get_or w (a + (u + 2) * k + 1) 0 ≡ 0 → variable_in u w a k ≡ unset_variable (field_at 64 w 0 k)
unfolding variable_in value_at value_if mark_at
blank u w a k x y = rw (x, y)

-- where a level is all 0, its variables are those that the rules start with
pub start-variables : (u a n : ℕ) (w : List ℕ) → Same a (a + (u + 2) * n) [] w → variables_at u w a n ≡ map unset_variable (fields_at 64 w 0 n)
start-variables u a n w z = row_same n _ _ one ∙ sym (row-map n unset_variable (field_at 64 w 0))
  where
    one : (k : ℕ) → k < n → variable_in u w a k ≡ unset_variable (field_at 64 w 0 k)
    one k h =
        blank u w a k (z.same (a + (u + 2) * k) (omega arith) (omega (arith, step (u + 2) k n h)))
        (z.same (a + (u + 2) * k + 1) (omega arith) (omega (arith, step (u + 2) k n h)))
