-- What a record of a sheet means where it is evaluated: the rules' meaning of the node that it stands for.
use Rattle.std.specs.Prelude.{List, ℕ, zero, suc, ◌-◌}
use Rattle.rules.specs.Syntax.{Bytes, Function}
use Rattle.rules.specs.State.{Limits, Inherited}
use Rattle.rules.specs.Refusals.{Meaning, StrMeaning, LstMeaning}
use Rattle.rules.specs.Rules.{Enter}
use Rattle.rules.specs.Evaluation.{eval_str, eval_lst, eval_ins, enter_at}
unfoldable pub use Rattle.rules.specs.Evaluation.{str_rule, lst_rule, ins_rule}
-- what an accepted sheet holds
pub use Rattle.sheet.specs.Check.{known_in}
unfoldable pub use Rattle.sheet.specs.Check.{known_of}
use Rattle.sheet.specs.Decode.{program}
use Rattle.sheet.specs.Filled.{str_of, lst_of, ins_of, text_in, named_in}
use Rattle.memory.specs.Layout.{text_at, argument_zero_place}
use Rattle.memory.specs.declared.Given.{Given}
use Rattle.memory.specs.Scope.{Scope}

-- THE RECORDS OF A SHEET ------------------------------------------------------------------------------------------------

-- the rules' limits of a run
abbrev pub limits_given : Given → Limits
limits_given g = record {
  loop = g.loops;
  stack = g.stack;
  budget = g.budget;
  string = g.unit - 1;
  list = 16;
  stream = 1024;
  holds = 10;
}

module _ (s : Bytes) (g : Given) where
  abbrev pub functions_of : List Function
  functions_of = (program (known_of s)).functions

  -- what a call does with so many calls open
  unfoldable pub enter_with : (calls : ℕ) → Enter
  enter_with calls = enter_at (limits_given g) functions_of (g.stack - calls)

  -- the meaning of record r with so many calls open
  unfoldable pub ins_at : (calls r : ℕ) → Meaning
  ins_at calls r = eval_ins (limits_given g) functions_of (enter_with calls) (ins_of (known_of s) r)

  unfoldable pub str_at : (calls r : ℕ) → StrMeaning
  str_at calls r = eval_str (limits_given g) functions_of (enter_with calls) (str_of (known_of s) r)

  unfoldable pub lst_at : (calls r : ℕ) → LstMeaning
  lst_at calls r = eval_lst (limits_given g) functions_of (enter_with calls) (lst_of (known_of s) r)

  -- the same without its step
  unfoldable pub ins_rule_at : (calls r : ℕ) → Meaning
  ins_rule_at calls r = ins_rule (limits_given g) functions_of (enter_with calls) (ins_of (known_of s) r)

  unfoldable pub str_rule_at : (calls r : ℕ) → StrMeaning
  str_rule_at calls r = str_rule (limits_given g) functions_of (enter_with calls) (str_of (known_of s) r)

  unfoldable pub lst_rule_at : (calls r : ℕ) → LstMeaning
  lst_rule_at calls r = lst_rule (limits_given g) functions_of (enter_with calls) (lst_of (known_of s) r)

-- WHAT IS HANDED DOWN -----------------------------------------------------------------------------------------------------

-- argument 0: main's stands in work memory, a function's is its name
abbrev pub argument_zero : (s w : Bytes) → (unit function : ℕ) → Bytes
argument_zero s w unit zero = text_at unit w argument_zero_place
argument_zero s w unit (suc f) = text_in s w (named_in w (suc f))

unfoldable pub handed : (s w : Bytes) → Given → Scope → Inherited
handed s w g e = record { condition = e.condition; argument0 = argument_zero s w g.unit e.function; holds = e.holds }
