-- What a meaning is; and where the rules can refuse: a function for each of the numbers 6 to 10 (docs/FORMATS.md has the table of all
-- refusals), in their order. `at` is the record that the refusal names.
use Rattle.std.specs.Prelude.{Bool, true, false, cond, List, ◌++◌, ℕ, suc, ltb, leb, length}
use Rattle.rules.specs.declared.Behaviour.{Behaviour}
use Rattle.rules.specs.declared.Refusal.TheVariants.{BudgetUsedUp, LongString, LongList, LongStream, ManyHolds}
use Rattle.rules.specs.Syntax.{Bytes}
use Rattle.rules.specs.Trace.{Trace, step}
use Rattle.rules.specs.State.{Limits, Stream, kept, dropped, Inherited}
use Rattle.rules.specs.State.{Evaluated, value, refused, ended, Run, ◌>>=◌, ◌>>◌, give, refuse, look, change, choose}
use Rattle.rules.specs.State.{output, set_output, set_used}

-- MEANINGS ----------------------------------------------------------------------------------------------------------

-- what is done, given what is handed down
abbrev pub Means : Type 0 → Type 0
Means A = Inherited → Run A

-- an instruction comes to a behaviour
abbrev pub Meaning : Type 0
Meaning = Means Behaviour

-- a string comes to its bytes and a flag, given the flag before it
abbrev pub StrMeaning : Type 0
StrMeaning = (flag : Bool) → Means (Evaluated (Bytes × Bool))

-- a list comes to all its fields, given those to its left
abbrev pub LstMeaning : Type 0
LstMeaning = (so_far : List Bytes) → Means (Evaluated (List Bytes))

-- WHAT IS HANDED DOWN -----------------------------------------------------------------------------------------------

abbrev pub under_condition : Inherited → Inherited
under_condition h = record { condition = true; argument0 = h.argument0; holds = h.holds }

abbrev pub one_more_hold : Inherited → Inherited
one_more_hold h = record { condition = h.condition; argument0 = h.argument0; holds = suc h.holds }

abbrev pub named : (name : Bytes) → Inherited → Inherited
named name h = record { condition = h.condition; argument0 = name; holds = h.holds }

-- for main: under no condition, no hold open
abbrev pub at_top : (argument0 : Bytes) → Inherited
at_top argument0 = record { condition = false; argument0 = argument0; holds = 0 }

-- REFUSALS ----------------------------------------------------------------------------------------------------------

module _ (limits : Limits) (at : ℕ) where
  -- 6: a record begins only while there is budget left; that it begins is a step.
  unfoldable pub begin : Run (Unit {0})
  begin = λ s. cond (ltb s.used limits.budget)
      (ended tt (set_used (suc s.used) s) (step at Trace.end))
      (refused BudgetUsedUp at Trace.end)

  -- a record is evaluated by its step, where the budget is tested, and after that its rule
  unfoldable pub stepped : {A : Type 0} → Means A → Means A
  stepped m h = do
    begin
    m h

  -- 7: the string that a join or an embedded command makes is too long.
  unfoldable pub made_string : Bytes → (flag : Bool) → Run (Evaluated (Bytes × Bool))
  made_string s flag = choose (leb (length s) limits.string) (give (value (s, flag))) (refuse LongString at)

  -- 8: with the fields that this list record adds, those to its left included, there are too many.
  unfoldable pub add_fields : (so_far new : List Bytes) → Run (List Bytes)
  add_fields so_far new = choose (leb (length (so_far ++ new)) limits.list) (give (so_far ++ new)) (refuse LongList at)

  -- 9: with what this utility writes, the stream is too long. Bytes dropped under nooutput do not count.
  unfoldable pub write_to : Stream → Bytes → Run (Unit {0})
  write_to dropped new = give tt
  write_to (kept before) new = choose (leb (length (before ++ new)) limits.stream)
      (change (set_output (kept (before ++ new))))
      (refuse LongStream at)

  unfoldable pub write : Bytes → Run (Unit {0})
  write new = do
    stream ← look output
    write_to stream new

  -- 10: as many holds as allowed are open, and this record would open one more. A hold is opened by an embedded command, a subshell, a
  -- nooutput, a pipe (one for its two sides), a call, and a for (even over no field).
  unfoldable pub hold : Inherited → Run Inherited
  hold h = choose (ltb h.holds limits.holds) (give (one_more_hold h)) (refuse ManyHolds at)
