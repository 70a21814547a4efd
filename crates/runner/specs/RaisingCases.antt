-- The premises of `RaisingHarmless` (specs/Claims.antt) are tight: a table of inputs under two choices of limits, judged by hand, under one claim,
-- `RaisingTight`, at the end. The sheets are bytes; more cases are in the table of the rules (specs/RaisingCases.antt of `rules`).
use Rattle.std.specs.Prelude.{◌≡◌, true, false, ◌&&◌, List, [], ◌∷◌, ◌++◌, map, ℕ, zero, suc}
use Rattle.rules.specs.declared.Behaviour.TheVariants.{Normal, Failure}
use Rattle.rules.specs.Syntax.{Bytes}
use Rattle.rules.specs.Cases.{row}
use Rattle.rules.specs.RaisingCases.{Judged, apart, alike}
use Rattle.sheet.specs.Cases.{rec, sheet_a}
use Rattle.sheet.specs.Order.{Inputs}
use Rattle.runner.specs.Verdict.{Verdict, refused, ended, verdict}
use Rattle.runner.specs.Claims.{under_limits, raised, lasting_verdict}
use Rattle.runner.specs.Refusals.{asked, right, x, shift0, small}
use Rattle.runner.specs.Shams.{end, end_a, shallow_end}

pub record RaisedRow : Type 0 where
  pub inputs : Inputs  -- of the first run
  pub loop : ℕ  -- the limits of the second
  pub stack : ℕ
  pub budget : ℕ
  pub judged : Judged Verdict

abbrev pub expected : RaisedRow → Judged Verdict
expected p = p.judged

unfoldable pub found : RaisedRow → Judged Verdict
found p = record {
  first = verdict p.inputs;
  second = verdict (under_limits p.inputs p.loop p.stack p.budget);
  promised = raised p.inputs p.loop p.stack p.budget && lasting_verdict (verdict p.inputs);
}

abbrev pub changes : Inputs → (loop stack budget : ℕ) → (first second : Verdict) → RaisedRow
changes i l k b v u = record { inputs = i; loop = l; stack = k; budget = b; judged = apart v u }

abbrev pub lasts : Inputs → (loop stack budget : ℕ) → (both : Verdict) → RaisedRow
lasts i l k b v = record { inputs = i; loop = l; stack = k; budget = b; judged = alike v }

-- exercise A; while shift 1 do shift 0, with two arguments
abbrev pub runs_a : (stack budget : ℕ) → Inputs
runs_a k b = asked 4096 65536 0 k b sheet_a x []

abbrev pub shifts : (loop : ℕ) → Inputs
shifts l = asked 4096 65536 l 0 100 (rec 30 (1 ∷ []) ++ rec 30 (0 ∷ []) ++ rec 27 (0 ∷ 1 ∷ []) ++ rec 33 (2 ∷ [])) (x ++ x ++ x) []

-- the sheet of shift 0 with n subshells around it: record n is the outermost
abbrev pub shells : (n : ℕ) → Bytes
shells zero = shift0
shells (suc n) = shells n ++ rec 19 (n ∷ [])

abbrev pub raised_rows : List RaisedRow
raised_rows =
    -- the loop limit: with 1 the second test is true, which is Failure; with 2 there is a second body, and the third test is false
    changes (shifts 1) 2 0 100 (ended (end Failure true 4 (row 0 1 4 4 ∷ []))) (ended (end Normal true 6 (row 0 1 6 6 ∷ [])))
    -- the stack limit, and the budget
    ∷ changes (runs_a 2 37) 0 3 37 (ended shallow_end) (ended end_a)
    ∷ changes (runs_a 3 36) 0 3 37 (refused 6 8) (ended end_a)
    -- a budget of 0 is refused by 2
    ∷ changes (runs_a 3 0) 0 3 37 (refused 2 0) (ended end_a)
    -- a stack limit that falls, whatever the others do
    ∷ changes (runs_a 3 37) 65535 2 1000000 (ended end_a) (ended shallow_end)
    -- limits that are not accepted: a loop limit, a stack limit, a budget that is too large
    ∷ changes (runs_a 3 37) 65536 3 37 (ended end_a) (refused 2 0)
    ∷ changes (runs_a 3 37) 0 11 37 (ended end_a) (refused 2 0)
    ∷ changes (runs_a 3 37) 0 3 1000001 (ended end_a) (refused 2 0)
    -- the largest that are accepted
    ∷ lasts (runs_a 3 37) 65535 10 1000000 (ended end_a)
    ∷ lasts (shifts 2) 65535 10 1000000 (ended (end Normal true 6 (row 0 1 6 6 ∷ [])))
    -- refusals: of a size, of a sheet without main, of no arguments, midway for an eleventh hold
    ∷ lasts (asked 4095 65536 0 3 37 sheet_a x []) 65535 10 1000000 (refused 1 0)
    ∷ lasts (right shift0 x []) 65535 10 1000000 (refused 4 1)
    ∷ lasts (right small [] []) 65535 10 1000000 (refused 5 0)
    ∷ lasts (right (shells 11 ++ rec 33 (11 ∷ [])) x []) 65535 10 1000000 (refused 10 1)
    ∷ []

-- `promised` holds in the rows that last, and in none that changes.
abbrev pub RaisingTight : Type 0
RaisingTight = map found raised_rows ≡ map expected raised_rows
