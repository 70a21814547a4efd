-- Runs under two choices of limits, and runs under a watch, judged by hand: two tables, each under a claim.
use Rattle.std.specs.Prelude.{◌≡◌, Bool, true, false, ◌&&◌, List, [], ◌∷◌, map, ℕ, eqb}
use Rattle.rules.specs.declared.Behaviour.{Behaviour}
use Rattle.rules.specs.declared.Behaviour.TheVariants.{Normal, Return, Exit, Failure}
use Rattle.rules.specs.declared.Refusal.TheVariants.{LongList}
use Rattle.rules.specs.Ascii.{ascii}
use Rattle.rules.specs.Syntax.{success, failure, Str, text, embedded, join, empty, field, split}
use Rattle.rules.specs.Syntax.{Ins, assign, subshell, not, if, nooutput, pipe, utility, call, for, while, exit, return, shift}
use Rattle.rules.specs.State.{Limits, limits_of, Outcome, refused, ended}
use Rattle.rules.specs.Watched.{refusing}
use Rattle.rules.specs.Claims.{Given, outcome, ruling_on, outcome_under, no_smaller, lasting}
use Rattle.rules.specs.Cases.{row}
use Rattle.rules.specs.Corner.{Summary, refuses, ends, told, ends_with, ends_after, x, slots, word, in_x, long, nil, one, two, three, fields}
use Rattle.rules.specs.Corner.{◌▸◌, util, print, true!, false!, call_with, call_f, stuck, full, newline7, holding}
use Rattle.rules.specs.Corner.{Setting, here, calling, looping, up_to, one_two}

-- argument 0 is name
abbrev pub given_in : Setting → (main : Ins) → Given
given_in s i = record {
  program = record { functions = s.functions; main = i; slots = slots };
  argument0 = ascii "name";
  arguments = s.arguments;
  stdin = s.stdin;
}

abbrev pub limits_in : Setting → Limits
limits_in s = limits_of s.loop s.stack s.budget

-- TWO CHOICES OF LIMITS ---------------------------------------------------------------------------------------------

-- what two runs come to, and whether the second is promised to be as the first
pub record Judged (A : Type 0) : Type 0 where
  pub first : A
  pub second : A
  pub promised : Bool

-- nothing is promised, and indeed they differ
abbrev pub apart : {A : Type 0} → (first second : A) → Judged A
apart t u = record { first = t; second = u; promised = false }

-- they are promised to be alike
abbrev pub alike : {A : Type 0} → (both : A) → Judged A
alike t = record { first = t; second = t; promised = true }

pub record Pair : Type 0 where
  pub setting : Setting  -- of the first run, with its limits
  pub limits : Limits  -- of the second
  pub main : Ins
  pub judged : Judged Summary

abbrev pub changes : Setting → (loop stack budget : ℕ) → (main : Ins) → (first second : Summary) → Pair
changes s l k b i t u = record { setting = s; limits = limits_of l k b; main = i; judged = apart t u }

abbrev pub lasts : Setting → (loop stack budget : ℕ) → (main : Ins) → (both : Summary) → Pair
lasts s l k b i t = record { setting = s; limits = limits_of l k b; main = i; judged = alike t }

abbrev pub expected : Pair → Judged Summary
expected p = p.judged

unfoldable pub found : Pair → Judged Summary
found p = record {
  first = told p.judged.first (ruling_on (limits_in p.setting) (given_in p.setting p.main));
  second = told p.judged.second (ruling_on p.limits (given_in p.setting p.main));
  promised = no_smaller (limits_in p.setting) p.limits && lasting (outcome (limits_in p.setting) (given_in p.setting p.main));
}

-- a line for each argument
abbrev pub drain : Ins
drain = while 0 (shift 0 1) (print "a")

-- f: with an argument it calls itself without any, else it writes a line
abbrev pub down : Ins
down = if 0 (shift 0 1) call_f (print "a")

-- two steps, of records 7 and 5
abbrev pub two_steps : Ins
two_steps = utility 7 (ascii "true") (empty 5)

-- 64 bytes, by record 7
abbrev pub too_long : Ins
too_long = assign 0 x (join 7 (long 32) (long 32))

abbrev pub pairs : List Pair
pairs =
    -- Raising 1, the loop limit: a second line is left when one body may run; with two the third test is false
    changes (looping 1 one_two) 2 0 1000 drain (ends Failure true (ascii "a\n")) (ends Normal true (ascii "a\na\n"))
    -- Raising 2, the stack limit: f calls itself once
    ∷ changes (calling 1 down here) 0 2 1000 (call_with (one (word "a"))) (ends Failure true []) (ends Normal true (ascii "a\n"))
    -- Raising 3, the budget
    ∷ changes (up_to 1 here) 0 0 2 two_steps (refuses 6 5) (ends Normal true [])
    -- Raising 4: what was Failure can be a refusal, with 6 (while, test and body are 5 steps, the test would be the sixth) or 10 (nine subshells,
    -- a call, and the call in it)
    ∷ changes (up_to 5 here) 1 0 5 (while 0 two_steps true!) (ends Failure true []) (refuses 6 7)
    ∷ changes (calling 1 (call 7 (ascii "f") nil) here) 0 2 1000 (holding 9 call_f) (ends Failure true []) (refuses 10 7)
    -- Raising 5: what was 6 can be Failure, or a refusal with another number
    ∷ changes (up_to 2 here) 0 0 3 (while 0 two_steps true!) (refuses 6 5) (ends Failure true [])
    ∷ changes (up_to 2 here) 0 0 4 too_long (refuses 6 0) (refuses 7 7)
    -- Raising 6: Failure inside a string, a test and a not
    ∷ changes (looping 1 one_two) 2 0 1000 (not 0 (if 0 (assign 0 x (embedded 0 (subshell 0 drain))) (print "b") (print "c")))
    (ends Failure true []) (ends Normal false (ascii "b\n"))
    -- Raising 7: an end that is Failure under both need not be the same: while true do true has one body, or two
    ∷ changes (looping 1 here) 2 0 1000 (while 0 true! true!) (ends_after 7 Failure true [] []) (ends_after 11 Failure true [] [])
    -- Lasting 1, the whole sheet: main has 4 steps; f has 4 with its argument (if, shift, call, empty list) and 6 without (if, shift, echo)
    ∷ lasts (calling 2 down here) 65535 10 1000000 (call_with (one (word "a")))
    (ends_with Normal true 14 (ascii "a\n") [] (row 0 1 4 14 ∷ row 1 2 10 10 ∷ []))
    -- Lasting 2: as many bodies as the limit allows, and as many steps as the budget does (while, three shifts, two echoes of 4)
    ∷ lasts (up_to 12 (looping 2 one_two)) 65535 0 12 drain (ends_after 12 Normal true (ascii "a\na\n") [])
    ∷ lasts (up_to 12 (looping 2 one_two)) 2 0 13 drain (ends_after 12 Normal true (ascii "a\na\n") [])
    -- Lasting 3: Exit and Return
    ∷ lasts here 65535 10 1000000 (exit 0 failure) (ends_after 1 Exit false [] [])
    ∷ lasts here 65535 10 1000000 (return 0 success) (ends_after 1 Return true [] [])
    -- Lasting 4: refusals with 7 to 10
    ∷ lasts here 65535 10 1000000 too_long (refuses 7 7)
    ∷ lasts here 65535 10 1000000 (util "true" (fields 16 (word "a") (field 7 (word "a") nil))) (refuses 8 7)
    ∷ lasts here 65535 10 1000000 (full ▸ newline7) (refuses 9 7)
    ∷ lasts here 65535 10 1000000 (holding 10 (subshell 7 true!)) (refuses 10 7)
    -- Falling 1 to 3: a loop limit, a stack limit and a budget that are smaller, whatever the others are
    ∷ changes (looping 2 one_two) 1 10 1000000 drain (ends Normal true (ascii "a\na\n")) (ends Failure true (ascii "a\n"))
    ∷ changes (calling 2 down here) 65535 1 1000000 (call_with (one (word "a"))) (ends Normal true (ascii "a\n")) (ends Failure true [])
    ∷ changes (up_to 2 here) 65535 10 1 two_steps (ends Normal true []) (refuses 6 5)
    ∷ []

abbrev pub PairsClaim : Type 0
PairsClaim = map found pairs ≡ map expected pairs

-- A WATCH ON RECORD 7 -----------------------------------------------------------------------------------------------

pub record WatchRow : Type 0 where
  pub setting : Setting
  pub main : Ins
  pub failure : Bool  -- whether record 7 comes to Failure, or to an error

abbrev pub sees : Setting → (main : Ins) → WatchRow
sees s i = record { setting = s; main = i; failure = true }

abbrev pub sees_nothing : Setting → (main : Ins) → WatchRow
sees_nothing s i = record { setting = s; main = i; failure = false }

abbrev pub judged_to_see : WatchRow → Bool
judged_to_see w = w.failure

-- it refuses at place 999, which is no record's
abbrev pub saw : Outcome Behaviour → Bool
saw (refused why place t) = eqb place 999
saw (ended b s t) = false

unfoldable pub found_to_see : WatchRow → Bool
found_to_see w = saw (outcome_under (refusing (λ at. eqb at 7) LongList 999) (limits_in w.setting) (given_in w.setting w.main))

-- Failure of record 7, where the stack limit is 0; a string that is an error, by record 7 and by another
abbrev pub fails : Ins
fails = call 7 (ascii "f") nil

abbrev pub errs : Str
errs = embedded 7 stuck

abbrev pub an_error : Str
an_error = embedded 0 stuck

abbrev pub watches : List WatchRow
watches =
    -- Inside 1: instructions
    sees here fails
    ∷ sees here (fails ▸ true!)
    ∷ sees here (true! ▸ fails)
    ∷ sees here (subshell 0 fails)
    ∷ sees here (not 0 fails)
    ∷ sees here (if 0 fails true! true!)
    ∷ sees here (if 0 true! fails true!)
    ∷ sees here (if 0 (not 0 true!) true! fails)
    ∷ sees here (nooutput 0 fails)
    ∷ sees here (pipe 0 fails true!)
    ∷ sees here (pipe 0 true! fails)
    ∷ sees here (for 0 x (one (word "a")) fails)
    ∷ sees here (while 0 fails true!)
    ∷ sees (looping 1 here) (while 0 true! fails)
    ∷ sees (calling 1 fails here) call_f
    ∷ sees (calling 2 (if 0 (shift 0 1) call_f fails) here) (call_with (one (word "a")))
    ∷ sees here (assign 0 x (embedded 0 fails))
    -- Inside 2: strings and lists
    ∷ sees here (assign 0 x errs)
    ∷ sees here (assign 0 x (join 0 errs (word "a")))
    ∷ sees here (assign 0 x (join 0 (word "a") errs))
    ∷ sees here (assign 0 x (join 7 (word "a") an_error))
    ∷ sees here (util "echo" (one errs))
    ∷ sees here (util "echo" (split 0 errs nil))
    ∷ sees here (util "echo" (two (word "a") errs))
    ∷ sees here (util "echo" (split 0 (word "a") (one errs)))
    ∷ sees here (util "echo" (field 0 (word "a") (field 7 an_error nil)))
    ∷ sees here (util "echo" (field 0 (word "a") (split 7 an_error nil)))
    ∷ sees here (call_with (one errs))
    ∷ sees here (for 0 x (one errs) true!)
    -- Inside 3: the second time only; the first time the test is false
    ∷ sees (looping 1 here) (for 0 x (two (word "a") (word "b")) (while 7 (util "test" (three in_x (word "=") (word "b"))) true!))
    -- Inside 4: what is not evaluated; what comes to Exit or Return, or is false; a not of that; a value; what is refused
    ∷ sees_nothing here (if 0 true! true! fails)
    ∷ sees_nothing here (stuck ▸ two_steps)
    ∷ sees_nothing here (subshell 0 (exit 7 failure))
    ∷ sees_nothing here (not 0 (utility 7 (ascii "false") nil))
    ∷ sees_nothing (calling 1 (return 7 failure) here) call_f
    ∷ sees_nothing here (not 7 false!)
    ∷ sees_nothing here (assign 0 x (text 7 (ascii "a")))
    ∷ sees_nothing here (util "echo" (field 7 (word "a") nil))
    ∷ sees_nothing here too_long
    ∷ []

abbrev pub WatchesClaim : Type 0
WatchesClaim = map found_to_see watches ≡ map judged_to_see watches
