-- Corners of call, for, while, exit, return and shift, and of the profile.
use Rattle.std.specs.Prelude.{true, false, List, [], ◌∷◌}
use Rattle.rules.specs.Ascii.{ascii}
use Rattle.rules.specs.Syntax.{success, failure, previous}
use Rattle.rules.specs.Syntax.{variable, argument, embedded}
use Rattle.rules.specs.Syntax.{Lst, field, split}
use Rattle.rules.specs.Syntax.{Ins, assign, export, subshell, not, if, pipe, call, for, while, exit, return, shift}
use Rattle.rules.specs.declared.Behaviour.TheVariants.{Normal, Return, Exit, Failure}
use Rattle.rules.specs.Cases.{row}
use Rattle.rules.specs.Corner.{refuses, ends, holds, exports, ends_with, ends_after, Corner, corner}
use Rattle.rules.specs.Corner.{x, y, word, in_x, nil, one, two, three, fields, ◌▸◌, put, util, say, print, cat, true!, false!, falsely, if_soft}
use Rattle.rules.specs.Corner.{call_with, call_f, call_unknown, stuck, endless, function, here, defining, calling, calling_both, looping, one_two}

-- CALL --------------------------------------------------------------------------------------------------------------

abbrev pub three_arguments : Ins
three_arguments = util "echo" (three (argument 0 0) (argument 0 1) (argument 0 2))

abbrev pub turned : Lst
turned = three (argument 0 0) (argument 0 2) (argument 0 1)

abbrev pub call_g : Ins
call_g = call 0 (ascii "g") nil

-- strict or not, around a call of f
abbrev pub if_soft_around : Ins
if_soft_around = false! ▸ say (embedded 0 (pipe 0 (subshell 0 call_f) cat))

abbrev pub call_corners : List Corner
call_corners =
    -- Call 1: an unknown name is false and settled, at the stack limit too
    corner here call_unknown (ends Exit false [])
    ∷ corner here (not 0 call_unknown) (ends Normal true [])
    ∷ corner (calling 1 (print "a") here) (call 0 (ascii "echo") nil) (ends Exit false [])
    -- Call 2: at the stack limit Failure, after the list, the result as before; nothing is entered
    ∷ corner here (falsely ▸ call_f) (ends_after 6 Failure false [] [])
    ∷ corner here (put "a" ▸ call_f) (ends_after 5 Failure true [] (holds "x" "a" ∷ []))
    ∷ corner here (call_with (fields 16 (word "a") (field 7 (word "a") nil))) (refuses 8 7)
    -- Call 3: a limit of 1 lets one call be open at a time, one after the other
    ∷ corner (calling_both 1 (print "a") call_f) (call_f ▸ call_f ▸ call_g) (ends Failure true (ascii "a\na\n"))
    ∷ corner (calling_both 2 (print "a") call_f) call_g (ends Normal true (ascii "a\n"))
    -- Call 4: Return becomes Normal and is not settled; Exit and Failure pass
    ∷ corner (calling 1 (return 0 failure) here) (call_f ▸ exit 0 previous) (ends Exit false [])
    ∷ corner (calling 1 (return 0 failure) here) call_f (ends Normal false [])
    ∷ corner (calling 1 (exit 0 success) here) (call_f ▸ print "a") (ends Exit true [])
    ∷ corner (calling 1 endless here) (call_f ▸ print "a") (ends Failure true [])
    -- Call 5: the body starts with the caller's result, and a Normal false end stays Normal
    ∷ corner (calling 1 (exit 0 previous) here) (falsely ▸ call_f) (ends Exit false [])
    ∷ corner (calling 1 falsely here) call_f (ends Normal false [])
    -- Call 6: the body inherits the condition, through inner calls, pipes, subshells and embedded commands too
    ∷ corner (calling_both 2 if_soft if_soft_around) (if 0 call_g (print "b") (print "c")) (ends Normal true (ascii "soft\nb\n"))
    ∷ corner (calling 1 if_soft here) call_f (ends Exit false [])
    -- Call 7: inside its own arguments and its name as argument 0, outside the old ones again, though the body shifts
    ∷ corner (calling 1 (shift 0 1 ▸ three_arguments) one_two) (call_with turned ▸ three_arguments) (ends Normal true (ascii "f 2 1\nname 1 2\n"))
    -- Call 8: the list is made with the caller's arguments and argument 0
    ∷ corner (calling 1 three_arguments here) (call_with (one (embedded 0 (say (argument 0 0))))) (ends Normal true (ascii "f name \n"))
    -- Call 9: 16 arguments reach a function
    ∷ corner (calling 1 (say (argument 0 16)) here) (call_with (fields 15 (word "a") (one (word "b")))) (ends Normal true (ascii "b\n"))
    -- Call 10: variables and marks set inside stay
    ∷ corner (calling 1 (put "a" ▸ export 0 x) here) call_f (ends_with Normal true 6 [] (exports "x" "a" ∷ []) (row 0 1 2 6 ∷ row 1 1 4 4 ∷ []))
    -- Call 11: a function may call a later one
    ∷ corner (calling_both 2 call_g (print "g")) call_f (ends Normal true (ascii "g\n"))
    -- Call 12: utilities and functions are apart, also under one name
    ∷ corner (calling_both 2 (util "g" nil) true!) call_f (ends Exit false [])
    ∷ corner (defining 1 (function "true" false! ∷ []) here) true! (ends Normal true [])
    ∷ corner (defining 1 (function "true" (print "a") ∷ []) here) (call 0 (ascii "true") nil) (ends Normal true (ascii "a\n"))
    ∷ []

-- FOR ---------------------------------------------------------------------------------------------------------------

abbrev pub for_corners : List Corner
for_corners =
    -- For 1: over nothing: the result is true whatever it was, the variable untouched
    corner here (falsely ▸ for 0 x nil false!) (ends_after 6 Normal true [] [])
    -- For 2: each field in turn; the last value stays, the mark is kept, other variables too
    ∷ corner here (export 0 x ▸ for 0 x (two (word "a") (word "b")) (say in_x)) (ends_after 16 Normal true (ascii "a\nb\n") (exports "x" "b" ∷ []))
    ∷ corner here (for 0 x (one (word "a")) true!) (ends_after 6 Normal true [] (holds "x" "a" ∷ []))
    -- For 3: putting a field keeps the result; so the body starts with the one before
    ∷ corner here (falsely ▸ for 0 x (one (word "a")) (exit 0 previous)) (ends Exit false [])
    -- For 4: the result is the last body's, and not settled
    ∷ corner here (for 0 x (two (word "a") (word "b")) falsely) (ends Normal false [])
    ∷ corner here (for 0 x (two (word "a") (word "b")) (not 0 (util "test" (three in_x (word "=") (word "a"))))) (ends Normal true [])
    ∷ corner here (for 0 x (two (word "a") (word "b")) (not 0 (util "test" (three in_x (word "=") (word "b"))))) (ends Normal false [])
    -- For 5: a body that is not Normal is the last, and its behaviour and result are the for's
    ∷ corner here (for 0 x (two (word "a") (word "b")) (return 0 failure)) (ends_after 7 Return false [] (holds "x" "a" ∷ []))
    ∷ corner here (for 0 x (two (word "a") (word "b")) (say in_x ▸ exit 0 success)) (ends Exit true (ascii "a\n"))
    ∷ corner here (for 0 x (two (word "a") (word "b")) stuck ▸ print "a") (ends_after 9 Failure true [] (holds "x" "a" ∷ []))
    -- For 6: a body's false is an Exit, but under a condition
    ∷ corner here (for 0 x (two (word "a") (word "b")) (false! ▸ say in_x)) (ends Exit false [])
    ∷ corner here (not 0 (for 0 x (two (word "a") (word "b")) (false! ▸ say in_x))) (ends Normal false (ascii "a\nb\n"))
    -- For 7: the fields are made once, before the first body
    ∷ corner here (assign 0 y (word "1 2") ▸ for 0 x (split 0 (variable 0 y) nil) (say in_x ▸ assign 0 y (word "7 8 9"))) (ends Normal true (ascii "1\n2\n"))
    -- For 8: an inner loop over the same variable
    ∷ corner here (for 0 x (two (word "a") (word "b")) (for 0 x (two (word "1") (word "2")) true! ▸ say in_x)) (ends Normal true (ascii "2\n2\n"))
    -- For 9: no loop limit concerns it
    ∷ corner (looping 0 here) (for 0 x (fields 16 (word "a") nil) true!) (ends Normal true [])
    ∷ []

-- WHILE -------------------------------------------------------------------------------------------------------------

-- x is empty
abbrev pub x_empty : Ins
x_empty = util "test" (three in_x (word "=") (word ""))

-- while x is empty, put a in it and do this
abbrev pub once : Ins → Ins
once i = while 0 x_empty (put "a" ▸ i)

abbrev pub while_corners : List Corner
while_corners =
    -- While 1: the limit is looked at after a true test: Failure with the test's effects and result, not the last body's flag
    corner here (while 0 (print "t") true!) (ends_after 5 Failure true (ascii "t\n") [])
    ∷ corner here (while 0 (put "a") true!) (ends_after 3 Failure true [] (holds "x" "a" ∷ []))
    ∷ corner (looping 1 here) (while 0 true! falsely) (ends_after 8 Failure true [] [])
    -- While 2: the limit counts bodies, not tests: one body and two tests at limit 1
    ∷ corner (looping 1 here) (once (print "b")) (ends_after 24 Normal true (ascii "b\n") (holds "x" "a" ∷ []))
    -- While 3: after a false test it is Normal, the result is the last body's, and not settled
    ∷ corner (looping 1 here) (once falsely) (ends Normal false [])
    -- While 4: with no body run the flag is true, whatever the result was
    ∷ corner here (falsely ▸ while 0 false! true!) (ends Normal true [])
    -- While 5: what the test comes to other than Normal passes, with its own result
    ∷ corner here (while 0 (return 0 failure) true!) (ends Return false [])
    ∷ corner here (while 0 (exit 0 success) true!) (ends Exit true [])
    ∷ corner (looping 9 here) (while 0 stuck true! ▸ print "a") (ends Failure true [])
    -- While 6: so of the body
    ∷ corner (looping 1 here) (once (falsely ▸ exit 0 success)) (ends Exit true [])
    ∷ corner (looping 9 here) (while 0 true! (return 0 failure)) (ends Return false [])
    ∷ corner (looping 9 here) (while 0 true! stuck ▸ print "a") (ends Failure true [])
    -- While 7: the body is not under the test's condition, but under that of the whole
    ∷ corner (looping 9 here) (while 0 true! false!) (ends Exit false [])
    ∷ corner (looping 2 here) (not 0 (while 0 true! (false! ▸ print "b"))) (ends Failure true (ascii "b\nb\n"))
    -- While 8: the body starts with the test's result, the next test with the body's
    ∷ corner (looping 9 here) (while 0 (not 0 (falsely)) (exit 0 previous)) (ends Exit true [])
    ∷ corner (looping 1 here) (while 0 (if 0 x_empty true! (exit 0 previous)) (put "a" ▸ falsely)) (ends Exit false [])
    -- While 9: the count starts anew each time the while begins
    ∷ corner (looping 1 here) (for 0 y (two (word "1") (word "2")) (put "" ▸ once (say (variable 0 y)))) (ends Normal true (ascii "1\n2\n"))
    ∷ []

-- EXIT, RETURN, SHIFT -----------------------------------------------------------------------------------------------

abbrev pub exit_corners : List Corner
exit_corners =
    -- Exit 1: the result is set or kept; at the start it is true
    corner here (exit 0 success) (ends Exit true [])
    ∷ corner here (exit 0 failure) (ends Exit false [])
    ∷ corner here (exit 0 previous) (ends Exit true [])
    ∷ corner here (falsely ▸ exit 0 previous) (ends Exit false [])
    ∷ corner here (falsely ▸ exit 0 success) (ends Exit true [])
    -- Return 1: so of return, in main too
    ∷ corner here (return 0 success) (ends Return true [])
    ∷ corner here (return 0 failure) (ends Return false [])
    ∷ corner here (return 0 previous) (ends Return true [])
    ∷ corner here (falsely ▸ return 0 previous) (ends Return false [])
    ∷ corner here (falsely ▸ return 0 success) (ends Return true [])
    -- Return 2: it leaves one call only
    ∷ corner (calling_both 2 (return 0 success ▸ print "a") (call_f ▸ print "b")) call_g (ends Normal true (ascii "b\n"))
    ∷ []

abbrev pub shift_corners : List Corner
shift_corners =
    -- Shift 1: shift 0 without arguments is true; shift 1 is false and settled
    corner here (falsely ▸ shift 0 0) (ends Normal true [])
    ∷ corner here (shift 0 1) (ends Exit false [])
    ∷ corner here (not 0 (shift 0 1)) (ends Normal true [])
    -- Shift 2: drops from the front, never argument 0
    ∷ corner one_two (shift 0 1 ▸ three_arguments) (ends Normal true (ascii "name 2 \n"))
    ∷ corner one_two (shift 0 0 ▸ three_arguments) (ends Normal true (ascii "name 1 2\n"))
    -- Shift 3: as many as there are is fine; with fewer none is dropped
    ∷ corner one_two (shift 0 2 ▸ three_arguments) (ends Normal true (ascii "name  \n"))
    ∷ corner one_two (not 0 (shift 0 3) ▸ three_arguments) (ends Normal true (ascii "name 1 2\n"))
    ∷ []

-- PROFILE -----------------------------------------------------------------------------------------------------------

-- with an argument, g; without, nothing
abbrev pub to_g : Ins
to_g = if 0 (util "test" (two (word "-n") (argument 0 1))) call_g true!

abbrev pub profile_corners : List Corner
profile_corners =
    -- Profile 1: a call's list is charged to the caller, a call inside it to the callee
    corner (calling_both 1 true! (print "a")) (call_with (one (embedded 0 call_g))) (ends_with Normal true 12 [] [] (row 0 1 6 12 ∷ row 1 1 2 2 ∷ row 2 1 4 4 ∷ []))
    -- Profile 2: a call of f in the list of a call of f is outermost: the outer is not yet open
    ∷ corner (calling 1 true! here) (call_with (one (embedded 0 call_f))) (ends_with Normal true 10 [] [] (row 0 1 6 10 ∷ row 1 2 4 4 ∷ []))
    -- Profile 3: f calls g calls f: each step counts once in f's inclusive figure
    ∷ corner (calling_both 3 to_g call_f) (call_with (one (word "a"))) (ends_with Normal true 24 [] [] (row 0 1 4 24 ∷ row 1 2 18 20 ∷ row 2 1 2 11 ∷ []))
    -- Profile 4: outermost calls one after the other add up
    ∷ corner (calling 1 true! here) (call_f ▸ call_f ▸ call_f) (ends_with Normal true 14 [] [] (row 0 1 8 14 ∷ row 1 3 6 6 ∷ []))
    -- Profile 5: unknown functions and calls at the stack limit are not entered
    ∷ corner here (not 0 call_unknown ▸ call_f) (ends_after 6 Failure true [] [])
    -- Profile 6: a call left by Exit is open until then, and so is one left by Failure
    ∷ corner (calling 1 (exit 0 success) here) (subshell 0 call_f ▸ true!) (ends_with Normal true 7 [] [] (row 0 1 6 7 ∷ row 1 1 1 1 ∷ []))
    ∷ corner (calling 1 endless here) (call_f ▸ true!) (ends_with Failure true 6 [] [] (row 0 1 3 6 ∷ row 1 1 3 3 ∷ []))
    -- Profile 7: functions by record order, not by calls; one never called has its row
    ∷ corner (calling_both 1 true! true!) call_g (ends_with Normal true 4 [] [] (row 0 1 2 4 ∷ row 1 0 0 0 ∷ row 2 1 2 2 ∷ []))
    ∷ []
