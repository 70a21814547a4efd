-- Corners of steps, strings, lists, streams and holds, each with the refusal that can meet it.
use Rattle.std.specs.Prelude.{true, false, List, [], ◌∷◌, ◌++◌}
use Rattle.rules.specs.Ascii.{ascii}
use Rattle.rules.specs.Syntax.{Bytes, success, failure, previous}
use Rattle.rules.specs.Syntax.{text, argument, embedded, join}
use Rattle.rules.specs.Syntax.{Lst, empty, field, split}
use Rattle.rules.specs.Syntax.{Ins, assign, export, subshell, not, if, nooutput, pipe, utility, call, for, while, exit, return, shift}
use Rattle.rules.specs.declared.Behaviour.TheVariants.{Normal, Exit, Failure}
use Rattle.rules.specs.Cases.{row}
use Rattle.rules.specs.Corner.{refuses, ends, holds, ends_with, ends_after, Corner, corner}
use Rattle.rules.specs.Corner.{x, y, word, in_x, a's, long, nil, one, two, three, fields, ◌▸◌, put, util, say, print, cat, env, true!, false!, falsely, if_soft, newlines}
use Rattle.rules.specs.Corner.{call_with, call_f, stuck, full, full_line, sixty_four, newline!, newline7, filled, holding, here, calling, looping, up_to, given, one_two, receiving, reading}

-- STEPS -------------------------------------------------------------------------------------------------------------
-- Here the records are numbered in the order in which they begin.

abbrev pub a_list : Lst
a_list = field 2 (text 3 (ascii "a")) (field 4 (text 5 (ascii "b")) (empty 6))

abbrev pub a_utility : Ins
a_utility = utility 1 (ascii "true") a_list

abbrev pub a_join : Ins
a_join = assign 1 x (join 2 (text 3 (a's 63)) (text 4 (ascii "a")))

abbrev pub eleventh : Ins
eleventh = holding 10 (subshell 7 true!)

abbrev pub step_corners : List Corner
step_corners =
    -- Steps 1: a utility, then its list from the left, each field before its string, the empty list at the end; no step for the name
    corner (up_to 1 here) a_utility (refuses 6 2)
    ∷ corner (up_to 2 here) a_utility (refuses 6 3)
    ∷ corner (up_to 3 here) a_utility (refuses 6 4)
    ∷ corner (up_to 4 here) a_utility (refuses 6 5)
    ∷ corner (up_to 5 here) a_utility (refuses 6 6)
    ∷ corner (up_to 6 here) a_utility (ends_after 6 Normal true [] [])
    -- Steps 2: a join before its sides, the left before the right
    ∷ corner (up_to 1 here) a_join (refuses 6 2)
    ∷ corner (up_to 2 here) a_join (refuses 6 3)
    -- Steps 3: a call's list is made, then the body begins
    ∷ corner (up_to 6 (calling 1 (exit 7 success) here)) (call 1 (ascii "f") a_list) (refuses 6 7)
    -- Steps 4: the same of a for
    ∷ corner (up_to 6 here) (for 1 x a_list (exit 7 success)) (refuses 6 7)
    -- Steps 5: both sides of a pipe, one after the other
    ∷ corner (up_to 2 here) (pipe 1 (exit 2 success) (exit 3 success)) (refuses 6 3)
    -- Steps 6: the budget is tested before the hold; with a step left it is the hold that refuses, not the body's step
    ∷ corner (up_to 10 here) eleventh (refuses 6 7)
    ∷ corner (up_to 11 here) eleventh (refuses 10 7)
    -- Steps 7: a for is one step, its list is made once, the body begins anew for each field
    ∷ corner here (for 0 x (three (word "a") (word "b") (word "c")) (subshell 0 (exit 0 success))) (ends_after 14 Normal true [] (holds "x" "c" ∷ []))
    -- Steps 8: steps made where the context is dropped count
    ∷ corner here (assign 0 x (embedded 0 (subshell 0 (exit 0 success)))) (ends_after 4 Normal true [] (holds "x" "" ∷ []))
    ∷ corner here (pipe 0 (exit 0 success) (exit 0 success)) (ends_after 3 Normal true [] [])
    ∷ []

-- STRINGS -----------------------------------------------------------------------------------------------------------

abbrev pub sixteen : List Bytes
sixteen = ascii "b" ∷ a's 1 ∷ a's 2 ∷ a's 3 ∷ a's 4 ∷ a's 5 ∷ a's 6 ∷ a's 7 ∷ a's 8 ∷ a's 9 ∷ a's 10 ∷ a's 11 ∷ a's 12 ∷ a's 13 ∷ a's 14 ∷ a's 15 ∷ []

-- argument 0, written from the parts of each kind of instruction
abbrev pub who : Ins
who = say (argument 0 0)

abbrev pub who_everywhere : Ins
who_everywhere =
    if 0 (not 0 (not 0 who)) (who ▸ subshell 0 who ▸ pipe 0 who (cat ▸ who)) true!
    ▸ for 0 x (one (embedded 0 who)) (say in_x ▸ who)
    ▸ if 0 false! true! who
    ▸ while 0 (who ▸ false!) true!

abbrev pub string_corners : List Corner
string_corners =
    -- Strings 1: an unset variable is empty
    corner here (say in_x) (ends Normal true (ascii "\n"))
    -- Strings 2: arguments by number, from argument 0; beyond the last empty, however far
    ∷ corner here (say (argument 0 0)) (ends Normal true (ascii "name\n"))
    ∷ corner here who_everywhere (ends Normal true (ascii "name\nname\nname\nname\nname\nname\nname\nname\nname\n"))
    ∷ corner (given sixteen here) (say (argument 0 16)) (ends Normal true (a's 15 ++ ascii "\n"))
    ∷ corner (given sixteen here) (say (join 0 (argument 0 1) (argument 0 17))) (ends Normal true (ascii "b\n"))
    ∷ corner (given sixteen here) (say (join 0 (argument 0 256) (join 0 (argument 0 257) (argument 0 65535)))) (ends Normal true (ascii "\n"))
    -- Strings 3: an expression begins with the flag true, whatever the result
    ∷ corner here (falsely ▸ put "a") (ends Normal true [])
    -- Strings 4: text, variable, argument and an inner join keep a false flag
    ∷ corner here (assign 0 x (join 0 (embedded 0 false!) (word "a"))) (ends_after 6 Exit false [] (holds "x" "a" ∷ []))
    ∷ corner here (assign 0 x (join 0 (embedded 0 false!) in_x)) (ends Exit false [])
    ∷ corner here (assign 0 x (join 0 (embedded 0 false!) (argument 0 0))) (ends Exit false [])
    ∷ corner here (assign 0 x (join 0 (embedded 0 false!) (join 0 (word "a") (word "b")))) (ends Exit false [])
    -- Strings 5: the last embedded command gives the flag
    ∷ corner here (assign 0 x (join 0 (embedded 0 false!) (embedded 0 true!))) (ends Normal true [])
    ∷ corner here (assign 0 x (join 0 (embedded 0 true!) (embedded 0 false!))) (ends Exit false [])
    ∷ corner here (assign 0 x (join 0 (word "a") (embedded 0 true!))) (ends Normal true [])
    -- Strings 6: left, then right
    ∷ corner here (say (join 0 (word "a") (word "b"))) (ends Normal true (ascii "ab\n"))
    -- Strings 7: a join may make 63 bytes and not 64
    ∷ corner here (assign 0 x (join 0 (long 32) (long 31)) ▸ say in_x) (ends Normal true (a's 63 ++ ascii "\n"))
    ∷ corner here (assign 0 x (join 7 (long 32) (long 32))) (refuses 7 7)
    -- Strings 8: each join is measured by itself, when both its sides are there
    ∷ corner here (assign 0 x (join 7 (long 63) (join 8 (word "a") (word "a")))) (refuses 7 7)
    ∷ corner here (assign 0 x (join 8 (join 7 (long 63) (word "a")) (word "a"))) (refuses 7 7)
    -- Strings 9: so what the right side meets is ahead of 7: an error, or 6
    ∷ corner here (assign 0 x (join 0 (long 63) (join 0 (word "a") (embedded 0 stuck)))) (ends Failure true [])
    ∷ corner (up_to 3 here) a_join (refuses 6 4)
    ∷ corner (up_to 4 here) a_join (refuses 7 2)
    -- Strings 10: after an error on the left the right does not begin
    ∷ corner here (assign 0 x (join 0 (embedded 0 stuck) (word "a"))) (ends_after 5 Failure true [] [])
    -- Strings 11: an error on the right
    ∷ corner here (assign 0 x (join 0 (word "a") (embedded 0 stuck))) (ends_after 6 Failure true [] [])
    ∷ []

-- x and argument 1; the same after both were changed
abbrev pub seen_inside : Ins
seen_inside = say (join 0 in_x (argument 0 1))

abbrev pub changed_inside : Ins
changed_inside = put "a" ▸ shift 0 1 ▸ seen_inside

abbrev pub embedded_corners : List Corner
embedded_corners =
    -- Embedded 1: its bytes are the value, but for the newline at the end; the output around it goes on
    corner here (print "a" ▸ assign 0 x (embedded 0 (print "b")) ▸ say in_x) (ends Normal true (ascii "a\nb\n"))
    -- Embedded 2: 63 bytes pass, whatever newlines were behind them, 64 get 7, in a list too
    ∷ corner here (assign 0 x (embedded 0 (say (long 63))) ▸ say in_x) (ends Normal true (a's 63 ++ ascii "\n"))
    ∷ corner here (assign 0 x (embedded 0 (say (long 63) ▸ newline! ▸ newline!)) ▸ say in_x) (ends Normal true (a's 63 ++ ascii "\n"))
    ∷ corner here (assign 0 x (embedded 7 sixty_four)) (refuses 7 7)
    ∷ corner here (util "true" (one (embedded 7 sixty_four))) (refuses 7 7)
    -- Embedded 3: measured at its end: Failure inside is ahead of 7, and so is 6; exit is not
    ∷ corner here (assign 0 x (embedded 0 (sixty_four ▸ stuck))) (ends Failure true [])
    ∷ corner (up_to 9 here) (assign 0 x (embedded 0 (sixty_four ▸ exit 7 success))) (refuses 6 7)
    ∷ corner here (assign 0 x (embedded 7 (sixty_four ▸ exit 0 success))) (refuses 7 7)
    -- Embedded 4: inherits the condition or its absence
    ∷ corner here (if 0 (assign 0 x (embedded 0 if_soft)) (say in_x) true!) (ends Normal true (ascii "soft\n"))
    ∷ corner here (assign 0 x (embedded 0 if_soft)) (ends_after 5 Exit false [] (holds "x" "" ∷ []))
    -- Embedded 5: so in a join, in lists of fields and splits, in the lists of utility, call and for
    ∷ corner here (assign 0 x (join 0 (embedded 0 if_soft) (word "a"))) (ends Exit false [])
    ∷ corner here (assign 0 x (join 0 (word "a") (embedded 0 if_soft))) (ends Exit false [])
    ∷ corner here (util "echo" (two (embedded 0 if_soft) (embedded 0 if_soft))) (ends Normal true (ascii " \n"))
    ∷ corner here (not 0 (util "echo" (two (embedded 0 if_soft) (embedded 0 if_soft)))) (ends Normal false (ascii "soft soft\n"))
    ∷ corner here (util "echo" (split 0 (embedded 0 if_soft) (split 0 (embedded 0 if_soft) nil))) (ends Normal true (ascii "\n"))
    ∷ corner here (not 0 (util "echo" (split 0 (embedded 0 if_soft) (split 0 (embedded 0 if_soft) nil)))) (ends Normal false (ascii "soft soft\n"))
    ∷ corner (calling 1 (say (argument 0 1)) here) (call_with (one (embedded 0 if_soft))) (ends Normal true (ascii "\n"))
    ∷ corner (calling 1 (say (argument 0 1)) here) (not 0 (call_with (one (embedded 0 if_soft)))) (ends Normal false (ascii "soft\n"))
    ∷ corner here (for 0 x (one (embedded 0 if_soft)) (say in_x)) (ends Normal true (ascii "\n"))
    ∷ corner here (not 0 (for 0 x (one (embedded 0 if_soft)) (say in_x))) (ends Normal false (ascii "soft\n"))
    -- Embedded 6: starts with the result so far
    ∷ corner here (falsely ▸ assign 0 x (embedded 0 (exit 0 previous))) (ends Exit false [])
    -- Embedded 7: exit and return end the embedded command only, and give the flag
    ∷ corner here (assign 0 x (embedded 0 (exit 0 success)) ▸ print "a") (ends Normal true (ascii "a\n"))
    ∷ corner (calling 1 (assign 0 x (embedded 0 (return 0 success)) ▸ print "a") here) call_f (ends Normal true (ascii "a\n"))
    ∷ corner here (assign 0 x (embedded 0 (return 0 failure))) (ends Exit false [])
    -- Embedded 8: variables and arguments are as before, for the right side of a join too
    ∷ corner one_two (say (join 0 (embedded 0 changed_inside) (embedded 0 seen_inside))) (ends Normal true (ascii "a21\n"))
    -- Embedded 9: export marks are as before
    ∷ corner here (assign 0 x (embedded 0 (export 0 y)) ▸ assign 0 y (word "a") ▸ env) (ends Normal true [])
    -- Embedded 10: the result is as before where no flag is kept, in a list
    ∷ corner here (for 0 x (one (embedded 0 falsely)) (exit 0 previous)) (ends Exit true [])
    -- Embedded 11: consumed input stays consumed, for the right side of a join too
    ∷ corner (reading "in" here) (assign 0 x (join 0 (embedded 0 cat) (embedded 0 cat)) ▸ cat ▸ say in_x) (ends Normal true (ascii "in\n"))
    -- Embedded 12: bytes written before Failure are dropped, those around it stay
    ∷ corner here (print "b" ▸ say (embedded 0 (print "a" ▸ stuck))) (ends Failure true (ascii "b\n"))
    ∷ []

-- Newlines at the end of an embedded command.
abbrev pub newline_corners : List Corner
newline_corners =
    -- Newlines 1: all at the end go, those before another byte stay
    corner here (assign 0 x (embedded 0 (print "a" ▸ newline! ▸ newline!))) (ends_after 12 Normal true [] (holds "x" "a" ∷ []))
    ∷ corner here (assign 0 x (embedded 0 (newline! ▸ print "a" ▸ newline! ▸ print "b")) ▸ say in_x) (ends Normal true (ascii "\na\n\nb\n"))
    -- Newlines 2: nothing but newlines is the empty value, and the variable is set
    ∷ corner here (assign 0 x (embedded 0 newline!)) (ends_after 4 Normal true [] (holds "x" "" ∷ []))
    ∷ corner here (put "a" ▸ assign 0 x (embedded 0 (newline! ▸ newline!))) (ends_after 10 Normal true [] (holds "x" "" ∷ []))
    -- Newlines 3: no other byte goes, and none that stands before it
    ∷ corner here (assign 0 x (embedded 0 (print "a\r")) ▸ say in_x) (ends Normal true (ascii "a\r\n"))
    ∷ corner here (assign 0 x (embedded 0 (print "a\n\r")) ▸ say in_x) (ends Normal true (ascii "a\n\r\n"))
    ∷ corner here (assign 0 x (embedded 0 (print "a ")) ▸ say in_x) (ends Normal true (ascii "a \n"))
    ∷ corner here (assign 0 x (embedded 0 (print "a\t")) ▸ say in_x) (ends Normal true (ascii "a\t\n"))
    ∷ corner here (assign 0 x (embedded 0 (print "a\u{b}")) ▸ say in_x) (ends Normal true (ascii "a\u{b}\n"))
    ∷ corner here (assign 0 x (embedded 0 (print "a\0")) ▸ say in_x) (ends Normal true (ascii "a\0\n"))
    -- Newlines 4: so a code from an embedded echo is the bare code
    ∷ corner here (util "test" (three (embedded 0 (print "a")) (word "=") (word "a"))) (ends Normal true [])
    -- Newlines 5: each embedded command by itself: both sides of a join, one inside another; other strings keep theirs
    ∷ corner here (say (join 0 (embedded 0 (print "a")) (embedded 0 (print "b")))) (ends Normal true (ascii "ab\n"))
    ∷ corner here (say (embedded 0 (say (join 0 (embedded 0 (print "a")) (word "b\n"))))) (ends Normal true (ascii "ab\n"))
    ∷ corner here (say (join 0 (embedded 0 (print "a")) (word "\n"))) (ends Normal true (ascii "a\n\n"))
    ∷ corner here (put "a\n" ▸ say in_x) (ends Normal true (ascii "a\n\n"))
    -- Newlines 6: a pipe's stream and main's keep theirs
    ∷ corner here (pipe 0 (print "a" ▸ newline!) (cat ▸ print "b")) (ends Normal true (ascii "a\n\nb\n"))
    ∷ corner here (assign 0 x (embedded 0 (pipe 0 (print "a" ▸ newline!) (cat ▸ print "b"))) ▸ say in_x) (ends Normal true (ascii "a\n\nb\n"))
    ∷ corner here (print "a" ▸ newline!) (ends Normal true (ascii "a\n\n"))
    -- Newlines 7: 7 looks at what is left, 9 at the stream: 24 bytes and 1,000 newlines are 24, 64 and 960 are too many; 1,024 newlines
    -- are an empty value, and one byte more gets 9
    ∷ corner (receiving (a's 24 ++ newlines 1000) here) (assign 0 x (embedded 0 cat) ▸ say in_x) (ends Normal true (a's 24 ++ ascii "\n"))
    ∷ corner (receiving (a's 64 ++ newlines 960) here) (assign 0 x (embedded 7 cat)) (refuses 7 7)
    ∷ corner (receiving (newlines 1024) here) (assign 0 x (embedded 0 cat)) (ends_after 4 Normal true [] (holds "x" "" ∷ []))
    ∷ corner (receiving (newlines 1024) here) (assign 0 x (embedded 8 (cat ▸ newline7))) (refuses 9 7)
    -- Newlines 8: the flag is the result, also where newlines go, or everything
    ∷ corner here (assign 0 x (embedded 0 (print "a" ▸ falsely))) (ends_after 10 Exit false [] (holds "x" "a" ∷ []))
    ∷ corner here (assign 0 x (embedded 0 (newline! ▸ falsely))) (ends_after 8 Exit false [] (holds "x" "" ∷ []))
    ∷ []

-- LISTS -------------------------------------------------------------------------------------------------------------

abbrev pub seventeen : Lst
seventeen = fields 16 (word "a") (field 7 (text 8 (ascii "a")) nil)

abbrev pub list_corners : List Corner
list_corners =
    -- Lists 1: 16 fields pass, the 17th from the left gets 8
    corner here (util "true" (fields 16 (word "a") nil)) (ends Normal true [])
    ∷ corner here (util "true" seventeen) (refuses 8 7)
    -- Lists 2: each record counts as soon as its string is there: 8 is ahead of a later error and of the next record's step
    ∷ corner here (util "true" (fields 16 (word "a") (field 7 (word "a") (one (embedded 0 stuck))))) (refuses 8 7)
    ∷ corner (up_to 35 here) (util "true" seventeen) (refuses 8 7)
    -- Lists 3: and not before: an error, 7 or 6 in the 17th string is ahead of 8
    ∷ corner here (util "true" (fields 16 (word "a") (one (embedded 0 stuck)))) (ends Failure true [])
    ∷ corner here (util "true" (fields 16 (word "a") (field 8 (join 7 (long 32) (long 32)) nil))) (refuses 7 7)
    ∷ corner (up_to 34 here) (util "true" seventeen) (refuses 6 8)
    -- Lists 4: a split adds its stretches, refused at the split: 14 and 2 pass, 15 and 2 do not, nor 17 at once; none is none
    ∷ corner here (util "true" (fields 14 (word "a") (split 0 (word "a b") nil))) (ends Normal true [])
    ∷ corner here (util "true" (fields 15 (word "a") (split 7 (word "a b") nil))) (refuses 8 7)
    ∷ corner here (util "true" (split 7 (word "a b c d e f g h i j k l m n o p q") nil)) (refuses 8 7)
    ∷ corner here (util "true" (fields 16 (word "a") (split 0 (word " \t\n") nil))) (ends Normal true [])
    ∷ corner here (util "true" (split 0 (word "a b") (fields 14 (word "a") (field 7 (word "a") nil)))) (refuses 8 7)
    -- Lists 5: stretches at both ends count, empty ones do not; bytes 32, 9 and 10 part them
    ∷ corner here (util "echo" (split 0 (word "a \t\nb\tc\nd") nil)) (ends Normal true (ascii "a b c d\n"))
    ∷ corner here (util "echo" (split 0 (word " a\n") nil)) (ends Normal true (ascii "a\n"))
    -- Lists 6: bytes 0, 11, 12 and 13 do not
    ∷ corner here (util "echo" (split 0 (word "a\0b\u{b}c\u{c}d\re") nil)) (ends Normal true (ascii "a\0b\u{b}c\u{c}d\re\n"))
    -- Lists 7: an empty string is one field, and no stretch
    ∷ corner here (util "echo" (field 0 (word "a") (field 0 in_x (split 0 in_x nil)))) (ends Normal true (ascii "a \n"))
    -- Lists 8: left to right, split and field mixed
    ∷ corner here (util "echo" (field 0 (word "a") (split 0 (word "b c") (one (word "d"))))) (ends Normal true (ascii "a b c d\n"))
    -- Lists 9: the strings' flags are not looked at
    ∷ corner here (say (embedded 0 false!)) (ends Normal true (ascii "\n"))
    ∷ corner here (util "echo" (split 0 (embedded 0 false!) nil)) (ends Normal true (ascii "\n"))
    ∷ []

abbrev pub error_corners : List Corner
error_corners =
    -- Errors 1: nothing after an error begins: field, split, later field
    corner here (util "echo" (two (embedded 0 stuck) (word "a"))) (ends_after 5 Failure true [] [])
    ∷ corner here (util "echo" (split 0 (embedded 0 stuck) (one (word "a")))) (ends_after 5 Failure true [] [])
    ∷ corner here (util "echo" (three (word "a") (embedded 0 stuck) (word "b"))) (ends_after 7 Failure true [] [])
    -- Errors 2: assign: value and result as before, though the command inside had made the result false
    ∷ corner here (put "a" ▸ assign 0 x (embedded 0 (falsely ▸ stuck))) (ends_after 11 Failure true [] (holds "x" "a" ∷ []))
    -- Errors 3: for: the variable is not set
    ∷ corner here (for 0 x (two (word "a") (embedded 0 stuck)) true!) (ends_after 7 Failure true [] [])
    -- Errors 4: an unknown utility and an unknown function make their lists first
    ∷ corner here (util "nosuch" (one (embedded 0 stuck))) (ends Failure true [])
    ∷ corner here (util "nosuch" seventeen) (refuses 8 7)
    ∷ corner here (call 0 (ascii "nosuch") (one (embedded 0 stuck))) (ends Failure true [])
    -- Errors 5: a condition does not soften an error
    ∷ corner here (if 0 (assign 0 x (embedded 0 stuck)) true! true!) (ends Failure true [])
    -- Errors 6: a false result from before stays
    ∷ corner here (falsely ▸ say (embedded 0 stuck)) (ends Failure false [])
    ∷ []

-- STREAMS -----------------------------------------------------------------------------------------------------------

abbrev pub stream_corners : List Corner
stream_corners =
    -- Streams 1: 1,024 bytes pass, the utility that goes past them gets 9
    corner here full (ends Normal true (full_line 16))
    ∷ corner here (full ▸ newline7) (refuses 9 7)
    -- Streams 2: so of cat and env; nine variables are more than env can write at once
    ∷ corner (reading "i" here) (full ▸ utility 7 (ascii "cat") nil) (refuses 9 7)
    ∷ corner here (put "a" ▸ export 0 x ▸ full ▸ utility 7 (ascii "env") nil) (refuses 9 7)
    ∷ corner here (filled 9 (utility 7 (ascii "env") nil)) (refuses 9 7)
    -- Streams 3: nooutput drops what goes to the stream around it, uncounted, a pipe's second side included
    ∷ corner here (nooutput 0 (full ▸ full)) (ends Normal true [])
    ∷ corner here (filled 9 (nooutput 0 env)) (ends Normal true [])
    ∷ corner here (nooutput 0 (pipe 0 true! (full ▸ full))) (ends Normal true [])
    -- Streams 4: a pipe's first side and an embedded command in it have streams of their own, kept and counted
    ∷ corner here (nooutput 0 (pipe 0 (full ▸ newline7) cat)) (refuses 9 7)
    ∷ corner here (nooutput 0 (assign 0 x (embedded 8 (full ▸ newline7)))) (refuses 9 7)
    ∷ corner here (nooutput 0 (assign 0 x (embedded 0 (print "a"))) ▸ say in_x) (ends Normal true (ascii "a\n"))
    -- Streams 5: nooutput in a pipe's first side drops from that stream, and an inner nooutput ends before the outer
    ∷ corner here (pipe 0 (print "a" ▸ nooutput 0 (nooutput 0 (print "b") ▸ print "c") ▸ print "d") cat) (ends Normal true (ascii "a\nd\n"))
    -- Streams 6: each stream is counted by itself: 1,024 bytes through a pipe into an empty output, and into one of a byte
    ∷ corner here (pipe 0 full cat) (ends Normal true (full_line 16))
    ∷ corner here (util "echo" nil ▸ pipe 0 full (utility 7 (ascii "cat") nil)) (refuses 9 7)
    -- Streams 7: an embedded command's 1,024 bytes are met by 7 at its end, 1,025 by 9 on the way
    ∷ corner here (assign 0 x (embedded 7 full)) (refuses 7 7)
    ∷ corner here (assign 0 x (embedded 8 (full ▸ newline7))) (refuses 9 7)
    -- Streams 8: 9 is met where it happens, though the bytes would have been dropped by a later Failure
    ∷ corner here (pipe 0 (full ▸ newline7 ▸ stuck) true!) (refuses 9 7)
    -- Streams 9: bytes written before Failure or Exit stay, a pipe's second side's too
    ∷ corner here (print "a" ▸ stuck) (ends Failure true (ascii "a\n"))
    ∷ corner here (print "a" ▸ exit 0 success) (ends Exit true (ascii "a\n"))
    ∷ corner here (pipe 0 (print "a") (print "b" ▸ stuck)) (ends Failure true (ascii "b\n"))
    ∷ []

-- HOLDS -------------------------------------------------------------------------------------------------------------

abbrev pub inner : Ins
inner = subshell 7 true!

abbrev pub no_hold : Ins
no_hold = if 0 (not 0 false!) true! true! ▸ while 0 false! true! ▸ assign 0 x in_x ▸ export 0 x ▸ shift 0 0 ▸ exit 0 success

abbrev pub hold_corners : List Corner
hold_corners =
    -- Holds 1: ten pass, the record that opens the eleventh gets 10: a subshell
    corner here (holding 10 true!) (ends Normal true [])
    ∷ corner here (holding 10 inner) (refuses 10 7)
    -- Holds 2: as the eleventh: an embedded command, a nooutput, a pipe, a call, a for even of an empty list
    ∷ corner here (holding 10 (assign 0 x (embedded 7 true!))) (refuses 10 7)
    ∷ corner here (holding 10 (nooutput 7 true!)) (refuses 10 7)
    ∷ corner here (holding 10 (pipe 7 true! true!)) (refuses 10 7)
    ∷ corner (calling 1 true! here) (holding 10 (call 7 (ascii "f") nil)) (refuses 10 7)
    ∷ corner here (holding 10 (for 7 x nil true!)) (refuses 10 7)
    -- Holds 3: each is open while its inside runs, a pipe on both sides
    ∷ corner here (holding 9 (assign 0 x (embedded 0 inner))) (refuses 10 7)
    ∷ corner here (holding 9 (nooutput 0 inner)) (refuses 10 7)
    ∷ corner here (holding 9 (pipe 0 inner true!)) (refuses 10 7)
    ∷ corner here (holding 9 (pipe 0 true! inner)) (refuses 10 7)
    ∷ corner (calling 1 inner here) (holding 9 call_f) (refuses 10 7)
    ∷ corner here (holding 9 (for 0 x (one (word "a")) inner)) (refuses 10 7)
    -- Holds 4: those open count in every part: of sequence, not, if and while, of joins and lists
    ∷ corner here (holding 10 (inner ▸ true!)) (refuses 10 7)
    ∷ corner here (holding 10 (true! ▸ inner)) (refuses 10 7)
    ∷ corner here (holding 10 (not 0 inner)) (refuses 10 7)
    ∷ corner here (holding 10 (if 0 inner true! true!)) (refuses 10 7)
    ∷ corner here (holding 10 (if 0 true! inner true!)) (refuses 10 7)
    ∷ corner here (holding 10 (if 0 false! true! inner)) (refuses 10 7)
    ∷ corner here (holding 10 (while 0 inner true!)) (refuses 10 7)
    ∷ corner (looping 1 here) (holding 10 (while 0 true! inner)) (refuses 10 7)
    ∷ corner here (holding 10 (assign 0 x (join 0 (embedded 7 true!) (word "a")))) (refuses 10 7)
    ∷ corner here (holding 10 (assign 0 x (join 0 (word "a") (embedded 7 true!)))) (refuses 10 7)
    ∷ corner here (holding 10 (util "echo" (two (word "a") (embedded 7 true!)))) (refuses 10 7)
    ∷ corner here (holding 10 (util "echo" (split 0 (word "a") (split 0 (embedded 7 true!) nil)))) (refuses 10 7)
    ∷ corner here (holding 10 (for 8 x (one (embedded 7 true!)) true!)) (refuses 10 7)
    -- Holds 5: a pipe is one hold, given back at its end
    ∷ corner here (holding 9 (pipe 0 true! true! ▸ pipe 0 true! true!)) (ends Normal true [])
    -- Holds 6: no other record is one: sequence, not, if, while, utility, assign, export, shift, exit
    ∷ corner here (holding 10 no_hold) (ends Normal true [])
    -- Holds 7: a call's and a for's list is made before their hold
    ∷ corner (calling 1 true! here) (holding 9 (call_with (one (embedded 0 true!)))) (ends Normal true [])
    ∷ corner here (holding 9 (for 0 x (one (embedded 0 true!)) true!)) (ends Normal true [])
    ∷ corner (calling 1 true! here) (holding 10 (call 8 (ascii "f") (one (embedded 7 true!)))) (refuses 10 7)
    ∷ corner here (holding 10 (for 9 x seventeen true!)) (refuses 8 7)
    -- Holds 8: an unknown name and a full stack come before the hold
    ∷ corner here (holding 10 (not 0 (call 7 (ascii "nosuch") nil))) (ends Normal true [])
    ∷ corner here (holding 10 (call 7 (ascii "f") nil)) (ends Failure true [])
    -- Holds 9: ten calls are ten holds; main is none
    ∷ corner (calling 10 call_f here) call_f (ends_with Failure true 22 [] [] (row 0 1 2 22 ∷ row 1 10 20 20 ∷ []))
    ∷ corner (calling 10 (call 7 (ascii "f") nil) here) (subshell 0 call_f) (refuses 10 7)
    ∷ []
