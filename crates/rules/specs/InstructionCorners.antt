-- Corners of the instructions from assign to utility.
use Rattle.std.specs.Prelude.{true, false, List, [], ◌∷◌}
use Rattle.rules.specs.Ascii.{ascii}
use Rattle.rules.specs.Syntax.{success, failure, previous}
use Rattle.rules.specs.Syntax.{argument, embedded, join}
use Rattle.rules.specs.Syntax.{field}
use Rattle.rules.specs.Syntax.{Ins, assign, export, subshell, not, if, nooutput, pipe, exit, return, shift}
use Rattle.rules.specs.declared.Behaviour.TheVariants.{Normal, Return, Exit, Failure}
use Rattle.rules.specs.Corner.{ends, holds, exports, ends_after, Corner, corner}
use Rattle.rules.specs.Corner.{x, y, word, in_x, nil, one, two, three, ◌▸◌, put, util, say, print, cat, env, true!, false!, falsely, if_soft}
use Rattle.rules.specs.Corner.{call_f, stuck, here, calling, one_two, reading}

abbrev pub assign_corners : List Corner
assign_corners =
    -- Assign 1: the string sees the value before
    corner here (put "a" ▸ assign 0 x (join 0 in_x in_x) ▸ assign 0 x (join 0 in_x in_x) ▸ say in_x) (ends Normal true (ascii "aaaa\n"))
    -- Assign 2: under a condition a false flag is a result and no Exit, and the variable is set
    ∷ corner here (if 0 (assign 0 x (join 0 (word "a") (embedded 0 false!))) true! (say in_x)) (ends Normal true (ascii "a\n"))
    -- Assign 3: the export mark is kept, of a set variable and of an unset one
    ∷ corner here (put "a" ▸ export 0 x ▸ put "b" ▸ env) (ends Normal true (ascii "x=b\n"))
    -- Assign 4: only the named variable changes, and no mark appears
    ∷ corner here (assign 0 y (word "a") ▸ put "b" ▸ env) (ends_after 8 Normal true [] (holds "x" "b" ∷ holds "y" "a" ∷ []))
    ∷ []

abbrev pub export_corners : List Corner
export_corners =
    -- Export 1: an unset variable is marked and shown nowhere; the mark stays for a later value
    corner here (export 0 x ▸ export 0 y ▸ env ▸ put "a" ▸ env) (ends_after 12 Normal true (ascii "x=a\n") (exports "x" "a" ∷ []))
    -- Export 2: the value is kept
    ∷ corner here (put "a" ▸ export 0 x ▸ say in_x) (ends Normal true (ascii "a\n"))
    -- Export 3: the result is true, the behaviour Normal
    ∷ corner here (falsely ▸ export 0 x ▸ exit 0 previous) (ends Exit true [])
    ∷ []

abbrev pub sequence_corners : List Corner
sequence_corners =
    -- Sequence 1: a false result alone does not stop it, Exit, Return and Failure do
    corner here (falsely ▸ print "a") (ends Normal true (ascii "a\n"))
    ∷ corner here if_soft (ends Exit false [])
    ∷ corner here (exit 0 success ▸ print "a") (ends Exit true [])
    ∷ corner here (return 0 success ▸ print "a") (ends Return true [])
    ∷ corner here (stuck ▸ print "a") (ends Failure true [])
    -- Sequence 2: both parts inherit the condition
    ∷ corner here (not 0 if_soft) (ends Normal false (ascii "soft\n"))
    ∷ corner here (not 0 (print "a" ▸ false!)) (ends Normal true (ascii "a\n"))
    ∷ []

-- variables, marks, arguments and input changed; what is there of them
abbrev pub changes : Ins
changes = put "a" ▸ export 0 y ▸ shift 0 1 ▸ cat

abbrev pub shows : Ins
shows = cat ▸ say (join 0 in_x (argument 0 1)) ▸ assign 0 y (word "b") ▸ env

abbrev pub subshell_corners : List Corner
subshell_corners =
    -- Subshell 1: a Normal end with a false result is settled too
    corner here (subshell 0 falsely) (ends Exit false [])
    -- Subshell 2: Exit and Return do not pass, their result is settled
    ∷ corner here (subshell 0 (exit 0 success) ▸ print "a") (ends Normal true (ascii "a\n"))
    ∷ corner (calling 1 (subshell 0 (return 0 success) ▸ print "a") here) call_f (ends Normal true (ascii "a\n"))
    ∷ corner here (subshell 0 (return 0 failure)) (ends Exit false [])
    ∷ corner here (if 0 (subshell 0 (exit 0 failure)) (print "a") (print "b")) (ends Normal true (ascii "b\n"))
    -- Subshell 3: Failure stays, with the result from inside and the variables from before
    ∷ corner here (subshell 0 stuck) (ends Failure true [])
    ∷ corner here (subshell 0 (put "a" ▸ falsely ▸ stuck)) (ends_after 10 Failure false [] [])
    -- Subshell 4: variables, marks and arguments are restored; input and output are not
    ∷ corner (reading "in" one_two) (subshell 0 changes ▸ shows) (ends Normal true (ascii "in1\n"))
    ∷ corner (reading "in" one_two) (changes ▸ shows) (ends Normal true (ascii "ina2\ny=b\n"))
    -- Subshell 5: it starts from the context so far, and inherits the condition or its absence
    ∷ corner here (falsely ▸ subshell 0 (exit 0 previous)) (ends Exit false [])
    ∷ corner here (not 0 (subshell 0 if_soft)) (ends Normal false (ascii "soft\n"))
    ∷ corner here (subshell 0 if_soft) (ends Exit false [])
    ∷ []

abbrev pub not_corners : List Corner
not_corners =
    -- Not 1: a Normal end is negated and not settled
    corner here (not 0 true!) (ends Normal false [])
    ∷ corner here (not 0 false!) (ends Normal true [])
    -- Not 2: Return and Exit pass with their results
    ∷ corner here (not 0 (return 0 success)) (ends Return true [])
    ∷ corner here (not 0 (return 0 failure)) (ends Return false [])
    ∷ corner (calling 1 (not 0 (return 0 success)) here) call_f (ends Normal true [])
    ∷ corner here (not 0 (exit 0 failure)) (ends Exit false [])
    -- Not 3: so does Failure
    ∷ corner here (not 0 stuck) (ends Failure true [])
    ∷ corner here (falsely ▸ not 0 stuck ▸ print "a") (ends Failure false [])
    -- Not 4: the condition ends with it
    ∷ corner here (not 0 false! ▸ false! ▸ print "a") (ends Exit false [])
    ∷ []

abbrev pub if_corners : List Corner
if_corners =
    -- If 1: the test is under a condition and picks the branch
    corner here (if 0 false! (print "a") (print "b")) (ends Normal true (ascii "b\n"))
    ∷ corner here (if 0 true! (print "a") (print "b")) (ends Normal true (ascii "a\n"))
    -- If 2: the branches are under the condition of the whole, not under the test's
    ∷ corner here (if 0 true! false! true!) (ends Exit false [])
    ∷ corner here (if 0 false! true! false!) (ends Exit false [])
    ∷ corner here (not 0 (if 0 true! if_soft true!)) (ends Normal false (ascii "soft\n"))
    ∷ corner here (not 0 (if 0 false! true! if_soft)) (ends Normal false (ascii "soft\n"))
    -- If 3: a branch starts with the test's result
    ∷ corner here (if 0 false! true! (exit 0 previous)) (ends Exit false [])
    -- If 4: a test that ends in Exit, Return or Failure ends the if, with its result
    ∷ corner here (if 0 (exit 0 failure) (print "a") (print "b")) (ends Exit false [])
    ∷ corner here (if 0 (return 0 success) (print "a") (print "b")) (ends Return true [])
    ∷ corner here (if 0 stuck (print "a") (print "b")) (ends Failure true [])
    ∷ []

abbrev pub nooutput_corners : List Corner
nooutput_corners =
    -- Nooutput 1: only its own bytes are dropped
    corner here (print "a" ▸ nooutput 0 (print "b") ▸ print "c") (ends Normal true (ascii "a\nc\n"))
    -- Nooutput 2: context, consumed input, behaviour and result are kept
    ∷ corner (reading "in" here) (nooutput 0 (put "a" ▸ cat ▸ return 0 failure)) (ends_after 8 Return false [] (holds "x" "a" ∷ []))
    ∷ corner (reading "in" here) (nooutput 0 cat ▸ cat) (ends Normal true [])
    -- Nooutput 3: a Normal end is not settled
    ∷ corner here (nooutput 0 falsely) (ends Normal false [])
    -- Nooutput 4: Failure passes; the condition is inherited
    ∷ corner here (nooutput 0 stuck) (ends Failure true [])
    ∷ corner here (not 0 (nooutput 0 (false! ▸ exit 0 success))) (ends Exit true [])
    ∷ corner here (nooutput 0 false!) (ends Exit false [])
    ∷ []

abbrev pub pipe_corners : List Corner
pipe_corners =
    -- Pipe 1: the second side reads what the first wrote, and writes where the pipe does
    corner here (print "a" ▸ pipe 0 (print "b") (cat ▸ print "c")) (ends Normal true (ascii "a\nb\nc\n"))
    -- Pipe 2: the first side's Exit or Return and its result do not matter
    ∷ corner here (pipe 0 (exit 0 failure) true!) (ends Normal true [])
    ∷ corner here (pipe 0 (return 0 failure) (print "a")) (ends Normal true (ascii "a\n"))
    -- Pipe 3: the second side's Exit or Return does not pass: its result is settled
    ∷ corner here (pipe 0 true! (exit 0 success) ▸ print "a") (ends Normal true (ascii "a\n"))
    ∷ corner (calling 1 (pipe 0 true! (return 0 success) ▸ print "a") here) call_f (ends Normal true (ascii "a\n"))
    ∷ corner here (if 0 (pipe 0 true! (exit 0 failure)) (print "a") (print "b")) (ends Normal true (ascii "b\n"))
    -- Pipe 4: a Normal end with a false result is settled too
    ∷ corner here (pipe 0 true! falsely ▸ print "a") (ends Exit false [])
    -- Pipe 5: the first side's variables, marks, arguments and result are unknown to the second, which has those before the pipe
    ∷ corner here (put "a" ▸ pipe 0 (put "b") (say in_x)) (ends Normal true (ascii "a\n"))
    ∷ corner here (put "a" ▸ pipe 0 (export 0 x) env) (ends Normal true [])
    ∷ corner one_two (pipe 0 (shift 0 1) (say (argument 0 1))) (ends Normal true (ascii "1\n"))
    ∷ corner here (falsely ▸ pipe 0 true! (exit 0 previous)) (ends Exit false [])
    -- Pipe 6: nothing of the second side's context is left after it but its result
    ∷ corner here (pipe 0 true! (put "a") ▸ say in_x) (ends Normal true (ascii "\n"))
    ∷ corner one_two (pipe 0 true! (shift 0 1) ▸ say (argument 0 1)) (ends Normal true (ascii "1\n"))
    ∷ corner here (if 0 (pipe 0 true! false!) (print "a") (print "b")) (ends Normal true (ascii "b\n"))
    ∷ corner here (pipe 0 true! false!) (ends Exit false [])
    -- Pipe 7: the first side's Failure: the earlier context, result included; its bytes are dropped, the second does not begin
    ∷ corner here (pipe 0 (print "a" ▸ put "a" ▸ falsely ▸ stuck) (print "b")) (ends_after 15 Failure true [] [])
    -- Pipe 8: the second side's Failure: variables restored, its result kept, its bytes kept
    ∷ corner here (pipe 0 true! (print "a" ▸ put "a" ▸ falsely ▸ stuck)) (ends_after 17 Failure false (ascii "a\n") [])
    -- Pipe 9: the input afterwards is what the first side left; what the second leaves unread is gone
    ∷ corner (reading "in" here) (pipe 0 true! cat ▸ cat) (ends Normal true (ascii "in"))
    ∷ corner (reading "in" here) (pipe 0 cat true! ▸ cat) (ends Normal true [])
    ∷ corner (reading "in" here) (pipe 0 (print "a") true! ▸ cat) (ends Normal true (ascii "in"))
    -- Pipe 10: the first side reads the pipe's input, an inner pipe's first side the outer stream
    ∷ corner (reading "in" here) (pipe 0 cat cat) (ends Normal true (ascii "in"))
    ∷ corner (reading "in" here) (pipe 0 (print "a") (pipe 0 cat cat)) (ends Normal true (ascii "a\n"))
    -- Pipe 11: both sides inherit the condition or its absence
    ∷ corner here (not 0 (pipe 0 if_soft cat)) (ends Normal false (ascii "soft\n"))
    ∷ corner here (not 0 (pipe 0 true! if_soft)) (ends Normal false (ascii "soft\n"))
    ∷ corner here (pipe 0 if_soft cat) (ends Normal true [])
    ∷ corner here (pipe 0 true! if_soft) (ends Exit false [])
    ∷ []

abbrev pub utility_corners : List Corner
utility_corners =
    -- Utility 1: true and false take no notice of their fields
    corner here (util "true" (one (word "a"))) (ends Normal true [])
    ∷ corner here (util "false" (one (word "a"))) (ends Exit false [])
    -- Utility 2: echo: one space between fields, byte 10 at the end, of no fields too; the result is true
    ∷ corner here (util "echo" (three (word "a") (word "") (word "b"))) (ends Normal true (ascii "a  b\n"))
    ∷ corner here (falsely ▸ util "echo" nil) (ends Normal true (ascii "\n"))
    -- Utility 3: test of three fields: a, =, a, whatever a is
    ∷ corner here (util "test" (three (word "a") (word "=") (word "a"))) (ends Normal true [])
    ∷ corner here (util "test" (three (word "a") (word "=") (word "b"))) (ends Exit false [])
    ∷ corner here (util "test" (three (word "a") (word "=") (word "aa"))) (ends Exit false [])
    ∷ corner here (util "test" (three (word "aa") (word "=") (word "a"))) (ends Exit false [])
    ∷ corner here (util "test" (three (word "=") (word "=") (word "="))) (ends Normal true [])
    ∷ corner here (util "test" (three (word "") (word "=") (word ""))) (ends Normal true [])
    ∷ corner here (util "test" (three (word "-n") (word "=") (word "-n"))) (ends Normal true [])
    ∷ corner here (util "test" (three (word "a") (word "a") (word "a"))) (ends Exit false [])
    -- Utility 4: test of two fields: -n and one that is not empty
    ∷ corner here (util "test" (two (word "-n") (word "a"))) (ends Normal true [])
    ∷ corner here (util "test" (two (word "-n") (word "="))) (ends Normal true [])
    ∷ corner here (util "test" (two (word "-n") (word ""))) (ends Exit false [])
    ∷ corner here (util "test" (two (word "a") (word "-n"))) (ends Exit false [])
    -- Utility 5: test of any other fields is false: none, one, three after -n, four
    ∷ corner here (util "test" nil) (ends Exit false [])
    ∷ corner here (util "test" (one (word "a"))) (ends Exit false [])
    ∷ corner here (util "test" (one (word "-n"))) (ends Exit false [])
    ∷ corner here (util "test" (three (word "-n") (word "a") (word "b"))) (ends Exit false [])
    ∷ corner here (util "test" (field 0 (word "a") (three (word "=") (word "a") (word "a")))) (ends Exit false [])
    -- Utility 6: cat writes all of the input and leaves none, true even if there is none; with fields false, the input stays
    ∷ corner (reading "in" here) (cat ▸ cat) (ends Normal true (ascii "in"))
    ∷ corner here (falsely ▸ cat) (ends Normal true [])
    ∷ corner (reading "in" here) (not 0 (util "cat" (one (word "a"))) ▸ cat) (ends Normal true (ascii "in"))
    ∷ corner here (util "cat" (one (word "a"))) (ends Exit false [])
    -- Utility 7: env: the set exported variables by slot, an empty value too; with fields false, no output
    ∷ corner here (assign 0 y (word "b") ▸ export 0 y ▸ export 0 x ▸ put "" ▸ env) (ends Normal true (ascii "x=\ny=b\n"))
    ∷ corner here (put "a" ▸ assign 0 y (word "b") ▸ export 0 y ▸ env) (ends Normal true (ascii "y=b\n"))
    ∷ corner here (falsely ▸ env) (ends Normal true [])
    ∷ corner here (put "a" ▸ export 0 x ▸ util "env" (one (word "x"))) (ends Exit false [])
    -- Utility 8: any other name is false without output; names are compared whole, and functions are none of them
    ∷ corner here (util "nosuch" (one (word "a"))) (ends Exit false [])
    ∷ corner here (util "ECHO" (one (word "a"))) (ends Exit false [])
    ∷ corner here (util "ech" (one (word "a"))) (ends Exit false [])
    ∷ corner here (util "echo_" (one (word "a"))) (ends Exit false [])
    ∷ corner (calling 1 (print "a") here) (util "f" nil) (ends Exit false [])
    -- Utility 9: false under a condition is Normal
    ∷ corner here (not 0 (util "test" nil) ▸ print "a") (ends Normal true (ascii "a\n"))
    ∷ []
