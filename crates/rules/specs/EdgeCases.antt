-- Small runs and the edges of their call graphs, judged by hand: one table under one claim, `EdgeCasesClaim`, at the end.
use Rattle.std.specs.Prelude.{◌≡◌, List, [], ◌∷◌, ◌++◌, map, ℕ, suc}
use Rattle.rules.specs.Ascii.{ascii}
use Rattle.rules.specs.Syntax.{Program, argument, embedded, Lst, Ins, if, call}
use Rattle.rules.specs.State.{Limits, limits_of, trace_of}
use Rattle.rules.specs.Evaluation.{run}
use Rattle.rules.specs.Graph.{Edge, Block, graph_of}
use Rattle.rules.specs.Cases.{exercise_a}
use Rattle.rules.specs.Corner.{word, nil, one, two, ◌▸◌, util, print, true!, call_with, call_f, function}

-- ROWS --------------------------------------------------------------------------------------------------------------

-- an edge, with its caller
pub record Listed : Type 0 where
  pub caller : ℕ
  pub callee : ℕ
  pub calls : ℕ
  pub inclusive : ℕ

abbrev pub edge : (caller callee calls inclusive : ℕ) → Listed
edge a b c i = record { caller = a; callee = b; calls = c; inclusive = i }

pub record EdgeCase : Type 0 where
  pub program : Program
  pub limits : Limits
  pub edges : List Listed  -- by caller, then by callee

-- under loop limit 0 and a budget that is not met
abbrev pub edge_case : (stack : ℕ) → Program → List Listed → EdgeCase
edge_case n p es = record { program = p; limits = limits_of 0 n 100; edges = es }

-- the edges of a and the functions behind it, whose blocks these are
abbrev pub listed : (a : ℕ) → List Block → List Listed
listed a [] = []
listed a (x ∷ xs) = map (λ (e : Edge). edge a e.callee e.calls e.inclusive) x.edges ++ listed (suc a) xs

abbrev pub expected : EdgeCase → List Listed
expected c = c.edges

-- those of the graph of the run: argument 0 is x, and there is no other
unfoldable pub found : EdgeCase → List Listed
found c = listed 0 (graph_of c.program.functions (trace_of (run c.limits c.program (ascii "x") [] []))).blocks

-- PROGRAMS ----------------------------------------------------------------------------------------------------------

-- f is function 1, g is function 2
abbrev pub with_both : (f g main : Ins) → Program
with_both f g i = record { functions = function "f" f ∷ function "g" g ∷ []; main = i; slots = [] }

abbrev pub call_g_with : Lst → Ins
call_g_with l = call 0 (ascii "g") l

-- what is done with a first argument, and without one: the if, the test and its list are 7 steps
abbrev pub with_argument : (then else : Ins) → Ins
with_argument i j = if 0 (util "test" (two (word "-n") (argument 0 1))) i j

-- THE TABLE ---------------------------------------------------------------------------------------------------------

abbrev pub edge_cases : List EdgeCase
edge_cases =
    -- Exercise A: f is called by main, then by f, then by f, each time inside the time before: 31, 20 and 9 steps. Of the two calls by f only
    -- the first, of 20, is outermost.
    edge_case 3 exercise_a (edge 0 1 1 31 ∷ edge 1 1 2 20 ∷ [])
    -- Under stack limit 2 the third call is turned away, which is no call. The second ends with its list: if, test and list are 7 steps, call and
    -- list 4. The first is 11 steps longer.
    ∷ edge_case 2 exercise_a (edge 0 1 1 22 ∷ edge 1 1 1 11 ∷ [])
    -- g [{f}]: the list is made in main, before g is open. f is the 2 steps of true, g the 4 of echo a. The call's own step and the five that
    -- its list has beside f's (field, embedded, call f, its empty list, empty list) are main's, and in neither edge.
    ∷ edge_case 1 (with_both true! (print "a") (call_g_with (one (embedded 0 call_f)))) (edge 0 1 1 2 ∷ edge 0 2 1 4 ∷ [])
    -- f [a, b], f being g [$2] if it has an argument, and g being f [$1]: f, g, f, g, f, one inside the other, the last f without argument. That
    -- one is 7 steps and 2 of true, 9; g is 4 for its call and list, 13; f is 7 and 4 for its call, 24; so on 28 and 39. The two calls of g by f
    -- are 28 and 13 steps, the two of f by g 24 and 9, and of both the first is outermost. (The edges into f have 63 steps, and f's inclusive
    -- count is 39: it is in a cycle with g.)
    ∷ edge_case 5
    (with_both (with_argument (call_g_with (one (argument 0 2))) true!) (call_with (one (argument 0 1))) (call_with (two (word "a") (word "b"))))
    (edge 0 1 1 39 ∷ edge 1 2 2 28 ∷ edge 2 1 2 24 ∷ [])
    -- f [a], then f []: 7 steps and 4 of echo a, then 7 steps and 2 of true. Neither is inside the other, so 11 and 9 are added. g is never entered.
    ∷ edge_case 1 (with_both (with_argument (print "a") true!) true! (call_with (one (word "a")) ▸ call_f)) (edge 0 1 2 20 ∷ [])
    -- f, then g, f being g: g has 2 steps, by f and by main, and f 2 for its call and list, and those of g. (The edges into g have 4 steps, which
    -- is its inclusive count.)
    ∷ edge_case 2 (with_both (call_g_with nil) true! (call_f ▸ call_g_with nil)) (edge 0 1 1 4 ∷ edge 0 2 1 2 ∷ edge 1 2 1 2 ∷ [])
    ∷ []

abbrev pub EdgeCasesClaim : Type 0
EdgeCasesClaim = map found edge_cases ≡ map expected edge_cases
