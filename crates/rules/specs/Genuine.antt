-- What is so of every trace that a program makes: every step is the beginning of one of its records; every call stands right after a call
-- record and its list, and holds what the body of the function called did, from some state; and no more calls are open than allowed.
-- Beside calls it says nothing of the order of the records: that is for the rules alone to say.
use Rattle.std.specs.Prelude.{◌≡◌, List, [], ◌∷◌, ℕ, suc}
use Rattle.rules.specs.declared.Behaviour.{Behaviour}
use Rattle.rules.specs.declared.Refusal.{Refusal}
use Rattle.rules.specs.Lists.{Among}
use Rattle.rules.specs.Syntax.{Bytes, Function, Program, str_place, lst_place, ins_place}
use Rattle.rules.specs.Syntax.{Str, text, variable, argument, embedded, join}
use Rattle.rules.specs.Syntax.{Lst, empty, field, split}
use Rattle.rules.specs.Syntax.{Ins, assign, export, sequence, subshell, not, if, nooutput, pipe, utility, call, for, while, exit, return, shift}
use Rattle.rules.specs.Trace.{Trace, end, step, ◌⨾◌, opened}
use Rattle.rules.specs.State.{Limits, State, Inherited, value, refused, ended, set_arguments}
use Rattle.rules.specs.Words.{known, find}
use Rattle.rules.specs.Refusals.{one_more_hold, named}
use Rattle.rules.specs.Evaluation.{eval_ins, eval_lst, enter_at}

-- RECORDS -----------------------------------------------------------------------------------------------------------

-- what can be evaluated
pub data Node : Type 0 where
  str : Str → Node
  lst : Lst → Node
  ins : Ins → Node

-- its record
abbrev pub record_of : Node → ℕ
record_of (str s) = str_place s
record_of (lst l) = lst_place l
record_of (ins i) = ins_place i

-- its parts
abbrev pub children : Node → List Node
children (str (text at s)) = []
children (str (variable at x)) = []
children (str (argument at n)) = []
children (str (embedded at i)) = ins i ∷ []
children (str (join at s t)) = str s ∷ str t ∷ []
children (lst (empty at)) = []
children (lst (field at s l)) = str s ∷ lst l ∷ []
children (lst (split at s l)) = str s ∷ lst l ∷ []
children (ins (assign at x s)) = str s ∷ []
children (ins (export at x)) = []
children (ins (sequence at i j)) = ins i ∷ ins j ∷ []
children (ins (subshell at i)) = ins i ∷ []
children (ins (not at i)) = ins i ∷ []
children (ins (if at i j k)) = ins i ∷ ins j ∷ ins k ∷ []
children (ins (nooutput at i)) = ins i ∷ []
children (ins (pipe at i j)) = ins i ∷ ins j ∷ []
children (ins (utility at name l)) = lst l ∷ []
children (ins (call at name l)) = lst l ∷ []
children (ins (for at x l i)) = lst l ∷ ins i ∷ []
children (ins (while at i j)) = ins i ∷ ins j ∷ []
children (ins (exit at c)) = []
children (ins (return at c)) = []
children (ins (shift at n)) = []

-- what belongs to a program: main's instruction, the functions' bodies, and their parts
pub data Reached (program : Program) : Node → Type 0 where
  from_main : Reached program (ins program.main)
  from_body : (g : Function) → Among g program.functions → Reached program (ins g.body)
  from_parent : {parent n : Node} → Reached program parent → Among n (children parent) → Reached program n

-- TRACES ------------------------------------------------------------------------------------------------------------

-- the first thing in a trace is the beginning of the record
abbrev pub Begins : (at : ℕ) → Trace → Type 0
Begins at end = ⊥
Begins at (step r t) = r ≡ at
Begins at (Trace.call f inside t) = ⊥

-- so it is, or nothing was done
abbrev pub BeginsIfAny : (at : ℕ) → Trace → Type 0
BeginsIfAny at end = Unit {0}
BeginsIfAny at (step r t) = r ≡ at
BeginsIfAny at (Trace.call f inside t) = ⊥

module _ (limits : Limits) (program : Program) where
  -- A call that was entered, with `left` more allowed inside it: its list came to fields, doing u, and with the fields as arguments the
  -- body of g ran to its end, doing v.
  pub record Ran (left : ℕ) (list : Lst) (g : Function) (u v : Trace) : Type 0 where
    pub inherited : Inherited
    pub before : State
    pub fields : List Bytes
    pub between : State
    pub behaviour : Behaviour
    pub after : State
    pub list_came : eval_lst limits program.functions (enter_at limits program.functions (suc left)) list [] inherited before
        ≡ ended (value fields) between u
    pub body_ran : eval_ins limits program.functions (enter_at limits program.functions left) g.body
        (named g.name (one_more_hold inherited)) (set_arguments fields between)
        ≡ ended behaviour after v

  -- A call in which the run was refused, for `why` and at `place`: as before, but the body of g was refused, having done v.
  pub record RanSoFar (why : Refusal) (place : ℕ) (left : ℕ) (list : Lst) (g : Function) (u v : Trace) : Type 0 where
    pub inherited : Inherited
    pub before : State
    pub fields : List Bytes
    pub between : State
    pub list_came : eval_lst limits program.functions (enter_at limits program.functions (suc left)) list [] inherited before
        ≡ ended (value fields) between u
    pub body_refused : eval_ins limits program.functions (enter_at limits program.functions left) g.body
        (named g.name (one_more_hold inherited)) (set_arguments fields between)
        ≡ refused why place v

  -- Of what was done to its end, when `left` more calls may be opened.
  pub data Genuine : (left : ℕ) → Trace → Type 0 where
    nothing : {left : ℕ} → Genuine left end
    -- a record of the program begins
    begun : {left : ℕ} (n : Node) (t : Trace) → Reached program n → Genuine left t → Genuine left (step (record_of n) t)
    -- a call record begins, then its list is evaluated, and then the function of its name is open, beginning with its body
    called : {left : ℕ} (at : ℕ) (name : Bytes) (list : Lst) (f : ℕ) (g : Function) (u v t : Trace)
        → Reached program (ins (call at name list))
        → find name 1 program.functions ≡ known f g
        → Ran left list g u v
        → Genuine (suc left) u
        → Begins (record_of (ins g.body)) v
        → Genuine left v
        → Genuine (suc left) t
        → Genuine (suc left) (step at (u ⨾ Trace.call f v t))

  -- Of what was done before a refusal: the calls that are open then, each inside the one before, are the last thing done, and their bodies
  -- were refused alike.
  pub data Unfinished (why : Refusal) (place : ℕ) : (left : ℕ) → Trace → Type 0 where
    -- none of these calls is open
    halted : {left : ℕ} (t : Trace) → Genuine left t → Unfinished why place left t
    -- after t a call record began and its list was evaluated; the function of its name is open, beginning with its body
    within : {left : ℕ} (at : ℕ) (name : Bytes) (list : Lst) (f : ℕ) (g : Function) (t u v : Trace)
        → Genuine (suc left) t
        → Reached program (ins (call at name list))
        → find name 1 program.functions ≡ known f g
        → RanSoFar why place left list g u v
        → Genuine (suc left) u
        → Begins (record_of (ins g.body)) v
        → Unfinished why place left v
        → Unfinished why place (suc left) (t ⨾ step at (u ⨾ Trace.call f v end))

  -- the trace of a run that ended: main is open throughout and begins with its instruction, and the stack limit bounds the calls
  pub record MadeBy (t : Trace) : Type 0 where
    pub inside : Trace
    pub is_main : t ≡ Trace.call 0 inside end
    pub begins : Begins (record_of (ins program.main)) inside
    pub genuine : Genuine limits.stack inside

  -- the trace of a run that was refused: the same, main being still open, unless its first record was refused
  pub record MadeSoFar (why : Refusal) (place : ℕ) (t : Trace) : Type 0 where
    pub inside : Trace
    pub is_main : t ≡ opened 0 inside
    pub begins : BeginsIfAny (record_of (ins program.main)) inside
    pub unfinished : Unfinished why place limits.stack inside
