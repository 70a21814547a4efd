-- What the evaluators are given, and what they promise: their answer and the later work memory are what the rules say.
use Rattle.std.specs.Prelude.{◌≡◌, Bool, true, List, ◌++◌, ℕ, ◌+◌, ◌*◌, ◌<◌, ◌≤◌, ◌⊎◌, min, length, take}
use Rattle.rules.specs.declared.Behaviour.{Behaviour}
use Rattle.rules.specs.declared.Behaviour.TheVariants.{Return, Exit}
use Rattle.rules.specs.declared.Refusal.{Refusal}
use Rattle.rules.specs.Syntax.{Bytes}
use Rattle.rules.specs.Trace.{Trace}
use Rattle.rules.specs.Syntax.{Slot}
use Rattle.rules.specs.State.{Inherited, Evaluated, error, value, Outcome, ended, refused, and_then, result, set_input, set_context}
use Rattle.rules.specs.Words.{Utility}
use Rattle.rules.specs.Refusals.{Means, Meaning, one_more_hold}
use Rattle.rules.specs.Rules.{finish_unless_failure, enter_rule, for_each, run_utility}
use Rattle.sheet.specs.Check.{count}
use Rattle.sheet.specs.Filled.{Loaded, IsIns, IsStr, IsLst, in_record, text_in, named_in, body_in}
use Rattle.memory.specs.Layout.{part, Same, Only, fields_at, list_place, string_place, stream_place, counters_end}
use Rattle.memory.specs.Abstract.{state_of, Roomy, Placed, Fits, Kept}
use Rattle.memory.specs.Profile.{Charged}
use Rattle.memory.specs.declared.Given.{Given}
use Rattle.memory.specs.Scope.{Scope}
use Rattle.memory.specs.declared.Course.{Course}
use Rattle.engine.specs.Values.{RunEnd}
use Rattle.engine.specs.Meaning.{known_of, limits_given, handed, ins_at, str_at, lst_at, ins_rule_at, str_rule_at, lst_rule_at}
use Rattle.engine.specs.Values.{Text, Listing}

-- WHAT IS GIVEN -------------------------------------------------------------------------------------------------------

-- s the sheet, i the standard input, w the work memory
pub record Ready (s i w : Bytes) (g : Given) (e : Scope) (c : Course) : Type 0 where
  pub loaded : Loaded s (known_of s) w
  pub roomy : Roomy g w
  -- a text of the sheet is a string
  pub wide : 64 ≤ g.unit
  pub slots : g.slots ≡ length (known_of s).variables
  pub placed : Placed e
  pub function : e.function ≤ length (known_of s).functions
  pub fits : Fits i g e c

-- record r is an instruction, a string, a list; of kind k
abbrev pub Instruction : Bytes → ℕ → Type 0
Instruction s r = IsIns (known_of s) r

abbrev pub String : Bytes → ℕ → Type 0
String s r = IsStr (known_of s) r

abbrev pub ListOf : Bytes → ℕ → Type 0
ListOf s r = IsLst (known_of s) r

pub record OfKind (s w : Bytes) (r k : ℕ) : Type 0 where
  pub known : r < count (known_of s)
  pub kind : in_record s w r 2 ≡ k

-- record r is an exit or a return, and this is its behaviour
abbrev pub Leaves : (s w : Bytes) → (r : ℕ) → Behaviour → Type 0
Leaves s w r b = (OfKind s w r 28 × (b ≡ Exit)) ⊎ (OfKind s w r 29 × (b ≡ Return))

-- WHAT IS PROMISED ----------------------------------------------------------------------------------------------------

-- a course goes on: steps and output grow, arguments and input are used up
pub record Onward (g : Given) (c c' : Course) : Type 0 where
  pub used : c.used ≤ c'.used
  pub longer : c.length ≤ c'.length
  pub short : c.length ≤ 1024 → c'.length ≤ 1024
  pub low : c.arguments ≤ c'.arguments
  pub high : c'.arguments + g.unit * c'.count ≤ c.arguments + g.unit * c.count
  pub count : c'.count ≤ c.count
  pub from : c'.from ≡ c.from
  pub rest : c'.rest ≤ c.rest

-- an evaluation came to an answer: the rules' outcome o is that answer, in the state that memory now stands for
pub record Came {A : Type 0} (i : Bytes) (g : Given) (e : Scope) (w : Bytes) (c : Course) (o : Outcome A) (a : A) (w' : Bytes) (c' : Course) : Type 0 where
  pub trace : Trace
  pub eq : o ≡ ended a (state_of i w' g e c') trace
  pub charged : Charged e.function trace w w'
  pub kept : Kept g e c.length w w'
  pub onward : Onward g c c'

-- it was refused, after what the trace tells: the run ends, and of work memory only the size is promised
pub record Stopped {A : Type 0} (o : Outcome A) (why : Refusal) (place : ℕ) (w w' : Bytes) : Type 0 where
  pub trace : Trace
  pub eq : o ≡ refused why place trace
  pub size : length w' ≡ length w
  -- a sheet has no more records
  pub known : place < 512

-- an instruction
abbrev pub RanBy : (i : Bytes) → Given → Scope → (w : Bytes) → Course → Outcome Behaviour → (w' : Bytes) → RunEnd → Type 0
RanBy i g e w c o w' (RunEnd.Ended b c') = Came i g e w c o b w' c'
RanBy i g e w c o w' (RunEnd.Refused why place) = Stopped o why place w w'

pub record Ran (i : Bytes) (g : Given) (e : Scope) (w : Bytes) (c : Course) (o : Outcome Behaviour) (w' : Bytes) (a : RunEnd) : Type 0 where
  pub by : RanBy i g e w c o w' a

-- a string's value, m bytes behind the first n of the string in work, as far as they are kept
pub record Valued (i : Bytes) (g : Given) (e : Scope) (w : Bytes) (c : Course) (n : ℕ) (o : Outcome (Evaluated (Bytes × Bool))) (m : ℕ) (flag : Bool) (w' : Bytes) (c' : Course) : Type 0 where
  pub bytes : Bytes
  pub size : length bytes ≡ m
  pub short : m < g.unit
  pub came : Came i g e w c o (value (bytes, flag)) w' c'
  pub text : part w' (string_place g.unit e.holds) (min g.unit (n + m)) ≡ take g.unit (part w (string_place g.unit e.holds) n ++ bytes)
  pub list : Same (list_place g.unit (e.holds + 1)) (list_place g.unit (e.holds + 2)) w w'

abbrev pub RanTextBy : (i : Bytes) → Given → Scope → (w : Bytes) → Course → (n : ℕ) → Outcome (Evaluated (Bytes × Bool)) → (w' : Bytes) → Text → Type 0
RanTextBy i g e w c n o w' (Text.Value m flag c') = Valued i g e w c n o m flag w' c'
RanTextBy i g e w c n o w' (Text.Error c') = Came i g e w c o error w' c'
RanTextBy i g e w c n o w' (Text.Refused why place) = Stopped o why place w w'

pub record RanText (i : Bytes) (g : Given) (e : Scope) (w : Bytes) (c : Course) (n : ℕ) (o : Outcome (Evaluated (Bytes × Bool))) (w' : Bytes) (a : Text) : Type 0 where
  pub by : RanTextBy i g e w c n o w' a

-- a list's fields: those that stand in the list of this hold level
pub record FieldsMade (i : Bytes) (g : Given) (e : Scope) (w : Bytes) (c : Course) (o : Outcome (Evaluated (List Bytes))) (m : ℕ) (w' : Bytes) (c' : Course) : Type 0 where
  pub few : m ≤ 16
  pub came : Came i g e w c o (value (fields_at g.unit w' (list_place g.unit (e.holds + 1)) m)) w' c'

abbrev pub RanListBy : (i : Bytes) → Given → Scope → (w : Bytes) → Course → Outcome (Evaluated (List Bytes)) → (w' : Bytes) → Listing → Type 0
RanListBy i g e w c o w' (Listing.Fields m c') = FieldsMade i g e w c o m w' c'
RanListBy i g e w c o w' (Listing.Error c') = Came i g e w c o error w' c'
RanListBy i g e w c o w' (Listing.Refused why place) = Stopped o why place w w'

pub record RanList (i : Bytes) (g : Given) (e : Scope) (w : Bytes) (c : Course) (o : Outcome (Evaluated (List Bytes))) (w' : Bytes) (a : Listing) : Type 0 where
  pub by : RanListBy i g e w c o w' a

-- THE SAME FOR A RECORD -----------------------------------------------------------------------------------------------

-- the meaning m, from what is handed down and from the state
unfoldable pub does : {A : Type 0} → (s i w : Bytes) → Given → Scope → Course → Means A → Outcome A
does s i w g e c m = m (handed s w g e) (state_of i w g e c)

abbrev pub InsDone : (s i w : Bytes) → Given → Scope → Course → (r : ℕ) → (w' : Bytes) → RunEnd → Type 0
InsDone s i w g e c r w' a = Ran i g e w c (does s i w g e c (ins_at s g e.calls r)) w' a

abbrev pub InsRuled : (s i w : Bytes) → Given → Scope → Course → (r : ℕ) → (w' : Bytes) → RunEnd → Type 0
InsRuled s i w g e c r w' a = Ran i g e w c (does s i w g e c (ins_rule_at s g e.calls r)) w' a

abbrev pub StrDone : (s i w : Bytes) → Given → Scope → Course → (r : ℕ) → Bool → (n : ℕ) → (w' : Bytes) → Text → Type 0
StrDone s i w g e c r flag n w' a = RanText i g e w c n (does s i w g e c (str_at s g e.calls r flag)) w' a

abbrev pub StrRuled : (s i w : Bytes) → Given → Scope → Course → (r : ℕ) → Bool → (n : ℕ) → (w' : Bytes) → Text → Type 0
StrRuled s i w g e c r flag n w' a = RanText i g e w c n (does s i w g e c (str_rule_at s g e.calls r flag)) w' a

-- the fields so far: the first m of the list of this hold level
abbrev pub so_far : (w : Bytes) → Given → Scope → (m : ℕ) → List Bytes
so_far w g e m = fields_at g.unit w (list_place g.unit (e.holds + 1)) m

abbrev pub LstDone : (s i w : Bytes) → Given → Scope → Course → (r m : ℕ) → (w' : Bytes) → Listing → Type 0
LstDone s i w g e c r m w' a = RanList i g e w c (does s i w g e c (lst_at s g e.calls r (so_far w g e m))) w' a

abbrev pub LstRuled : (s i w : Bytes) → Given → Scope → Course → (r m : ℕ) → (w' : Bytes) → Listing → Type 0
LstRuled s i w g e c r m w' a = RanList i g e w c (does s i w g e c (lst_rule_at s g e.calls r (so_far w g e m))) w' a

-- PARTS OF THE RULES THAT HAVE A FUNCTION OF THEIR OWN ------------------------------------------------------------------

-- the bytes s went behind the first n of the string in work at a, as far as they are kept; there are r of them
pub record Appends (u a n : ℕ) (s : Bytes) (w w' : Bytes) (r : ℕ) : Type 0 where
  pub size : r ≡ length s
  pub kept : part w' a (min u (n + r)) ≡ take u (part w a n ++ s)
  pub only : Only (a + n) (a + u) w w'

-- argument 0 of function f can be read, and there is room for it
pub record Zero (s w : Bytes) (u f a n : ℕ) : Type 0 where
  pub loaded : Loaded s (known_of s) w
  pub function : f ≤ length (known_of s).functions
  pub unit : 0 < u
  pub small : u ≤ 256
  pub low : counters_end ≤ a
  pub room : a + u ≤ length w
  pub first : n ≤ u

-- a pipe's second side: it reads the n bytes of the stream above, and ends the pipe
unfoldable pub into_rule : (second : Meaning) → (piped : Bytes) → Meaning
into_rule second piped h s =
    and_then (second (one_more_hold h) (set_input piped s))
    (λ b after. finish_unless_failure h b (result after) (set_input s.input (set_context s.context after)))

pub record Into (s : Bytes) (e : Scope) (b n : ℕ) : Type 0 where
  pub second : Instruction s b
  pub hold : e.holds < 10
  pub short : n ≤ 1024

abbrev pub Piped : (s i w : Bytes) → Given → Scope → Course → (b n : ℕ) → (w' : Bytes) → RunEnd → Type 0
Piped s i w g e c b n w' a = Ran i g e w c (does s i w g e c (into_rule (ins_at s g e.calls b) (part w (stream_place g.unit e.streams) n))) w' a

-- a call of f that can be opened at record r, with m arguments
pub record Enters (s : Bytes) (g : Given) (e : Scope) (f m : ℕ) : Type 0 where
  pub positive : 0 < f
  pub function : f ≤ length (known_of s).functions
  pub hold : e.holds < 10
  pub stack : e.calls < g.stack
  pub few : m ≤ 16

abbrev pub Entered : (s i w : Bytes) → Given → Scope → Course → (r f m : ℕ) → (w' : Bytes) → RunEnd → Type 0
Entered s i w g e c r f m w' a = Ran i g e w c
    (does s i w g e c (enter_rule (limits_given g) r f (text_in s w (named_in w f)) (ins_at s g (e.calls + 1) (body_in w f)) (so_far w g e m))) w' a

-- a for over m fields
pub record Iterates (s : Bytes) (e : Scope) (x b m : ℕ) : Type 0 where
  pub slot : x < length (known_of s).variables
  pub body : Instruction s b
  pub hold : e.holds < 10
  pub few : m ≤ 16

unfoldable pub each_rule : Slot → (body : Meaning) → (fields : List Bytes) → Meaning
each_rule x body fields h = for_each x (body (one_more_hold h)) true fields

abbrev pub Iterated : (s i w : Bytes) → Given → Scope → Course → (x b m : ℕ) → (w' : Bytes) → RunEnd → Type 0
Iterated s i w g e c x b m w' a = Ran i g e w c (does s i w g e c (each_rule x (ins_at s g e.calls b) (so_far w g e m))) w' a

-- a utility of record r with m fields
pub record Acts (i w : Bytes) (g : Given) (e : Scope) (c : Course) (r m : ℕ) : Type 0 where
  pub roomy : Roomy g w
  pub placed : Placed e
  pub fits : Fits i g e c
  pub known : r < 512
  pub few : m ≤ 16

abbrev pub Acted : (i w : Bytes) → Given → Scope → Course → (r : ℕ) → Utility → (m : ℕ) → (w' : Bytes) → RunEnd → Type 0
Acted i w g e c r u m w' a = (h : Inherited) → h.condition ≡ e.condition
    → Ran i g e w c (run_utility (limits_given g) r u (so_far w g e m) h (state_of i w g e c)) w' a
