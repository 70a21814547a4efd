-- The file as one reads it who knows the format: line by line, each by the word that it begins with.
use Rattle.std.specs.Prelude.{Bool, true, false, cond, ◌&&◌, List, [], ◌∷◌, ◌++◌, ℕ, pred, eqb, leb, length, get_or, drop}
use Rattle.rules.specs.Ascii.{ascii}
use Rattle.rules.specs.Syntax.{Bytes}
use Rattle.rules.specs.Trace.{sum}
use Rattle.rules.specs.Graph.{Edge, Graph}
use Rattle.memory.specs.Layout.{row_from}
use Rattle.text.specs.Claims.{value_behind}

-- LINES -------------------------------------------------------------------------------------------------------------

-- the text cut at every byte 10, `seen` being what was passed of the first line
unfoldable pub lines_behind : (seen : Bytes) → Bytes → List Bytes
lines_behind seen [] = []
lines_behind seen (c ∷ cs) = cond (eqb c 10) (seen ∷ lines_behind [] cs) (lines_behind (seen ++ c ∷ []) cs)

abbrev pub lines_of : Bytes → List Bytes
lines_of s = lines_behind [] s

-- the decimal digits that a text begins with, and what stands behind them
abbrev pub is_digit : (byte : ℕ) → Bool
is_digit c = leb 48 c && leb c 57

unfoldable pub digits_of : Bytes → Bytes
digits_of [] = []
digits_of (c ∷ cs) = cond (is_digit c) (c ∷ digits_of cs) []

unfoldable pub behind_digits : Bytes → Bytes
behind_digits [] = []
behind_digits (c ∷ cs) = cond (is_digit c) (behind_digits cs) (c ∷ cs)

abbrev pub number_of : Bytes → ℕ
number_of s = value_behind 0 (digits_of s)

abbrev pub begins : (word line : Bytes) → Bool
begins [] line = true
begins (c ∷ word) [] = false
begins (c ∷ word) (d ∷ line) = eqb c d && begins word line

-- WHAT A LINE SAYS --------------------------------------------------------------------------------------------------

pub data Said : Type 0 where
  summary : (cost : ℕ) → Said
  totals : (cost : ℕ) → Said
  defines : (id : ℕ) (name : Bytes) → Said
  function : (id : ℕ) → Said
  callee : (id : ℕ) → Said
  calls : (count : ℕ) → Said
  cost : (cost : ℕ) → Said
  other : Said

-- an id ends in a parenthesis; a name may follow
abbrev pub id_said : Bytes → Said
id_said s = cond (begins (ascii ") ") (behind_digits s)) (defines (number_of s) (drop 2 (behind_digits s))) (function (number_of s))

-- the words, and what is made of what stands behind them
abbrev pub words : List (Bytes × (Bytes → Said))
words =
    (ascii "summary: ", λ s. summary (number_of s))
    ∷ (ascii "totals: ", λ s. totals (number_of s))
    ∷ (ascii "fn=(", id_said)
    ∷ (ascii "cfn=(", λ s. callee (number_of s))
    ∷ (ascii "calls=", λ s. calls (number_of s))
    ∷ (ascii "0 ", λ s. cost (number_of s))
    ∷ []

abbrev pub said_by : List (Bytes × (Bytes → Said)) → (line : Bytes) → Said
said_by [] line = other
said_by (row ∷ rows) line = cond (begins row.0 line) (row.1 (drop (length row.0) line)) (said_by rows line)

unfoldable pub said : (line : Bytes) → Said
said line = said_by words line

-- LINE BY LINE ------------------------------------------------------------------------------------------------------

-- whose cost the next line is
pub data Next : Type 0 where
  own : Next
  calls_over : (count : ℕ) → Next

-- where a reader is: the function and the callee named last, by their ids
pub record At : Type 0 where
  pub function : ℕ
  pub callee : ℕ
  pub next : Next

abbrev pub at : (function callee : ℕ) → Next → At
at f b n = record { function = f; callee = b; next = n }

-- what it has read, each with the id of its function
pub record Seen : Type 0 where
  pub summary : ℕ
  pub totals : ℕ
  pub names : List (ℕ × Bytes)
  pub owns : List (ℕ × ℕ)
  pub edges : List (ℕ × Edge)

abbrev pub unread : Seen
unread = record { summary = 0; totals = 0; names = []; owns = []; edges = [] }

abbrev pub after : Said → At → At
after (summary n) p = p
after (totals n) p = p
after (defines id name) p = at id p.callee own
after (function id) p = at id p.callee own
after (callee id) p = at p.function id p.next
after (calls n) p = at p.function p.callee (calls_over n)
after (cost n) p = at p.function p.callee own
after other p = p

-- a line's cost, in front of what the later lines say; ids are from 1 on, functions from 0, which is main
abbrev pub costed : Next → (function callee cost : ℕ) → Seen → Seen
costed own f b n s = record { summary = s.summary; totals = s.totals; names = s.names; owns = (f, n) ∷ s.owns; edges = s.edges }
costed (calls_over k) f b n s = record {
  summary = s.summary;
  totals = s.totals;
  names = s.names;
  owns = s.owns;
  edges = (f, record { callee = pred b; calls = k; inclusive = n }) ∷ s.edges;
}

abbrev pub noted : Said → At → Seen → Seen
noted (summary n) p s = record { summary = n; totals = s.totals; names = s.names; owns = s.owns; edges = s.edges }
noted (totals n) p s = record { summary = s.summary; totals = n; names = s.names; owns = s.owns; edges = s.edges }
noted (defines id name) p s = record { summary = s.summary; totals = s.totals; names = (id, name) ∷ s.names; owns = s.owns; edges = s.edges }
noted (function id) p s = s
noted (callee id) p s = s
noted (calls n) p s = s
noted (cost n) p s = costed p.next p.function p.callee n s
noted other p s = s

unfoldable pub read_from : At → List Bytes → Seen
read_from p [] = unread
read_from p (line ∷ lines) = noted (said line) p (read_from (after (said line) p) lines)

abbrev pub seen_in : Bytes → Seen
seen_in s = read_from (at 0 0 own) (lines_of s)

-- THE GRAPH ---------------------------------------------------------------------------------------------------------

-- what was read of an id
unfoldable pub those : {A : Type 0} → (id : ℕ) → List (ℕ × A) → List A
those id [] = []
those id (x ∷ xs) = cond (eqb x.0 id) (x.1 ∷ []) [] ++ those id xs

-- a function for every name, main's first; the costs of one function are added up
unfoldable pub graph_of_seen : Seen → Graph
graph_of_seen s = record {
  steps = s.summary;
  names = row_from (pred (length s.names)) (λ id. get_or (those id s.names) 0 []) 2;
  blocks = row_from (length s.names) (λ id. record { own = sum (those id s.owns); edges = those id s.edges }) 1;
}

abbrev pub read_file : Bytes → Graph
read_file s = graph_of_seen (seen_in s)

abbrev pub totals_read : Bytes → ℕ
totals_read s = (seen_in s).totals
