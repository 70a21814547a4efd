-- The counters of work memory, and what a trace adds to them.
use Rattle.std.specs.Prelude.{ℕ, zero, suc, ◌+◌, ◌%◌, ◌<◌, ◌≤◌, ◌≡◌, Bool, true, false, cond, List, [], ◌∷◌, get_or, length, eqb}
use Rattle.rules.specs.Trace.{Trace, timeline, count, innermost, lengths, outermost, sum}
use Rattle.rules.specs.Trace.{own as own_of, entered as entered_of, inclusive as inclusive_of}
use Rattle.rules.specs.Edges.{lengths_over, outermost_over}
use Rattle.rules.specs.Edges.{calls as calls_of, edge as edge_of}
use Rattle.memory.specs.Layout.{Same, Only, number_at, counter_place, entered_place, own_place, inclusive_place, edge_place, edge_calls_place, edge_steps_place}
use Rattle.memory.specs.declared.Opened.{Opened}

-- WHAT THE OPERATIONS DO --------------------------------------------------------------------------------------------

-- the number at a has grown, modulo what four bytes hold
pub record Counted (a by : ℕ) (w w' : List ℕ) : Type 0 where
  pub number : number_at w' a ≡ (number_at w a + by) % 4294967296
  pub only : Only a (a + 4) w w'

-- A cell counts calls of one sort: those of a function, or those over an edge. It begins at c with their number, four bytes; l bytes from c
-- stand the steps of the outermost of them, four bytes; and behind those a flag, a byte, not 0 while an outermost one is open.

-- a call has begun: one more; `outermost` if none was open, and then the flag is set
pub record CellBegun (c l : ℕ) (w w' : List ℕ) (outermost : Bool) : Type 0 where
  pub first : outermost ≡ eqb (get_or w (c + l + 4) 0) 0
  pub number : number_at w' c ≡ (number_at w c + 1) % 4294967296
  pub flag : get_or w' (c + l + 4) 0 ≡ cond outermost 1 (get_or w (c + l + 4) 0)
  pub between : Same (c + 4) (c + l + 4) w w'
  pub only : Only c (c + l + 5) w w'

-- the outermost call has ended: its length is added, the flag is cleared
pub record CellShut (c l length : ℕ) (w w' : List ℕ) : Type 0 where
  pub steps : number_at w' (c + l) ≡ (number_at w (c + l) + length) % 4294967296
  pub flag : get_or w' (c + l + 4) 0 ≡ 0
  pub only : Only (c + l) (c + l + 5) w w'

-- a call has ended; an inner one leaves everything as it was
abbrev pub CellClosed : (c l : ℕ) (outermost : Bool) (steps : ℕ) (w w' : List ℕ) → Type 0
CellClosed c l true steps w w' = CellShut c l steps w w'
CellClosed c l false steps w w' = w' ≡ w

-- of function f
abbrev pub Begun : (f : ℕ) (w w' : List ℕ) (outermost : Bool) → Type 0
Begun f w w' outermost = CellBegun (counter_place f) 8 w w' outermost

abbrev pub Closed : (f : ℕ) (outermost : Bool) (steps : ℕ) (w w' : List ℕ) → Type 0
Closed f outermost steps w w' = CellClosed (counter_place f) 8 outermost steps w w'

-- over the edge from a to b
abbrev pub EdgeBegun : (a b : ℕ) (w w' : List ℕ) (outermost : Bool) → Type 0
EdgeBegun a b w w' outermost = CellBegun (edge_place a b) 4 w w' outermost

abbrev pub EdgeClosed : (a b : ℕ) (outermost : Bool) (steps : ℕ) (w w' : List ℕ) → Type 0
EdgeClosed a b outermost steps w w' = CellClosed (edge_place a b) 4 outermost steps w w'

-- a call of b that a opened has begun, and has ended: both cells count it
pub record CallBegun (a b : ℕ) (w w' : List ℕ) (o : Opened) : Type 0 where
  pub between : List ℕ
  pub edge : EdgeBegun a b w between o.edge
  pub function : Begun b between w' o.function

pub record CallEnded (a b : ℕ) (o : Opened) (steps : ℕ) (w w' : List ℕ) : Type 0 where
  pub between : List ℕ
  pub function : Closed b o.function steps w between
  pub edge : EdgeClosed a b o.edge steps between w'

-- WHAT A TRACE ADDS -------------------------------------------------------------------------------------------------

-- the number at a has grown, where it fits four bytes
pub record Grown (a by : ℕ) (w w' : List ℕ) : Type 0 where
  pub grown : number_at w a + by < 4294967296 → number_at w' a ≡ number_at w a + by

-- n, or nothing while an outermost call is open
abbrev pub sum_if_shut : (flag n : ℕ) → ℕ
sum_if_shut zero n = n
sum_if_shut (suc flag) n = 0

-- a cell has counted so many calls, the outermost of which took so many steps
pub record CellGrown (c l calls taken : ℕ) (w w' : List ℕ) : Type 0 where
  pub number : Grown c calls w w'
  pub steps : Grown (c + l) (sum_if_shut (get_or w (c + l + 4) 0) taken) w w'
  pub flag : get_or w' (c + l + 4) 0 ≡ get_or w (c + l + 4) 0

-- the trace t was made, with `function` as the innermost open one around it
pub record Charged (function : ℕ) (t : Trace) (w w' : List ℕ) : Type 0 where
  pub own : (f : ℕ) → f ≤ 32 → Grown (own_place f) (count (innermost f) (timeline (function ∷ []) t)) w w'
  pub functions : (f : ℕ) → f ≤ 32 → CellGrown (counter_place f) 8 (length (lengths f t)) (sum (outermost f t)) w w'
  pub edges : (a b : ℕ) → a ≤ 32 → 0 < b → b ≤ 32
      → CellGrown (edge_place a b) 4 (length (lengths_over a b (function ∷ []) t)) (sum (outermost_over a b (function ∷ []) t)) w w'

-- the counters are the profile of t, and the edges those of t
pub record Profiled (t : Trace) (w : List ℕ) : Type 0 where
  pub own : (f : ℕ) → f ≤ 32 → number_at w (own_place f) ≡ own_of f t
  pub entered : (f : ℕ) → f ≤ 32 → number_at w (entered_place f) ≡ entered_of f t
  pub inclusive : (f : ℕ) → f ≤ 32 → number_at w (inclusive_place f) ≡ inclusive_of f t
  pub calls : (a b : ℕ) → a ≤ 32 → 0 < b → b ≤ 32 → number_at w (edge_calls_place a b) ≡ calls_of a b t
  pub edges : (a b : ℕ) → a ≤ 32 → 0 < b → b ≤ 32 → number_at w (edge_steps_place a b) ≡ edge_of a b t
