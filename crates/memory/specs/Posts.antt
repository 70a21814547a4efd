-- What the operations promise.
use Rattle.std.specs.Prelude.{Option, Some, None, ℕ, ◌+◌, ◌*◌, ◌<◌, ◌≤◌, ◌≡◌, Bool, true, false, not, List, [], ◌∷◌, ◌++◌, get_or, length, take, ltb}
use Rattle.rules.specs.Syntax.{Bytes}
-- a counter is four bytes
pub use Rattle.rules.specs.Numbers.{four_bytes}
use Rattle.rules.specs.Words.{embedded_value, assigned, marked, bytes_of, is_blank}
use Rattle.memory.specs.Layout.{part, Only, Put, fields_at, value_at, variables_at}
use Rattle.memory.specs.declared.Source.{Source}
use Rattle.memory.specs.declared.Source.TheVariants.{Text, Variable}

-- a text of the sheet, or the value of the variable at `slot`
unfoldable pub looked : ℕ → (sheet work : List ℕ) → Source → Bytes
looked u sheet work (Text at n) = part sheet at n
looked u sheet work (Variable slot) = bytes_of (value_at u work slot)

-- it lies in the memory that it is read from
abbrev pub InReach : ℕ → (sheet work : List ℕ) → Source → Type 0
InReach u sheet work (Text at n) = at + n ≤ length sheet
InReach u sheet work (Variable slot) = slot + 2 + u ≤ length work

-- a level of variables lies in w, above the names
pub record Level (u : ℕ) (w : List ℕ) (a : ℕ) : Type 0 where
  pub above : 1024 ≤ a
  pub unit : 0 < u
  pub small : u ≤ 256
  pub room : a + 16 * (u + 2) ≤ length w

-- variable x of the level at a has got the value s
pub record Assigned (u a x : ℕ) (s : Bytes) (w w' : List ℕ) : Type 0 where
  pub variables : (n : ℕ) → x < n → n ≤ 16 → variables_at u w' a n ≡ assigned x s (variables_at u w a n)
  pub put : Put (a + (u + 2) * x + 1) (1 ∷ length s ∷ s) w w'
  pub only : Only (a + (u + 2) * x) (a + (u + 2) * x + (u + 2)) w w'

-- variable x of the level at a has got the mark
pub record Marked (u a x : ℕ) (w w' : List ℕ) : Type 0 where
  pub variables : (n : ℕ) → x < n → n ≤ 16 → variables_at u w' a n ≡ marked x (variables_at u w a n)
  pub put : Put (a + (u + 2) * x) (1 ∷ []) w w'
  pub only : Only (a + (u + 2) * x) (a + (u + 2) * x + (u + 2)) w w'

-- the level above a has the variables of a
pub record Raised (u a : ℕ) (w w' : List ℕ) : Type 0 where
  pub variables : (n : ℕ) → n ≤ 16 → variables_at u w' (a + 16 * (u + 2)) n ≡ variables_at u w a n
  pub put : Put (a + 16 * (u + 2)) (part w a (16 * (u + 2))) w w'
  pub only : Only (a + 16 * (u + 2)) (a + 32 * (u + 2)) w w'

-- the string in work at a, of n bytes, has got s behind it, as far as u bytes; it has r bytes now
pub record Appended (u a n : ℕ) (s : Bytes) (w w' : List ℕ) (r : ℕ) : Type 0 where
  pub kept : part w' a r ≡ take u (part w a n ++ s)
  pub fits : r ≤ u
  pub only : Only (a + n) (a + r) w w'

-- of the n bytes of the stream at a the first r are the value of the embedded command that wrote them
pub record Cut (a n : ℕ) (w : List ℕ) (r : ℕ) : Type 0 where
  pub value : part w a r ≡ embedded_value (part w a n)
  pub fits : r ≤ n

-- the list at a has got the field s as its field i
pub record Added (u a i : ℕ) (s : Bytes) (w w' : List ℕ) : Type 0 where
  pub fields : fields_at u w' a (i + 1) ≡ fields_at u w a i ++ s ∷ []
  pub put : Put (a + u * i) (length s ∷ s) w w'
  pub only : Only (a + u * i) (a + u * i + u) w w'

-- the stream at a, of n bytes, has got s behind it
pub record Longer (a n : ℕ) (s : Bytes) (w w' : List ℕ) (r : ℕ) : Type 0 where
  pub fits : n + length s ≤ 1024
  pub count : r ≡ n + length s
  pub bytes : part w' a r ≡ part w a n ++ s
  pub only : Only (a + n) (a + n + length s) w w'

-- it has no room for that, and has got nothing
pub record Full (n : ℕ) (s : Bytes) (w w' : List ℕ) : Type 0 where
  pub over : 1024 < n + length s
  pub size : length w' ≡ length w
  pub kept : w' ≡ w

-- it has no room for that, and was written beyond its end: the run is refused
pub record Overrun (a n : ℕ) (s : Bytes) (w w' : List ℕ) : Type 0 where
  pub over : 1024 < n + length s
  pub size : length w' ≡ length w
  pub put : Put (a + n) s w w'

-- bytes copied to a stream, which are measured first
abbrev pub Copied : (a n : ℕ) (s : Bytes) (w w' : List ℕ) → Option ℕ → Type 0
Copied a n s w w' (Some r) = Longer a n s w w' r
Copied a n s w w' None = Full n s w w'

-- bytes written to a stream, which is measured afterwards
abbrev pub Streamed : (a n : ℕ) (s : Bytes) (w w' : List ℕ) → Option ℕ → Type 0
Streamed a n s w w' (Some r) = Longer a n s w w' r
Streamed a n s w w' None = Overrun a n s w w'

-- from i to r there are only blanks, and none at r; or no blanks, and one at r
pub record Run (blank : Bool) (s : List ℕ) (i e r : ℕ) : Type 0 where
  pub from : i ≤ r
  pub to : r ≤ e
  pub all : (k : ℕ) → i ≤ k → k < r → is_blank (get_or s k 0) ≡ blank
  pub stops : r < e → is_blank (get_or s r 0) ≡ not blank

-- the fields ss were put into the list at a, from field m on
pub data Laid (u a m : ℕ) (w : List ℕ) : List Bytes → List ℕ → Type 0 where
  none : Laid u a m w [] w
  behind : {ss : List Bytes} {s : Bytes} {v w' : List ℕ} → Laid u a m w ss v → Put (a + u * (m + length ss)) (length s ∷ s) v w'
      → Laid u a m w (ss ++ s ∷ []) w'

-- the list at a, of m fields, has got the fields ss behind them; it has r fields now
pub record Grown (u a m : ℕ) (ss : List Bytes) (w w' : List ℕ) (r : ℕ) : Type 0 where
  pub fields : fields_at u w' a r ≡ fields_at u w a m ++ ss
  pub count : r ≡ m + length ss
  pub laid : Laid u a m w ss w'
  pub only : Only (a + u * m) (a + 16 * u) w w'

-- s was written from a up to r
pub record Written (a : ℕ) (s : Bytes) (w w' : List ℕ) (r : ℕ) : Type 0 where
  pub put : Put a s w w'
  pub end : r ≡ a + length s

-- a list that got more fields, or that would have more than 16
pub record ManyFields (m : ℕ) (ss : List Bytes) (w w' : List ℕ) : Type 0 where
  pub over : 16 < m + length ss
  pub kept : w' ≡ w

abbrev pub Grows : (u a m : ℕ) (ss : List Bytes) (w w' : List ℕ) → Option ℕ → Type 0
Grows u a m ss w w' (Some r) = Grown u a m ss w w' r × (r ≤ 16)
Grows u a m ss w w' None = ManyFields m ss w w'

-- a stream of n bytes, or one that is too long
abbrev pub sized_if : Bool → ℕ → Option ℕ
sized_if true n = None
sized_if false n = Some n

abbrev pub sized_of : ℕ → Option ℕ
sized_of n = sized_if (ltb 1024 n) n
