-- How large values are: what the limits on strings, lists and streams mean for a state and for a program.
use Rattle.std.specs.Prelude.{List, ℕ, ◌≤◌, length}
use Rattle.rules.specs.Lists.{Every, Among}
use Rattle.rules.specs.Syntax.{Bytes, Function, Program, text}
use Rattle.rules.specs.State.{Limits, Variable, State, Evaluated, error, value, variables, arguments, input, written}
use Rattle.rules.specs.Words.{bytes_of}
use Rattle.rules.specs.Genuine.{Reached, str}

module _ (limits : Limits) where
  -- a string within its limit
  abbrev pub Short : Bytes → Type 0
  Short s = length s ≤ limits.string

  -- a variable's value, if it has one
  abbrev pub ShortValue : Variable → Type 0
  ShortValue v = Short (bytes_of v.value)

  -- fields or arguments: not too many, and none too long
  abbrev pub Few : List Bytes → Type 0
  Few fields = (length fields ≤ limits.list) × Every Short fields

  -- a stream within its limit
  abbrev pub Narrow : Bytes → Type 0
  Narrow s = length s ≤ limits.stream

  pub record Fits (s : State) : Type 0 where
    pub variables : Every ShortValue (variables s)
    pub arguments : Few (arguments s)
    pub input : Narrow (input s)
    pub output : Narrow (written s)

  -- the texts of a program and the names of its functions
  pub record FitsProgram (program : Program) : Type 0 where
    pub texts : (at : ℕ) (s : Bytes) → Reached program (str (text at s)) → Short s
    pub names : (g : Function) → Among g program.functions → Short g.name

  -- what a string or a list came to
  abbrev pub ShortString : {A : Type 0} → Evaluated (Bytes × A) → Type 0
  ShortString error = Unit {0}
  ShortString (value p) = Short p.0

  abbrev pub FewFields : Evaluated (List Bytes) → Type 0
  FewFields error = Unit {0}
  FewFields (value fields) = Few fields
