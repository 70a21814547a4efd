-- The bytes of a quoted text, so that tables of cases can be read.
use Rattle.std.specs.Prelude.{[] as nil, ◌∷◌ as ◌before◌}
use Prim.Native.Char.{code}
use Prim.Native.String.{String, [], ◌∷◌}
use Rattle.rules.specs.Syntax.{Bytes}

-- of ASCII characters, a byte each
abbrev pub ascii : String → Bytes
ascii [] = nil
ascii (c ∷ cs) = ◌before◌ (code c) (ascii cs)
