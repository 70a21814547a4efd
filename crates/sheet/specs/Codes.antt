-- What the code's enums and structs stand for: the numbers and values of the format for each of their cases.
use Rattle.std.specs.Prelude.{Option, Some, None, Bool, true, ℕ}
use Rattle.sheet.specs.declared.kinds.Want.{Want}
use Rattle.sheet.specs.declared.kinds.Want.TheVariants as W
use Rattle.sheet.specs.declared.kinds.Layout.{Layout}
use Rattle.sheet.specs.Format.{Wanted, any_number, code, name, string, list, instruction}
use Rattle.sheet.specs.Format.{Shape, no_kind, text, nothing, one, two, three}
use Rattle.sheet.specs.Check.{Known, meets}

abbrev pub want : Wanted → Want
want any_number = W.AnyNumber
want code = W.Code
want name = W.Name
want string = W.Text
want list = W.List
want instruction = W.Instruction

-- least and most length, and what is wanted of each part
abbrev pub exactly : ℕ → Want → Want → Want → Option Layout
exactly n a b c = Some (record { least = n; most = n; first = a; second = b; third = c })

abbrev pub layout : Shape → Option Layout
layout no_kind = None
layout text = Some (record { least = 0; most = 63; first = W.Nothing; second = W.Nothing; third = W.Nothing })
layout nothing = exactly 0 W.Nothing W.Nothing W.Nothing
layout (one a) = exactly 2 (want a) W.Nothing W.Nothing
layout (two a b) = exactly 4 (want a) (want b) W.Nothing
layout (three a b c) = exactly 6 (want a) (want b) (want c)

abbrev pub meets_want : Known → Want → ℕ → Bool
meets_want K W.Nothing n = true
meets_want K W.AnyNumber n = meets K any_number n
meets_want K W.Code n = meets K code n
meets_want K W.Name n = meets K name n
meets_want K W.Text n = meets K string n
meets_want K W.List n = meets K list n
meets_want K W.Instruction n = meets K instruction n
