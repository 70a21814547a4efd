-- The bytes of a bundle: its four records, one after the other.
use Rattle.std.specs.Prelude.{List, [], ◌∷◌, ◌++◌}
use Rattle.rules.specs.Syntax.{Bytes}
use Rattle.rules.specs.Numbers.{two_bytes, four_bytes}
use Rattle.sheet.specs.WellFormed.{Item, write}
use Rattle.bundle.specs.Contents.{Contents}

abbrev pub limits_bytes : Contents → Bytes
limits_bytes c = four_bytes c.loop ++ two_bytes c.stack ++ four_bytes c.budget

abbrev pub records_of : Contents → List Item
records_of c =
    (record { kind = 80; payload = limits_bytes c })
    ∷ (record { kind = 81; payload = c.sheet })
    ∷ (record { kind = 82; payload = c.arguments })
    ∷ (record { kind = 83; payload = c.input })
    ∷ []

unfoldable pub bundle_bytes : Contents → Bytes
bundle_bytes c = write (records_of c)
