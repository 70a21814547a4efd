-- What the code's structs of a check know: the records read, and how far it has come.
use Rattle.sheet.specs.declared.earlier.Earlier.{Earlier}
use Rattle.sheet.specs.declared.judgement.SoFar.{SoFar}
use Rattle.sheet.specs.Check.{Known, known}

abbrev pub known_in : Earlier → Known
known_in e = known e.sheet.now e.records

abbrev pub known_at : SoFar → Known
known_at c = known c.sheet.now c.counts.records
