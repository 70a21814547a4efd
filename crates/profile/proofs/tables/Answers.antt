use mathlib.Core.Path.{sym, ◌∙◌}
use Rattle.profile.proofs.Tabling.{tabled}
use Rattle.profile.proofs.tables.Goals as goal

pub returns : goal.returns
returns c = tabled _ c.requires.0 c.requires.1 c.check.ensures.table_after (sym c.unwrap.ensures ∙ c.check.ensures.value)
