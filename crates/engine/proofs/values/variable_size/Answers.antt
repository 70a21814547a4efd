use mathlib.Core.Path.{ap}
use lib.ListN.{length}
use Rattle.memory.specs.Posts.{looked}
use Rattle.engine.proofs.Looking.{value-stands}
use Rattle.engine.proofs.values.variable_size.Goals as goal

pub returns : goal.returns
unfolding looked
returns c = let long = ap length c.lookup-value.ensures in (long, rw long (value-stands _ _ _ c.args.u.fits.0).0)
