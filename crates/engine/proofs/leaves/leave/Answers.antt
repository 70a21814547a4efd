use mathlib.Core.Path.{ap}
use Rattle.words.specs.Words.{Pace, course, feed_of}
use Rattle.engine.proofs.LeafRules.{leave_reads, leave_done}
use Rattle.engine.proofs.leaves.leave.Goals as goal

pub part-code-requires : goal.part-code-requires
part-code-requires c = let both = leave_reads c.requires.ready c.requires.leaves in record { r_bound = both.0; d_bound = both.1 }

pub returns : goal.returns
returns c = rw c.ended.ensures (leave_done c.requires.ready c.part-code.ensures (ap (λ (p : Pace). course p (feed_of c.args.feed)) c.coded.ensures) c.requires.leaves)
