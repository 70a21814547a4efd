-- What is left is all of the byte exactly if the whole memory is.
use Rattle.std.proofs.Common.{◌≡◌, drop}
use Rattle.run_cases.specs.All.{all}
use Rattle.run_cases.proofs.is_all.Given as goal

abbrev pub invariant-loop-b : goal.invariant-loop-b
invariant-loop-b l = all l.byte (drop l.b-index l.memory) ≡ all l.byte l.memory
