use mathlib.Core.Path.{◌≡◌}
use lib.ListN.{drop}
use Rattle.hexlines.specs.Words.{number_from}
use Rattle.hexlines.proofs.decimal.Given as goal

abbrev pub invariant-loop-c : goal.invariant-loop-c
invariant-loop-c l = number_from l.n (drop l.c-index l.text) ≡ number_from 0 l.text
