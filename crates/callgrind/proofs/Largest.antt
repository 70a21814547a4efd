-- A largest file, by computation.
use Prim.Native.Nat.{ℕ, zero, suc, ◌≤◌}
use native.Mathlib.Omega.{arith}
use mathlib.Core.Path.{◌≡◌, refl}
use lib.ListN.{length, replicate}
use Rattle.rules.specs.Lists.{Every}
use Rattle.rules.specs.Syntax.{Bytes}
use Rattle.rules.specs.Graph.{Figures, edges_from, blocks_from}
use Rattle.text.specs.Decimal.{decimal, digits}
use Rattle.callgrind.specs.File.{definitions, edges_lines, blocks_lines, file_lines, ended, file_of}
use Rattle.callgrind.specs.Within.{Within}
use Rattle.callgrind.specs.Claims.{largest}
use Rattle.callgrind.proofs.Lines.{blocks-length}
use Rattle.callgrind.proofs.Runs.{blocks_in}

most : Figures
most = record { own = λ f. 1000000; calls = λ a b. 1000000; inclusive = λ a b. 1000000 }

all-long : (n : ℕ) (name : Bytes) → length name ≤ 63 → Every (λ (x : Bytes). length x ≤ 63) (replicate n name)
all-long zero name h = tt
all-long (suc n) name h = (h, all-long n name h)

pub largest-within : Within 1000000 largest
unfolding most
largest-within = record {
  steps = omega arith;
  few = omega arith;
  short = all-long 32 (replicate 63 97) (omega arith);
  all = blocks-length most 32 0 33;
  blocks = blocks_in most 1000000 (λ f. omega arith) (λ a b. omega arith) (λ a b. omega arith) 32 0 33;
}

pub largest-length : length (file_of largest) ≡ 39752
unfolding file_of file_lines definitions edges_lines blocks_lines ended decimal digits edges_from blocks_from
largest-length = refl
