-- A run can start: its sizes, scope and course lie within the areas, at 64 and at 256; much is free; the state is the rules' start.
use Prim.Native.Nat.{ℕ, ◌≤◌}
use native.Mathlib.Omega.{arith}
use mathlib.Core.Path.{◌≡◌, refl, sym, ◌∙◌}
use mathlib.Core.Bool.{true}
use mathlib.Core.List.{List, [], map}
use lib.ListN.{length}
use lib.Seq.{take_all}
use Rattle.rules.specs.State.{kept}
use Rattle.rules.specs.Words.{unset_variable}
use Rattle.memory.specs.declared.Given.{Given}
use Rattle.memory.specs.Layout.{part, Same, fields_at, variables_place, list_place, free_bytes}
use Rattle.memory.specs.Abstract.{stream_if, input_if, state_of, Roomy, Placed, Fits, start_scope, start_course}
use Rattle.memory.proofs.Parts.{part_slice, same-within}
use Rattle.memory.proofs.Places.{variables-within, fields_within, list-next}
use Rattle.memory.proofs.Reading.{start-variables}

-- THE SIZES

pub roomy_64 : (g : Given) (w : List ℕ) → g.unit ≡ 64 → g.slots ≤ 16 → length w ≡ 65536 → Roomy g w
roomy_64 g w u s h = record { unit = omega arith; small = omega arith; slots = s; room = omega arith }

pub roomy_256 : (g : Given) (w : List ℕ) → g.unit ≡ 256 → g.slots ≤ 16 → length w ≡ 262144 → Roomy g w
roomy_256 g w u s h = record { unit = omega arith; small = omega arith; slots = s; room = omega arith }

pub free_64 : free_bytes 64 65536 ≡ 12992
free_64 = refl

pub free_256 : free_bytes 256 262144 ≡ 133760
free_256 = refl

-- what later work asks to be kept free
pub free_enough : 12900 ≤ free_bytes 64 65536
free_enough = omega arith

-- SCOPE AND COURSE

pub placed-start : Placed start_scope
placed-start = record { level = omega arith; holds = omega arith; stream = omega arith; streams = omega arith; function = omega arith }

pub fits-start : (i : List ℕ) (g : Given) (n : ℕ) → n ≤ 16 → length i ≤ 1024 → Fits i g start_scope (start_course g.unit n (length i))
fits-start i g n h l = record {
  stdin = λ q. omega arith;
  from = λ q. let z : ◌≡◌ {A = ℕ} 0 1 = cc in absurd (omega arith);
  to = λ q. let z : ◌≡◌ {A = ℕ} 0 1 = cc in absurd (omega arith);
  apart = λ q. let z : ◌≡◌ {A = ℕ} 0 1 = cc in absurd (omega arith);
  rest = l;
  length = omega arith;
  count = h;
  low = omega arith;
  high = omega (arith, fields_within g.unit {n = n} h, list-next g.unit 0);
}

-- THE STATE

whole : (i : List ℕ) → part i 0 (length i) ≡ i
whole i = sym (part_slice i 0 (length i) (omega arith)) ∙ take_all (length i) i (omega arith)

-- names in the tables, arguments in list 0, and the lowest level all 0
pub state_start : (i w : List ℕ) (g : Given) (n : ℕ) → g.slots ≤ 16 → Same (variables_place g.unit 0) (variables_place g.unit 1) [] w
    → state_of i w g start_scope (start_course g.unit n (length i)) ≡ record {
      context = record { variables = map unset_variable (fields_at 64 w 0 g.slots); arguments = fields_at g.unit w (list_place g.unit 0) n; result = true };
      input = i;
      output = kept [];
      used = 0;
    }
unfolding state_of input_if stream_if part
state_start i w g n h z =
    rw (
      whole i,
      start-variables g.unit (variables_place g.unit 0) g.slots w (same-within _ _ (omega arith) (omega (arith, variables-within g.unit {n = g.slots} h)) z),
    )
