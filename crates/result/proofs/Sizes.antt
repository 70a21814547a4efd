-- How long the records are.
use Prim.Native.Nat.{ℕ, zero, suc, ◌≤◌, ◌<◌, ◌+◌, ◌*◌, ◌-◌}
use native.Mathlib.Omega.{arith}
use mathlib.Core.Path.{◌≡◌, refl, ap}
use mathlib.Core.Bool.{Bool}
use mathlib.Core.List.{List, [], ◌∷◌}
use lib.ListN.{length, take, drop, length-append, length-take}
use Rattle.rules.specs.declared.Behaviour.{Behaviour}
use Rattle.rules.specs.Lists.{Every}
use Rattle.rules.specs.Syntax.{Bytes}
use Rattle.rules.specs.Ruling.{Shown, Row, Sheet, shown}
use Rattle.memory.specs.Layout.{variables_at, variables_place, stream_place}
use Rattle.memory.specs.declared.Given.{Given}
use Rattle.memory.specs.declared.Course.{Course}
use Rattle.memory.proofs.Parts.{part_length}
use Rattle.text.specs.declared.page.Page.{Page}
use Rattle.text.specs.Put.{Wrote}
use Rattle.text.proofs.Ends.{Ends, wrote_end}
use Rattle.result.specs.Encoding.{end_record, output_record, variable_record, variable_records, row_record, row_records, sheet_bytes}
use Rattle.result.specs.Ended.{rows_in, sheet_in, Writable}
use Rattle.result.specs.Claims.{ShortStrings, Bounded}
use Rattle.result.proofs.Variables.{variables-short, variables-count}

end-length : (b : Behaviour) (r : Bool) (n : ℕ) → length (end_record b r n) ≡ 10
unfolding end_record
end-length b r n = refl

output-length : (s : Bytes) → length (output_record s) ≡ 4 + length s
unfolding output_record
output-length s = omega arith

variable-length : (v : Shown) → ShortStrings v → length (variable_record v) ≤ 132
unfolding variable_record
variable-length v h = omega (arith, length-append v.name v.value, h.name, h.value)

variables-length : (vs : List Shown) → Every ShortStrings vs → length (variable_records vs) ≤ 132 * length vs
unfolding variable_records
variables-length [] h = omega arith
variables-length (v ∷ vs) h =
    omega (arith, length-append (variable_record v) (variable_records vs), variable-length v h.0, variables-length vs h.1)

row-length : (r : Row) → length (row_record r) ≡ 18
unfolding row_record
row-length r = refl

rows-length : (rs : List Row) → length (row_records rs) ≡ 18 * length rs
unfolding row_records
rows-length [] = refl
rows-length (r ∷ rs) = omega (arith, length-append (row_record r) (row_records rs), row-length r, rows-length rs)

pub sheet-length : (s : Sheet) → Bounded s → length (sheet_bytes s) ≤ 3744
unfolding sheet_bytes
sheet-length s h =
    simp (length-append, end-length, output-length, rows-length)
    (omega (arith, variables-length s.variables h.strings, h.output, h.variables, h.functions))

-- WHAT WORK MEMORY STANDS FOR

variables-size : (L : ℕ) (w : List ℕ) (a n : ℕ) → 0 < L → L ≤ 64 → length (variable_records (shown (variables_at L w a n))) ≤ 132 * n
variables-size L w a n h k =
    omega (arith, variables-length (shown (variables_at L w a n)) (variables-short L w a n h k), variables-count L w a n)

rows-count : (w : List ℕ) (f n : ℕ) → length (rows_in w f n) ≡ n
unfolding rows_in
rows-count w f zero = refl
rows-count w f (suc n) = ap suc (rows-count w (suc f) n)

rows-size : (w : List ℕ) (f n : ℕ) → length (row_records (rows_in w f n)) ≡ 18 * n
rows-size w f n = omega (arith, rows-length (rows_in w f n), rows-count w f n)

pub sheet_bounded : (out w : Bytes) (g : Given) (b : Behaviour) (c : Course) (n : ℕ) → Writable out w g c n → Bounded (sheet_in w g b c n)
unfolding sheet_in
sheet_bounded out w g b c n h =
    record {
      output = omega (arith, part_length w (stream_place g.unit 0) c.length, h.output);
      variables = omega (arith, variables-count g.unit w (variables_place g.unit 0) g.slots, h.roomy.slots);
      strings = variables-short g.unit w (variables_place g.unit 0) g.slots h.roomy.unit h.unit;
      functions = omega (arith, rows-count w 0 (suc n), h.functions);
    }

-- WHERE THE NEXT RECORD BEGINS

pub end-ends : {p q : Page} (b : Behaviour) (r : Bool) (n : ℕ) → Wrote (end_record b r n) p q → Ends 10 p q
end-ends b r n a = omega (arith, wrote_end a, end-length b r n)

pub output-ends : {p q : Page} (w : List ℕ) (from n : ℕ) → Wrote (output_record (take (from + n - from) (drop from w))) p q → Ends (4 + n) p q
output-ends w from n a =
    let s : Bytes = take (from + n - from) (drop from w) in omega (arith, wrote_end a, output-length s, length-take (from + n - from) (drop from w))

pub variables-end : {p q : Page} (L : ℕ) (w : List ℕ) (at n : ℕ) → Wrote (variable_records (shown (variables_at L w at n))) p q → 0 < L → L ≤ 64 → Ends (132 * n) p q
variables-end L w at n a h k = omega (arith, wrote_end a, variables-size L w at n h k)

pub rows_end : {p q : Page} (w : List ℕ) (f n : ℕ) → Wrote (row_records (rows_in w f n)) p q → Ends (18 * n) p q
rows_end w f n a = omega (arith, wrote_end a, rows-size w f n)
