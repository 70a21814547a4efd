-- The lines read off the bytes of a result sheet are those of the sheet.
use Prim.Native.Nat.{ℕ, zero, suc, ◌≤◌, ◌+◌, ◌*◌, ◌-◌}
use native.Mathlib.Omega.{arith}
use mathlib.Core.Path.{◌≡◌, refl, sym, ap, ◌∙◌}
use mathlib.Core.Bool.{Bool, true, false}
use mathlib.Core.List.{List, [], ◌++◌, append_assoc}
use lib.Dec.{eqb}
use lib.ListN.{length, drop, length-append}
use lib.Seq.{drop-append_seam}
use Rattle.rules.specs.declared.Behaviour.{Behaviour}
use Rattle.rules.specs.declared.Behaviour.TheVariants.{Normal, Return, Exit, Failure}
use Rattle.rules.specs.Syntax.{Bytes}
use Rattle.rules.specs.Trace.{Trace}
use Rattle.rules.specs.Trace as T
use Rattle.rules.specs.State.{behaviour_number}
use Rattle.rules.specs.Ruling.{Row, Sheet, profile}
use Rattle.rules.proofs.Numbers.{four_read}
use Rattle.memory.specs.Layout.{number_at, row, row_from}
use Rattle.result.specs.Encoding.{one_byte, end_record, output_record, variable_records, row_record, row_records, sheet_bytes}
use Rattle.runner.specs.Verdict.{ended}
use Rattle.profile.specs.Lines.{end_line, function_line, function_lines, name_of}
use Rattle.profile.specs.Printed.{verdict_text}
use Rattle.text.specs.Names.{functions_of}
use Rattle.profile.specs.Rendered.{behaviour_of, end_in, row_in, line_in, joined, lines_in, profile_in, Readable}
use Rattle.profile.proofs.Verdicts.{Ended}

-- NUMBERS AND BYTES

behaviour-back : (b : Behaviour) → behaviour_of (behaviour_number b) ≡ b
behaviour-back Normal = refl
behaviour-back Return = refl
behaviour-back Exit = refl
behaviour-back Failure = refl

truth_back : (b : Bool) → eqb (one_byte b) 1 ≡ b
truth_back true = refl
truth_back false = refl

-- KIND 64

end-number : (b : Behaviour) (x : Bool) (n : ℕ) (l : Bytes) → number_at (end_record b x n ++ l) 6 ≡ n
unfolding number_at end_record
end-number b x n l = four_read n

end_line_lem : (b : Behaviour) (x : Bool) (n : ℕ) (l : Bytes) → end_in (end_record b x n ++ l) ≡ end_line b x n
unfolding end_in end_record
end_line_lem b x n l = λ i. end_line (behaviour-back b i) (truth_back x i) (end-number b x n l i)

-- KIND 67

record Figures (q : Row) (l : Bytes) : Type 0 where
  pub entered : number_at (row_record q ++ l) 6 ≡ q.entered
  pub own : number_at (row_record q ++ l) 10 ≡ q.own
  pub inclusive : number_at (row_record q ++ l) 14 ≡ q.inclusive

row-figures : (q : Row) (l : Bytes) → Figures q l
unfolding number_at row_record
row-figures q l = record { entered = four_read q.entered; own = four_read q.own; inclusive = four_read q.inclusive }

row-length : (q : Row) → length (row_record q) ≡ 18
unfolding row_record
row-length q = refl

-- the row of function f
abbrev row_of : ℕ → Trace → Row
row_of f t = record { function = f; entered = T.entered f t; own = T.own f t; inclusive = T.inclusive f t }

rows-length : (f n : ℕ) (t : Trace) → length (row_records (profile f n t)) ≡ 18 * n
unfolding row_records
rows-length f zero t = refl
rows-length f (suc n) t =
    omega (arith, length-append (row_record (row_of f t)) (row_records (profile (suc f) n t)), row-length (row_of f t), rows-length (suc f) n t)

module _ (s : Bytes) (t : Trace) (x r : Bytes) where
  line_read : (p l : Bytes) (q : Row) → r ≡ p ++ (row_record q ++ l) → length p ≡ 18 * q.function
      → line_in s r q.function ≡ function_line q (name_of (functions_of s) q.function)
  unfolding line_in
  line_read p l q e h = ap (λ (y : Row). function_line y (name_of (functions_of s) q.function)) same
    where
      here : drop (18 * q.function) r ≡ row_record q ++ l
      here = (λ i. drop (sym h i) (e i)) ∙ drop-append_seam p (row_record q ++ l)

      same : row_in (drop (18 * q.function) r) q.function ≡ q
      same = ap (λ (y : Bytes). row_in y q.function) here ∙ (λ i. record {
        function = q.function;
        entered = (row-figures q l).entered i;
        own = (row-figures q l).own i;
        inclusive = (row-figures q l).inclusive i;
      })

  lines_read : (n f : ℕ) (p : Bytes) → r ≡ p ++ (row_records (profile f n t) ++ x) → length p ≡ 18 * f
      → joined (row_from n (line_in s r) f) ≡ function_lines (functions_of s) (profile f n t)
  unfolding row_from joined function_lines row_records
  lines_read zero f p e h = refl
  lines_read (suc n) f p e h =
      let d : r ≡ p ++ (row_record (row_of f t) ++ (row_records (profile (suc f) n t) ++ x)) =
      e ∙ ap (λ (y : Bytes). p ++ y) (append_assoc (row_record (row_of f t)) (row_records (profile (suc f) n t)) x) in
      let g : r ≡ (p ++ row_record (row_of f t)) ++ (row_records (profile (suc f) n t) ++ x) =
      d ∙ sym (append_assoc p (row_record (row_of f t)) (row_records (profile (suc f) n t) ++ x)) in
      let m : length (p ++ row_record (row_of f t)) ≡ 18 * suc f = omega (arith, h, length-append p (row_record (row_of f t)), row-length (row_of f t)) in
      (λ i. line_read p (row_records (profile (suc f) n t) ++ x) (row_of f t) d h i ++ lines_read n (suc f) (p ++ row_record (row_of f t)) g m i)

-- THE SHEET

-- the records before the rows
before : Sheet → Bytes
before x = end_record x.behaviour x.result x.steps ++ output_record x.output ++ variable_records x.variables

end-length : (b : Behaviour) (y : Bool) (n : ℕ) → length (end_record b y n) ≡ 10
unfolding end_record
end-length b y n = refl

before-length : (x : Sheet) → 10 ≤ length (before x)
unfolding before
before-length x =
    omega (
      arith,
      length-append (end_record x.behaviour x.result x.steps ++ output_record x.output) (variable_records x.variables),
      length-append (end_record x.behaviour x.result x.steps) (output_record x.output),
      end-length x.behaviour x.result x.steps,
    )

module _ {s : Bytes} {x : Sheet} (h : Ended s x) {r : Bytes} {n : ℕ} (rest : Bytes) (front : r ≡ sheet_bytes x ++ rest) (size : n ≡ length (sheet_bytes x)) where
  bytes-are : sheet_bytes x ≡ before x ++ row_records (profile 0 (suc (length (functions_of s))) h.trace)
  unfolding sheet_bytes before
  bytes-are =
      ap (λ (qs : List Row). end_record x.behaviour x.result x.steps ++ output_record x.output ++ variable_records x.variables ++ row_records qs) h.rows

  size_is : n ≡ length (before x) + 18 * suc (length (functions_of s))
  size_is =
      omega (
        arith,
        size,
        ap length bytes-are,
        length-append (before x) (row_records (profile 0 (suc (length (functions_of s))) h.trace)),
        rows-length 0 (suc (length (functions_of s))) h.trace,
      )

  pub readable : Readable s r n
  readable = record {
    accepts = h.accepts;
    rows = omega (arith, size_is, before-length x);
    room = omega (arith, size, ap length front, length-append (sheet_bytes x) rest);
  }

  rows-are : drop (n - 18 * suc (length (functions_of s))) r ≡ row_records (profile 0 (suc (length (functions_of s))) h.trace) ++ rest
  rows-are =
      let z : n - 18 * suc (length (functions_of s)) ≡ length (before x) = omega (arith, size_is) in
      (λ i. drop (z i) ((front ∙ ap (λ (y : Bytes). y ++ rest) bytes-are ∙ append_assoc (before x) (row_records (profile 0 (suc (length (functions_of s))) h.trace)) rest) i))
      ∙ drop-append_seam (before x) (row_records (profile 0 (suc (length (functions_of s))) h.trace) ++ rest)

  rows-read : lines_in s (drop (n - 18 * suc (length (functions_of s))) r) (suc (length (functions_of s))) ≡ function_lines (functions_of s) x.profile
  unfolding row
  rows-read =
      lines_read s h.trace rest (drop (n - 18 * suc (length (functions_of s))) r) (suc (length (functions_of s))) 0 [] rows-are (omega arith)
      ∙ ap (function_lines (functions_of s)) (sym h.rows)

  end_read : end_in r ≡ end_line x.behaviour x.result x.steps
  unfolding sheet_bytes
  end_read =
      let d : r ≡ end_record x.behaviour x.result x.steps ++ (output_record x.output ++ (variable_records x.variables ++ (row_records x.profile ++ rest))) =
      front ∙ simp append_assoc in
      ap end_in d ∙ end_line_lem x.behaviour x.result x.steps (output_record x.output ++ (variable_records x.variables ++ (row_records x.profile ++ rest)))

  pub profile-read : profile_in s r n ≡ verdict_text s (ended x)
  unfolding profile_in verdict_text
  profile-read = λ i. end_read i ++ rows-read i
