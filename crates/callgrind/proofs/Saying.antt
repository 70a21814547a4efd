-- What every line of a file says to a reader.
use Prim.Native.Nat.{ℕ, ◌≤◌}
use mathlib.Core.Path.{◌≡◌, refl, sym, ap, ◌∙◌}
use mathlib.Core.Bool.{true, cond}
use mathlib.Core.List.{[], ◌∷◌, ◌++◌, append_assoc, append-nil}
use lib.ListN.{drop}
use borrow.Author.Tests.{le-leb}
use Rattle.rules.specs.Ascii.{ascii}
use Rattle.rules.specs.Lists.{Every}
use Rattle.rules.specs.Syntax.{Bytes}
use Rattle.text.specs.Decimal.{decimal}
use Rattle.text.specs.Claims.{value_behind}
use Rattle.text.proofs.Theorems.{decimal_is_digits_lem, decimal_reads_back_lem}
use Rattle.callgrind.specs.File.{totals_line, function_line, definition, cost_line, callee_line, calls_line}
use Rattle.callgrind.specs.Reading.{is_digit, digits_of, behind_digits, number_of, begins, totals, defines, function, callee, calls, cost, id_said, said}

-- NUMBERS

abbrev Digits : Bytes → Type 0
Digits s = Every (λ c. (48 ≤ c) × (c ≤ 57)) s

is_digit_lem : (c : ℕ) → (48 ≤ c) × (c ≤ 57) → is_digit c ≡ true
is_digit_lem c h = rw (le-leb 48 c h.0, le-leb c 57 h.1)

digits-front : (s rest : Bytes) → Digits s → digits_of (s ++ rest) ≡ s ++ digits_of rest
unfolding digits_of
digits-front [] rest a = refl
digits-front (c ∷ s) rest a = rw (is_digit_lem c a.0) (ap (λ (l : Bytes). c ∷ l) (digits-front s rest a.1))

digits-behind : (s rest : Bytes) → Digits s → behind_digits (s ++ rest) ≡ behind_digits rest
unfolding behind_digits
digits-behind [] rest a = refl
digits-behind (c ∷ s) rest a = rw (is_digit_lem c a.0) (digits-behind s rest a.1)

number_read : (n : ℕ) (rest : Bytes) → digits_of rest ≡ [] → number_of (decimal n ++ rest) ≡ n
number_read n rest h =
    ap (value_behind 0) (digits-front (decimal n) rest (decimal_is_digits_lem n) ∙ ap (λ (s : Bytes). decimal n ++ s) h ∙ append-nil (decimal n))
    ∙ decimal_reads_back_lem n

pub number_alone : (n : ℕ) → number_of (decimal n) ≡ n
unfolding digits_of
number_alone n = ap number_of (sym (append-nil (decimal n))) ∙ number_read n [] refl

-- LINES

pub says_totals : (n : ℕ) → said (totals_line n) ≡ totals n
unfolding said
says_totals n = ap totals (number_alone n)

pub says_cost : (n : ℕ) → said (cost_line n) ≡ cost n
unfolding said
says_cost n = ap cost (number_alone n)

pub says_callee : (id : ℕ) → said (callee_line id) ≡ callee id
unfolding said digits_of
says_callee id = ap callee (number_read id (41 ∷ []) refl)

pub says_calls : (n : ℕ) → said (calls_line n) ≡ calls n
unfolding said digits_of
says_calls n = ap calls (number_read n (32 ∷ 48 ∷ []) refl)

-- an id and what is made of it, by what stands behind its digits
id_said_lem : (id : ℕ) (rest : Bytes) → digits_of rest ≡ [] → behind_digits rest ≡ rest
    → id_said (decimal id ++ rest) ≡ cond (begins (ascii ") ") rest) (defines id (drop 2 rest)) (function id)
id_said_lem id rest h k =
    (λ i. cond (begins (ascii ") ") (b i)) (defines (number_read id rest h i) (drop 2 (b i))) (function (number_read id rest h i)))
  where
    b : behind_digits (decimal id ++ rest) ≡ rest
    b = digits-behind (decimal id) rest (decimal_is_digits_lem id) ∙ k

pub says_function : (id : ℕ) → said (function_line id) ≡ function id
unfolding said digits_of behind_digits
says_function id = id_said_lem id (41 ∷ []) refl refl

pub says_defines : (id : ℕ) (name : Bytes) → said (definition id name) ≡ defines id name
unfolding said digits_of behind_digits
says_defines id name = ap id_said (append_assoc (decimal id) (41 ∷ 32 ∷ []) name) ∙ id_said_lem id (41 ∷ 32 ∷ name) refl refl
