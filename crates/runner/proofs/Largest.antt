-- A run whose result sheet is as large as one can be, by computation.
-- Assumes nothing.
use mathlib.Core.Path.{◌≡◌, refl}
use mathlib.Core.List.{[], ◌∷◌, ◌++◌}
use Prim.Native.Nat.{ℕ, zero, suc, ◌+◌, ◌*◌}
use native.Mathlib.Omega.{arith}
use lib.ListN.{length, replicate}
use Rattle.rules.specs.Ascii.{ascii}
use Rattle.rules.specs.Syntax.{Bytes}
use Rattle.rules.specs.Ruling.{Sheet}
use Rattle.rules.specs.State.{◌>>=◌, ◌>>◌, give, refuse, look, change, choose, as_call}
use Rattle.rules.specs.Flow.{if_normal, unless_failure, unless_error}
use Rattle.rules.specs.Refusals.{begin, stepped, made_string, add_fields, write_to, write, hold}
use Rattle.rules.specs.Rules.{finish, finish_unless_failure, end_with, text_rule, variable_rule, argument_rule, join_rule, embedded_rule, empty_rule, field_rule, split_rule}
use Rattle.rules.specs.Rules.{assign_rule, export_rule, sequence_rule, subshell_rule, not_rule, if_rule, nooutput_rule, pipe_rule, run_utility, utility_rule}
use Rattle.rules.specs.Rules.{call_of, call_rule, full_stack_rule, enter_rule, for_each, for_rule, while_test, while_true, while_rule, exit_rule, return_rule, shift_rule}
use Rattle.rules.specs.Evaluation.{ins_rule, enter_at, run}
use Rattle.rules.specs.Ruling.{ruling}
use Rattle.sheet.specs.Check.{check, walk, next, judge, is_cut, is_second, is_over, is_new, right, meets}
use Rattle.sheet.specs.Format.{number, shape, names_variable, is_name, all_later, is_first, is_later, place}
use Rattle.sheet.specs.Table.{words}
use Rattle.sheet.specs.Nodes.{rows}
use Rattle.sheet.specs.Decode.{program, nodes, nodes_from, node}
use Rattle.sheet.specs.Cases.{rec, txt}
use Rattle.sheet.specs.Arguments.{arguments, texts, texts_from, is_text}
use Rattle.sheet.specs.Order.{rows as order_rows}
use Rattle.sheet.specs.Check.{known_of}
use Rattle.sheet.specs.Order.{Inputs}
use Rattle.result.specs.Encoding.{end_record, output_record, variable_record, variable_records, row_record, row_records, sheet_bytes}
use Rattle.runner.specs.Verdict.{Verdict, refused, ended, ruled, verdict}
use Rattle.runner.specs.Refusals.{asked, named, x}
use Rattle.runner.specs.Claims.{LargestSheet}

-- THE SHEET, n of each from number i on

-- 0 to 15: sixteen names of 63 bytes
abbrev names : (n i : ℕ) → Bytes
names zero i = []
names (suc n) i = txt ((97 + i) ∷ replicate 62 97) ++ names n (suc i)

-- 16 to 31: to each the first of them is assigned
abbrev assigns : (n i : ℕ) → Bytes
assigns zero i = []
assigns (suc n) i = rec 16 (i ∷ 0 ∷ []) ++ assigns n (suc i)

-- 32 to 48: the empty list, and sixteen fields of 63 bytes
abbrev fields : (n i : ℕ) → Bytes
fields zero i = []
fields (suc n) i = rec 7 (0 ∷ (32 + i) ∷ []) ++ fields n (suc i)

-- 49 and 50: echo of these is 1,024 bytes; 51 to 66: all that in sequence
abbrev sequences : (n i : ℕ) → Bytes
sequences zero i = []
sequences (suc n) i = rec 18 ((16 + i) ∷ (50 + i) ∷ []) ++ sequences n (suc i)

-- 67 to 130: 32 functions; 131: main
abbrev functions : (n i : ℕ) → Bytes
functions zero i = []
functions (suc n) i = txt (named i) ++ rec 32 ((67 + 2 * i) ∷ 16 ∷ []) ++ functions n (suc i)

abbrev full : Bytes
full = names 16 0 ++ assigns 16 0 ++ rec 6 [] ++ fields 16 0 ++ txt (ascii "echo") ++ rec 24 (49 ∷ 48 ∷ []) ++ sequences 16 0 ++ functions 32 0 ++ rec 33 (66 ∷ [])

abbrev full_inputs : Inputs
full_inputs = asked 4096 65536 0 0 1000 full x []

-- ITS SIZE

abbrev size_of : Verdict → ℕ
size_of (refused n p) = 0
size_of (ended s) = length (sheet_bytes s)

full_size : size_of (verdict full_inputs) ≡ 3744
unfolding verdict ruled order_rows known_of arguments texts texts_from is_text check walk next judge is_cut is_second is_over is_new right meets number shape names_variable is_name all_later is_first is_later place words program nodes nodes_from node rows rec txt ◌>>=◌ ◌>>◌ give refuse look change choose as_call finish finish_unless_failure if_normal unless_failure unless_error end_with begin stepped hold made_string add_fields write_to write run_utility for_each while_test while_true call_of text_rule variable_rule argument_rule join_rule embedded_rule empty_rule field_rule split_rule assign_rule export_rule sequence_rule subshell_rule not_rule if_rule nooutput_rule pipe_rule utility_rule call_rule full_stack_rule enter_rule for_rule while_rule exit_rule return_rule shift_rule ins_rule enter_at run ruling sheet_bytes end_record output_record variable_record variable_records row_record row_records
full_size = refl

ends : (v : Verdict) → size_of v ≡ 3744 → (s : Sheet) × (v ≡ ended s) × (length (sheet_bytes s) ≡ 3744)
ends (refused n p) e = absurd (omega arith)
ends (ended s) e = (s, refl, e)

pub largest-sheet : LargestSheet
largest-sheet = let e = ends (verdict full_inputs) full_size in (full_inputs, e.0, e.1, e.2)
