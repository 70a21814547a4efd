use Prim.Native.Nat.{suc, ◌*◌, ◌-◌}
use native.Mathlib.Omega.{arith}
use native.Mathlib.Numerals.{add-one}
use Rattle.std.proofs.lemmas.List.{take_rest}
use Rattle.text.proofs.Ends.{wrote_then, fitted, fitted_end}
use Rattle.text.proofs.Names.{few, functions-are}
use Rattle.profile.specs.Rendered.{profile_in}
use Rattle.profile.proofs.profile.Goals as goal

pub invariant_of-names : goal.invariant_of-names
invariant_of-names c = record { tabled = c.tables-functions.ensures; few = few c.tables-functions.ensures }

pub overflow_sub-n : goal.overflow_sub-n
overflow_sub-n c = omega (arith, functions-are c.tables-functions.ensures, c.requires.2.rows)

pub function_lines-requires : goal.function_lines-requires
function_lines-requires c =
    (omega (arith, fitted_end c.end_line.ensures), omega (arith, functions-are c.tables-functions.ensures, c.requires.2.rows, c.requires.2.room))

pub returns-clause-text : goal.returns-clause-text
unfolding profile_in
returns-clause-text c =
    rw (functions-are c.tables-functions.ensures)
    (fitted (wrote_then c.end_line.ensures.wrote (rw (add-one c.tables-functions.result, take_rest c.args.res.now (c.args.n - 18 * suc c.tables-functions.result)) at c.function_lines.ensures.wrote))
    (omega (arith, fitted_end c.end_line.ensures, fitted_end c.function_lines.ensures)))
