-- The call graph of an ended run: the program made its trace, and its file fits.
use mathlib.Core.Path.{◌≡◌, refl, sym, ap, subst}
use mathlib.Core.List.{[]}
use Prim.Native.Nat.{◌≤◌}
use native.Mathlib.Omega.{arith}
use lib.ListN.{length, take, drop}
use lib.Seq.{take_at}
use Rattle.rules.specs.Syntax.{Bytes}
use Rattle.rules.specs.Trace.{Trace, steps, inclusive}
use Rattle.rules.specs.State.{trace_of}
use Rattle.rules.specs.Genuine.{MadeBy}
use Rattle.rules.specs.Ruling.{Sheet}
use Rattle.rules.proofs.Theorems.{every_run_accounted_lem}
use Rattle.sheet.specs.Order.{Inputs}
use Rattle.callgrind.proofs.Theorems.{file-fits, every_graph_within_lem}
use Rattle.callgrind.proofs.SheetNames.{accepted-short}
use Rattle.runner.specs.Verdict.{Verdict, verdict}
use Rattle.runner.specs.Verdict as D
use Rattle.runner.specs.Ran.{program_of, limits_in, given_on, trace_on}
use Rattle.runner.specs.Graph.{graph_on, file_on, file_after, size_after}
use Rattle.runner.proofs.Passing.{ended-accepts, ended-budget}
use Rattle.runner.proofs.Ending.{ending}
use Rattle.runner.proofs.Profiles.{sheet-holds}

-- AT THE FRONT

-- what a verdict puts there
abbrev pub front : Verdict → (file : Bytes) → Bytes
front (D.refused n p) file = []
front (D.ended s) file = file

pub front-is : (v : Verdict) (file f : Bytes) → take (size_after v file) (file_after v file f) ≡ front v file
front-is (D.refused n p) file f = refl
front-is (D.ended s) file f = take_at file (drop (length file) f) (length file) refl

-- AN ENDED RUN

module _ (i : Inputs) (s : Sheet) (e : verdict i ≡ D.ended s) where
  pub graph_genuine : MadeBy (limits_in i) (program_of i) (trace_on i)
  graph_genuine = (sheet-holds i s e).genuine

  few-steps : steps (trace_on i) ≤ 1000000
  few-steps = let h = sheet-holds i s e in omega (arith, h.total, h.within, ended-budget i s e)

  -- main is open throughout
  pub main_open_lem : inclusive 0 (trace_on i) ≡ steps (trace_on i)
  main_open_lem =
      let d = ending i s e in
      subst (λ (t : Trace). inclusive 0 t ≡ steps t) (sym (ap trace_of d.ran))
      (every_run_accounted_lem (limits_in i)
      (given_on i)
      d.behaviour d.after d.trace d.ran).2.main_open

  pub file-short : length (file_on i) ≤ 39752
  file-short = file-fits (graph_on i) (every_graph_within_lem (limits_in i) (program_of i) (trace_on i) graph_genuine few-steps (accepted-short i.sheet (ended-accepts i s e)))
