-- Who reads the file of an ended run finds the call graph of the rules' run.
use mathlib.Core.Path.{◌≡◌, refl, sym, ap, ◌∙◌, subst}
use mathlib.Core.List.{map}
use Prim.Native.Nat.{ℕ, zero, suc, ◌+◌, ◌<◌, ◌≤◌}
use native.Mathlib.Omega.{arith}
use lib.ListN.{length, get_or, take, length-map}
use Rattle.rules.specs.Syntax.{Program}
use Rattle.rules.specs.Trace.{Trace, steps, sum}
use Rattle.rules.specs.State.{trace_of}
use Rattle.rules.specs.Graph.{Figures, Block, Graph, edges_from, blocks_from, figures_of, name_of, graph_of}
use Rattle.rules.specs.Ruling.{Sheet}
use Rattle.rules.proofs.Genuineness.{genuine-numbered}
use Rattle.sheet.specs.Order.{Inputs}
use Rattle.callgrind.specs.Claims.{own_of}
use Rattle.callgrind.specs.Reading.{read_file, totals_read}
use Rattle.callgrind.proofs.Theorems.{file_reads_back_lem, totals_are_summary_lem}
use Rattle.callgrind.proofs.Runs.{own_adds_up_lem}
use Rattle.callgrind.proofs.SheetNames.{accepted-names}
use Rattle.runner.specs.Verdict.{Verdict, verdict}
use Rattle.runner.specs.Verdict as D
use Rattle.runner.specs.Promise.{wrote, tells}
use Rattle.runner.specs.Ran.{program_of, limits_in, trace_on}
use Rattle.runner.specs.Demands.{script}
use Rattle.runner.specs.Graph.{file_size, graph_on, file_on}
use Rattle.runner.specs.GraphClaims.{no_block, BlockRead, GraphRead, FileReadBack}
use Rattle.runner.proofs.After.{not_both}
use Rattle.runner.proofs.Demands.{script-is, outcome-is}
use Rattle.runner.proofs.Passing.{ended-accepts}
use Rattle.runner.proofs.Graphs.{graph_genuine, front-is, front}

-- BLOCKS

block_at : (x : Figures) (n a k f : ℕ) → f < k → get_or (blocks_from x n a k) f no_block ≡ record { own = x.own (a + f); edges = edges_from x (a + f) 1 n }
unfolding blocks_from
block_at x n a zero f h = absurd (omega arith)
block_at x n a (suc k) zero h = let e : a ≡ a + 0 = omega arith in ap (λ (m : ℕ). record { own = x.own m; edges = edges_from x m 1 n }) e
block_at x n a (suc k) (suc f) h =
    let e : suc a + f ≡ a + suc f = omega arith in
    block_at x n (suc a) k f (omega arith) ∙ ap (λ (m : ℕ). record { own = x.own m; edges = edges_from x m 1 n }) e

blocks-count : (x : Figures) (n a k : ℕ) → length (blocks_from x n a k) ≡ k
unfolding blocks_from
blocks-count x n a zero = refl
blocks-count x n a (suc k) = ap suc (blocks-count x n (suc a) k)

-- THE GRAPH

module _ (i : Inputs) (s : Sheet) (e : verdict i ≡ D.ended s) where
  abbrev functions_of_lem : ℕ
  functions_of_lem = length (program_of i).functions

  -- the file holds it
  reads : read_file (file_on i) ≡ graph_on i
  unfolding graph_of
  reads =
      file_reads_back_lem (graph_on i) (accepted-names i.sheet (ended-accepts i s e))
      (blocks-count (figures_of (trace_on i)) functions_of_lem 0 (suc functions_of_lem) ∙ ap suc (sym (length-map (program_of i).functions name_of)))

  totals : totals_read (file_on i) ≡ steps (trace_on i)
  unfolding graph_of
  totals = totals_are_summary_lem (graph_on i) (accepted-names i.sheet (ended-accepts i s e))

  charges : sum (map own_of (graph_on i).blocks) ≡ steps (trace_on i)
  unfolding graph_of
  charges =
      let m = graph_genuine i s e in
      subst (λ (t : Trace). sum (map own_of (graph_of (program_of i).functions t).blocks) ≡ steps t) (sym m.is_main)
      (own_adds_up_lem (program_of i).functions m.inside (genuine-numbered (limits_in i) (program_of i) m.inside m.genuine))

  blocks : (f : ℕ) → f ≤ functions_of_lem → BlockRead (trace_on i) functions_of_lem f (get_or (graph_on i).blocks f no_block)
  unfolding graph_of
  blocks f h =
      let b = block_at (figures_of (trace_on i)) functions_of_lem 0 (suc functions_of_lem) f (omega arith) in
      let z : 0 + f ≡ f = omega arith in
      let c : get_or (blocks_from (figures_of (trace_on i)) functions_of_lem 0 (suc functions_of_lem)) f no_block ≡ record { own = (figures_of (trace_on i)).own f; edges = edges_from (figures_of (trace_on i)) f 1 functions_of_lem } =
      b ∙ ap (λ (m : ℕ). record { own = (figures_of (trace_on i)).own m; edges = edges_from (figures_of (trace_on i)) m 1 functions_of_lem }) z in
      record { own = ap (λ (x : Block). x.own) c; edges = ap (λ (x : Block). x.edges) c }

  graph_read : GraphRead (limits_in i) (program_of i) (trace_on i) (file_on i)
  unfolding graph_of
  graph_read = record {
    genuine = graph_genuine i s e;
    summary = ap (λ (g : Graph). g.steps) reads;
    totals = totals;
    charges = ap (λ (g : Graph). sum (map own_of g.blocks)) reads ∙ charges;
    names = ap (λ (g : Graph). g.names) reads;
    many = ap (λ (g : Graph). length g.blocks) reads ∙ blocks-count (figures_of (trace_on i)) functions_of_lem 0 (suc functions_of_lem);
    blocks = λ f h. subst (λ (g : Graph). BlockRead (trace_on i) functions_of_lem f (get_or g.blocks f no_block)) (sym reads) (blocks f h);
  }

-- WHAT A RUN WROTE

pub file_read_back_lem : FileReadBack
file_read_back_lem i r w f r₁ w₁ f₁ d b p x n q =
    subst (λ (t : Trace). GraphRead (limits_in i) (script i x) t (take (file_size d) f₁)) (ap trace_of (outcome-is i b x))
    (subst (λ (g : Program). GraphRead (limits_in i) g (trace_on i) (take (file_size d) f₁)) (script-is i b x) (go (verdict i) refl (sym p.promise.answer ∙ q) whole))
  where
    whole : take (file_size d) f₁ ≡ front (verdict i) (file_on i)
    whole = (λ j. take (p.length j) (p.file j)) ∙ front-is (verdict i) (file_on i) f

    go : (v : Verdict) → verdict i ≡ v → tells v ≡ wrote n → take (file_size d) f₁ ≡ front v (file_on i)
        → GraphRead (limits_in i) (program_of i) (trace_on i) (take (file_size d) f₁)
    go (D.refused m k) e z h = not_both (sym z)
    go (D.ended s) e z h = subst (GraphRead (limits_in i) (program_of i) (trace_on i)) (sym h) (graph_read i s e)
