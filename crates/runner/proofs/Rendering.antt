-- The run itself: what work memory holds at its end, written as the result sheet, is the rules' ruling.
use mathlib.Core.Path.{◌≡◌, sym, ap, ◌∙◌, subst}
use mathlib.Core.List.{◌++◌}
use Prim.Native.Nat.{ℕ, ◌+◌, ◌-◌, ◌<◌, ◌≤◌}
use native.Mathlib.Omega.{arith}
use native.Mathlib.Decide.{dec_lt}
use lib.ListN.{length, get_or, drop, length-map, length-append, length-drop, get_or-append}
use lib.Seq.{ext_get_or, get_or-append-add, get_or-drop}
use Rattle.std.specs.Prelude.{Ok, Err}
use Rattle.rules.specs.declared.Behaviour.{Behaviour}
use Rattle.rules.specs.declared.Halt.{Halt}
use Rattle.rules.specs.Syntax.{Bytes}
use Rattle.rules.specs.Trace.{Trace, steps}
use Rattle.rules.specs.State.{Outcome, ended, refused, limits_of, trace_of}
use Rattle.rules.specs.Evaluation.{run}
use Rattle.rules.specs.Ruling.{sheet, ruling, ruling_of}
use Rattle.rules.proofs.Theorems.{every_run_accounted_lem}
use Rattle.sheet.specs.Decode.{program, function_of}
use Rattle.sheet.proofs.Located.{few-functions}
use Rattle.memory.specs.Layout.{Put, text_at, fields_at, list_place, argument_zero_place}
use Rattle.memory.specs.Abstract.{state_of, start_scope}
use Rattle.memory.specs.Posts.{Written}
use Rattle.memory.specs.Profile.{Profiled}
use Rattle.memory.specs.declared.Given.{Given}
use Rattle.memory.specs.declared.Course.{Course}
use Rattle.memory.proofs.Texts.{put-at}
use Rattle.sheet.specs.Check.{known_of}
use Rattle.engine.specs.Meaning as M
use Rattle.engine.specs.Start.{Finished, Halted, run_of}
use Rattle.result.specs.Encoding.{sheet_bytes}
use Rattle.result.specs.Ended.{sheet_in, Writable}
use Rattle.result.proofs.Theorems.{every_end_fits_lem, end_is_ruling_lem}
use Rattle.runner.specs.declared.Refused.TheVariants as why
use Rattle.runner.specs.Promise.{wrote}
use Rattle.runner.specs.Stages.{Prepared, Left, Rendered, ruling_in, trace_in}
use Rattle.runner.proofs.Tables.{loaded-below}

-- what is written at the front
pub front : (s r r' : Bytes) → Put 0 s r r' → length s ≤ length r → r' ≡ s ++ drop (length s) r
front s r r' p h = ext_get_or 0 r' (s ++ drop (length s) r) (p.only.size ∙ sym size) (λ i l. at i (dec_lt i (length s)))
  where
    size : length (s ++ drop (length s) r) ≡ length r
    size = simp (length-append, length-drop) (omega arith)

    at : (i : ℕ) → Dec (i < length s) → get_or r' i 0 ≡ get_or (s ++ drop (length s) r) i 0
    at i (yes l) =
        let z : 0 + i ≡ i = omega arith in
        (rw z at (put-at 0 s i p l)) ∙ sym (get_or-append s (drop (length s) r) 0 i l)
    at i (no l) =
        let d : length s + (i - length s) ≡ i = omega arith in
        p.only.above i (omega arith)
        ∙ sym (rw d at (get_or-append-add s (drop (length s) r) (i - length s) 0 ∙ get_or-drop (length s) r (i - length s) 0))

module _ {s i r w : Bytes} {g : Given} {n f : ℕ} (p : Prepared s i r w g n f) where
  functions-are : length (program (known_of s)).functions ≡ f
  unfolding program
  functions-are = length-map (known_of s).functions (function_of (known_of s)) ∙ sym p.functions

  run_is : run (limits_of g.loops g.stack g.budget) (program (known_of s)) (text_at 64 w argument_zero_place) (fields_at 64 w (list_place 64 0) n) i ≡ run_of s i w g n
  run_is =
      ap (λ (u : ℕ). run (record { loop = g.loops; stack = g.stack; budget = g.budget; string = u - 1; list = 16; stream = 1024; holds = 10 })
      (program (known_of s)) (text_at u w argument_zero_place) (fields_at u w (list_place u 0) n) i) (sym p.unit)

  ruling-is : (o : Outcome Behaviour) → run_of s i w g n ≡ o → ruling_in s i w g n ≡ ruling_of f o
  unfolding ruling
  ruling-is o e = λ j. ruling_of (functions-are j) ((run_is ∙ e) j)

  few : f ≤ 32
  few = let z = few-functions p.started.loaded in omega (arith, p.functions)

  module _ {b : Behaviour} {c : Course} {w' : Bytes} (d : Finished i g (run_of s i w g n) b c w w') where
    used-is : c.used ≡ steps d.trace
    unfolding state_of
    used-is =
        (every_run_accounted_lem (M.limits_given g)
        (record { program = program (known_of s); argument0 = text_at g.unit w argument_zero_place; arguments = fields_at g.unit w (list_place g.unit 0) n; stdin = i })
        b (state_of i w' g start_scope c) d.trace d.eq).0

    pub writable : Writable r w' g c f
    writable = record {
      roomy = record { unit = p.started.roomy.unit; small = p.started.roomy.small; slots = p.started.roomy.slots; room = let z = p.started.roomy.room in omega (arith, d.size) };
      unit = omega (arith, p.unit);
      output = d.length;
      steps = omega (arith, d.used, p.budget);
      functions = few;
      room = p.room;
    }

    sheet-is : ruling_in s i w g n ≡ sheet (sheet_in w' g b c f)
    sheet-is = ruling-is (ended b (state_of i w' g start_scope c) d.trace) d.eq ∙ end_is_ruling_lem d.trace i w' g b c f d.profile used-is few

    left : Left s (trace_in s i w g n) f w'
    left = record {
      tables = loaded-below p.started.loaded (λ j l. d.tables.same j (omega arith) (omega arith));
      functions = p.functions;
      counters = subst (λ (t : Trace). Profiled t w') (sym (ap trace_of (run_is ∙ d.eq))) d.profile;
    }

    pub ends : {r' : Bytes} {m : ℕ} → Written 0 (sheet_bytes (sheet_in w' g b c f)) r r' m
        → Rendered (ruling_in s i w g n) s (trace_in s i w g n) f r r' w' (Ok m)
    ends {r'} {m} q =
        let fits = (every_end_fits_lem r w' g b c f writable).1 in
        let end : m ≡ length (sheet_bytes (sheet_in w' g b c f)) = omega (arith, q.end) in
        record {
          answer = rw sheet-is (ap (λ (k : ℕ). wrote k) end);
          result = rw sheet-is (front (sheet_bytes (sheet_in w' g b c f)) r r' q.put (let z = p.room in omega arith));
          size = d.size ∙ p.size;
          left = left;
        }

  pub halts : {h : Halt} {w' : Bytes} → Halted (run_of s i w g n) h.why h.place w w'
      → Rendered (ruling_in s i w g n) s (trace_in s i w g n) f r r w' (Err (why.Midway h))
  halts {h} d = record {
    answer = rw (ruling-is (refused h.why h.place d.trace) d.eq);
    result = rw (ruling-is (refused h.why h.place d.trace) d.eq);
    size = d.size ∙ p.size;
    left = tt;
  }
