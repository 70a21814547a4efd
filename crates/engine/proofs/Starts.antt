-- A run from its beginning: main's call, around what its instruction comes to, and the profile that the counters then are.
-- Assumes nothing.
use Prim.Native.Nat.{ℕ, ◌≤◌, ◌<◌, ◌+◌, ◌*◌, ◌-◌, ◌%◌}
use native.Mathlib.Nat.{le_refl, mod-eq_of_lt}
use native.Mathlib.Omega.{arith}
use mathlib.Core.Path.{◌≡◌, refl, sym, ap, ◌∙◌, subst}
use mathlib.Core.Bool.{Bool, true, false, cond}
use mathlib.Core.List.{[], ◌∷◌, ◌++◌}
use lib.Dec.{eqb}
use lib.ListN.{length, get_or, length-append}
use lib.Seq.{ext_get_or}
use Rattle.rules.specs.declared.Behaviour.{Behaviour}
use Rattle.rules.specs.declared.Refusal.{Refusal}
use Rattle.rules.specs.Syntax.{Bytes, Program}
use Rattle.rules.specs.Trace.{Trace, end, step, call, ◌⨾◌, opened, steps, lengths, entered}
use Rattle.rules.specs.State.{State, Limits, ended, inside, as_call}
use Rattle.rules.specs.Refusals.{at_top}
use Rattle.rules.specs.Evaluation.{run}
use Rattle.rules.specs.Evaluation as rules
use Rattle.rules.specs.Genuine.{Genuine, nothing, begun, called, MadeBy}
use Rattle.rules.proofs.Outcomes.{Ends}
use Rattle.rules.proofs.Genuineness.{begins-steps, run-genuine}
use Rattle.rules.proofs.Beginnings.{steps_then}
use Rattle.rules.proofs.Runs.{RunCounted, run-counted}
use Rattle.sheet.specs.Decode.{program}
use Rattle.sheet.specs.Filled.{body_in}
use Rattle.sheet.proofs.Callees.{main_law, slots-count, slot_law}
use Rattle.memory.specs.Layout.{Only, field_at, fields_at, text_at, list_place, argument_zero_place, counters_end}
use Rattle.memory.specs.Abstract.{state_of, start_scope, start_course}
use Rattle.memory.specs.Profile.{Begun, Closed, Charged}
use Rattle.memory.proofs.Parts.{under, part_slice, same_trans}
use Rattle.memory.proofs.Rows.{row-length, row_at}
use Rattle.memory.proofs.Starting.{placed-start, fits-start, state_start}
use Rattle.memory.proofs.States.{state_charged}
use Rattle.memory.proofs.Charging.{charged-main, begun-only, closed_only, profiled}
use Rattle.memory.specs.declared.Given.{Given}
use Rattle.memory.specs.declared.Course.{Course}
use Rattle.engine.specs.Values.{RunEnd}
use Rattle.engine.specs.Meaning.{known_of, limits_given, enter_with, ins_at, handed}
use Rattle.engine.specs.Post.{Ready, Came, InsDone, does}
use Rattle.engine.specs.Start.{Started, run_of, Finished, Halted}
use Rattle.engine.proofs.Going.{onward_refl, has_ended, was_refused, ready_kept, handed-kept}

-- NO MORE CALLS THAN STEPS

module _ (k : ℕ) where
  entered_then : (t u : Trace) → entered k (t ⨾ u) ≡ entered k t + entered k u
  entered_then end u = omega arith
  entered_then (step at t) u = entered_then t u
  entered_then (call f i t) u = simp length-append (omega (arith, entered_then t u))

  entered-call : (f : ℕ) (i t : Trace) → entered k (call f i t) ≤ 1 + entered k i + entered k t
  entered-call f i t = go (eqb f k)
    where
      go : (b : Bool) → length (cond b (steps i ∷ []) [] ++ lengths k i ++ lengths k t) ≤ 1 + length (lengths k i) + length (lengths k t)
      go true = simp length-append (omega arith)
      go false = simp length-append (omega arith)

module _ (limits : Limits) (p : Program) (k : ℕ) where
  -- every call begins with a step of its own
  genuine-few : {left : ℕ} (t : Trace) → Genuine limits p left t → entered k t ≤ steps t - 1
  genuine-few t nothing = omega arith
  genuine-few t (begun n t₁ r g) = omega (arith, genuine-few t₁ g)
  genuine-few t (called at name list f g u i t₁ r e c gu b gi gt) =
      omega (
        arith,
        genuine-few u gu,
        genuine-few i gi,
        genuine-few t₁ gt,
        begins-steps _ i b,
        entered_then k u (call f i t₁),
        entered-call k f i t₁,
        steps_then u (call f i t₁),
      )

  made-few : (t : Trace) → MadeBy limits p t → entered k t ≤ steps t
  made-few t m =
      rw m.is_main (omega (arith, genuine-few m.inside m.genuine, begins-steps _ m.inside m.begins, entered-call k 0 m.inside end))

-- MAIN

module _ {s i w : Bytes} {g : Given} {n : ℕ} (given : Started s i w g n) where
  pub start_ready : Ready s i w g start_scope (start_course g.unit n (length i))
  start_ready = record {
    loaded = given.loaded;
    roomy = given.roomy;
    wide = given.wide;
    slots = given.slots;
    placed = placed-start;
    function = omega arith;
    fits = fits-start i g n given.few given.input;
  }

  -- the slots' names
  name-is : (x : ℕ) → x < g.slots → field_at 64 w 0 x ≡ get_or (program (known_of s)).slots x []
  name-is x h =
      let l : x < length (known_of s).variables = omega (arith, given.slots) in
      let q = slot_law given.loaded x l (omega (arith, given.roomy.room)) in
      let e : get_or w (64 * x) 0 % 64 ≡ get_or w (64 * x) 0 = mod-eq_of_lt (omega (arith, q.0)) in
      let z : 0 + 64 * x ≡ 64 * x = omega arith in
      rw (z, e) (sym (part_slice w (64 * x + 1) (get_or w (64 * x) 0) (omega (arith, q.0, given.roomy.room, given.roomy.slots))) ∙ q.1)

  names-are : fields_at 64 w 0 g.slots ≡ (program (known_of s)).slots
  names-are =
      ext_get_or [] _ _ (row-length g.slots (field_at 64 w 0) ∙ given.slots ∙ sym (slots-count given.loaded))
      (λ x h. let l : x < g.slots = omega (arith, row-length g.slots (field_at 64 w 0)) in row_at g.slots (field_at 64 w 0) x [] l ∙ name-is x l)

  state_is : state_of i w g start_scope (start_course g.unit n (length i)) ≡ rules.start (program (known_of s)) (fields_at g.unit w (list_place g.unit 0) n) i
  state_is = state_start i w g n given.roomy.slots given.variables ∙ rw names-are

  handed-is : handed s w g start_scope ≡ at_top (text_at g.unit w argument_zero_place)
  unfolding handed
  handed-is = refl

  module _ {v : Bytes} {first : Bool} (begun : Begun 0 w v first) where
    entry : Only 4096 counters_end w v
    entry = begun-only 0 begun (omega arith)

    pub main_ready : Ready s i v g start_scope (start_course g.unit n (length i))
    main_ready = ready_kept start_ready (under 0 4096 (omega arith) entry) entry.size (onward_refl g _)

    main_goes : (b : ℕ) → b ≡ body_in w 0 → run_of s i w g n ≡ inside 0 (does s i v g start_scope (start_course g.unit n (length i)) (ins_at s g 0 b))
    unfolding run as_call does ins_at enter_with
    main_goes b h =
        let z : g.stack - 0 ≡ g.stack = omega arith in
        rw (
          handed-kept start_ready (under 0 4096 (omega arith) entry),
          handed-is,
          state_charged given.roomy placed-start (fits-start i g n given.few given.input) entry (le_refl _) (le_refl _),
          state_is,
          h,
          main_law given.loaded,
          z,
        ) refl

    module _ {x : Bytes} {a : RunEnd} {b : ℕ} (body : b ≡ body_in w 0) (ran : InsDone s i v g start_scope (start_course g.unit n (length i)) b x a) where
      pub main-refused : {why : Refusal} {place : ℕ} → a ≡ RunEnd.Refused why place → Halted (run_of s i w g n) why place w x
      main-refused h =
          let z = was_refused ran h in
          record { trace = opened 0 z.trace; eq = main_goes b body ∙ ap (inside 0) z.eq; size = z.size ∙ entry.size }

      module _ {d : Course} {y : Behaviour} (told : a ≡ RunEnd.Ended y d) where
        came : Came i g start_scope v (start_course g.unit n (length i)) (does s i v g start_scope (start_course g.unit n (length i)) (ins_at s g 0 b)) y x d
        came = has_ended ran told

        -- the whole trace
        abbrev all : Trace
        all = call 0 came.trace end

        run_ends : run_of s i w g n ≡ ended y (state_of i x g start_scope d) all
        run_ends = main_goes b body ∙ ap (inside 0) came.eq

        counted : RunCounted (limits_given g) (state_of i x g start_scope d) all
        counted = subst (Ends (λ _. RunCounted (limits_given g))) run_ends (run-counted _ _ _ _ _)

        genuine : MadeBy (limits_given g) (program (known_of s)) all
        genuine = subst (Ends (λ _ _ t. MadeBy (limits_given g) (program (known_of s)) t)) run_ends (run-genuine _ _ _ _ _)

        used-is : d.used ≡ steps came.trace
        unfolding state_of
        used-is = counted.used ∙ omega arith

        pub ready_ended : Ready s i x g start_scope d
        ready_ended = ready_kept main_ready came.kept.tables came.kept.size came.onward

        module _ (z : Bytes) (closed : Closed 0 first d.used x z) where
          exit : Only 4096 counters_end x z
          exit = closed_only 0 first _ closed (omega arith)

          pub main-size : length z ≡ length w
          main-size = exit.size ∙ came.kept.size ∙ entry.size

          charged : Charged 0 all w z
          charged = charged-main first begun came.charged (rw used-is at closed)

          pub main-ended : Finished i g (run_of s i w g n) y d w z
          main-ended = record {
            trace = all;
            eq = run_ends ∙ ap (λ (q : State). ended y q all) (sym (state_charged ready_ended.roomy placed-start ready_ended.fits exit (le_refl _) (le_refl _)));
            profile = profiled charged given.counters (omega (arith, counted.within, given.budget))
                (λ f l. omega (arith, made-few (limits_given g) (program (known_of s)) f all genuine, counted.within, given.budget));
            used = omega (arith, used-is, counted.within);
            size = main-size;
            tables = same_trans (under 0 4096 (omega arith) entry) (same_trans came.kept.tables (under 0 4096 (omega arith) exit));
            length = ready_ended.fits.length;
          }
