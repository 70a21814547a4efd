-- The rules that begin with a list: utility and for, and the rounds of a for.
-- Assumes nothing.
use Prim.Native.Nat.{ℕ, ◌≤◌, ◌<◌, ◌+◌, ◌*◌, ◌-◌}
use native.Mathlib.Nat.{le_refl}
use native.Mathlib.Omega.{arith}
use mathlib.Core.Path.{◌≡◌, refl, sym, ap, ◌∙◌}
use mathlib.Core.Bool.{Bool, true, false}
use mathlib.Core.List.{List, []}
use lib.ListN.{length, get_or, take, drop}
use Rattle.rules.specs.declared.Behaviour.{Behaviour}
use Rattle.rules.specs.declared.Behaviour.TheVariants.{Normal, Failure}
use Rattle.rules.specs.declared.Refusal.{Refusal}
use Rattle.rules.specs.declared.Refusal.TheVariants.{ManyHolds}
use Rattle.rules.specs.Syntax.{Bytes}
use Rattle.rules.specs.Trace.{Trace, end, ◌⨾◌}
use Rattle.rules.specs.State.{State, Inherited, Evaluated, Outcome, ended, after, Run, result}
use Rattle.rules.specs.Words.{utility_of}
use Rattle.rules.specs.Refusals.{one_more_hold}
use Rattle.rules.specs.Rules.{run_utility, for_each, end_with}
use Rattle.rules.proofs.Outcomes.{on_normal, on_value, on_hold, on_normal_lem, after-end, after-after}
use Rattle.rules.proofs.Ways.{utility_on, for_on, for-none, for-more}
use Rattle.sheet.specs.Filled.{start_of, mark_in, in_record, text_in}
use Rattle.sheet.specs.Check.{count}
use Rattle.sheet.proofs.Reading.{text-room, utility_law, for_law}
use Rattle.memory.specs.Layout.{Same, Only, row, row_from, field_at, text_at, variables_place, list_place, string_place, counters_end}
use Rattle.memory.specs.Posts.{Level, Assigned}
use Rattle.memory.specs.Profile.{Charged}
use Rattle.memory.specs.Abstract.{state_of, Kept}
use Rattle.memory.proofs.Rows.{row-none, row_at}
use Rattle.memory.proofs.Parts.{same_refl, same_trans, only_wider, under, over}
use Rattle.memory.proofs.Places.{list_up, fields_within}
use Rattle.memory.proofs.Texts.{step}
use Rattle.memory.proofs.Keeping.{kept_refl, kept_trans, kept-level, level-end}
use Rattle.memory.proofs.Charging.{charged-none, charged-before, charged_then}
use Rattle.memory.proofs.States.{same-fields, state_assigned}
use Rattle.memory.proofs.Levels.{state_fields}
use Rattle.memory.specs.declared.Given.{Given}
use Rattle.memory.specs.Scope.{Scope}
use Rattle.memory.specs.declared.Course.{Course}
use Rattle.engine.specs.Values.{RunEnd}
use Rattle.engine.specs.declared.tool.Tool.{Tool}
use Rattle.engine.specs.Ends.{ended_normal, to_utility}
use Rattle.engine.specs.Moves.{held, with_result}
use Rattle.engine.specs.Meaning.{known_of, limits_given, handed, ins_rule, ins_at, lst_at, ins_rule_at}
use Rattle.engine.specs.Post.{Ready, OfKind, Onward, Came, Ran, RanList, InsDone, InsRuled, LstDone, Acts, Acted, Iterates, Iterated, each_rule, so_far, does}
use Rattle.engine.proofs.Going.{onward_refl, onward_trans, handed-kept, ready_kept, still, ran_then, stopped_then, has_ended, has_fields, list-error, list-refused, came_held}
use Rattle.engine.proofs.Follows.{in_sheet, value_on, error-came, value-refused, not-held, one-hold, normal_stop, handed-held}
use Rattle.engine.proofs.Flow.{result_in}
use Rattle.engine.proofs.Inner.{ready_in, higher}
use Rattle.engine.proofs.Acting.{row-left}
use Rattle.engine.proofs.Settles.{handed-condition, end_with_settled, onward-result}
use Rattle.engine.specs.Values.{Listing}

-- AFTER THE LIST

module _ {i w v : Bytes} {g : Given} {e : Scope} {c d : Course} {o : Outcome (Evaluated (List Bytes))} {a : Listing} {m : ℕ} (ran : RanList i g e w c o v a) (h : a ≡ Listing.Fields m d) where
  pub listed_grew : c.used ≤ d.used
  listed_grew = (has_fields ran h).came.onward.used

  listed_ready : {s : Bytes} → Ready s i w g e c → Ready s i v g e d
  listed_ready ready = let t = (has_fields ran h).came in ready_kept ready t.kept.tables t.kept.size t.onward

-- the list starts with no field
no_fields_lem : (w : Bytes) (g : Given) (e : Scope) → so_far w g e 0 ≡ []
no_fields_lem w g e = row-none _

-- UTILITY

-- the name, as it is read from the sheet in place
pub name-read : (s w : Bytes) (r : ℕ) {p n : ℕ} → p ≡ start_of w r → n ≡ in_record s w r 0 → take (p + 4 + n - (p + 4)) (drop (p + 4) s) ≡ text_in s w r
name-read s w r {p} {n} h k = let d : p + 4 + n - (p + 4) ≡ n = omega arith in rw (d, h, k) refl

module _ {s i w : Bytes} {g : Given} {e : Scope} {c : Course} {r name l : ℕ} (ready : Ready s i w g e c) (kind : OfKind s w r 24) (first : name ≡ in_record s w r 4) (second : l ≡ in_record s w r 6) where
  utility-starts : does s i w g e c (ins_rule_at s g e.calls r)
      ≡ on_value (does s i w g e c (lst_at s g e.calls l (so_far w g e 0))) Failure (λ fs. run_utility (limits_given g) r (utility_of (text_in s w name)) fs (handed s w g e))
  unfolding does ins_rule_at ins_rule lst_at
  utility-starts = rw ((utility_law ready.loaded r kind.known kind.kind).0, first, second, no_fields_lem w g e) (utility_on _ _ _ _ _ _)

  -- the record of the name, and the room that it takes
  pub name-known : name < count (known_of s)
  name-known = rw first (utility_law ready.loaded r kind.known kind.kind).1.1.0

  pub name-room : {p n : ℕ} → p ≡ start_of w name → n ≡ in_record s w name 0 → p + 4 + n ≤ length s
  name-room h k = rw (h, k, first) (text-room ready.loaded _ (utility_law ready.loaded r kind.known kind.kind).1.1).0

  pub name-short : {n : ℕ} → n ≡ in_record s w name 0 → n ≤ 63
  name-short k = rw (k, first) (text-room ready.loaded _ (utility_law ready.loaded r kind.known kind.kind).1.1).1

  module _ {v : Bytes} {a : Listing} (ran : LstDone s i w g e c l 0 v a) where
    pub acts_after : {m : ℕ} {d : Course} → a ≡ Listing.Fields m d → Acts i v g e d r m
    acts_after h = let q = listed_ready ran h ready in record { roomy = q.roomy; placed = q.placed; fits = q.fits; known = in_sheet ready kind.known; few = (has_fields ran h).few }

    pub utility-run : {m : ℕ} {d : Course} {x : Bytes} (t : Tool) (n : RunEnd) → a ≡ Listing.Fields m d → to_utility t ≡ utility_of (text_in s w name) → Acted i v g e d r (to_utility t) m x n → InsRuled s i w g e c r x n
    utility-run t n h z q =
        let m = has_fields ran h in
        ran_then n m.came (value_on _ _ utility-starts m.came) (rw z at (q (handed s w g e) (handed-condition s w g e)))

    pub utility-error : {d : Course} → a ≡ Listing.Error d → InsRuled s i w g e c r v (RunEnd.Ended Failure d)
    utility-error h = record { by = error-came _ _ utility-starts (list-error ran h) }

    pub utility-refused : {why : Refusal} {place : ℕ} → a ≡ Listing.Refused why place → InsRuled s i w g e c r v (RunEnd.Refused why place)
    utility-refused h = record { by = value-refused _ _ utility-starts (list-refused ran h) }

-- FOR

-- the body, with a hold more than the for
abbrev body_of : (s w : Bytes) → Given → Scope → (b : ℕ) → Run Behaviour
body_of s w g e b = ins_at s g e.calls b (one_more_hold (handed s w g e))

module _ {s i w : Bytes} {g : Given} {e : Scope} {c : Course} {r x l b : ℕ} (ready : Ready s i w g e c) (kind : OfKind s w r 26) (slot : x ≡ mark_in w r) (list : l ≡ in_record s w r 6) (body : b ≡ in_record s w r 8) where
  for-starts : does s i w g e c (ins_rule_at s g e.calls r)
      ≡ on_value (does s i w g e c (lst_at s g e.calls l (so_far w g e 0))) Failure
      (λ fs t. on_hold (limits_given g) r (handed s w g e) (for_each x (body_of s w g e b) true fs t))
  unfolding does ins_rule_at ins_rule lst_at ins_at
  for-starts = rw ((for_law ready.loaded r kind.known kind.kind).0, slot, list, body, no_fields_lem w g e) (for_on _ _ _ _ _ _ _)

  each_later : {v : Bytes} (m : ℕ) (d : Course) → Same 0 4096 w v
      → for_each x (body_of s w g e b) true (so_far v g e m) (state_of i v g e d) ≡ does s i v g e d (each_rule x (ins_at s g e.calls b) (so_far v g e m))
  unfolding does each_rule
  each_later {v} m d p = rw (handed-kept ready p) refl

  module _ {v : Bytes} {a : Listing} (ran : LstDone s i w g e c l 0 v a) where
    pub for_ready : {m : ℕ} {d : Course} → a ≡ Listing.Fields m d → Ready s i v g e d
    for_ready h = listed_ready ran h ready

    pub for_asks : {m : ℕ} {d : Course} → a ≡ Listing.Fields m d → e.holds < 10 → Iterates s e x b m
    for_asks h room =
        let law = for_law ready.loaded r kind.known kind.kind in
        record { slot = rw slot law.1; body = rw body law.3.1; hold = room; few = (has_fields ran h).few }

    pub for-run : {m : ℕ} {d : Course} {z : Bytes} (n : RunEnd) → a ≡ Listing.Fields m d → e.holds < 10 → Iterated s i v g e d x b m z n → InsRuled s i w g e c r z n
    for-run {m} {d} n h room q =
        let t = has_fields ran h in
        ran_then n t.came
        (value_on _ _ for-starts t.came ∙ ap (after t.came.trace) (one-hold _ s w g e r refl room ∙ each_later m d t.came.kept.tables))
        q

    pub for-full : {m : ℕ} {d : Course} → a ≡ Listing.Fields m d → 10 ≤ e.holds → InsRuled s i w g e c r v (RunEnd.Refused ManyHolds r)
    for-full {m} {d} h full =
        let t = has_fields ran h in
        let k = in_sheet ready kind.known in
        record { by = stopped_then t.came (value_on _ _ for-starts t.came) (record { trace = end; eq = not-held _ s w g e r refl full; size = refl; known = k }) }

    pub for-error : {d : Course} → a ≡ Listing.Error d → InsRuled s i w g e c r v (RunEnd.Ended Failure d)
    for-error h = record { by = error-came _ _ for-starts (list-error ran h) }

    pub for-refused : {why : Refusal} {place : ℕ} → a ≡ Listing.Refused why place → InsRuled s i w g e c r v (RunEnd.Refused why place)
    for-refused h = record { by = value-refused _ _ for-starts (list-refused ran h) }

-- THE ROUNDS OF A FOR

-- with one hold more
ready_held : {s i w : Bytes} {g : Given} {e : Scope} {c : Course} → Ready s i w g e c → e.holds < 10 → Ready s i w g (held e) c
ready_held {e = e} {c} ready room =
    let p = ready.placed in
    let f = ready.fits in
    ready_in ready (held e) c
    (record { level = omega (arith, p.level); holds = omega arith; stream = p.stream; streams = omega (arith, p.streams); function = p.function })
    ready.function
    (record { stdin = f.stdin; from = f.from; to = f.to; apart = f.apart; rest = f.rest; length = f.length; count = f.count; low = f.low; high = higher ready })

-- an evaluation that only memory has changed before
came-before : {A : Type 0} {i : Bytes} {g : Given} {e : Scope} {w v x : Bytes} {c d : Course} {o : Outcome A} {a : A} → Same 4096 counters_end w v → Kept g e c.length w v
    → Came i g e v c o a x d → Came i g e w c o a x d
came-before p k m = record { trace = m.trace; eq = m.eq; charged = charged-before p m.charged; kept = kept_trans k m.kept (le_refl _); onward = m.onward }

-- the same of an instruction with a hold more, whatever it came to
ran-before : {i : Bytes} {g : Given} {e : Scope} {w v x : Bytes} {c : Course} {o : Outcome Behaviour} (a : RunEnd) → Same 4096 counters_end w v → Kept g e c.length w v
    → Ran i g (held e) v c o x a → Ran i g e w c o x a
ran-before (RunEnd.Ended b d) p k m = record { by = came-before p k (came_held m.by) }
ran-before (RunEnd.Refused why place) p k m = record { by = record { trace = m.by.trace; eq = m.by.eq; size = m.by.size ∙ k.size; known = m.by.known } }

-- the m fields from field k on
abbrev fields_from : (w : Bytes) → Given → Scope → (m k : ℕ) → List Bytes
fields_from w g e m k = row_from (m - k) (field_at g.unit w (list_place g.unit (e.holds + 1))) k

-- after k of the m fields, in memory v and course d: what is left is the rest of the fields
pub record Walked (s i w : Bytes) (g : Given) (e : Scope) (c : Course) (x b m : ℕ) (v : Bytes) (d : Course) (flag : Bool) (k : ℕ) : Type 0 where
  pub trace : Trace
  pub rest : does s i w g e c (each_rule x (ins_at s g e.calls b) (so_far w g e m))
      ≡ after trace (for_each x (body_of s w g e b) flag (fields_from w g e m k) (state_of i v g e d))
  pub charged : Charged e.function trace w v
  pub kept : Kept g e c.length w v
  pub onward : Onward g c d
  pub fields : so_far v g e m ≡ so_far w g e m
  pub few : k ≤ m

module _ {s i w : Bytes} {g : Given} {e : Scope} {c : Course} {x b m : ℕ} (ready : Ready s i w g e c) (each : Iterates s e x b m) where
  pub walk-starts : Walked s i w g e c x b m w c true 0
  unfolding does each_rule row
  walk-starts =
      let z : m - 0 ≡ m = omega arith in
      record {
        trace = end;
        rest = rw z (sym (after-end _));
        charged = charged-none (same_refl _ _ w);
        kept = kept_refl _ _ _ w;
        onward = onward_refl g c;
        fields = refl;
        few = omega arith;
      }

  module _ {v : Bytes} {d : Course} {flag : Bool} {k : ℕ} (walked : Walked s i w g e c x b m v d flag k) where
    walked_ready : Ready s i v g e d
    walked_ready = ready_kept ready walked.kept.tables walked.kept.size walked.onward

    abbrev walked-came : Came {A = Unit {0}} i g e w c (ended tt (state_of i v g e d) walked.trace) tt v d
    walked-came = record { trace = walked.trace; eq = refl; charged = walked.charged; kept = walked.kept; onward = walked.onward }

    -- THE NEXT ROUND: the variable gets field k, then the body

    -- where field k stands
    pub field_end : k < m → g.unit * k + g.unit ≤ 16 * g.unit
    field_end more = omega (arith, step g.unit k m more, fields_within g.unit {n = m} each.few)

    pub round_room : {p a : ℕ} → k < m → p ≡ variables_place g.unit e.level → p + 16 * (g.unit + 2) ≤ list_place g.unit 0 → list_place g.unit 0 ≤ a → a + 16 * g.unit ≤ string_place g.unit 0
        → Level g.unit v p × ((x < 16) × (p + 16 * (g.unit + 2) ≤ a + g.unit * k) × (a + g.unit * k + g.unit ≤ length v))
    round_room more level low from to =
        let o = walked_ready.roomy.room in (
          record { above = omega arith; unit = ready.roomy.unit; small = ready.roomy.small; room = omega arith },
          (omega (arith, ready.slots, each.slot, ready.roomy.slots), omega arith, omega (arith, field_end more)),
        )

    module _ {y : Bytes} {p a : ℕ} (more : k < m) (level : p ≡ variables_place g.unit e.level) (list : a ≡ list_place g.unit (e.holds + 1))
        (assigns : Assigned g.unit p x (text_at g.unit v (a + g.unit * k)) v y) where
      assigns_here : Assigned g.unit (variables_place g.unit e.level) x (field_at g.unit w (list_place g.unit (e.holds + 1)) k) v y
      assigns_here =
          let f = sym (row_at m (field_at g.unit v (list_place g.unit (e.holds + 1))) k [] more) ∙ ap (λ (fs : List Bytes). get_or fs k []) walked.fields ∙ row_at m (field_at g.unit w (list_place g.unit (e.holds + 1))) k [] more in
          rw f at (rw (level, list) at assigns)

      slot-low : x < g.slots
      slot-low = omega (arith, ready.slots, each.slot)

      round_only : Only (variables_place g.unit e.level) (list_place g.unit 0) v y
      round_only = only_wider _ _ (omega arith) (omega (arith, step (g.unit + 2) x 16 (omega (arith, slot-low, ready.roomy.slots)), level-end g.unit ready.placed)) assigns_here.only

      round_kept : Kept g e d.length v y
      round_kept = kept-level ready.placed round_only (le_refl _) (le_refl _)

      pub round_ready : Ready s i y g (held e) d
      round_ready = ready_held (ready_kept walked_ready round_kept.tables round_kept.size (onward_refl g d)) each.hold

      round_starts : for_each x (body_of s w g e b) flag (fields_from w g e m k) (state_of i v g e d)
          ≡ on_normal (body_of s w g e b (state_of i y g e d)) (λ t. for_each x (body_of s w g e b) (result t) (fields_from w g e m (k + 1)) t)
      round_starts =
          ap (λ (fs : List Bytes). for_each x (body_of s w g e b) flag fs (state_of i v g e d)) (row-left (m - k) (m - (k + 1)) k _ (omega arith))
          ∙ for-more (state_of i v g e d) x (body_of s w g e b) flag _ (fields_from w g e m (k + 1))
          ∙ ap (λ (t : State). on_normal (body_of s w g e b t) (λ u. for_each x (body_of s w g e b) (result u) (fields_from w g e m (k + 1)) u))
          (sym (state_assigned walked_ready.roomy walked_ready.placed walked_ready.fits x _ assigns_here slot-low))

      tables_there : Same 0 4096 w y
      tables_there = same_trans walked.kept.tables round_kept.tables

      body-does : does s i y g (held e) d (ins_at s g e.calls b) ≡ body_of s w g e b (state_of i y g e d)
      unfolding does state_of
      body-does = ap (λ (t : Inherited). ins_at s g e.calls b t (state_of i y g e d)) (handed-held s y g e ∙ ap one_more_hold (handed-kept ready tables_there))

      module _ {h : Scope} {z : Bytes} {f : RunEnd} (one : h ≡ held e) (done : InsDone s i y g h d b z f) where
        round_ran : Ran i g (held e) y d (body_of s w g e b (state_of i y g e d)) z f
        round_ran = rw body-does at (rw one at done)

        round_whole : Ran i g e v d (body_of s w g e b (state_of i y g e d)) z f
        round_whole = ran-before f (under 4096 counters_end (omega arith) round_only) round_kept round_ran

        pub walk_stopped : ended_normal f ≡ false → Iterated s i w g e c x b m z f
        walk_stopped n = ran_then f walked-came walked.rest (normal_stop _ round_starts f n round_whole)

        fields_there : {u : Course} → f ≡ RunEnd.Ended Normal u → so_far z g e m ≡ so_far w g e m
        fields_there t =
            state_fields (has_ended round_ran t).kept e.holds m ready.roomy.unit each.few (omega arith)
            ∙ same-fields g.unit (list_place g.unit (e.holds + 1)) m (over _ _ (list_up g.unit (omega arith)) round_only) ready.roomy.unit
            ∙ walked.fields

        pub walk_again : {u : Course} → f ≡ RunEnd.Ended Normal u → Walked s i w g e c x b m z u u.result (k + 1)
        walk_again {u} t =
            let r = has_ended round_whole t in
            let goes = on_normal_lem _ _ _ round_starts _ r.trace r.eq in
            record {
              trace = walked.trace ⨾ r.trace;
              rest = walked.rest ∙ ap (after walked.trace) (goes ∙ ap (λ (o : Bool). after r.trace (for_each x (body_of s w g e b) o (fields_from w g e m (k + 1)) (state_of i z g e u))) (result_in i z g e u)) ∙ after-after walked.trace r.trace (for_each x (body_of s w g e b) u.result (fields_from w g e m (k + 1)) (state_of i z g e u));
              charged = charged_then walked.charged r.charged;
              kept = kept_trans walked.kept r.kept walked.onward.longer;
              onward = onward_trans walked.onward r.onward;
              fields = fields_there t;
              few = omega arith;
            }

    -- AFTER THE LAST

    no_more : m ≤ k → for_each x (body_of s w g e b) flag (fields_from w g e m k) (state_of i v g e d)
        ≡ end_with flag (state_of i v g e d)
    unfolding row_from
    no_more h = let z : m - k ≡ 0 = omega arith in rw z (for-none _ x _ flag)

    pub walk_done : m ≤ k → Iterated s i w g e c x b m v (RunEnd.Ended Normal (with_result flag d))
    walk_done h =
        ran_then _ walked-came
        (walked.rest ∙ ap (after walked.trace) (no_more h ∙ end_with_settled i v g e d flag))
        (record { by = still refl (onward-result g d flag) })
