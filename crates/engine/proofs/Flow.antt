-- Sequence, not, if: what they come to from what their parts came to.
-- Assumes nothing.
use Prim.Native.Nat.{ℕ}
use mathlib.Core.Path.{◌≡◌, refl, ap, ◌∙◌}
use mathlib.Core.Bool.{Bool, true, false, cond}
use mathlib.Core.Bool.{not as negation}
use Rattle.rules.specs.declared.Behaviour.{Behaviour}
use Rattle.rules.specs.declared.Behaviour.TheVariants.{Normal}
use Rattle.rules.specs.declared.Refusal.{Refusal}
use Rattle.rules.specs.Syntax.{Bytes}
use Rattle.rules.specs.State.{Outcome, result, choose}
use Rattle.rules.specs.Refusals.{under_condition}
use Rattle.rules.specs.Rules.{end_with}
use Rattle.rules.proofs.Outcomes.{on_normal}
use Rattle.rules.proofs.Ways.{sequence_on, not_on, if_on}
use Rattle.sheet.specs.Filled.{in_record}
use Rattle.sheet.proofs.Reading.{sequence_law, not_law, if_law}
use Rattle.memory.specs.Abstract.{state_of}
use Rattle.memory.specs.declared.Given.{Given}
use Rattle.memory.specs.Scope.{Scope}
use Rattle.memory.specs.declared.Course.{Course}
use Rattle.engine.specs.Values.{RunEnd}
use Rattle.engine.specs.Ends.{is_normal}
use Rattle.engine.specs.Moves.{tested, with_result}
use Rattle.engine.specs.Meaning.{ins_rule, ins_at, ins_rule_at, handed}
use Rattle.engine.specs.Post.{Ready, OfKind, Ran, InsDone, InsRuled, does}
use Rattle.engine.proofs.Going.{ready_kept, has_ended, was_refused, still, came-tested}
use Rattle.engine.proofs.Follows.{normal_run, normal_other, normal_refused, does-later}
use Rattle.engine.proofs.Settles.{end_with_settled, onward-result}

-- READY AFTER AN INSTRUCTION, whatever its scope was

pub ready_after : {s i w v : Bytes} {g : Given} {e x : Scope} {c d : Course} {o : Outcome Behaviour} {f : RunEnd} {y : Behaviour} → Ready s i w g e c → Ran i g x w c o v f → f ≡ RunEnd.Ended y d → Ready s i v g e d
ready_after ready ran h = let m = has_ended ran h in ready_kept ready m.kept.tables m.kept.size m.onward

-- SEQUENCE

module _ {s i w : Bytes} {g : Given} {e : Scope} {c : Course} {r a b : ℕ} (ready : Ready s i w g e c) (kind : OfKind s w r 18) (first : a ≡ in_record s w r 4) (second : b ≡ in_record s w r 6) where
  sequence-starts : does s i w g e c (ins_rule_at s g e.calls r) ≡ on_normal (does s i w g e c (ins_at s g e.calls a)) (ins_at s g e.calls b (handed s w g e))
  unfolding does ins_rule_at ins_rule ins_at
  sequence-starts = rw ((sequence_law ready.loaded r kind.known kind.kind).0, first, second) (sequence_on _ _ _ _)

  module _ {v : Bytes} {f : RunEnd} (ran : InsDone s i w g e c a v f) where
    pub sequence-run : {d : Course} {y : Behaviour} {x : Bytes} (n : RunEnd) → f ≡ RunEnd.Ended y d → is_normal y ≡ true → InsDone s i v g e d b x n → InsRuled s i w g e c r x n
    sequence-run {d = d} n h z q = let m = has_ended ran h in normal_run _ sequence-starts n m z (does-later _ d ready m.kept.tables) q

    pub sequence-other : {d : Course} {y : Behaviour} → f ≡ RunEnd.Ended y d → is_normal y ≡ false → InsRuled s i w g e c r v (RunEnd.Ended y d)
    sequence-other h z = normal_other _ sequence-starts (has_ended ran h) z

    pub sequence-refused : {why : Refusal} {place : ℕ} → f ≡ RunEnd.Refused why place → InsRuled s i w g e c r v f
    sequence-refused h = rw h (normal_refused _ sequence-starts (was_refused ran h))

-- UNDER A CONDITION

pub ready_tested : {s i w : Bytes} {g : Given} {e : Scope} {c : Course} → Ready s i w g e c → Ready s i w g (tested e) c
ready_tested r = record {
  loaded = r.loaded;
  roomy = r.roomy;
  wide = r.wide;
  slots = r.slots;
  placed = record { level = r.placed.level; holds = r.placed.holds; stream = r.placed.stream; streams = r.placed.streams; function = r.placed.function };
  function = r.function;
  fits = record {
    stdin = r.fits.stdin;
    from = r.fits.from;
    to = r.fits.to;
    apart = r.fits.apart;
    rest = r.fits.rest;
    length = r.fits.length;
    count = r.fits.count;
    low = r.fits.low;
    high = r.fits.high;
  };
}

ran_tested : {i w v : Bytes} {g : Given} {e : Scope} {c : Course} {o : Outcome Behaviour} (f : RunEnd) → Ran i g (tested e) w c o v f → Ran i g e w c o v f
ran_tested (RunEnd.Ended y d) q = record { by = came-tested q.by }
ran_tested (RunEnd.Refused why place) q = record { by = q.by }

-- what a test comes to, in the words of the rule that asks for it
abbrev pub Tests : (s i w : Bytes) → Given → Scope → Course → (r : ℕ) → Outcome Behaviour
Tests s i w g e c a = ins_at s g e.calls a (under_condition (handed s w g e)) (state_of i w g e c)

pub test_ran : {i w v : Bytes} {g : Given} {e d : Scope} {c : Course} (s : Bytes) (a : ℕ) (f : RunEnd) → d ≡ tested e → InsDone s i w g d c a v f → Ran i g e w c (Tests s i w g e c a) v f
unfolding does handed state_of
test_ran s a f h q = ran_tested f (rw h at q)

pub result_in : (i w : Bytes) (g : Given) (e : Scope) (c : Course) → result (state_of i w g e c) ≡ c.result
unfolding state_of
result_in i w g e c = refl

-- NOT

module _ {s i w : Bytes} {g : Given} {e : Scope} {c : Course} {r a : ℕ} (ready : Ready s i w g e c) (kind : OfKind s w r 20) (body : a ≡ in_record s w r 4) where
  not-starts : does s i w g e c (ins_rule_at s g e.calls r) ≡ on_normal (Tests s i w g e c a) (λ t. end_with (negation (result t)) t)
  unfolding does ins_rule_at ins_rule ins_at
  not-starts = rw ((not_law ready.loaded r kind.known kind.kind).0, body) (not_on _ _ _)

  module _ {x : Scope} {v : Bytes} {f : RunEnd} (under : x ≡ tested e) (ran : InsDone s i w g x c a v f) where
    pub not-run : {d k : Course} {y : Behaviour} → f ≡ RunEnd.Ended y d → is_normal y ≡ true → k ≡ with_result (negation d.result) d → InsRuled s i w g e c r v (RunEnd.Ended Normal k)
    not-run {d} h z q =
        rw q
        (normal_run _ not-starts (RunEnd.Ended Normal (with_result (negation d.result) d)) (has_ended (test_ran s a f under ran) h) z
        (ap (λ (b : Bool). end_with (negation b) (state_of i v g e d)) (result_in i v g e d) ∙ end_with_settled i v g e d (negation d.result))
        (record { by = still refl (onward-result g d (negation d.result)) }))

    pub not-other : {d : Course} {y : Behaviour} → f ≡ RunEnd.Ended y d → is_normal y ≡ false → InsRuled s i w g e c r v (RunEnd.Ended y d)
    not-other h z = normal_other _ not-starts (has_ended (test_ran s a f under ran) h) z

    pub not-refused : {why : Refusal} {place : ℕ} → f ≡ RunEnd.Refused why place → InsRuled s i w g e c r v f
    not-refused h = rw h (normal_refused _ not-starts (was_refused (test_ran s a f under ran) h))

-- IF

module _ {s i w : Bytes} {g : Given} {e : Scope} {c : Course} {r a yes no : ℕ} (ready : Ready s i w g e c) (kind : OfKind s w r 21) (test : a ≡ in_record s w r 4) (first : yes ≡ in_record s w r 6)
    (second : no ≡ in_record s w r 8) where
  if-starts : does s i w g e c (ins_rule_at s g e.calls r)
      ≡ on_normal (Tests s i w g e c a) (λ t. choose (result t) (ins_at s g e.calls yes (handed s w g e)) (ins_at s g e.calls no (handed s w g e)) t)
  unfolding does ins_rule_at ins_rule ins_at
  if-starts = rw ((if_law ready.loaded r kind.known kind.kind).0, test, first, second) (if_on _ _ _ _ _)

  module _ {x : Scope} {v : Bytes} {f : RunEnd} (under : x ≡ tested e) (ran : InsDone s i w g x c a v f) where
    chosen : (b : Bool) (d : Course) → d.result ≡ b
        → choose (result (state_of i v g e d)) (ins_at s g e.calls yes (handed s w g e)) (ins_at s g e.calls no (handed s w g e)) (state_of i v g e d)
        ≡ ins_at s g e.calls (cond b yes no) (handed s w g e) (state_of i v g e d)
    unfolding choose
    chosen true d h = rw (result_in i v g e d ∙ h) refl
    chosen false d h = rw (result_in i v g e d ∙ h) refl

    pub if-run : {d : Course} {y : Behaviour} {z : Bytes} (b : Bool) (n : RunEnd) → f ≡ RunEnd.Ended y d → is_normal y ≡ true → d.result ≡ b → InsDone s i v g e d (cond b yes no) z n
        → InsRuled s i w g e c r z n
    if-run {d} b n h z k q =
        let m = has_ended (test_ran s a f under ran) h in
        normal_run _ if-starts n m z (chosen b d k ∙ does-later _ d ready m.kept.tables) q

    pub if-other : {d : Course} {y : Behaviour} → f ≡ RunEnd.Ended y d → is_normal y ≡ false → InsRuled s i w g e c r v (RunEnd.Ended y d)
    if-other h z = normal_other _ if-starts (has_ended (test_ran s a f under ran) h) z

    pub if-refused : {why : Refusal} {place : ℕ} → f ≡ RunEnd.Refused why place → InsRuled s i w g e c r v f
    if-refused h = rw h (normal_refused _ if-starts (was_refused (test_ran s a f under ran) h))
