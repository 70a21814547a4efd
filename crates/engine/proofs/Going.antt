-- How one evaluation follows another: what each has come to makes what both come to.
-- Assumes nothing.
use Prim.Native.Nat.{ℕ, zero, suc, ◌≤◌, ◌<◌, ◌+◌, ◌*◌}
use native.Mathlib.Nat.{le_refl, le_trans}
use native.Mathlib.Omega.{arith}
use mathlib.Core.Path.{◌≡◌, refl, ap, ◌∙◌}
use mathlib.Core.Logic.{⊎_elim, inl, inr}
use mathlib.Core.Bool.{Bool}
use mathlib.Core.List.{List}
use lib.ListN.{length}
use Rattle.rules.specs.declared.Behaviour.{Behaviour}
use Rattle.rules.specs.declared.Refusal.{Refusal}
use Rattle.rules.specs.Syntax.{Bytes}
use Rattle.rules.specs.Trace.{end, ◌⨾◌}
use Rattle.rules.specs.State.{Evaluated, error, Outcome, ended, after}
use Rattle.sheet.specs.Filled.{Loaded, text_in, named_in}
use Rattle.sheet.specs.Format.{number}
use Rattle.sheet.proofs.Loading.{loaded-kept}
use Rattle.sheet.proofs.Located.{few-records, few-functions}
use Rattle.sheet.proofs.Callees.{named_law}
use Rattle.memory.proofs.Texts.{like_same, text_like}
use Rattle.memory.specs.Layout.{Same, argument_zero_place, counters_end}
use Rattle.memory.specs.Abstract.{state_of, Fits, Kept}
use Rattle.memory.proofs.Parts.{same_refl}
use Rattle.memory.proofs.Keeping.{kept_refl, kept_trans, kept-inner}
use Rattle.memory.proofs.Charging.{charged-none, charged_then}
use Rattle.memory.specs.declared.Given.{Given}
use Rattle.memory.specs.Scope.{Scope}
use Rattle.memory.specs.declared.Course.{Course}
use Rattle.engine.specs.Values.{RunEnd}
use Rattle.engine.specs.Moves.{tested, held}
use Rattle.engine.specs.Meaning.{known_of, handed, argument_zero}
use Rattle.engine.specs.Post.{Ready, Onward, Came, Stopped, Ran, RanText, RanList, Valued, FieldsMade}
use Rattle.engine.specs.Values.{Text, Listing}

-- COURSES

pub onward_refl : (g : Given) (c : Course) → Onward g c c
onward_refl g c = record { used = le_refl _; longer = le_refl _; short = λ h. h; low = le_refl _; high = le_refl _; count = le_refl _; from = refl; rest = le_refl _ }

pub onward_trans : {g : Given} {c d f : Course} → Onward g c d → Onward g d f → Onward g c f
onward_trans p q = record {
  used = le_trans p.used q.used;
  longer = le_trans p.longer q.longer;
  short = λ h. q.short (p.short h);
  low = le_trans p.low q.low;
  high = le_trans q.high p.high;
  count = le_trans q.count p.count;
  from = q.from ∙ p.from;
  rest = le_trans q.rest p.rest;
}

pub fits-onward : {i : Bytes} {g : Given} {e : Scope} {c c' : Course} → Fits i g e c → Onward g c c' → Fits i g e c'
fits-onward f o = record {
  count = le_trans o.count f.count;
  low = le_trans f.low o.low;
  high = le_trans o.high f.high;
  length = o.short f.length;
  rest = le_trans o.rest f.rest;
  stdin = λ p. omega (arith, o.from, o.rest, f.stdin p);
  from = λ p. omega (arith, o.from, f.from p);
  to = λ p. omega (arith, o.from, o.rest, f.to p);
  apart = λ p. ⊎_elim (λ h. inl (omega (arith, o.from, o.rest, h))) (λ h. inr (omega (arith, o.from, h))) (f.apart p);
}

-- WHAT IS HANDED DOWN

number_same : (a : ℕ) {w w' : Bytes} → Same 0 4096 w w' → a + 1 < 4096 → number w' a ≡ number w a
unfolding number
number_same a p h = omega (arith, p.same a (omega arith) (omega arith), p.same (a + 1) (omega arith) (omega arith))

text_in-same : (s : Bytes) (r : ℕ) {w w' : Bytes} → Same 0 4096 w w' → r < 512 → text_in s w' r ≡ text_in s w r
text_in-same s r p h =
    let e = number_same (1024 + 2 * r) p (omega arith) in
    rw e refl

-- the tables are as before, and so is argument 0 of every function
zero_same : (s w w' : Bytes) (u f : ℕ) → Loaded s (known_of s) w → f ≤ length (known_of s).functions → 0 < u → u ≤ 256 → Same 0 4096 w w'
    → argument_zero s w' u f ≡ argument_zero s w u f
zero_same s w w' u zero l h z m p = text_like u (like_same argument_zero_place u p (omega arith) (omega arith)) z
zero_same s w w' u (suc f) l h z m p =
    let k = few-functions l in
    let t = named_law l (suc f) (omega arith) h in
    let n = few-records l in
    let e = number_same (3072 + 4 * suc f + 2) p (omega arith) in
    rw e (text_in-same s (named_in w (suc f)) p (omega (arith, t.0)))

pub handed-kept : {s i w w' : Bytes} {g : Given} {e : Scope} {c : Course} → Ready s i w g e c → Same 0 4096 w w' → handed s w' g e ≡ handed s w g e
unfolding handed
handed-kept {s} {i} {w} {w'} {g} {e} r p =
    rw (zero_same s w w' g.unit e.function r.loaded r.function r.roomy.unit r.roomy.small p)

-- READY AGAIN

pub ready_kept : {s i w w' : Bytes} {g : Given} {e : Scope} {c c' : Course} → Ready s i w g e c → Same 0 4096 w w' → length w' ≡ length w → Onward g c c' → Ready s i w' g e c'
ready_kept r p l o = record {
  loaded = loaded-kept r.loaded (λ j h. p.same j (omega arith) h);
  roomy = record { unit = r.roomy.unit; small = r.roomy.small; slots = r.roomy.slots; room = omega (arith, r.roomy.room) };
  wide = r.wide;
  slots = r.slots;
  placed = r.placed;
  function = r.function;
  fits = fits-onward r.fits o;
}

-- ONE AFTER THE OTHER

module _ {i : Bytes} {g : Given} {e : Scope} where
  pub came_then : {A B : Type 0} {w v x : Bytes} {c d f : Course} {o : Outcome A} {a : A} {p q : Outcome B} {b : B}
      → (m : Came i g e w c o a v d) → p ≡ after m.trace q → Came i g e v d q b x f → Came i g e w c p b x f
  came_then m h n = record {
    trace = m.trace ⨾ n.trace;
    eq = h ∙ ap (after m.trace) n.eq;
    charged = charged_then m.charged n.charged;
    kept = kept_trans m.kept n.kept m.onward.longer;
    onward = onward_trans m.onward n.onward;
  }

  pub stopped_then : {A B : Type 0} {w v x : Bytes} {c d : Course} {o : Outcome A} {a : A} {p q : Outcome B} {why : Refusal} {place : ℕ}
      → (m : Came i g e w c o a v d) → p ≡ after m.trace q → Stopped q why place v x → Stopped p why place w x
  stopped_then m h n = record { trace = m.trace ⨾ n.trace; eq = h ∙ ap (after m.trace) n.eq; size = n.size ∙ m.kept.size; known = n.known }

  -- nothing was evaluated: only memory and course have changed
  pub quiet : {A : Type 0} {w w' : Bytes} {c c' : Course} {o : Outcome A} {a : A}
      → o ≡ ended a (state_of i w' g e c') end → Same 4096 counters_end w w' → Kept g e c.length w w' → Onward g c c' → Came i g e w c o a w' c'
  quiet h p k q = record { trace = end; eq = h; charged = charged-none p; kept = k; onward = q }

  -- and where memory is as it was
  pub still : {A : Type 0} {w : Bytes} {c c' : Course} {o : Outcome A} {a : A} → o ≡ ended a (state_of i w g e c') end → Onward g c c' → Came i g e w c o a w c'
  still {w = w} h q = quiet h (same_refl 4096 counters_end w) (kept_refl _ _ _ w) q

  pub ran_then : {A : Type 0} {w v x : Bytes} {c d : Course} {o : Outcome A} {a : A} {p q : Outcome Behaviour} (b : RunEnd)
      → (m : Came i g e w c o a v d) → p ≡ after m.trace q → Ran i g e v d q x b → Ran i g e w c p x b
  ran_then (RunEnd.Ended behaviour f) m h n = record { by = came_then m h n.by }
  ran_then (RunEnd.Refused why place) m h n = record { by = stopped_then m h n.by }

  pub list_then : {A : Type 0} {w v x : Bytes} {c d : Course} {o : Outcome A} {a : A} {p q : Outcome (Evaluated (List Bytes))} (b : Listing)
      → (m : Came i g e w c o a v d) → p ≡ after m.trace q → RanList i g e v d q x b → RanList i g e w c p x b
  list_then (Listing.Fields n f) m h r = record { by = record { few = r.by.few; came = came_then m h r.by.came } }
  list_then (Listing.Error f) m h r = record { by = came_then m h r.by }
  list_then (Listing.Refused why place) m h r = record { by = stopped_then m h r.by }

-- AN ANSWER WHOSE VARIANT IS KNOWN

module _ {i : Bytes} {g : Given} {e : Scope} {w w' : Bytes} {c : Course} where
  pub has_ended : {o : Outcome Behaviour} {a : RunEnd} {b : Behaviour} {c' : Course} → Ran i g e w c o w' a → a ≡ RunEnd.Ended b c' → Came i g e w c o b w' c'
  has_ended r h = (rw h at r).by

  pub grew : {o : Outcome Behaviour} {a : RunEnd} {b : Behaviour} {c' : Course} → Ran i g e w c o w' a → a ≡ RunEnd.Ended b c' → c.used ≤ c'.used
  grew r h = (has_ended r h).onward.used

  pub was_refused : {o : Outcome Behaviour} {a : RunEnd} {why : Refusal} {place : ℕ} → Ran i g e w c o w' a → a ≡ RunEnd.Refused why place → Stopped o why place w w'
  was_refused r h = (rw h at r).by

  pub has_value : {n : ℕ} {o : Outcome (Evaluated (Bytes × Bool))} {a : Text} {m : ℕ} {flag : Bool} {c' : Course} → RanText i g e w c n o w' a → a ≡ Text.Value m flag c' → Valued i g e w c n o m flag w' c'
  has_value r h = (rw h at r).by

  pub has_error : {n : ℕ} {o : Outcome (Evaluated (Bytes × Bool))} {a : Text} {c' : Course} → RanText i g e w c n o w' a → a ≡ Text.Error c' → Came i g e w c o error w' c'
  has_error r h = (rw h at r).by

  pub text-refused : {n : ℕ} {o : Outcome (Evaluated (Bytes × Bool))} {a : Text} {why : Refusal} {place : ℕ} → RanText i g e w c n o w' a → a ≡ Text.Refused why place → Stopped o why place w w'
  text-refused r h = (rw h at r).by

  pub has_fields : {o : Outcome (Evaluated (List Bytes))} {a : Listing} {m : ℕ} {c' : Course} → RanList i g e w c o w' a → a ≡ Listing.Fields m c' → FieldsMade i g e w c o m w' c'
  has_fields r h = (rw h at r).by

  pub list-error : {o : Outcome (Evaluated (List Bytes))} {a : Listing} {c' : Course} → RanList i g e w c o w' a → a ≡ Listing.Error c' → Came i g e w c o error w' c'
  list-error r h = (rw h at r).by

  pub list-refused : {o : Outcome (Evaluated (List Bytes))} {a : Listing} {why : Refusal} {place : ℕ} → RanList i g e w c o w' a → a ≡ Listing.Refused why place → Stopped o why place w w'
  list-refused r h = (rw h at r).by

-- A SCOPE THAT DIFFERS IN ITS CONDITION OR IN ITS HOLDS ALONE

module _ {A : Type 0} {i : Bytes} {g : Given} {e : Scope} {w w' : Bytes} {c c' : Course} {o : Outcome A} {a : A} where
  pub came-tested : Came i g (tested e) w c o a w' c' → Came i g e w c o a w' c'
  unfolding state_of
  came-tested m = record { trace = m.trace; eq = m.eq; charged = m.charged; kept = kept-inner m.kept (le_refl _) (le_refl _) (le_refl _) refl (le_refl _); onward = m.onward }

  pub came_held : Came i g (held e) w c o a w' c' → Came i g e w c o a w' c'
  unfolding state_of
  came_held m = record { trace = m.trace; eq = m.eq; charged = m.charged; kept = kept-inner m.kept (le_refl _) (omega arith) (le_refl _) refl (le_refl _); onward = m.onward }
