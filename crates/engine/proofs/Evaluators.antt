-- Strings and lists begin: the step, then the rule of the record's kind; and how a string follows what came before it.
-- Assumes nothing.
use Prim.Native.Nat.{ℕ, ◌≤◌, ◌<◌, ◌+◌}
use native.Mathlib.Nat.{le_refl}
use native.Mathlib.Omega.{arith}
use mathlib.Core.Path.{◌≡◌, refl, ap, ◌∙◌}
use mathlib.Core.Bool.{Bool}
use mathlib.Core.List.{◌++◌}
use lib.ListN.{length, take}
use Rattle.rules.specs.declared.Refusal.TheVariants.{BudgetUsedUp}
use Rattle.rules.specs.Syntax.{Bytes}
use Rattle.rules.specs.State.{Evaluated, Outcome, after}
use Rattle.sheet.specs.Check.{count}
use Rattle.sheet.specs.Filled.{start_of}
use Rattle.sheet.proofs.Located.{few-records, record_room}
use Rattle.memory.specs.Layout.{part, Same, own_place, list_place, string_place}
use Rattle.memory.specs.Profile.{Counted}
use Rattle.memory.proofs.Parts.{under, same_trans}
use Rattle.memory.proofs.Charging.{counted-only}
use Rattle.memory.specs.declared.Given.{Given}
use Rattle.memory.specs.Scope.{Scope}
use Rattle.memory.specs.declared.Course.{Course}
use Rattle.engine.specs.Moves.{stepped}
use Rattle.engine.specs.Meaning.{known_of, lst_rule_at}
use Rattle.engine.specs.Post.{Ready, String, ListOf, Came, RanText, StrDone, StrRuled, LstDone, LstRuled, so_far, does, RanList}
use Rattle.engine.proofs.Going.{ready_kept, came_then, stopped_then}
use Rattle.engine.proofs.Begins.{used_up, str-begins, lst-begins, str-begun, lst-begun, fields-stepped}
use Rattle.engine.specs.Values.{Text, Listing}

-- THE STEP

-- the kind of a record can be read
pub can_read_kind : {s i w : Bytes} {g : Given} {e : Scope} {c : Course} (r : ℕ) → Ready s i w g e c → r < count (known_of s)
    → ((r < 512) × (4096 ≤ length w)) × (start_of w r + 4 ≤ length s)
can_read_kind r ready h = ((omega (arith, few-records ready.loaded), omega (arith, ready.roomy.room)), omega (arith, record_room ready.loaded r h))

module _ {s i w : Bytes} {g : Given} {e : Scope} {c : Course} (ready : Ready s i w g e c) where
  pub string_used_up : (r : ℕ) (flag : Bool) (n : ℕ) → String s r → g.budget ≤ c.used → StrDone s i w g e c r flag n w (Text.Refused BudgetUsedUp r)
  string_used_up r flag n sort h = record { by = used_up ready r _ _ (str-begins ready.loaded r g e.calls flag sort) sort.0 h }

  pub list_used_up : (r m : ℕ) → ListOf s r → g.budget ≤ c.used → LstDone s i w g e c r m w (Listing.Refused BudgetUsedUp r)
  list_used_up r m sort h = record { by = used_up ready r _ _ (lst-begins ready.loaded r g e.calls _ sort) sort.0 h }

  module _ {v : Bytes} {d : Course} (counted : Counted (own_place e.function) 1 w v) (left : c.used < g.budget) (next : d ≡ stepped c) where
    pub ready_stepped : Ready s i v g e d
    ready_stepped =
        let changed = counted-only _ _ counted ready.placed.function in
        rw next (ready_kept ready (under 0 4096 (omega arith) changed) changed.size
        (record { used = omega arith; longer = le_refl _; short = λ h. h; low = le_refl _; high = le_refl _; count = le_refl _; from = refl; rest = le_refl _ }))

    pub string-begun : {x : Bytes} (r : ℕ) (flag : Bool) (n : ℕ) (a : Text) → String s r → StrRuled s i v g e d r flag n x a → StrDone s i w g e c r flag n x a
    string-begun r flag n a sort done = str-begun ready r counted left n _ _ a (str-begins ready.loaded r g e.calls flag sort) (rw next at done)

    pub list-begun : {x : Bytes} (r m : ℕ) (a : Listing) → ListOf s r → LstRuled s i v g e d r m x a → LstDone s i w g e c r m x a
    list-begun {x} r m a sort done =
        let same : LstRuled s i v g e (stepped c) r m x a = rw next at done in
        let again : RanList i g e v (stepped c) (does s i v g e (stepped c) (lst_rule_at s g e.calls r (so_far w g e m))) x a = rw (fields-stepped ready r counted left m) at same in
        lst-begun ready r counted left _ _ a (lst-begins ready.loaded r g e.calls _ sort) again

-- A STRING AFTER WHAT CAME BEFORE

module _ {i : Bytes} {g : Given} {e : Scope} {w v x : Bytes} {c d : Course} {n : ℕ} where
  -- the string in work and the list are as they were
  pub text_then : {A : Type 0} {o : Outcome A} {a : A} {p q : Outcome (Evaluated (Bytes × Bool))} (b : Text) (m : Came i g e w c o a v d) → p ≡ after m.trace q
      → part v (string_place g.unit e.holds) n ≡ part w (string_place g.unit e.holds) n → Same (list_place g.unit (e.holds + 1)) (list_place g.unit (e.holds + 2)) w v
      → RanText i g e v d n q x b → RanText i g e w c n p x b
  text_then (Text.Value l flag f) m h string list r = record {
    by = record {
      bytes = r.by.bytes;
      size = r.by.size;
      short = r.by.short;
      came = came_then m h r.by.came;
      text = r.by.text ∙ ap (λ (y : Bytes). take g.unit (y ++ r.by.bytes)) string;
      list = same_trans list r.by.list;
    };
  }
  text_then (Text.Error f) m h string list r = record { by = came_then m h r.by }
  text_then (Text.Refused why place) m h string list r = record { by = stopped_then m h r.by }
