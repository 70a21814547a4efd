-- Lists: what they come to from what their string and the rest of the list came to.
-- Assumes nothing.
use Prim.Native.Nat.{ℕ, ◌≤◌, ◌<◌, ◌+◌, ◌-◌}
use native.Mathlib.Nat.{le_refl}
use native.Mathlib.Omega.{arith}
use mathlib.Core.Path.{◌≡◌, refl, sym, ap, ◌∙◌}
use mathlib.Core.Bool.{Bool, true, cond}
use mathlib.Core.List.{List, [], ◌∷◌, ◌++◌}
use lib.ListN.{length, length-append}
use borrow.Author.Tests.{le-leb, lt-leb}
use Rattle.rules.specs.declared.Refusal.{Refusal}
use Rattle.rules.specs.declared.Refusal.TheVariants.{LongList}
use Rattle.rules.specs.Syntax.{Bytes}
use Rattle.rules.specs.Words.{stretches}
use Rattle.rules.specs.Trace.{end}
use Rattle.rules.specs.State.{State, Inherited, Evaluated, error, value, Outcome, ended, refused, after, and_then, Run, ◌>>=◌}
use Rattle.rules.specs.Refusals.{LstMeaning, add_fields}
use Rattle.rules.proofs.Outcomes.{on_value, added_on, after-end}
use Rattle.rules.proofs.Ways.{empty_on, field_on, split_on}
use Rattle.sheet.specs.Check.{count}
use Rattle.sheet.specs.Filled.{in_record}
use Rattle.sheet.proofs.Reading.{empty_law, field_law, split_law}
use Rattle.memory.specs.Layout.{part, Only, list_place, string_place}
use Rattle.memory.specs.Posts.{ManyFields, Grown, Grows}
use Rattle.memory.specs.Abstract.{state_of}
use Rattle.memory.proofs.Parts.{under, same-within, same_trans, only_wider}
use Rattle.memory.proofs.Places.{fields_within, list-next, list-end}
use Rattle.memory.proofs.Rows.{row-length}
use Rattle.memory.proofs.Keeping.{kept-list}
use Rattle.memory.proofs.Charging.{charged-none}
use Rattle.memory.proofs.States.{state_list, same-fields}
use Rattle.memory.specs.declared.Given.{Given}
use Rattle.memory.specs.Scope.{Scope}
use Rattle.memory.specs.declared.Course.{Course}
use Rattle.std.specs.declared.option.Option.{Option}
use Rattle.std.specs.declared.option.Option.TheVariants.{Some, None}
use Rattle.engine.specs.Meaning.{known_of, limits_given, lst_rule, str_at, lst_at, lst_rule_at, handed}
use Rattle.engine.specs.Post.{Ready, OfKind, Came, Valued, StrDone, LstDone, LstRuled, so_far, does}
use Rattle.engine.proofs.Going.{still, onward_refl, ready_kept, list_then, stopped_then, has_value, has_error, text-refused}
use Rattle.engine.proofs.Assigns.{whole-value}
use Rattle.engine.proofs.Follows.{in_sheet, does-later, value_on, error-came, value-refused}
use Rattle.engine.specs.Values.{Text, Listing}

-- THE EMPTY LIST

module _ {s i w : Bytes} {g : Given} {e : Scope} {c : Course} {r : ℕ} (ready : Ready s i w g e c) where
  empty-starts : OfKind s w r 6 → (fields : List Bytes) → does s i w g e c (lst_rule_at s g e.calls r fields) ≡ ended (value fields) (state_of i w g e c) end
  unfolding does lst_rule_at lst_rule
  empty-starts kind fields = rw (empty_law ready.loaded r kind.known kind.kind) (empty_on _ _ _)

  pub empty-ruled : {m : ℕ} → OfKind s w r 6 → m ≤ 16 → LstRuled s i w g e c r m w (Listing.Fields m c)
  empty-ruled kind h = record { by = record { few = h; came = still (empty-starts kind _) (onward_refl g c) } }

-- MORE FIELDS, behind those so far; then the rest

-- the first m fields are followed by `more`, and are k now
pub record Followed (g : Given) (e : Scope) (more : List Bytes) (m k : ℕ) (w w' : Bytes) : Type 0 where
  pub few : k ≤ 16
  pub only : Only (list_place g.unit (e.holds + 1)) (string_place g.unit 0) w w'
  pub got : so_far w' g e k ≡ so_far w g e m ++ more

unfoldable pub after_string : Given → (at : ℕ) → (more : Bytes → List Bytes) → (rest : LstMeaning) → Inherited → (fields : List Bytes) → Bytes × Bool → Run (Evaluated (List Bytes))
after_string g at more rest h fields p = ◌>>=◌ (add_fields (limits_given g) at fields (more p.0)) (λ fs. rest fs h)

module _ (g : Given) (at : ℕ) (more : Bytes → List Bytes) (rest : LstMeaning) (h : Inherited) (fields : List Bytes) (t : Bytes) (flag : Bool) (s : State) where
  few-added : length (fields ++ more t) ≤ 16 → after_string g at more rest h fields (t, flag) s ≡ rest (fields ++ more t) h s
  unfolding after_string ◌>>=◌
  few-added k =
      ap (λ (o : Outcome (List Bytes)). and_then o (λ fs. rest fs h))
      (added_on (limits_given g) at s fields (more t) ∙ ap (λ (b : Bool). cond b (ended (fields ++ more t) s end) (refused LongList at end)) (le-leb (length (fields ++ more t)) 16 k))
      ∙ after-end _

  many-added : 16 < length (fields ++ more t) → after_string g at more rest h fields (t, flag) s ≡ refused LongList at end
  unfolding after_string ◌>>=◌
  many-added k =
      ap (λ (o : Outcome (List Bytes)). and_then o (λ fs. rest fs h))
      (added_on (limits_given g) at s fields (more t) ∙ ap (λ (b : Bool). cond b (ended (fields ++ more t) s end) (refused LongList at end)) (lt-leb (length (fields ++ more t)) 16 k))

-- a list record whose string is a, whose rest is b and that adds `more`
abbrev pub Starts : (s i w : Bytes) → Given → Scope → Course → (r a b : ℕ) → (more : Bytes → List Bytes) → Type 0
Starts s i w g e c r a b more = (fields : List Bytes) → does s i w g e c (lst_rule_at s g e.calls r fields)
    ≡ on_value (does s i w g e c (str_at s g e.calls a true)) error (after_string g r more (lst_at s g e.calls b) (handed s w g e) fields)

module _ {s i w v : Bytes} {g : Given} {e : Scope} {c : Course} (r a b : ℕ) (more : Bytes → List Bytes) (starts : Starts s i w g e c r a b more)
    (ready : Ready s i w g e c) {f : Text} (string : StrDone s i w g e c a true 0 v f) where
  pub string-error : (m : ℕ) {d : Course} → f ≡ Text.Error d → LstRuled s i w g e c r m v (Listing.Error d)
  string-error m h = record { by = error-came _ _ (starts _) (has_error string h) }

  pub string-refused : (m : ℕ) {why : Refusal} {place : ℕ} → f ≡ Text.Refused why place → LstRuled s i w g e c r m v (Listing.Refused why place)
  string-refused m h = record { by = value-refused _ _ (starts _) (text-refused string h) }

  module _ {n : ℕ} {flag : Bool} {d : Course} (had : f ≡ Text.Value n flag d) where
    abbrev one : Valued i g e w c 0 (does s i w g e c (str_at s g e.calls a true)) n flag v d
    one = has_value string had

    before : (m : ℕ) → m ≤ 16 → so_far v g e m ≡ so_far w g e m
    before m h =
        same-fields g.unit (list_place g.unit (e.holds + 1)) m
        (same-within _ _ (le_refl _) (omega (arith, fields_within g.unit {n = m} h, list-next g.unit (e.holds + 1))) one.list) ready.roomy.unit

    string_on : (m : ℕ) → does s i w g e c (lst_rule_at s g e.calls r (so_far w g e m))
        ≡ after one.came.trace (after_string g r more (lst_at s g e.calls b) (handed s w g e) (so_far w g e m) (one.bytes, flag) (state_of i v g e d))
    string_on m = value_on _ _ (starts _) one.came

    pub ready_then : Ready s i v g e d
    ready_then = ready_kept ready one.came.kept.tables one.came.kept.size one.came.onward

    -- too many
    pub fields-many : {x : Bytes} {m : ℕ} → r < count (known_of s) → m ≤ 16 → ManyFields m (more (part v (string_place g.unit e.holds) n)) v x
        → LstRuled s i w g e c r m x (Listing.Refused LongList r)
    fields-many {x} {m} of-sheet h many =
        let l : length (so_far w g e m ++ more one.bytes) ≡ m + length (more one.bytes) = length-append (so_far w g e m) _ ∙ ap (λ (k : ℕ). k + length (more one.bytes)) (row-length m _) in
        let o : 16 < m + length (more one.bytes) = rw (ap (λ (t : Bytes). length (more t)) (whole-value one)) at many.over in
        record { by = stopped_then one.came (string_on m) (record { trace = end; eq = many-added g r more _ _ _ one.bytes flag _ (omega arith); size = ap length many.kept; known = in_sheet ready of-sheet }) }

    -- added, and the rest goes on from them
    module _ {x : Bytes} {m k : ℕ} (few : m ≤ 16) (grown : Followed g e (more (part v (string_place g.unit e.holds) n)) m k v x) where
      pub ready_added : Ready s i x g e d
      ready_added = ready_kept ready_then (under 0 4096 (omega arith) grown.only) grown.only.size (onward_refl g d)

      new : so_far w g e m ++ more one.bytes ≡ so_far x g e k
      new = sym (grown.got ∙ rw (before m few, (whole-value one)) refl)

      abbrev added-came : Came i g e v d (ended (tt {0}) (state_of i x g e d) end) (tt {0}) x d
      added-came = record {
        trace = end;
        eq = refl;
        charged = charged-none (under _ _ (omega arith) grown.only);
        kept = kept-list ready.placed grown.only (le_refl _) (le_refl _);
        onward = onward_refl g d;
      }

      goes_on : after_string g r more (lst_at s g e.calls b) (handed s w g e) (so_far w g e m) (one.bytes, flag) (state_of i v g e d)
          ≡ after end (does s i x g e d (lst_at s g e.calls b (so_far x g e k)))
      goes_on =
          let l = ap length new ∙ row-length k _ in
          few-added g r more _ _ _ one.bytes flag _ (omega (arith, l, grown.few))
          ∙ ap (λ (fs : List Bytes). lst_at s g e.calls b fs (handed s w g e) (state_of i v g e d)) new
          ∙ ap (lst_at s g e.calls b (so_far x g e k) (handed s w g e)) (sym (state_list ready_then.roomy ready.placed ready_then.fits grown.only (le_refl _) (le_refl _)))
          ∙ does-later (lst_at s g e.calls b (so_far x g e k)) d ready (same_trans one.came.kept.tables (under 0 4096 (omega arith) grown.only))
          ∙ sym (after-end _)

      pub fields-more : {y : Bytes} (z : Listing) → LstDone s i x g e d b k y z → LstRuled s i w g e c r m y z
      fields-more z done = list_then z one.came (string_on m) (list_then z added-came goes_on done)

-- FIELD AND SPLIT

abbrev pub single : Bytes → List Bytes
single t = t ∷ []

module _ {s i w : Bytes} {g : Given} {e : Scope} {c : Course} {r a b : ℕ} (ready : Ready s i w g e c) (first : a ≡ in_record s w r 4) (second : b ≡ in_record s w r 6) where
  pub field-starts : OfKind s w r 7 → Starts s i w g e c r a b single
  unfolding does lst_rule_at lst_rule str_at lst_at after_string
  field-starts kind fields = rw ((field_law ready.loaded r kind.known kind.kind).0, first, second) (field_on _ _ _ _ _ _ _)

  pub split-starts : OfKind s w r 8 → Starts s i w g e c r a b stretches
  unfolding does lst_rule_at lst_rule str_at lst_at after_string
  split-starts kind fields = rw ((split_law ready.loaded r kind.known kind.kind).0, first, second) (split_on _ _ _ _ _ _ _)

-- what memory has done

module _ (g : Given) (e : Scope) {more : List Bytes} {w w' : Bytes} {m : ℕ} where
  list-grown : {k : ℕ} → e.holds ≤ 10 → Grown g.unit (list_place g.unit (e.holds + 1)) m more w w' k × (k ≤ 16) → Followed g e more m k w w'
  list-grown holds d =
      record { few = d.1; only = only_wider _ _ (omega arith) (omega (arith, list-end g.unit {h = e.holds + 1} (omega arith))) d.0.only; got = d.0.fields }

module _ (g : Given) (e : Scope) (n : ℕ) {p q : ℕ} (holds : e.holds ≤ 10) (to : p ≡ list_place g.unit (e.holds + 1)) (from : q ≡ string_place g.unit e.holds) where
  pub field-grown : {w w' : Bytes} {m k : ℕ} {a : Option ℕ} → a ≡ Some k → Grows g.unit p m (single (part w q n)) w w' a
      → Followed g e (single (part w (string_place g.unit e.holds) n)) m k w w'
  field-grown z h = list-grown g e holds (rw (z, to, from) at h)

  pub field-many : {w w' : Bytes} {m : ℕ} {a : Option ℕ} → a ≡ None → Grows g.unit p m (single (part w q n)) w w' a
      → ManyFields m (single (part w (string_place g.unit e.holds) n)) w w'
  field-many z h = rw (z, from) at h

  pub split-grown : {w w' : Bytes} {m k : ℕ} {a : Option ℕ} → a ≡ Some k → Grows g.unit p m (stretches (part w q (q + n - q))) w w' a
      → Followed g e (stretches (part w (string_place g.unit e.holds) n)) m k w w'
  split-grown z h = let l : q + n - q ≡ n = omega arith in list-grown g e holds (rw (z, l, to, from) at h)

  pub split-many : {w w' : Bytes} {m : ℕ} {a : Option ℕ} → a ≡ None → Grows g.unit p m (stretches (part w q (q + n - q))) w w' a
      → ManyFields m (stretches (part w (string_place g.unit e.holds) n)) w w'
  split-many z h = let l : q + n - q ≡ n = omega arith in rw (z, l, from) at h
