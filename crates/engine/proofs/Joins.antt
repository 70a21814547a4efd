-- Join: what it comes to from what its two strings came to.
-- Assumes nothing.
use Prim.Native.Nat.{ℕ, ◌≤◌, ◌<◌, ◌+◌, ◌-◌, min}
use native.Mathlib.Omega.{arith}
use mathlib.Core.Path.{◌≡◌, refl, sym, ap, ◌∙◌}
use mathlib.Core.Bool.{Bool, true, false, cond}
use mathlib.Core.List.{◌++◌, append_assoc}
use lib.Dec.{ltb}
use lib.ListN.{length, take, length-append}
use borrow.Author.Tests.{le-leb, lt-leb, ltb-true, ltb-false}
use Rattle.rules.specs.declared.Refusal.{Refusal}
use Rattle.rules.specs.declared.Refusal.TheVariants.{LongString}
use Rattle.rules.specs.Syntax.{Bytes}
use Rattle.rules.specs.Trace.{end}
use Rattle.rules.specs.State.{Inherited, Evaluated, error, value, Outcome, ended, refused, after, Run}
use Rattle.rules.specs.Refusals.{StrMeaning, made_string}
use Rattle.rules.proofs.Outcomes.{on_value, made_on}
use Rattle.rules.proofs.Ways.{join_on}
use Rattle.sheet.specs.Filled.{in_record}
use Rattle.sheet.proofs.Reading.{join_law}
use Rattle.memory.specs.Layout.{part, string_place}
use Rattle.memory.specs.Abstract.{state_of}
use Rattle.memory.proofs.Parts.{same_trans}
use Rattle.memory.proofs.Strings.{take-joined}
use Rattle.memory.specs.declared.Given.{Given}
use Rattle.memory.specs.Scope.{Scope}
use Rattle.memory.specs.declared.Course.{Course}
use Rattle.engine.specs.Meaning.{limits_given, str_rule, str_at, str_rule_at, handed}
use Rattle.engine.specs.Post.{Ready, OfKind, Valued, StrDone, StrRuled, does}
use Rattle.engine.proofs.Going.{came_then, stopped_then, still, onward_refl, has_value, has_error, text-refused}
use Rattle.engine.proofs.Follows.{in_sheet, does-later, value_on, error-came, value-refused}
use Rattle.engine.specs.Values.{Text}

-- A STRING IS MADE, unless it is too long

module _ (i w : Bytes) (g : Given) (e : Scope) (c : Course) (at : ℕ) (new : Bytes) (flag : Bool) where
  pub made : length new < g.unit → made_string (limits_given g) at new flag (state_of i w g e c) ≡ ended (value (new, flag)) (state_of i w g e c) end
  made h = made_on _ _ _ new flag ∙ ap (λ (b : Bool). cond b (ended (value (new, flag)) (state_of i w g e c) end) (refused LongString at end)) (le-leb (length new) (g.unit - 1) (omega arith))

  pub made-long : 0 < g.unit → g.unit ≤ length new → made_string (limits_given g) at new flag (state_of i w g e c) ≡ refused LongString at end
  made-long z h = made_on _ _ _ new flag ∙ ap (λ (b : Bool). cond b (ended (value (new, flag)) (state_of i w g e c) end) (refused LongString at end)) (lt-leb (length new) (g.unit - 1) (omega arith))

-- JOIN

-- the right string behind the left one, and what both make
unfoldable after_left : Given → (at : ℕ) → StrMeaning → Inherited → Bytes × Bool → Run (Evaluated (Bytes × Bool))
after_left g at right h (s, flag) s₁ = on_value (right flag h s₁) error (λ (q : Bytes × Bool). made_string (limits_given g) at (s ++ q.0) q.1)

module _ {s i w : Bytes} {g : Given} {e : Scope} {c : Course} {r a b : ℕ} (flag : Bool) (ready : Ready s i w g e c) (kind : OfKind s w r 5) (first : a ≡ in_record s w r 4) (second : b ≡ in_record s w r 6) where
  join-starts : does s i w g e c (str_rule_at s g e.calls r flag)
      ≡ on_value (does s i w g e c (str_at s g e.calls a flag)) error (after_left g r (str_at s g e.calls b) (handed s w g e))
  unfolding does str_rule_at str_rule str_at after_left
  join-starts = rw ((join_law ready.loaded r kind.known kind.kind).0, first, second) (join_on _ _ _ _ _ _ _)

  module _ {v : Bytes} {f : Text} {n : ℕ} (left : StrDone s i w g e c a flag n v f) where
    pub join_left_error : {d : Course} → f ≡ Text.Error d → StrRuled s i w g e c r flag n v f
    join_left_error h = rw h (record { by = error-came _ _ join-starts (has_error left h) })

    pub join_left_refused : {why : Refusal} {place : ℕ} → f ≡ Text.Refused why place → StrRuled s i w g e c r flag n v f
    join_left_refused h = rw h (record { by = value-refused _ _ join-starts (text-refused left h) })

    module _ {l : ℕ} {between : Bool} {d : Course} (had : f ≡ Text.Value l between d) where
      abbrev one : Valued i g e w c n (does s i w g e c (str_at s g e.calls a flag)) l between v d
      one = has_value left had

      left_on : does s i w g e c (str_rule_at s g e.calls r flag)
          ≡ after one.came.trace (after_left g r (str_at s g e.calls b) (handed s w g e) (one.bytes, between) (state_of i v g e d))
      left_on = value_on _ _ join-starts one.came

      right-starts : after_left g r (str_at s g e.calls b) (handed s w g e) (one.bytes, between) (state_of i v g e d)
          ≡ on_value (does s i v g e d (str_at s g e.calls b between)) error (λ (q : Bytes × Bool). made_string (limits_given g) r (one.bytes ++ q.0) q.1)
      unfolding after_left
      right-starts =
          ap (λ (o : Outcome (Evaluated (Bytes × Bool))). on_value o error (λ (q : Bytes × Bool). made_string (limits_given g) r (one.bytes ++ q.0) q.1))
          (does-later _ d ready one.came.kept.tables)

      module _ {k : ℕ} {x : Bytes} {y : Text} (cut : k ≡ min g.unit (n + l)) (right : StrDone s i v g e d b between k x y) where
        pub join_right_error : {d' : Course} → y ≡ Text.Error d' → StrRuled s i w g e c r flag n x y
        join_right_error h = rw h (record { by = came_then one.came left_on (error-came _ _ right-starts (has_error right h)) })

        pub join_right_refused : {why : Refusal} {place : ℕ} → y ≡ Text.Refused why place → StrRuled s i w g e c r flag n x y
        join_right_refused h = rw h (record { by = stopped_then one.came left_on (value-refused _ _ right-starts (text-refused right h)) })

        module _ {m : ℕ} {last : Bool} {d' : Course} (got : y ≡ Text.Value m last d') where
          abbrev two : Valued i g e v d k (does s i v g e d (str_at s g e.calls b between)) m last x d'
          two = has_value right got

          both : length (one.bytes ++ two.bytes) ≡ l + m
          both = length-append one.bytes two.bytes ∙ omega (arith, one.size, two.size)

          join-long : g.unit ≤ l + m → StrRuled s i w g e c r flag n x (Text.Refused LongString r)
          join-long h = record {
            by = stopped_then one.came left_on
                (stopped_then two.came (value_on _ _ right-starts two.came)
                (record { trace = end; eq = made-long i x g e d' r (one.bytes ++ two.bytes) last ready.roomy.unit (omega (arith, both)); size = refl; known = in_sheet ready kind.known }));
          }

          joined-text : part x (string_place g.unit e.holds) (min g.unit (n + (l + m))) ≡ take g.unit (part w (string_place g.unit e.holds) n ++ (one.bytes ++ two.bytes))
          joined-text =
              let z : min g.unit (n + (l + m)) ≡ min g.unit (k + m) = omega arith in
              rw z two.text
              ∙ ap (λ (j : ℕ). take g.unit (part v (string_place g.unit e.holds) j ++ two.bytes)) cut
              ∙ ap (λ (p : Bytes). take g.unit (p ++ two.bytes)) one.text
              ∙ take-joined g.unit (part w (string_place g.unit e.holds) n ++ one.bytes) two.bytes
              ∙ ap (take g.unit) (append_assoc (part w (string_place g.unit e.holds) n) one.bytes two.bytes)

          join-value : l + m < g.unit → StrRuled s i w g e c r flag n x (Text.Value (l + m) last d')
          join-value h = record {
            by = record {
              bytes = one.bytes ++ two.bytes;
              size = both;
              short = h;
              came = came_then one.came left_on
                  (came_then two.came (value_on _ _ right-starts two.came)
                  (still (made i x g e d' r (one.bytes ++ two.bytes) last (omega (arith, both))) (onward_refl g d')));
              text = joined-text;
              list = same_trans one.list two.list;
            };
          }

          -- one or the other, by its length
          pub join-made : {t : Text} → (l + m < g.unit → Text.Value (l + m) last d' ≡ t) → (g.unit ≤ l + m → Text.Refused LongString r ≡ t) → StrRuled s i w g e c r flag n x t
          join-made {t} fits long = by (ltb (l + m) g.unit) refl
            where
              by : (b : Bool) → ltb (l + m) g.unit ≡ b → StrRuled s i w g e c r flag n x t
              by true h = rw (sym (fits (ltb-true _ _ h))) (join-value (ltb-true _ _ h))
              by false h = rw (sym (long (ltb-false _ _ h))) (join-long (ltb-false _ _ h))
