-- Texts, variables and arguments: what is read where it stands, and what the rules make of it.
-- Assumes nothing.
use Prim.Native.Nat.{ℕ, zero, suc, ◌≤◌, ◌<◌, ◌+◌, ◌*◌, ◌-◌, ◌%◌, min}
use native.Mathlib.Nat.{mod-lt}
use native.Mathlib.Omega.{arith}
use mathlib.Core.Path.{◌≡◌, refl, sym, ap, ◌∙◌}
use mathlib.Core.Bool.{Bool, true, false}
use mathlib.Core.List.{[], ◌∷◌, ◌++◌, append-nil}
use lib.ListN.{length, take, get_or, length-take, length-append}
use lib.Seq.{take_all}
use lib.Dec.{eqb}
use Rattle.rules.specs.Syntax.{Bytes}
use Rattle.rules.specs.Words.{bytes_of, read_variable}
use Rattle.rules.specs.Trace.{end}
use Rattle.rules.specs.State.{Evaluated, value, Outcome, ended, variables, arguments}
use Rattle.rules.proofs.Ways.{text_on, variable_on, argument_on}
use Rattle.sheet.specs.Filled.{Loaded, IsText, in_record, start_of, mark_in, named_in, text_in}
use Rattle.sheet.proofs.Reading.{text_law, variable_law, argument_law, text-room}
use Rattle.sheet.proofs.Callees.{named_law}
use Rattle.sheet.proofs.Located.{few-records}
use Rattle.memory.specs.Layout.{part, value_if, text_at, value_at, string_place, list_place, variables_place, argument_zero_place}
use Rattle.memory.specs.Posts.{looked, Appended}
use Rattle.memory.specs.Abstract.{state_of}
use Rattle.memory.proofs.Parts.{under, part_length, part_slice, only_refl, only_wider}
use Rattle.memory.proofs.Texts.{step}
use Rattle.memory.proofs.Places.{string_up, string-end, list-next, list-end}
use Rattle.memory.proofs.Keeping.{kept-string}
use Rattle.memory.proofs.States.{state_string}
use Rattle.memory.proofs.Reading.{variable-read, argument-read, argument-none}
use Rattle.memory.specs.declared.Given.{Given}
use Rattle.memory.specs.Scope.{Scope}
use Rattle.memory.specs.declared.Course.{Course}
use Rattle.engine.specs.Meaning.{known_of, str_rule, str_rule_at, handed, argument_zero}
use Rattle.engine.specs.Post.{Ready, OfKind, RanText, StrRuled, Appends, Zero, does}
use Rattle.engine.proofs.Going.{quiet, onward_refl}
use Rattle.engine.specs.Values.{Text}

-- A VARIABLE'S VALUE

-- it is within the limit, and stands behind its size or has no bytes: as many as it has, from there, are the value
abbrev Stands : ℕ → Bytes → ℕ → Bytes → Type 0
Stands u w x v = (length v < u) × (part w (x + 3) (length v) ≡ v)

if-stands : (u : ℕ) (w : Bytes) (x : ℕ) (b : Bool) → 0 < u → Stands u w x (bytes_of (value_if b (text_at u w (x + 2))))
unfolding value_if part
if-stands u w x true z = (z, refl)
if-stands u w x false z =
    let d : x + 3 ≡ x + 2 + 1 = omega arith in
    let size = part_length w (x + 2 + 1) (get_or w (x + 2) 0 % u) in
    (omega (arith, size, mod-lt (get_or w (x + 2) 0) z), rw (size, d) refl)

pub value-stands : (u : ℕ) (w : Bytes) (x : ℕ) → 0 < u → Stands u w x (bytes_of (value_at u w x))
unfolding value_at
value-stands u w x z = if-stands u w x (eqb (get_or w (x + 1) 0) 0) z

-- A TEXT OF THE SHEET

pub is-text : {s w : Bytes} {r : ℕ} → Loaded s (known_of s) w → OfKind s w r 1 → IsText (known_of s) r
is-text {r = r} loaded kind = (text_law loaded r kind.known kind.kind).1

-- t being its record
module _ {s w : Bytes} {t : ℕ} (loaded : Loaded s (known_of s) w) (text : IsText (known_of s) t) where
  pub text_reads : 4096 ≤ length w → ((t < 512) × (4096 ≤ length w)) × ((0 < 65536) × (start_of w t + 0 + 2 ≤ length s))
  text_reads h = ((omega (arith, few-records loaded, text.0), h), (omega arith, omega (arith, (text-room loaded t text).0)))

  pub text-is : {m p : ℕ} → m ≡ in_record s w t 0 → p ≡ start_of w t → (p + 4 + m ≤ length s) × (m ≤ 63) × (part s (p + 4) m ≡ text_in s w t)
  text-is x y =
      let room = text-room loaded t text in
      (omega (arith, room.0), omega (arith, room.1), rw (x, y) (sym (part_slice s (start_of w t + 4) (in_record s w t 0) room.0)))

-- ADDED TO THE STRING IN WORK

-- nothing
appends_none : (u a n : ℕ) (w : Bytes) → n ≤ u → Appends u a n [] w w 0
appends_none u a n w h =
    let d : min u (n + 0) ≡ n = omega arith in
    record { size = refl; kept = rw d (sym (ap (take u) (append-nil (part w a n)) ∙ take_all u (part w a n) (omega (arith, part_length w a n)))); only = only_refl _ _ w }

-- a part of the sheet or of work memory, as far as there is room
pub appends : {w w' : Bytes} {u a n m k : ℕ} (s : Bytes) (from : ℕ) → Appended u a n (part s from m) w w' k → n ≤ u → Appends u a n (part s from m) w w' m
appends {w} {w'} {u} {a} {n} {m} {k} s from p h =
    record { size = sym (part_length s from m); kept = rw count at p.kept; only = only_wider (a + n) (a + u) (omega arith) (omega (arith, p.fits)) p.only }
  where
    count : k ≡ min u (n + m)
    count =
        let l : length (part w' a k) ≡ min u (length (part w a n ++ part s from m)) = ap length p.kept ∙ length-take u _ in
        omega (arith, part_length w' a k, length-append (part w a n) (part s from m), part_length w a n, part_length s from m)

module _ {s i w w' : Bytes} {g : Given} {e : Scope} {c : Course} (ready : Ready s i w g e c) {a n m : ℕ} {bytes : Bytes} (put : Appends g.unit a n bytes w w' m) (place : a ≡ string_place g.unit e.holds) where
  -- the rule gives these bytes, and the state is as before
  pub gives : {o : Outcome (Evaluated (Bytes × Bool))} {t : Bytes} {flag : Bool} → o ≡ ended (value (t, flag)) (state_of i w g e c) end → t ≡ bytes → m < g.unit
      → RanText i g e w c n o w' (Text.Value m flag c)
  gives {o} {t} {flag} h is short =
      let up = string_up g.unit {h = 0} {h' = e.holds} (omega arith) in
      let to = string-end g.unit {h = e.holds} ready.placed.holds in
      let below = list-end g.unit {h = e.holds + 1} (omega (arith, ready.placed.holds)) in
      let same : state_of i w' g e c ≡ state_of i w g e c = state_string ready.roomy ready.placed ready.fits put.only (omega arith) (omega arith) in
      record {
        by = record {
          bytes = bytes;
          size = sym put.size;
          short = short;
          came = quiet (h ∙ rw (is, same) refl) (under _ _ (omega arith) put.only) (kept-string ready.placed put.only (omega arith) (omega arith)) (onward_refl g c);
          text = rw (← place) put.kept;
          list = under _ _ (omega (arith, list-next g.unit (e.holds + 1))) put.only;
        };
      }

-- ARGUMENT 0

-- it is within the limit
zero-short : (s w : Bytes) (u f : ℕ) → Loaded s (known_of s) w → f ≤ length (known_of s).functions → 64 ≤ u → length (argument_zero s w u f) < u
zero-short s w u zero l h k = omega (arith, part_length w (argument_zero_place + 1) (get_or w argument_zero_place 0 % u), mod-lt (get_or w argument_zero_place 0) {m = u} (omega arith))
zero-short s w u (suc f) l h k =
    let room = text-room l (named_in w (suc f)) (named_law l (suc f) (omega arith) h) in
    omega (arith, room.1, room.2)

pub named-text : {s w : Bytes} {u f a n t : ℕ} → Zero s w u f a n → t ≡ named_in w f → 0 < f → IsText (known_of s) t
named-text {f = f} pre h z = rw h (named_law pre.loaded f z pre.function)

pub zero-main : {w w' : Bytes} {u a n m k : ℕ} (s : Bytes) (f : ℕ) → f ≡ 0 → m ≡ get_or w 3328 0 % u → Appended u a n (part w 3329 m) w w' k → n ≤ u → Appends u a n (argument_zero s w u f) w w' m
zero-main s f h z p q = rw (h, ← z) (appends _ _ p q)

pub zero-named : {w w' bytes : Bytes} {u a n t r : ℕ} (s : Bytes) (f : ℕ) → 0 < f → t ≡ named_in w f → bytes ≡ text_in s w t → Appends u a n bytes w w' r → Appends u a n (argument_zero s w u f) w w' r
zero-named s zero h x is put = absurd (omega arith)
zero-named s (suc f) h x is put = rw (← x, ← is) put

-- WHAT THE RULES MAKE OF IT

module _ {s i w : Bytes} {g : Given} {e : Scope} {c : Course} (ready : Ready s i w g e c) {r : ℕ} (flag : Bool) where
  text-starts : OfKind s w r 1 → does s i w g e c (str_rule_at s g e.calls r flag) ≡ ended (value (text_in s w r, flag)) (state_of i w g e c) end
  unfolding does str_rule_at str_rule
  text-starts kind = rw (text_law ready.loaded r kind.known kind.kind).0 (text_on _ _ _ _)

  pub text-ruled : {w' : Bytes} {a n m p : ℕ} → OfKind s w r 1 → m ≡ in_record s w r 0 → p ≡ start_of w r → a ≡ string_place g.unit e.holds
      → Appends g.unit a n (part s (p + 4) m) w w' m → StrRuled s i w g e c r flag n w' (Text.Value m flag c)
  text-ruled kind x y z put =
      let is = text-is ready.loaded (is-text ready.loaded kind) x y in
      gives ready put z (text-starts kind) (sym is.2) (omega (arith, is.1, ready.wide))

  variable-starts : OfKind s w r 2
      → does s i w g e c (str_rule_at s g e.calls r flag) ≡ ended (value (read_variable (mark_in w r) (variables (state_of i w g e c)), flag)) (state_of i w g e c) end
  unfolding does str_rule_at str_rule
  variable-starts kind = rw (variable_law ready.loaded r kind.known kind.kind).0 (variable_on _ _ _ _)

  pub variable-ruled : {w' : Bytes} {a n x p size q : ℕ} → OfKind s w r 2 → x ≡ mark_in w r → p ≡ variables_place g.unit e.level → n ≤ g.unit → a ≡ string_place g.unit e.holds
      → (size ≡ length (bytes_of (value_at g.unit w (p + (g.unit + 2) * x)))) × (size < g.unit)
      → Appended g.unit a n (part w (p + (g.unit + 2) * x + 3) size) w w' q → StrRuled s i w g e c r flag n w' (Text.Value size flag c)
  unfolding looked
  variable-ruled {x = x} {p = p} kind y h room z long put =
      let slot = p + (g.unit + 2) * x in
      let read = variable-read i w g e c s (mark_in w r) (rw ready.slots (variable_law ready.loaded r kind.known kind.kind).1) in
      let is = ap (part w (slot + 3)) long.0 ∙ (value-stands g.unit w slot ready.roomy.unit).1 in
      gives ready (appends _ _ put room) z (variable-starts kind) (read ∙ rw (← y, ← h) (sym is)) long.1

  argument-starts : (k : ℕ) → k ≡ in_record s w r 4 → OfKind s w r 3
      → does s i w g e c (str_rule_at s g e.calls r flag) ≡ ended (value (get_or ((handed s w g e).argument0 ∷ arguments (state_of i w g e c)) k [], flag)) (state_of i w g e c) end
  unfolding does str_rule_at str_rule
  argument-starts k h kind = rw ((argument_law ready.loaded r kind.known kind.kind).0, h) (argument_on _ _ _ _)

  pub zero-ruled : {w' : Bytes} {a n k size : ℕ} → OfKind s w r 3 → k ≡ in_record s w r 4 → k ≡ 0 → a ≡ string_place g.unit e.holds
      → Appends g.unit a n (argument_zero s w g.unit e.function) w w' size → StrRuled s i w g e c r flag n w' (Text.Value size flag c)
  unfolding handed
  zero-ruled kind x h z put =
      gives ready put z (argument-starts 0 (sym h ∙ x) kind) refl
      (omega (arith, put.size, zero-short s w g.unit e.function ready.loaded ready.function ready.wide))

  later-starts : (k : ℕ) → suc k ≡ in_record s w r 4 → OfKind s w r 3
      → does s i w g e c (str_rule_at s g e.calls r flag) ≡ ended (value (get_or (arguments (state_of i w g e c)) k [], flag)) (state_of i w g e c) end
  later-starts k h kind = argument-starts (suc k) h kind

  pub none-ruled : {n k : ℕ} → OfKind s w r 3 → k ≡ in_record s w r 4 → c.count < k → n ≤ g.unit → StrRuled s i w g e c r flag n w (Text.Value 0 flag c)
  none-ruled {n = n} {k = k} kind x h room =
      let d : suc (k - 1) ≡ in_record s w r 4 = omega arith in
      gives ready (appends_none g.unit (string_place g.unit e.holds) n w room) refl
      (later-starts (k - 1) d kind) (argument-none i w g e c (k - 1) (omega arith)) ready.roomy.unit

  pub argument-ruled : {w' : Bytes} {a n k m q : ℕ} → OfKind s w r 3 → k ≡ in_record s w r 4 → 0 < k → k ≤ c.count → n ≤ g.unit → a ≡ string_place g.unit e.holds
      → m ≡ get_or w (c.arguments + g.unit * (k - 1)) 0 % g.unit
      → Appended g.unit a n (part w (c.arguments + g.unit * (k - 1) + 1) m) w w' q → StrRuled s i w g e c r flag n w' (Text.Value m flag c)
  argument-ruled {k = k} kind x some few room z h put =
      let d : suc (k - 1) ≡ in_record s w r 4 = omega arith in
      gives ready (appends _ _ put room) z
      (later-starts (k - 1) d kind) (argument-read i w g e c (k - 1) (omega arith) ∙ rw h refl)
      (omega (arith, mod-lt (get_or w (c.arguments + g.unit * (k - 1)) 0) ready.roomy.unit))

-- WHERE IT LIES

-- the slot of variable x: below the string in work
module _ {s i w : Bytes} {g : Given} {e : Scope} {c : Course} {r x : ℕ} (ready : Ready s i w g e c) (kind : OfKind s w r 2) (slot : x ≡ mark_in w r) where
  pub slot-room : (g.unit + 2) * x + (g.unit + 2) ≤ 16 * (g.unit + 2)
  slot-room =
      let few = (variable_law ready.loaded r kind.known kind.kind).1 in
      omega (arith, step (g.unit + 2) x 16 (omega (arith, ready.slots, ready.roomy.slots)))

  pub slot-below : (p : ℕ) → p + 16 * (g.unit + 2) ≤ list_place g.unit 0 → p + (g.unit + 2) * x + 2 + g.unit ≤ string_place g.unit e.holds
  slot-below p low = omega (arith, slot-room, string_up g.unit {h = 0} {h' = e.holds} (omega arith))

-- an argument
module _ {s i w : Bytes} {g : Given} {e : Scope} {c : Course} (k : ℕ) (ready : Ready s i w g e c) where
  pub argument-room : 0 < k → k ≤ c.count → c.arguments + g.unit * (k - 1) + g.unit ≤ string_place g.unit e.holds
  argument-room some few =
      omega (arith, step g.unit (k - 1) c.count (omega arith), ready.fits.high, list-end g.unit {h = e.holds + 1} (omega (arith, ready.placed.holds)), string_up g.unit {h = 0} {h' = e.holds} (omega arith))

-- the string in work lies in memory
pub string-room : {s i w : Bytes} {g : Given} {e : Scope} {c : Course} → Ready s i w g e c → string_place g.unit e.holds + g.unit ≤ length w
string-room {g = g} {e = e} ready = omega (arith, string-end g.unit {h = e.holds} ready.placed.holds, ready.roomy.room)
