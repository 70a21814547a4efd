-- The pass over the records: what holds before each record, that a good one keeps it, and what each way out says.
use mathlib.Core.Path.{◌≡◌, refl, sym, ap, ◌∙◌, subst}
use mathlib.Core.Bool.{Bool, true, false, cond}
use mathlib.Core.List.{List, [], ◌∷◌, ◌++◌, map}
use Prim.Native.Nat.{ℕ, zero, suc, ◌+◌, ◌*◌, ◌-◌, ◌<◌, ◌≤◌}
use native.Mathlib.Omega.{arith}
use lib.ListN.{length, set, length-append, length-map, length-set, get_or-map}
use borrow.Author.Tests.{eq-eqb, ne_eqb, lt-ltb, le-ltb}
use Rattle.std.proofs.lemmas.List.{map-append}
use Rattle.std.specs.Prelude.{Result, Ok, Err}
use Rattle.rules.specs.Syntax.{Bytes}
use Rattle.sheet.specs.declared.Counts.{Counts}
use Rattle.sheet.specs.declared.Fault.{Fault}
use Rattle.sheet.specs.declared.Fault.TheVariants.{Faulty, Full}
use Rattle.sheet.specs.declared.Refused.{Refused}
use Rattle.sheet.specs.Format.{number}
use Rattle.sheet.specs.Table.{name_written, names_written, written, words, entries, filled, partly}
use Rattle.sheet.specs.Check.{Rec, Known, Variable, Judgement, fine, faulty, full, accepted, refused, known, next, start, no_rec, count, kind_of, payload_of, ends_in_main, judge, walk}
use Rattle.sheet.specs.Check.{record_here, variable_here, function_here, is_new, is_function, named_here}
use Rattle.sheet.specs.Ready.{span_of, Held, Listed, Slotted, Ready, counts_of, verdict_of, refused_of, entered, with_variable, with_function, spanned, passed_of, passed_table}
use Rattle.sheet.proofs.Records.{count-known}
use Rattle.sheet.proofs.Tables.{stack, length-stack, stack-offset, stack-name, stack_entry, stack-mark, offset_read, entry_read, length-entries, entries-append, entries-named}
use Rattle.sheet.proofs.Sound.{Sound, sound_start, sound_next, slotted-next, fine-functions, new_slot, new_short, sound_short}

-- THE TABLE

abbrev pub offsets_of : Known → List ℕ
offsets_of K = map (λ (c : Rec). c.at) K.records

abbrev pub slots_of : Known → List ℕ
slots_of K = map (λ (c : Rec). c.slot) K.records

abbrev pub names_of : Known → List Bytes
names_of K = map (λ (v : Variable). v.name) K.variables

pub filled-stack : (K : Known) (ms : List ℕ) (t : Bytes) → filled K ms t ≡ stack t (offsets_of K) (names_of K) (entries K.functions) ms
unfolding filled stack
filled-stack K ms t = refl

pub partly-start : (t : Bytes) → t ≡ partly start t
unfolding filled words entries names_written
partly-start t = refl

-- the parts have room
module _ (s : Bytes) (n : ℕ) (h : Sound s n) (few : n ≤ 512) where
  pub few_offsets : length (offsets_of (known s n)) ≤ 512
  few_offsets = omega (arith, length-map (known s n).records (λ (c : Rec). c.at), count-known s n)

  pub few-names : length (names_of (known s n)) ≤ 16
  few-names = omega (arith, length-map (known s n).variables (λ (v : Variable). v.name), h.variables)

  pub few-entries : length (entries (known s n).functions) ≤ 64
  few-entries = omega (arith, length-entries (known s n).functions, h.functions.few)

  pub few-slots : length (slots_of (known s n)) ≤ 512
  few-slots = omega (arith, length-map (known s n).records (λ (c : Rec). c.slot), count-known s n)

-- a good record's entries are those of the next state
module _ (s t : Bytes) (n : ℕ) (h : Sound s n) (few : n < 512) (g : judge s (known s n) ≡ fine) where
  few' : n ≤ 512
  few' = omega arith

  add_variable : (os es ms : List ℕ) → length os ≤ 512 → length es ≤ 64 → length ms ≤ 512 →
      with_variable s (known s n) (stack t os (names_of (known s n)) es ms) ≡ stack t os (names_of (next s (known s n))) es ms
  unfolding next
  add_variable os es ms lo le lm = go (is_new s (known s n)) refl
    where
      go : (b : Bool) → is_new s (known s n) ≡ b
          → cond b (name_written (stack t os (names_of (known s n)) es ms) (length (known s n).variables) (variable_here s (known s n)).name) (stack t os (names_of (known s n)) es ms)
          ≡ stack t os (map (λ (v : Variable). v.name) (cond b ((known s n).variables ++ variable_here s (known s n) ∷ []) (known s n).variables)) es ms
      go true e =
          let m = length-map (known s n).variables (λ (v : Variable). v.name) in
          ap (λ (k : ℕ). name_written (stack t os (names_of (known s n)) es ms) k (variable_here s (known s n)).name) (sym m)
          ∙ stack-name t os (names_of (known s n)) es ms lo (few-names s n h few') le lm _ (let q = new_slot s (known s n) g e in omega arith) (new_short s n h g e)
          ∙ ap (λ (ns : List Bytes). stack t os ns es ms) (sym (map-append (λ (v : Variable). v.name) (known s n).variables ((variable_here s (known s n)) ∷ [])))
      go false e = refl

  add_function : (os : List ℕ) (ns : List Bytes) (ms : List ℕ) → length os ≤ 512 → length ns ≤ 16 → length ms ≤ 512 →
      with_function s (known s n) (stack t os ns (entries (known s n).functions) ms) ≡ stack t os ns (entries (next s (known s n)).functions) ms
  unfolding next
  add_function os ns ms lo ln lm = go (is_function s (known s n)) refl
    where
      go : (b : Bool) → is_function s (known s n) ≡ b
          → cond b (written (stack t os ns (entries (known s n).functions) ms) (3076 + 4 * length (known s n).functions) ((function_here s (known s n)).body ∷ (function_here s (known s n)).named ∷ []))
          (stack t os ns (entries (known s n).functions) ms)
          ≡ stack t os ns (entries (cond b ((known s n).functions ++ function_here s (known s n) ∷ []) (known s n).functions)) ms
      go true e =
          let d : 3076 + 4 * length (known s n).functions ≡ 3076 + 2 * length (entries (known s n).functions) = omega (arith, length-entries (known s n).functions) in
          ap (λ (k : ℕ). written (stack t os ns (entries (known s n).functions) ms) k ((function_here s (known s n)).body ∷ (function_here s (known s n)).named ∷ [])) d
          ∙ stack_entry t os ns (entries (known s n).functions) ms lo ln (few-entries s n h few') lm _ _ (let q = fine-functions s (known s n) g e in omega (arith, length-entries (known s n).functions))
          ∙ ap (λ (es : List ℕ). stack t os ns es ms) (sym (entries-append (known s n).functions (function_here s (known s n))))
      go false e = refl

  -- the sizes of the next state's parts
  next-names : length (names_of (next s (known s n))) ≤ 16
  unfolding known
  next-names = few-names s (suc n) (sound_next s n h g) few

  next-entries : length (entries (next s (known s n)).functions) ≤ 64
  unfolding known
  next-entries = few-entries s (suc n) (sound_next s n h g) few

  next_offsets : offsets_of (known s n) ++ (known s n).end ∷ [] ≡ offsets_of (next s (known s n))
  unfolding next
  next_offsets = sym (map-append (λ (c : Rec). c.at) (known s n).records ((record_here s (known s n)) ∷ []))

  next_marks : slots_of (known s n) ++ (record_here s (known s n)).slot ∷ [] ≡ slots_of (next s (known s n))
  unfolding next
  next_marks = sym (map-append (λ (c : Rec). c.slot) (known s n).records ((record_here s (known s n)) ∷ []))

  pub entered-is : entered s (known s n) (partly (known s n) t) ≡ partly (next s (known s n)) t
  unfolding entered
  entered-is =
      let lo = few_offsets s n h few' in
      let ln = few-names s n h few' in
      let le = few-entries s n h few' in
      let lm = few-slots s n h few' in
      let co : count (known s n) ≡ length (offsets_of (known s n)) = sym (length-map (known s n).records (λ (c : Rec). c.at)) in
      let cm : count (known s n) ≡ length (slots_of (known s n)) = sym (length-map (known s n).records (λ (c : Rec). c.slot)) in
      let nn = count-known s n in
      let one : (length (offsets_of (known s n) ++ (known s n).end ∷ []) ≤ 512) = simp length-append (omega arith) in
      ap (λ (b : Bytes). written (written (with_function s (known s n) (with_variable s (known s n) b)) (1024 + 2 * count (known s n)) ((known s n).end ∷ [])) (2048 + 2 * count (known s n)) ((record_here s (known s n)).slot ∷ []))
      (filled-stack (known s n) (slots_of (known s n)) t)
      ∙ ap (λ (b : Bytes). written (written (with_function s (known s n) b) (1024 + 2 * count (known s n)) ((known s n).end ∷ [])) (2048 + 2 * count (known s n)) ((record_here s (known s n)).slot ∷ []))
      (add_variable _ _ _ lo le lm)
      ∙ ap (λ (b : Bytes). written (written b (1024 + 2 * count (known s n)) ((known s n).end ∷ [])) (2048 + 2 * count (known s n)) ((record_here s (known s n)).slot ∷ []))
      (add_function _ _ _ lo next-names lm)
      ∙ ap (λ (k : ℕ). written (written (stack t (offsets_of (known s n)) (names_of (next s (known s n))) (entries (next s (known s n)).functions) (slots_of (known s n))) (1024 + 2 * k) ((known s n).end ∷ []))
      (2048 + 2 * count (known s n)) ((record_here s (known s n)).slot ∷ [])) co
      ∙ ap (λ (b : Bytes). written b (2048 + 2 * count (known s n)) ((record_here s (known s n)).slot ∷ []))
      (stack-offset t _ _ _ _ lo next-names next-entries lm (known s n).end (omega arith))
      ∙ ap (λ (k : ℕ). written (stack t (offsets_of (known s n) ++ (known s n).end ∷ []) (names_of (next s (known s n))) (entries (next s (known s n)).functions) (slots_of (known s n)))
      (2048 + 2 * k) ((record_here s (known s n)).slot ∷ [])) cm
      ∙ stack-mark t _ _ _ _ one next-names next-entries lm (record_here s (known s n)).slot
      ∙ ap (λ (os : List ℕ). stack t os (names_of (next s (known s n))) (entries (next s (known s n)).functions) (slots_of (known s n) ++ (record_here s (known s n)).slot ∷ [])) next_offsets
      ∙ ap (λ (ms : List ℕ). stack t (offsets_of (next s (known s n))) (names_of (next s (known s n))) (entries (next s (known s n)).functions) ms) next_marks
      ∙ sym (filled-stack (next s (known s n)) (slots_of (next s (known s n))) t)

-- what the table says, whatever the marks
module _ (s t : Bytes) (n : ℕ) (ms : List ℕ) (h : Sound s n) (few : n ≤ 512) (room : 4096 ≤ length t) (marks : length ms ≡ n) where
  pub filled-length : length (filled (known s n) ms t) ≡ length t
  filled-length = ap length (filled-stack (known s n) ms t) ∙ length-stack t _ _ _ _ (few_offsets s n h few) (few-names s n h few) (few-entries s n h few) (omega arith)

  pub held-filled : length s ≤ 8192 → Held s (filled (known s n) ms t) n
  held-filled small = record {
    small = small;
    room = omega (arith, filled-length);
    few = few;
    lies = h.lies;
    offset = λ r l.
        ap (λ (b : Bytes). number b (1024 + 2 * r)) (filled-stack (known s n) ms t)
        ∙ offset_read t _ _ _ _ (few_offsets s n h few) (few-names s n h few) (few-entries s n h few) (omega arith) room r
        (omega (arith, length-map (known s n).records (λ (c : Rec). c.at), count-known s n))
        ∙ get_or-map (λ (c : Rec). c.at) (known s n).records r no_rec;
  }

  pub listed-filled : Listed s (filled (known s n) ms t) (known s n)
  listed-filled = record {
    few = h.functions.few;
    named = λ f l.
        let e : 3072 + 4 * f + 6 ≡ 3076 + 2 * (2 * f + 1) = omega arith in
        ap (λ (b : Bytes). number b (3072 + 4 * f + 6)) (filled-stack (known s n) ms t)
        ∙ ap (number (stack t (offsets_of (known s n)) (names_of (known s n)) (entries (known s n).functions) ms)) e
        ∙ entry_read t _ _ _ _ (few_offsets s n h few) (few-names s n h few) (few-entries s n h few) (omega arith) room (2 * f + 1) (omega (arith, length-entries (known s n).functions))
        ∙ entries-named (known s n).functions f;
    earlier = λ f l. let a = h.functions.earlier f l in omega (arith, count-known s n);
    name = h.functions.name;
  }

-- THE WALK

module _ (s : Bytes) (K : Known) where
  pub walk_on : (left : ℕ) → K.end < length s → ends_in_main K ≡ false → judge s K ≡ fine → walk s (suc left) K ≡ walk s left (next s K)
  unfolding walk
  walk_on left l m g = rw (lt-ltb K.end (length s) l, m, g)

  pub walk-faulty : (left : ℕ) → K.end < length s → ends_in_main K ≡ false → judge s K ≡ faulty → walk s (suc left) K ≡ refused 4 (count K)
  unfolding walk
  walk-faulty left l m g = rw (lt-ltb K.end (length s) l, m, g)

  pub walk-full : (left : ℕ) → K.end < length s → ends_in_main K ≡ false → judge s K ≡ full → walk s (suc left) K ≡ refused 3 (count K)
  unfolding walk
  walk-full left l m g = rw (lt-ltb K.end (length s) l, m, g)

  pub walk-main : (left : ℕ) → K.end < length s → ends_in_main K ≡ true → walk s (suc left) K ≡ refused 4 (count K)
  unfolding walk
  walk-main left l m = rw (lt-ltb K.end (length s) l, m)

  pub walk_512 : K.end < length s → walk s zero K ≡ refused 3 (count K)
  unfolding walk
  walk_512 l = rw (lt-ltb K.end (length s) l)

  pub walk-good : (left : ℕ) → length s ≤ K.end → ends_in_main K ≡ true → walk s left K ≡ accepted K
  unfolding walk
  walk-good zero l m = rw (le-ltb K.end (length s) l, m)
  walk-good (suc left) l m = rw (le-ltb K.end (length s) l, m)

  pub walk_no_main : (left : ℕ) → length s ≤ K.end → ends_in_main K ≡ false → walk s left K ≡ refused 4 (count K)
  unfolding walk
  walk_no_main zero l m = rw (le-ltb K.end (length s) l, m)
  walk_no_main (suc left) l m = rw (le-ltb K.end (length s) l, m)

spanned-long : (s : Bytes) (K : Known) (slots : List (List ℕ)) → length (spanned s K slots) ≡ length slots
unfolding spanned
spanned-long s K slots = go (is_new s K)
  where
    go : (b : Bool) → length (cond b (set slots (length K.variables) (span_of K (named_here s K))) slots) ≡ length slots
    go true = length-set slots (length K.variables) (span_of K (named_here s K))
    go false = refl

-- THE LOOP

-- before record n
pub record Going (s t₀ t : Bytes) (slots : List (List ℕ)) (c : Counts) (n : ℕ) : Type 0 where
  pub counts : c ≡ counts_of (known s n)
  pub few : n ≤ 512
  pub sound : Sound s n
  pub table : t ≡ partly (known s n) t₀
  pub long : length slots ≡ 16
  pub slotted : Slotted s slots (known s n)
  pub walked : walk s 512 start ≡ walk s (512 - n) (known s n)

pub going_records : {s t₀ t : Bytes} {slots : List (List ℕ)} {c : Counts} {n : ℕ} → Going s t₀ t slots c n → c.records ≡ n
going_records {s} {n = n} h = ap (λ (x : Counts). x.records) h.counts ∙ count-known s n

pub going_start : (s t : Bytes) (slots : List (List ℕ)) → length slots ≡ 16 → Going s t t slots (record { records = 0; at = 0; last = 0; slots = 0; functions = 0 }) 0
unfolding known
going_start s t slots l = record {
  counts = refl;
  few = omega arith;
  sound = sound_start s;
  table = partly-start t;
  long = l;
  slotted = record { few = omega arith; within = λ i h. absurd (omega arith); names = refl };
  walked = refl;
}

module _ {s t₀ t : Bytes} {slots : List (List ℕ)} {c : Counts} {n : ℕ} (h : Going s t₀ t slots c n) where
  pub end_is : c.at ≡ (known s n).end
  end_is = ap (λ (x : Counts). x.at) h.counts

  main-is : c.last ≡ 33 → ends_in_main (known s n) ≡ true
  main-is e = eq-eqb _ 33 (sym (ap (λ (x : Counts). x.last) h.counts) ∙ e)

  main-not : (c.last ≡ 33 → ⊥) → ends_in_main (known s n) ≡ false
  main-not e = ne_eqb _ 33 (λ q. e (ap (λ (x : Counts). x.last) h.counts ∙ q))

  left_is : n < 512 → 512 - n ≡ suc (511 - n)
  left_is l = omega arith

  pub going_ready : length s ≤ 8192 → 4096 ≤ length t₀ → Ready s t slots c
  going_ready small room =
      let ms : length (slots_of (known s n)) ≡ n = length-map (known s n).records (λ (c : Rec). c.slot) ∙ count-known s n in
      let e = going_records h in
      record {
        counts = h.counts ∙ ap (λ (k : ℕ). counts_of (known s k)) (sym e);
        end = subst (λ (k : ℕ). k ≤ length s) (sym end_is) h.sound.end;
        held = subst (λ (k : ℕ). Held s t k) (sym e)
            (subst (λ (b : Bytes). Held s b n) (sym h.table) (held-filled s t₀ n (slots_of (known s n)) h.sound h.few room ms small));
        slotted = subst (λ (k : ℕ). Slotted s slots (known s k)) (sym e) h.slotted;
        listed = subst (λ (k : ℕ). Listed s t (known s k)) (sym e)
            (subst (λ (b : Bytes). Listed s b (known s n)) (sym h.table) (listed-filled s t₀ n (slots_of (known s n)) h.sound h.few room ms));
        short = subst (λ (k : ℕ). (r : ℕ) → r < k → kind_of (known s k) r ≡ 1 → length (payload_of (known s k) r) ≤ 63) (sym e) (sound_short s n h.sound);
      }

  pub going_next : {t' : Bytes} {slots' : List (List ℕ)} {c' : Counts} → n < 512 → c.at < length s → (c.last ≡ 33 → ⊥) → judge s (known s n) ≡ fine
      → c' ≡ counts_of (next s (known s n)) → t' ≡ entered s (known s n) t → slots' ≡ spanned s (known s n) slots → Going s t₀ t' slots' c' (suc n)
  unfolding known
  going_next few l m g ec et es = record {
    counts = ec;
    few = few;
    sound = sound_next s n h.sound g;
    table = et ∙ ap (entered s (known s n)) h.table ∙ entered-is s t₀ n h.sound few g;
    long = ap length es ∙ spanned-length;
    slotted = subst (λ (x : List (List ℕ)). Slotted s x (next s (known s n))) (sym es) (slotted-next s slots n h.sound g h.long h.slotted);
    walked =
        h.walked ∙ ap (λ (k : ℕ). walk s k (known s n)) (left_is few)
        ∙ walk_on s (known s n) (511 - n) (subst (λ (k : ℕ). k < length s) end_is l) (main-not m) g
        ∙ ap (λ (k : ℕ). walk s k (next s (known s n))) next-left;
  }
    where
      next-left : 511 - n ≡ 512 - suc n
      next-left = omega arith

      spanned-length : length (spanned s (known s n) slots) ≡ 16
      spanned-length = spanned-long s (known s n) slots ∙ h.long

  pub going_again : {t' : Bytes} {slots' : List (List ℕ)} {c' : Counts} → n < 512 → c.at < length s → (c.last ≡ 33 → ⊥) → judge s (known s n) ≡ fine
      → c' ≡ counts_of (next s (known s n)) → t' ≡ entered s (known s n) t → slots' ≡ spanned s (known s n) slots → Going s t₀ t' slots' c' c'.records
  going_again {t'} {slots'} {c'} few l m g ec et es =
      let q = going_next few l m g ec et es in
      subst (λ (k : ℕ). Going s t₀ t' slots' c' k) (sym (going_records q)) q

  -- the next record begins further on
  pub further : {c' : Counts} → c' ≡ counts_of (next s (known s n)) → c.at + 4 ≤ c'.at
  unfolding next
  further {c'} e = let a = ap (λ (x : Counts). x.at) e in omega (arith, end_is)

  -- the ways out: a refusal, or all records
  abbrev pub Left : Result Counts Refused → Type 0
  Left found = (found ≡ passed_of (walk s 512 start)) × (t ≡ passed_table s (walk s 512 start) t₀)

  stop : (k : ℕ) → walk s (512 - n) (known s n) ≡ refused k (count (known s n)) → Left (Err (refused_of k c.records))
  stop k e =
      let w : walk s 512 start ≡ refused k n = h.walked ∙ e ∙ ap (refused k) (count-known s n) in
      rw w (ap (λ (r : ℕ). Err (refused_of k r)) (going_records h), h.table)

  pub stop_512 : c.at < length s → c.records ≡ 512 → Left (Err (refused_of 3 c.records))
  stop_512 l e =
      let z : 512 - n ≡ 0 = omega (arith, going_records h) in
      stop 3 (ap (λ (k : ℕ). walk s k (known s n)) z ∙ walk_512 s (known s n) (subst (λ (k : ℕ). k < length s) end_is l))

  module _ (l : c.at < length s) (few : (c.records ≡ 512 → ⊥)) where
    less : n < 512
    less = let f = h.few in omega (arith, going_records h)

    inside : (known s n).end < length s
    inside = subst (λ (k : ℕ). k < length s) end_is l

    pub stop_main : c.last ≡ 33 → Left (Err (refused_of 4 c.records))
    stop_main e = stop 4 (ap (λ (k : ℕ). walk s k (known s n)) (left_is less) ∙ walk-main s (known s n) (511 - n) inside (main-is e))

    -- a record that is judged and not good
    pub stop_judged : (why : Fault) (slot : ℕ) → (c.last ≡ 33 → ⊥) → Err why ≡ verdict_of (judge s (known s n)) slot → Left (Err (record { why = why; place = c.records }))
    stop_judged why slot m e = go (judge s (known s n)) refl e
      where
        go : (v : Judgement) → judge s (known s n) ≡ v → Err why ≡ verdict_of v slot → Left (Err (record { why = why; place = c.records }))
        go fine g e = let z : ◌≡◌ {A = ℕ} 0 1 = cc in absurd (omega arith)
        go faulty g e =
            let w : why ≡ Faulty = cc in
            rw w (stop 4 (ap (λ (k : ℕ). walk s k (known s n)) (left_is less) ∙ walk-faulty s (known s n) (511 - n) inside (main-not m) g))
        go full g e =
            let w : why ≡ Full = cc in
            rw w (stop 3 (ap (λ (k : ℕ). walk s k (known s n)) (left_is less) ∙ walk-full s (known s n) (511 - n) inside (main-not m) g))

  pub stop_good : length s ≤ c.at → c.last ≡ 33 → Left (Ok c)
  stop_good l m =
      let w : walk s 512 start ≡ accepted (known s n) = h.walked ∙ walk-good s (known s n) (512 - n) (subst (λ (k : ℕ). length s ≤ k) end_is l) (main-is m) in
      rw w (ap Ok h.counts, h.table)

  pub stop_no_main : length s ≤ c.at → (c.last ≡ 33 → ⊥) → Left (Err (refused_of 4 c.records))
  stop_no_main l m = stop 4 (walk_no_main s (known s n) (512 - n) (subst (λ (k : ℕ). length s ≤ k) end_is l) (main-not m))

-- the verdict of a good record
pub told-fine : (v : Judgement) (x y : ℕ) → Ok y ≡ verdict_of v x → (v ≡ fine) × (y ≡ x)
told-fine fine x y e = (refl, cc)
told-fine faulty x y e = let z : ◌≡◌ {A = ℕ} 0 1 = cc in absurd (omega arith)
told-fine full x y e = let z : ◌≡◌ {A = ℕ} 0 1 = cc in absurd (omega arith)
