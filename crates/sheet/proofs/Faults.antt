-- A sheet is refused by its first fault: what stops the check behind good records is a fault of the list, and the other way round.
use mathlib.Core.Path.{◌≡◌, refl, sym, ap, ◌∙◌, subst}
use mathlib.Core.Logic.{◌⊎◌, ⊎_elim, inl, inr}
use mathlib.Core.Bool.{Bool, true, false, not, cond}
use mathlib.Core.List.{List, [], ◌∷◌, ◌++◌, append_assoc}
use Prim.Native.Nat.{ℕ, suc, ◌+◌, ◌<◌, ◌≤◌}
use native.Mathlib.Numerals.{add-one}
use native.Mathlib.Omega.{arith}
use lib.Dec.{ltb}
use lib.ListN.{length, take, drop, length-append, take-append-drop, drop_of_length-le}
use lib.Seq.{get_or-append_seam, drop_at}
use borrow.Author.Tests.{ltb-false}
use Rattle.std.proofs.lemmas.Bool.{false≢true, or_parts}
use Rattle.rules.specs.Syntax.{Bytes}
use Rattle.sheet.specs.Format.{shape}
use Rattle.sheet.specs.Check.{Known, Judgement, fine, faulty, full, Checked, refused, known, ends_in_main, judge, check, is_cut, right, is_second, is_over, kind_here, size_here, payload_here}
use Rattle.sheet.specs.Exact.{Left, Passes, Stops, Explained}
use Rattle.sheet.specs.Exact as stop
use Rattle.sheet.specs.WellFormed.{Item, no_item, write_item, write, IsBytes, items_of, item, kind_at, Holds, functions_to, variables_to}
use Rattle.sheet.specs.Faults.{Begins, Continues, CutShort, with, Right, Second, Next, Faulty}
use Rattle.sheet.specs.Faults as fault
use Rattle.sheet.proofs.Sound.{below, fine-room}
use Rattle.sheet.proofs.Explains.{explained, exact, passes_sound}
use Rattle.sheet.proofs.Written.{write_snoc, record_written, written_so_far}
use Rattle.sheet.proofs.Linked.{item_here, functions_of_lem, variables_of}
use Rattle.sheet.proofs.ReadBack.{agree, room_at}
use Rattle.sheet.proofs.Verdicts.{early_holds, right-here, holds-here, names-are, slots-are, second_is, second-here, over-is, over_functions, over-variables}
use Rattle.sheet.proofs.ToSheet.{not-cut, end_is, ends-main, main-ends, ends-other, passes}
use Rattle.sheet.proofs.FromSheet.{many, good_so_far}

-- THE ORDER OF THE TESTS

abbrev verdict : Bool → Bool → Bool → Bool → Judgement
verdict a b c d = cond a faulty (cond (not b) faulty (cond c faulty (cond d full fine)))

never : {A : Type 0} {v : Judgement} → v ≡ fine → (v ≡ faulty) ⊎ (v ≡ full) → A
never e (inl f) = let z : ◌≡◌ {A = ℕ} 0 1 = cc in absurd (omega arith)
never e (inr f) = let z : ◌≡◌ {A = ℕ} 0 1 = cc in absurd (omega arith)

neither : {A : Type 0} → faulty ≡ full → A
neither e = let z : ◌≡◌ {A = ℕ} 0 1 = cc in absurd (omega arith)

faulty-is : (a b c d : Bool) → verdict a b c d ≡ faulty → (a ≡ true) ⊎ (((a ≡ false) × (b ≡ false)) ⊎ ((a ≡ false) × (b ≡ true) × (c ≡ true)))
faulty-is true b c d e = inl refl
faulty-is false false c d e = inr (inl (refl, refl))
faulty-is false true true d e = inr (inr (refl, refl, refl))
faulty-is false true false true e = neither (sym e)
faulty-is false true false false e = never refl (inl e)

full_is : (a b c d : Bool) → verdict a b c d ≡ full → (a ≡ false) × (b ≡ true) × (c ≡ false) × (d ≡ true)
full_is true b c d e = neither e
full_is false false c d e = neither e
full_is false true true d e = neither e
full_is false true false true e = (refl, refl, refl, refl)
full_is false true false false e = never refl (inr e)

not-true : (b : Bool) → (b ≡ true → ⊥) → b ≡ false
not-true true h = absurd (h refl)
not-true false h = refl

-- GOOD RECORDS, AND WHAT IS LEFT

module _ (s : Bytes) (rs : List Item) (tail : Bytes) (b : Begins s rs tail) where
  abbrev n : ℕ
  n = length rs

  long : length s ≡ length (write rs) + length tail
  long = ap length b.is ∙ length-append (write rs) tail

  left_over : 0 < length tail → Left s n
  left_over l = omega (arith, end_is s rs tail b.is, long)

  over-left : Left s n → 0 < length tail
  over-left l = omega (arith, end_is s rs tail b.is, long)

  passed : Passes s n
  passed = passes s rs tail b.is b.good

  tail-is : drop (known s n).end s ≡ tail
  tail-is = ap (drop (known s n).end) b.is ∙ drop_at (write rs) tail (known s n).end (sym (end_is s rs tail b.is))

  -- a record that is not cut short stands whole behind them
  behind : IsBytes s → is_cut s (known s n).end ≡ false → tail ≡ write_item (item_here s (known s n)) ++ drop (4 + size_here s (known s n)) tail
  unfolding is_cut
  behind bs e =
      let room : (known s n).end + 4 + size_here s (known s n) ≤ length s = ltb-false _ _ (or_parts (ltb (length s) ((known s n).end + 4)) (ltb (length s) ((known s n).end + 4 + size_here s (known s n))) e).1 in
      sym (take-append-drop (4 + size_here s (known s n)) tail)
      ∙ ap (λ (l : Bytes). l ++ drop (4 + size_here s (known s n)) tail)
      (ap (take (4 + size_here s (known s n))) (sym tail-is) ∙ record_written s (known s n) bs room)

-- ONE RECORD MORE

module _ (s : Bytes) (rs : List Item) (c : Item) (more : Bytes) (b : Begins s rs (write_item c ++ more)) where
  abbrev all : List Item
  all = with rs c

  all-is : s ≡ write all ++ more
  all-is =
      b.is ∙ sym (append_assoc (write rs) (write_item c) more) ∙ ap (λ (l : Bytes). l ++ more) (sym (write_snoc rs c))

  all-many : length all ≡ suc (length rs)
  all-many = length-append rs (c ∷ []) ∙ add-one (length rs)

  kind_new : kind_at all (length rs) ≡ c.kind
  kind_new = ap (λ (x : Item). x.kind) (get_or-append_seam rs c [] no_item)

  whole : is_cut s (known s (length rs)).end ≡ false
  whole = not-cut s (known s (length rs)).end (room_at s all more all-is (length rs) (omega (arith, all-many)))

  same-all : (m : ℕ) → m < suc (length rs) → item_here s (known s m) ≡ item all m
  same-all m l = agree s all more all-is m (omega (arith, all-many))

  same_old : (m : ℕ) → m < length rs → item_here s (known s m) ≡ item rs m
  same_old = agree s rs (write_item c ++ more) b.is

  right_new : Right rs c → right (known s (length rs)) (shape (kind_here s (known s (length rs)))) (payload_here s (known s (length rs))) ≡ true
  right_new r = right-here s all (length rs) same-all (subst (λ (k : ℕ). Holds all (length rs) (shape k)) (sym kind_new) r)

  new_right : right (known s (length rs)) (shape (kind_here s (known s (length rs)))) (payload_here s (known s (length rs))) ≡ true → Right rs c
  new_right e = subst (λ (k : ℕ). Holds all (length rs) (shape k)) kind_new (holds-here s all (length rs) same-all e)

  module _ (r : Right rs c) where
    -- the records before it hold in the longer list too: both are what was read
    holding : (m : ℕ) → m < suc (length rs) → Holds all m (shape (kind_at all m))
    holding =
        below (λ (m : ℕ). Holds all m (shape (kind_at all m))) (length rs)
        (λ m l. holds-here s all m (λ k h. same-all k (omega arith)) (right-here s rs m (λ k h. same_old k (omega arith)) (b.good.holds m l)))
        (subst (λ (k : ℕ). Holds all (length rs) (shape k)) (sym kind_new) r)

    new_second : is_second s (known s (length rs)) ≡ true → Second rs c
    new_second e = let z = second_is s all (length rs) same-all holding e in (sym kind_new ∙ z.0, z.1)

    second_new : Second rs c → is_second s (known s (length rs)) ≡ true
    second_new z = second-here s all (length rs) same-all holding (kind_new ∙ z.0) z.1

    few-functions : length (functions_to all (length rs)) ≤ 32
    few-functions =
        let x = names-are s all (length rs) same-all holding in
        let y = functions_of_lem s rs (length rs) same_old (λ m l. early_holds rs m (b.good.holds m l)) (length rs) (omega arith) in
        let z = b.good.functions in
        omega (arith, ap length (sym x ∙ y))

    few-variables : length (variables_to all (length rs)) ≤ 16
    few-variables =
        let x = slots-are s all (length rs) same-all holding in
        let y = variables_of s rs (length rs) same_old (λ m l. early_holds rs m (b.good.holds m l)) (length rs) (omega arith) in
        let z = b.good.variables in
        omega (arith, ap length (sym x ∙ y))

    new_over : is_over s (known s (length rs)) ≡ true → (32 < length (functions_to all (length all))) ⊎ (16 < length (variables_to all (length all)))
    new_over e =
        subst (λ (k : ℕ). (32 < length (functions_to all k)) ⊎ (16 < length (variables_to all k))) (sym all-many)
        (over-is s all (length rs) same-all holding e)

    functions_new : 32 < length (functions_to all (length all)) → is_over s (known s (length rs)) ≡ true
    functions_new h = over_functions s all (length rs) same-all holding few-functions (subst (λ (k : ℕ). 32 < length (functions_to all k)) all-many h)

    variables_new : 16 < length (variables_to all (length all)) → is_over s (known s (length rs)) ≡ true
    variables_new h = over-variables s all (length rs) same-all holding few-variables (subst (λ (k : ℕ). 16 < length (variables_to all k)) all-many h)

-- FROM A FAULT TO THE ANSWER

module _ (s : Bytes) (rs : List Item) (c : Item) (x : Next s rs c) where
  abbrev begun : Begins s rs (write_item c ++ x.more)
  begun = x.continues.begins

  -- the check comes to this record, and its verdict is what it says
  stops-faulty : judge s (known s (length rs)) ≡ faulty → Explained s (refused 4 (length rs))
  stops-faulty e =
      stop.stops begun.short (passed s rs _ begun)
      (stop.a_fault x.continues.room (left_over s rs _ begun x.continues.left) (ends-other s rs _ begun.is x.continues.no_main) e)

  stops-full : judge s (known s (length rs)) ≡ full → Explained s (refused 3 (length rs))
  stops-full e =
      stop.stops begun.short (passed s rs _ begun)
      (stop.over_full x.continues.room (left_over s rs _ begun x.continues.left) (ends-other s rs _ begun.is x.continues.no_main) e)

  judged-wrong : (Right rs c → ⊥) → judge s (known s (length rs)) ≡ faulty
  unfolding judge
  judged-wrong w = rw (whole s rs c x.more begun, not-true _ (λ e. w (new_right s rs c x.more begun e)))

  module _ (r : Right rs c) where
    judged-second : Second rs c → judge s (known s (length rs)) ≡ faulty
    unfolding judge
    judged-second z = rw (whole s rs c x.more begun, right_new s rs c x.more begun r, second_new s rs c x.more begun r z)

    judged-full : (Second rs c → ⊥) → is_over s (known s (length rs)) ≡ true → judge s (known s (length rs)) ≡ full
    unfolding judge
    judged-full z o =
        rw (whole s rs c x.more begun, right_new s rs c x.more begun r, not-true _ (λ e. z (new_second s rs c x.more begun r e)), o)

-- no whole record: the check finds it cut short
judged-cut : (s : Bytes) (rs : List Item) (tail : Bytes) → IsBytes s → Begins s rs tail → CutShort tail → judge s (known s (length rs)) ≡ faulty
unfolding judge
judged-cut s rs tail bs b h = rw (go (is_cut s (known s (length rs)).end) refl)
  where
    go : (v : Bool) → is_cut s (known s (length rs)).end ≡ v → v ≡ true
    go true e = refl
    go false e = absurd (h _ _ (behind s rs tail b bs e))

fault_explains : (s : Bytes) → IsBytes s → (k p : ℕ) → Faulty s k p → Explained s (refused k p)
fault_explains s bs k p (fault.too_long h) = stop.too_long h
fault_explains s bs k p (fault.too_many_records rs tail b e l) =
    subst (λ (j : ℕ). Explained s (refused 3 j)) e (stop.stops b.short (passed s rs tail b) (stop.too_many e (left_over s rs tail b l)))
fault_explains s bs k p (fault.after_main rs tail b room m l) =
    stop.stops b.short (passed s rs tail b) (stop.after_main room (left_over s rs tail b l) (ends-main s rs tail b.is m))
fault_explains s bs k p (fault.cut_short rs tail c h) =
    let b = c.begins in
    stop.stops b.short (passed s rs tail b)
    (stop.a_fault c.room (left_over s rs tail b c.left) (ends-other s rs tail b.is c.no_main) (judged-cut s rs tail bs b h))
fault_explains s bs k p (fault.wrong_record rs c x w) = stops-faulty s rs c x (judged-wrong s rs c x w)
fault_explains s bs k p (fault.second_function rs c x r z) = stops-faulty s rs c x (judged-second s rs c x r z)
fault_explains s bs k p (fault.too_many_functions rs c x r z h) = stops-full s rs c x (judged-full s rs c x r z (functions_new s rs c x.more x.continues.begins r h))
fault_explains s bs k p (fault.too_many_variables rs c x r z h) = stops-full s rs c x (judged-full s rs c x r z (variables_new s rs c x.more x.continues.begins r h))
fault_explains s bs k p (fault.main_missing rs b m) =
    stop.stops b.short (passed s rs [] b)
    (stop.main_missing b.good.few (omega (arith, end_is s rs [] b.is, long s rs [] b)) (ends-other s rs [] b.is m))

pub fault_refused : (s : Bytes) (number place : ℕ) → IsBytes s → Faulty s number place → check s ≡ refused number place
fault_refused s k p bs f = (exact s (refused k p)).1 (fault_explains s bs k p f)

-- FROM THE ANSWER TO A FAULT

-- what passed is good records at the front
begins-known : (s : Bytes) (n : ℕ) → IsBytes s → length s ≤ 8192 → n ≤ 512 → Passes s n → Begins s (items_of (known s n)) (drop (known s n).end s)
begins-known s n bs short few p = record {
  short = short;
  good = good_so_far s n p (passes_sound s n p) bs few;
  is = sym (take-append-drop (known s n).end s) ∙ ap (λ (l : Bytes). l ++ drop (known s n).end s) (written_so_far s n bs (λ m l. fine-room s (known s m) (p.good m l)));
}

module _ (s : Bytes) (rs : List Item) (tail : Bytes) (bs : IsBytes s) (b : Begins s rs tail) where
  abbrev here : Known
  here = known s (length rs)

  module _ (room : length rs < 512) (l : Left s (length rs)) (m : ends_in_main here ≡ false) where
    continues : Continues s rs tail
    continues = record {
      begins = b;
      room = room;
      no_main = λ e. false≢true (sym m ∙ ends-main s rs tail b.is e);
      left = over-left s rs tail b l;
    }

    cut_short_lem : is_cut s here.end ≡ true → CutShort tail
    cut_short_lem e c more q = false≢true (sym (whole s rs c more (record { short = b.short; good = b.good; is = b.is ∙ ap (λ (t : Bytes). write rs ++ t) q })) ∙ e)

    next-is : is_cut s here.end ≡ false → Next s rs (item_here s here)
    next-is e = record { more = drop (4 + size_here s here) tail; continues = subst (Continues s rs) (behind s rs tail b bs e) continues }

    abbrev is_right : Bool
    is_right = right here (shape (kind_here s here)) (payload_here s here)

    module _ (e : is_cut s here.end ≡ false) where
      abbrev x : Next s rs (item_here s here)
      x = next-is e

      wrong : is_right ≡ false → Faulty s 4 (length rs)
      wrong f = fault.wrong_record rs (item_here s here) x (λ r. false≢true (sym f ∙ right_new s rs (item_here s here) x.more x.continues.begins r))

      module _ (t : is_right ≡ true) where
        is_right_lem : Right rs (item_here s here)
        is_right_lem = new_right s rs (item_here s here) x.more x.continues.begins t

        second : is_second s here ≡ true → Faulty s 4 (length rs)
        second z = fault.second_function rs (item_here s here) x is_right_lem (new_second s rs (item_here s here) x.more x.continues.begins is_right_lem z)

        crowded : is_second s here ≡ false → is_over s here ≡ true → Faulty s 3 (length rs)
        crowded z o =
            let first : Second rs (item_here s here) → ⊥ = λ q. false≢true (sym z ∙ second_new s rs (item_here s here) x.more x.continues.begins is_right_lem q) in
            ⊎_elim (fault.too_many_functions rs (item_here s here) x is_right_lem first) (fault.too_many_variables rs (item_here s here) x is_right_lem first)
            (new_over s rs (item_here s here) x.more x.continues.begins is_right_lem o)

    a_fault_lem : judge s here ≡ faulty → Faulty s 4 (length rs)
    unfolding judge
    a_fault_lem e =
        ⊎_elim (λ a. fault.cut_short rs tail continues (cut_short_lem a))
        (⊎_elim (λ a. wrong a.0 a.1) (λ a. second a.0 a.1 a.2))
        (faulty-is (is_cut s here.end) is_right (is_second s here) (is_over s here) e)

    over-full : judge s here ≡ full → Faulty s 3 (length rs)
    unfolding judge
    over-full e = let a = full_is (is_cut s here.end) is_right (is_second s here) (is_over s here) e in crowded a.0 a.1 a.2 a.3

  nothing_left : length s ≤ here.end → tail ≡ []
  nothing_left l = sym (tail-is s rs tail b) ∙ drop_of_length-le s l

  stop_fault : (k : ℕ) → Stops s (length rs) k → Faulty s k (length rs)
  stop_fault k (stop.too_many e l) = subst (Faulty s 3) (sym e) (fault.too_many_records rs tail b e (over-left s rs tail b l))
  stop_fault k (stop.after_main room l m) = fault.after_main rs tail b room (main-ends s rs tail b.is m) (over-left s rs tail b l)
  stop_fault k (stop.a_fault room l m e) = a_fault_lem room l m e
  stop_fault k (stop.over_full room l m e) = over-full room l m e
  stop_fault k (stop.main_missing few l m) =
      fault.main_missing rs (subst (Begins s rs) (nothing_left l) b) (λ e. false≢true (sym m ∙ ends-main s rs tail b.is e))

pub few_stop : {s : Bytes} {n k : ℕ} → Stops s n k → n ≤ 512
few_stop (stop.too_many e l) = omega arith
few_stop (stop.after_main room l m) = omega arith
few_stop (stop.a_fault room l m e) = omega arith
few_stop (stop.over_full room l m e) = omega arith
few_stop (stop.main_missing few l m) = few

explained_fault : (s : Bytes) → IsBytes s → (a : Checked) → Explained s a → (k p : ℕ) → a ≡ refused k p → Faulty s k p
explained_fault s bs a (stop.too_long h) k p e =
    let x : k ≡ 3 = cc in
    let y : p ≡ 0 = cc in
    subst (λ (j : ℕ). Faulty s j p) (sym x) (subst (Faulty s 3) (sym y) (fault.too_long h))
explained_fault s bs a (stop.stops {number = j} {n = n} short passes w) k p e =
    let x : j ≡ k = cc in
    let y : n ≡ p = cc in
    let g = many s n passes (passes_sound s n passes) in
    let f = stop_fault s (items_of (known s n)) (drop (known s n).end s) bs (begins-known s n bs short (few_stop w) passes) j (subst (λ (m : ℕ). Stops s m j) (sym g) w) in
    subst (λ (i : ℕ). Faulty s i p) x (subst (Faulty s j) (g ∙ y) f)
explained_fault s bs a (stop.accepts short few passes l m) k p e = let z : ◌≡◌ {A = ℕ} 0 1 = cc in absurd (omega arith)

pub refused_fault : (s : Bytes) (number place : ℕ) → IsBytes s → check s ≡ refused number place → Faulty s number place
refused_fault s k p bs e = explained_fault s bs (check s) (explained s) k p e
