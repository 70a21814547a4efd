-- A sheet that begins with good records passes them all, and is read as they are; so the bytes of a well-formed list of records are accepted.
use mathlib.Core.Path.{◌≡◌, refl, sym, ap, ◌∙◌, subst}
use mathlib.Core.Bool.{Bool, true, false, ◌||◌, cond}
use mathlib.Core.List.{List, [], ◌∷◌, ◌++◌, append-nil}
use Prim.Native.Nat.{ℕ, zero, suc, ◌+◌, ◌-◌, ◌<◌, ◌≤◌}
use native.Mathlib.Nat.{add-zero}
use native.Mathlib.Omega.{arith}
use lib.Dec.{eqb, ltb}
use lib.ListN.{length, length-append, length-map, get_or-map}
use lib.Seq.{ext_get_or, take-length}
use borrow.Author.Tests.{eq-eqb, ne_eqb, eqb-true, le-ltb}
use Rattle.rules.specs.Syntax.{Bytes}
use Rattle.sheet.specs.Format.{number, place, shape, names_variable}
use Rattle.sheet.specs.Check.{no_rec, known, count, kind_of, judge, fine, is_cut, ends_in_main, accepted, check}
use Rattle.sheet.specs.Exact.{Passes, accepts}
use Rattle.sheet.specs.WellFormed.{Item, no_item, write, item_of, items_of, item, kind_at, name_at, Holds, functions_to, variables_to, added, WellFormed, Reads}
use Rattle.sheet.specs.Faults.{GoodSoFar, EndsInMain}
use Rattle.sheet.proofs.Records.{count-known}
use Rattle.sheet.proofs.Explains.{exact}
use Rattle.sheet.proofs.Linked.{item_here, item_of_lem}
use Rattle.sheet.proofs.ReadBack.{end-at, agree, room_at}
use Rattle.sheet.proofs.Verdicts.{right-here, second-not, over-not}

-- what grows at each step grows altogether
grows : (g : ℕ → ℕ) → ((n : ℕ) → g n ≤ g (suc n)) → (n d : ℕ) → g n ≤ g (n + d)
grows g h n zero = subst (λ (k : ℕ). g n ≤ g k) (sym (add-zero n)) (omega arith)
grows g h n (suc d) =
    let e : n + suc d ≡ suc (n + d) = omega arith in
    let a = grows g h n d in
    let b = h (n + d) in
    subst (λ (k : ℕ). g n ≤ g k) (sym e) (omega arith)

grown : (g : ℕ → ℕ) → ((n : ℕ) → g n ≤ g (suc n)) → (n m : ℕ) → n ≤ m → g n ≤ g m
grown g h n m l = let e : n + (m - n) ≡ m = omega arith in subst (λ (k : ℕ). g n ≤ g k) e (grows g h n (m - n))

functions_grow : (rs : List Item) (n : ℕ) → length (functions_to rs n) ≤ length (functions_to rs (suc n))
unfolding functions_to
functions_grow rs n = go (eqb (kind_at rs n) 32)
  where
    go : (b : Bool) → length (functions_to rs n) ≤ length (cond b (functions_to rs n ++ name_at rs n ∷ []) (functions_to rs n))
    go true = omega (arith, length-append (functions_to rs n) (name_at rs n ∷ []))
    go false = omega arith

added_grow : (rs : List Item) (x : Bytes) (xs : List Bytes) → length xs ≤ length (added rs x xs)
unfolding added
added_grow rs x xs = go (eqb (place x xs) (length xs))
  where
    go : (b : Bool) → length xs ≤ length (cond b (xs ++ x ∷ []) xs)
    go true = omega (arith, length-append xs (x ∷ []))
    go false = omega arith

variables_grow : (rs : List Item) (n : ℕ) → length (variables_to rs n) ≤ length (variables_to rs (suc n))
unfolding variables_to
variables_grow rs n = go (names_variable (kind_at rs n))
  where
    go : (b : Bool) → length (variables_to rs n) ≤ length (cond b (added rs (name_at rs n) (variables_to rs n)) (variables_to rs n))
    go true = added_grow rs (name_at rs n) (variables_to rs n)
    go false = omega arith

none : (a b : Bool) → a ≡ false → b ≡ false → (a || b) ≡ false
none true b x y = x
none false b x y = y

-- a record that lies in the sheet is not cut short
pub not-cut : (s : Bytes) (at : ℕ) → at + 4 + number s at ≤ length s → is_cut s at ≡ false
unfolding is_cut
not-cut s at r =
    none (ltb (length s) (at + 4)) (ltb (length s) (at + 4 + number s at))
    (le-ltb (length s) (at + 4) (omega arith)) (le-ltb (length s) (at + 4 + number s at) r)

-- GOOD RECORDS AT THE FRONT

module _ (s : Bytes) (rs : List Item) (tail : Bytes) (is : s ≡ write rs ++ tail) where
  last-kind : (n : ℕ) → suc n ≤ length rs → kind_of (known s (suc n)) (count (known s (suc n)) - 1) ≡ kind_at rs n
  last-kind n l =
      let i : count (known s (suc n)) - 1 ≡ n = omega (arith, count-known s (suc n)) in
      ap (kind_of (known s (suc n))) i ∙ ap (λ (c : Item). c.kind) (item_of_lem s rs (length rs) (agree s rs tail is) (suc n) l n (omega arith))

  pub all-items : items_of (known s (length rs)) ≡ rs
  all-items =
      let c : length (items_of (known s (length rs))) ≡ length rs = length-map (known s (length rs)).records item_of ∙ count-known s (length rs) in
      ext_get_or no_item (items_of (known s (length rs))) rs c
      (λ i l. get_or-map item_of (known s (length rs)).records i no_rec ∙ item_of_lem s rs (length rs) (agree s rs tail is) (length rs) (omega arith) i (omega arith))

  pub end_is : (known s (length rs)).end ≡ length (write rs)
  end_is = end-at s rs tail is (length rs) (omega arith) ∙ ap (λ (x : List Item). length (write x)) (take-length rs)

  -- the last of them all
  kind-last : kind_of (known s (length rs)) (count (known s (length rs)) - 1) ≡ kind_at rs (length rs - 1)
  kind-last =
      ap (λ (k : ℕ). kind_of (known s (length rs)) (k - 1)) (count-known s (length rs))
      ∙ sym (ap (λ (c : Item). c.kind) (get_or-map item_of (known s (length rs)).records (length rs - 1) no_rec))
      ∙ ap (λ (x : List Item). kind_at x (length rs - 1)) all-items

  pub ends-main : EndsInMain rs → ends_in_main (known s (length rs)) ≡ true
  ends-main m = eq-eqb _ 33 (kind-last ∙ m)

  pub main-ends : ends_in_main (known s (length rs)) ≡ true → EndsInMain rs
  main-ends e = sym kind-last ∙ eqb-true _ 33 e

  pub ends-other : (EndsInMain rs → ⊥) → ends_in_main (known s (length rs)) ≡ false
  ends-other m = ne_eqb _ 33 (λ e. m (sym kind-last ∙ e))

  module _ (g : GoodSoFar rs) where
    module _ (n : ℕ) (l : n < length rs) where
      so_far : (m : ℕ) → m < suc n → item_here s (known s m) ≡ item rs m
      so_far m h = agree s rs tail is m (omega arith)

      holding : (m : ℕ) → m < suc n → Holds rs m (shape (kind_at rs m))
      holding m h = g.holds m (omega arith)

      few-functions : length (functions_to rs (suc n)) ≤ 32
      few-functions =
          let z = g.functions in
          let y = grown (λ (j : ℕ). length (functions_to rs j)) (functions_grow rs) (suc n) (length rs) l in
          omega arith

      few-variables : length (variables_to rs (suc n)) ≤ 16
      few-variables =
          let z = g.variables in
          let y = grown (λ (j : ℕ). length (variables_to rs j)) (variables_grow rs) (suc n) (length rs) l in
          omega arith

      fine-here : judge s (known s n) ≡ fine
      unfolding judge
      fine-here =
          rw (
            not-cut s (known s n).end (room_at s rs tail is n l),
            right-here s rs n so_far (g.holds n l),
            second-not s rs n so_far holding (λ k z. g.apart z.0 n z.1 l z.2 k z.3),
            over-not s rs n so_far holding few-functions few-variables,
          )

      left_here : (known s n).end < length s
      left_here = let r = room_at s rs tail is n l in omega arith

    no_main_lem : (n : ℕ) → n < length rs → ends_in_main (known s n) ≡ false
    unfolding known
    no_main_lem zero l = refl
    no_main_lem (suc n) l = ne_eqb _ 33 (λ e. let q = g.one_main n (omega arith) (sym (last-kind n (omega arith)) ∙ e) in absurd (omega arith))

    pub passes : Passes s (length rs)
    passes = record { left = left_here; no_main = no_main_lem; good = fine-here }

-- A WELL-FORMED LIST

pub well_formed_good : (rs : List Item) → WellFormed rs → GoodSoFar rs
well_formed_good rs f = record {
  bytes = f.bytes;
  few = f.few;
  holds = f.holds;
  one_main = f.one_main;
  apart = f.apart;
  functions = f.functions;
  variables = f.variables;
}

module _ (rs : List Item) (f : WellFormed rs) where
  all : write rs ≡ write rs ++ []
  all = sym (append-nil (write rs))

  pub well_formed_known : check (write rs) ≡ accepted (known (write rs) (length rs))
  well_formed_known =
      (exact (write rs) (accepted (known (write rs) (length rs)))).1
      (accepts {n = length rs} f.short f.few (passes (write rs) rs [] all (well_formed_good rs f))
      (let e = end_is (write rs) rs [] all in omega arith) (ends-main (write rs) rs [] all f.main))

  pub well_formed_accepted : Reads rs
  well_formed_accepted = record { known = known (write rs) (length rs); accepts = well_formed_known; items = all-items (write rs) rs [] all }
