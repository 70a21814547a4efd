-- The records that passed are good so far, and an accepted sheet is the bytes of a well-formed list of records.
use mathlib.Core.Path.{◌≡◌, sym, ap, ◌∙◌, subst}
use mathlib.Core.Bool.{true}
use mathlib.Core.List.{List, [], ◌∷◌}
use Prim.Native.Nat.{ℕ, zero, suc, ◌+◌, ◌-◌, ◌<◌, ◌≤◌}
use native.Mathlib.Decide.{dec_le}
use native.Mathlib.Omega.{arith}
use lib.ListN.{length, take, drop, length-map, get_or-map}
use lib.Seq.{get_or-drop}
use borrow.Author.Tests.{eq-eqb, eqb-true}
use Rattle.std.proofs.lemmas.Bool.{false≢true}
use Rattle.rules.specs.Syntax.{Bytes}
use Rattle.sheet.specs.Format.{number, shape}
use Rattle.sheet.specs.Check.{Rec, Known, Variable, Defined, no_rec, known, count, record_of, kind_of, record_here, ends_in_main, accepted, check}
use Rattle.sheet.specs.Exact.{Passes}
use Rattle.sheet.specs.WellFormed.{Item, IsBytes, write, item_of, items_of, item, kind_at, payload_at, part_at, name_at, Holds, functions_to, variables_to, WellFormed}
use Rattle.sheet.specs.Faults.{GoodSoFar, EndsInMain}
use Rattle.sheet.proofs.Records.{count-known}
use Rattle.sheet.proofs.Sound.{Sound, record_new, fine-right, fine-first}
use Rattle.sheet.proofs.Explains.{accepted-parts}
use Rattle.sheet.proofs.Nodes.{record_kept}
use Rattle.sheet.proofs.Written.{accepted-written}
use Rattle.sheet.proofs.Linked.{item_here, named, functions_of_lem, variables_of}
use Rattle.sheet.proofs.Verdicts.{early_holds, holds-here, second-here}

pub bytes_take : (n : ℕ) (l : Bytes) → IsBytes l → IsBytes (take n l)
bytes_take zero l b i = omega arith
bytes_take (suc n) [] b i = omega arith
bytes_take (suc n) (x ∷ xs) b zero = b 0
bytes_take (suc n) (x ∷ xs) b (suc i) = bytes_take n xs (λ j. b (suc j)) i

pub bytes_drop : (n : ℕ) (l : Bytes) → IsBytes l → IsBytes (drop n l)
bytes_drop n l b i = subst (λ (x : ℕ). x < 256) (sym (get_or-drop n l i 0)) (b (n + i))

module _ (s : Bytes) (N : ℕ) (p : Passes s N) (h : Sound s N) where
  abbrev rs : List Item
  rs = items_of (known s N)

  pub many : length rs ≡ N
  many = length-map (known s N).records item_of ∙ count-known s N

  it : (r : ℕ) → item rs r ≡ item_of (record_of (known s N) r)
  it r = get_or-map item_of (known s N).records r no_rec

  agree : (n : ℕ) → n < N → item_of (record_here s (known s n)) ≡ item rs n
  unfolding known
  agree n l = ap item_of (sym (ap (record_of (known s (suc n))) (sym (count-known s n)) ∙ record_new s (known s n)) ∙ sym (record_kept s (suc n) N n (omega arith) l)) ∙ sym (it n)

  -- each payload
  module _ (r : ℕ) (l : r < N) where
    so_far : (m : ℕ) → m < suc r → item_here s (known s m) ≡ item rs m
    so_far m k = agree m (omega arith)

    holds_at : Holds rs r (shape (kind_at rs r))
    holds_at = holds-here s rs r so_far (fine-right s (known s r) (p.good r l))

    early : named (kind_at rs r) ≡ true → part_at rs r 0 < r
    early = early_holds rs r holds_at

    bytes-here : IsBytes s → IsBytes (payload_at rs r)
    bytes-here b =
        subst IsBytes (sym (ap (λ (c : Item). c.payload) (it r) ∙ (h.lies r l).payload))
        (bytes_take (number s (record_of (known s N) r).at) (drop ((record_of (known s N) r).at + 4) s) (bytes_drop ((record_of (known s N) r).at + 4) s b))

    one-main : kind_at rs r ≡ 33 → suc r ≡ N
    one-main e = go (dec_le N (suc r))
      where
        last : kind_of (known s (suc r)) (count (known s (suc r)) - 1) ≡ 33
        last =
            let i : count (known s (suc r)) - 1 ≡ r = omega (arith, count-known s (suc r)) in
            ap (kind_of (known s (suc r))) i ∙ ap (λ (c : Rec). c.kind) (sym (record_kept s (suc r) N r (omega arith) l)) ∙ sym (ap (λ (c : Item). c.kind) (it r)) ∙ e

        go : Dec (N ≤ suc r) → suc r ≡ N
        go (yes m) = omega arith
        go (no m) = absurd (false≢true (sym (p.no_main (suc r) (omega arith)) ∙ eq-eqb _ 33 last))

  module _ (r : ℕ) (l : r < N) where
    holding : (m : ℕ) → m < suc r → Holds rs m (shape (kind_at rs m))
    holding m k = holds_at m (omega arith)

    apart-here : (q : ℕ) → q < r → kind_at rs q ≡ 32 → kind_at rs r ≡ 32 → name_at rs q ≡ name_at rs r → ⊥
    apart-here q m x y e = false≢true (sym (fine-first s (known s r) (p.good r l)) ∙ second-here s rs r (so_far r l) holding y (q, m, x, e))

  pub good_so_far : IsBytes s → N ≤ 512 → GoodSoFar rs
  good_so_far b few = record {
    bytes = λ r l. bytes-here r (omega (arith, many)) b;
    few = omega (arith, many);
    holds = λ r l. holds_at r (omega (arith, many));
    one_main = λ r l e. one-main r (omega (arith, many)) e ∙ sym many;
    apart = λ q r m l x y e. apart-here r (omega (arith, many)) q m x y e;
    functions = let f = functions_of_lem s rs N agree early N (omega arith) in
        let g = h.functions.few in
        omega (arith, ap (λ (k : ℕ). length (functions_to rs k)) many, ap length f, length-map (known s N).functions (λ (d : Defined). d.name));
    variables = let f = variables_of s rs N agree early N (omega arith) in
        let g = h.variables in
        omega (arith, ap (λ (k : ℕ). length (variables_to rs k)) many, ap length f, length-map (known s N).variables (λ (v : Variable). v.name));
  }

  main-last : ends_in_main (known s N) ≡ true → EndsInMain rs
  main-last m =
      let i : length rs - 1 ≡ count (known s N) - 1 = omega (arith, many, count-known s N) in
      ap (kind_at rs) i ∙ ap (λ (c : Item). c.kind) (it (count (known s N) - 1)) ∙ eqb-true _ 33 m

pub good_well_formed : (rs : List Item) → GoodSoFar rs → length (write rs) ≤ 8192 → EndsInMain rs → WellFormed rs
good_well_formed rs g short m = record {
  bytes = g.bytes;
  short = short;
  few = g.few;
  holds = g.holds;
  main = m;
  one_main = g.one_main;
  apart = g.apart;
  functions = g.functions;
  variables = g.variables;
}

pub accepted_well_formed : (s : Bytes) (K : Known) → IsBytes s → check s ≡ accepted K → WellFormed (items_of K) × (s ≡ write (items_of K))
accepted_well_formed s K b e =
    let a = accepted-parts s K e in
    let w = accepted-written s K b e in
    let w' : s ≡ write (items_of (known s a.n)) = w ∙ ap (λ (x : Known). write (items_of x)) a.is in (
      subst (λ (x : Known). WellFormed (items_of x)) (sym a.is)
          (good_well_formed (items_of (known s a.n)) (good_so_far s a.n a.passes a.sound b a.few)
          (let q = ap length w' in let z = a.small in omega arith) (main-last s a.n a.passes a.sound a.main)),
      w,
    )
