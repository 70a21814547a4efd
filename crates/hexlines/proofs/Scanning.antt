-- Finding a byte, a word, a number from the front.
use Prim.Native.Nat.{ℕ, zero, suc, ◌+◌, ◌*◌, ◌-◌, ◌≤◌, ◌<◌, min}
use native.Mathlib.Numerals.{add-one}
use native.Mathlib.Omega.{arith}
use native.Mathlib.Decide.{dec_lt}
use mathlib.Core.Path.{◌≡◌, refl, sym, ap, ◌∙◌}
use mathlib.Core.Bool.{Bool, true, false, cond}
use mathlib.Core.List.{List, [], ◌∷◌}
use lib.Dec.{eqb, ltb}
use lib.ListN.{length, get_or, take, drop, length-drop, drop_of_length-le}
use lib.Seq.{drop-cons, drop-length}
use Rattle.std.proofs.lemmas.List.{take_all}
use Rattle.std.proofs.lemmas.Option.{unwrap_or-slice_get}
use borrow.Author.Tests.{lt-ltb, le-ltb}
use Rattle.std.specs.Prelude.{Option, Some, None, option_map, slice_get}
use Rattle.std.specs.Borrow.{Bor}
use Rattle.std.specs.Option.{unwrap_or}
use Rattle.std.specs.List.{position_or_len, slice_split, onto_first}
use Rattle.std.proofs.lemmas.List.Recursion.{is_position_or_len}
use Rattle.hexlines.specs.Hex.{value}
use Rattle.hexlines.specs.Words.{ahead, word_of, number_from}

-- A BYTE

ahead_within : (b : ℕ) (s : List ℕ) → ahead b s ≤ length s
unfolding ahead
ahead_within b [] = omega arith
ahead_within b (x ∷ s) = go (eqb x b) (ahead_within b s)
  where
    go : (t : Bool) → ahead b s ≤ length s → cond t zero (suc (ahead b s)) ≤ suc (length s)
    go true h = omega arith
    go false h = omega arith

-- the library's place of a byte
ahead-place : (b : ℕ) (s : List ℕ) → ahead b s ≡ position_or_len (λ x. eqb x b) s
unfolding ahead
ahead-place b s = is_position_or_len (ahead b) (λ x. eqb x b) refl (λ x xs. let e : suc (ahead b xs) ≡ 1 + ahead b xs = omega arith in ap (cond (eqb x b) 0) e) s

drop-within : (s : List ℕ) (n : ℕ) → drop (min n (length s)) s ≡ drop n s
drop-within s n = go (dec_lt n (length s))
  where
    go : Dec (n < length s) → drop (min n (length s)) s ≡ drop n s
    go (yes h) = let e : min n (length s) ≡ n = omega arith in rw e
    go (no h) =
        let k : length s ≤ n = omega arith in
        let e : min n (length s) ≡ length s = omega arith in
        rw (e, drop_of_length-le s k) (drop-length s)

module _ (b : ℕ) where
  abbrev place : List ℕ → ℕ
  place s = position_or_len (λ x. eqb x b) s

  place-or : (s : List ℕ) {r : Option ℕ} → r ≡ cond (ltb (place s) (length s)) (Some (place s)) None → unwrap_or r (length s) ≡ ahead b s
  place-or s {r} e = ap (λ o. unwrap_or o (length s)) e ∙ go (dec_lt (place s) (length s))
    where
      go : Dec (place s < length s) → unwrap_or (cond (ltb (place s) (length s)) (Some (place s)) None) (length s) ≡ ahead b s
      go (yes h) = rw (lt-ltb (place s) (length s) h, ahead-place b s)
      go (no h) = rw (le-ltb (place s) (length s) (omega arith)) (omega (arith, ahead-place b s, ahead_within b s))

  pub found : (s : List ℕ) (i from n : ℕ) {r : Option ℕ} → from ≡ min i (length s)
      → r ≡ cond (ltb (place (take (length s - from) (drop from s))) (length (take (length s - from) (drop from s)))) (Some (place (take (length s - from) (drop from s)))) None
      → n ≡ unwrap_or r (length (take (length s - from) (drop from s))) → from + n ≡ min (i + ahead b (drop i s)) (length s)
  found s i from n {r} f e u =
      let rest : take (length s - from) (drop from s) ≡ drop from s = take_all (length s - from) (drop from s) (omega (arith, length-drop from s)) in
      let same : drop from s ≡ drop i s = ap (λ k. drop k s) f ∙ drop-within s i in
      let p : n ≡ ahead b (take (length s - from) (drop from s)) = u ∙ place-or (take (length s - from) (drop from s)) e in
      let q : n ≡ ahead b (drop i s) = p ∙ ap (ahead b) (rest ∙ same) in
      omega (arith, q, ahead_within b (drop i s), length-drop i s)

-- WORDS

word_none : (k : ℕ) → word_of k [] ≡ []
unfolding word_of ahead
word_none zero = refl
word_none (suc k) = word_none k

abbrev pub is_space : ℕ → Bool
is_space x = eqb x 32

-- part k of a line that is cut at each space
word_is : (k : ℕ) (s : List ℕ) → get_or (slice_split is_space s) k [] ≡ word_of k s
unfolding word_of ahead
word_is zero [] = refl
word_is (suc k) [] = (let e : get_or {A = List ℕ} [] k [] ≡ [] = refl in e) ∙ sym (word_none k)
word_is k (x ∷ s) = go (eqb x 32) refl (λ j. word_is j s) k
  where
    first : (ps : List (List ℕ)) → get_or (onto_first x ps) 0 [] ≡ x ∷ get_or ps 0 []
    first [] = refl
    first (p ∷ ps) = refl

    later : (ps : List (List ℕ)) (j : ℕ) → get_or (onto_first x ps) (suc j) [] ≡ get_or ps (suc j) []
    later [] j = refl
    later (p ∷ ps) j = refl

    go : (t : Bool) → eqb x 32 ≡ t → ((j : ℕ) → get_or (slice_split is_space s) j [] ≡ word_of j s) → (k : ℕ) → get_or (slice_split is_space (x ∷ s)) k [] ≡ word_of k (x ∷ s)
    go true e h zero = rw e
    go true e h (suc j) = rw e (h j)
    go false e h zero = rw e (first (slice_split is_space s) ∙ ap (λ l. x ∷ l) (h 0))
    go false e h (suc j) = rw e (later (slice_split is_space s) j ∙ h (suc j))

-- the part, or what stands in for one that is missing
pub word-or : (k : ℕ) (s : List ℕ) (r : Option (Bor (List ℕ))) {w : Bor (List ℕ)} (none : Bor (List ℕ)) → option_map (λ x. x.now) r ≡ slice_get (slice_split is_space s) k
    → w ≡ unwrap_or r none → none.now ≡ [] → w.now ≡ word_of k s
word-or k s r none e u z =
    ap (λ (x : Bor (List ℕ)). x.now) u ∙ go r ∙ ap (λ o. unwrap_or o none.now) e ∙ ap (λ d. unwrap_or (slice_get (slice_split is_space s) k) d) z
    ∙ unwrap_or-slice_get (slice_split is_space s) k [] ∙ word_is k s
  where
    go : (r : Option (Bor (List ℕ))) → (unwrap_or r none).now ≡ unwrap_or (option_map (λ x. x.now) r) none.now
    go None = refl
    go (Some x) = refl

-- NUMBERS

pub number-full : (s : List ℕ) (i n : ℕ) → i < length s → 100000000000000000 ≤ n → number_from n (drop i s) ≡ n
unfolding number_from
number-full s i n h k = rw (drop-cons s i 0, le-ltb n 100000000000000000 k)

pub number_more : (s : List ℕ) (i n v : ℕ) → i < length s → n < 100000000000000000 → v ≡ value (get_or s i 0)
    → number_from (10 * n + v) (drop (i + 1) s) ≡ number_from n (drop i s)
unfolding number_from
number_more s i n v h k e = rw (e, add-one, drop-cons s i 0, lt-ltb n 100000000000000000 k)

pub number-end : (s : List ℕ) (i n : ℕ) → length s ≤ i → number_from n (drop i s) ≡ n
unfolding number_from
number-end s i n h = rw (drop_of_length-le s h)
