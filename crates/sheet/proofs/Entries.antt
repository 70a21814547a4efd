-- The table that an accepted sheet leaves, entry by entry.
use mathlib.Core.Path.{◌≡◌, refl, ap, ◌∙◌}
use mathlib.Core.List.{List, [], ◌∷◌, map}
use Prim.Native.Nat.{ℕ, zero, suc, ◌+◌, ◌*◌, ◌<◌, ◌≤◌}
use native.Mathlib.Omega.{arith}
use lib.ListN.{length, get_or, length-map, get_or-map}
use Rattle.rules.specs.Syntax.{Bytes}
use Rattle.sheet.specs.Format.{number}
use Rattle.sheet.specs.Check.{Rec, Defined, known, no_rec, record_of}
use Rattle.sheet.specs.Decode.{main_body}
use Rattle.sheet.specs.Table.{filled, complete, mark, entries}
use Rattle.sheet.specs.Check.{no_defined}
use Rattle.sheet.proofs.Records.{count-known}
use Rattle.sheet.proofs.Tables.{stack, number_in, number-before, number-after, length-entries, entries-named, offset_read, entry_read, mark-read}
use Rattle.sheet.proofs.Sound.{Sound}
use Rattle.sheet.proofs.Going.{filled-stack, filled-length, few_offsets, few-names, few-entries, offsets_of, names_of}

entries-body : (fs : List Defined) (k : ℕ) → get_or (entries fs) (2 * k) 0 ≡ (get_or fs k no_defined).body
unfolding entries
entries-body [] k = refl
entries-body (f ∷ fs) zero = refl
entries-body (f ∷ fs) (suc k) = let e : 2 * suc k ≡ suc (suc (2 * k)) = omega arith in rw e (entries-body fs k)

module _ (s t : Bytes) (n : ℕ) (h : Sound s n) (few : n ≤ 512) (room : 4096 ≤ length t) where
  marks : length (map (mark (known s n)) (known s n).records) ≡ n
  marks = length-map (known s n).records (mark (known s n)) ∙ count-known s n

  abbrev parts : Bytes
  parts = stack t (offsets_of (known s n)) (names_of (known s n)) (entries (known s n).functions) (map (mark (known s n)) (known s n).records)

  long : length (filled (known s n) (map (mark (known s n)) (known s n).records) t) ≡ length t
  long = filled-length s t n (map (mark (known s n)) (known s n).records) h few room marks

  under : (j : ℕ) → j + 2 ≤ 3072 → number (complete (known s n) t) j ≡ number parts j
  under j l = number-before _ 3072 _ j l ∙ ap (λ (b : Bytes). number b j) (filled-stack (known s n) (map (mark (known s n)) (known s n).records) t)

  over : (j : ℕ) → 3076 ≤ j → number (complete (known s n) t) j ≡ number parts j
  over j l = number-after _ 3072 _ j l ∙ ap (λ (b : Bytes). number b j) (filled-stack (known s n) (map (mark (known s n)) (known s n).records) t)

  -- where record r begins
  pub entry_offset : (r : ℕ) → r < n → number (complete (known s n) t) (1024 + 2 * r) ≡ (record_of (known s n) r).at
  entry_offset r l =
      under (1024 + 2 * r) (omega arith)
      ∙ offset_read t _ _ _ _ (few_offsets s n h few) (few-names s n h few) (few-entries s n h few) (omega (arith, marks)) room r
      (omega (arith, length-map (known s n).records (λ (c : Rec). c.at), count-known s n))
      ∙ get_or-map (λ (c : Rec). c.at) (known s n).records r no_rec

  -- its mark
  pub entry_mark : (r : ℕ) → r < n → number (complete (known s n) t) (2048 + 2 * r) ≡ mark (known s n) (record_of (known s n) r)
  entry_mark r l =
      under (2048 + 2 * r) (omega arith)
      ∙ mark-read t _ _ _ _ (few_offsets s n h few) (few-names s n h few) (few-entries s n h few) (omega (arith, marks)) room r (omega (arith, marks))
      ∙ mark-at (known s n).records r (omega (arith, count-known s n))
    where
      mark-at : (cs : List Rec) (k : ℕ) → k < length cs → get_or (map (mark (known s n)) cs) k 0 ≡ mark (known s n) (get_or cs k no_rec)
      mark-at [] k m = absurd (omega arith)
      mark-at (c ∷ cs) zero m = refl
      mark-at (c ∷ cs) (suc k) m = mark-at cs k (omega arith)

  -- the body and the name of function f + 1
  pub entry_body : (f : ℕ) → f < length (known s n).functions → number (complete (known s n) t) (3072 + 4 * suc f) ≡ (get_or (known s n).functions f no_defined).body
  entry_body f l =
      let e : 3072 + 4 * suc f ≡ 3076 + 2 * (2 * f) = omega arith in
      ap (number (complete (known s n) t)) e ∙ over (3076 + 2 * (2 * f)) (omega arith)
      ∙ entry_read t _ _ _ _ (few_offsets s n h few) (few-names s n h few) (few-entries s n h few) (omega (arith, marks)) room (2 * f) (omega (arith, length-entries (known s n).functions))
      ∙ entries-body (known s n).functions f

  pub entry_function : (f : ℕ) → f < length (known s n).functions → number (complete (known s n) t) (3072 + 4 * suc f + 2) ≡ (get_or (known s n).functions f no_defined).named
  entry_function f l =
      let e : 3072 + 4 * suc f + 2 ≡ 3076 + 2 * (2 * f + 1) = omega arith in
      ap (number (complete (known s n) t)) e ∙ over (3076 + 2 * (2 * f + 1)) (omega arith)
      ∙ entry_read t _ _ _ _ (few_offsets s n h few) (few-names s n h few) (few-entries s n h few) (omega (arith, marks)) room (2 * f + 1) (omega (arith, length-entries (known s n).functions))
      ∙ entries-named (known s n).functions f

  -- main is function 0
  pub entry_main : number (complete (known s n) t) (3072 + 4 * 0) ≡ main_body (known s n)
  entry_main = number_in (filled (known s n) (map (mark (known s n)) (known s n).records) t) 3072 (main_body (known s n) ∷ 0 ∷ []) 0 (omega arith) (omega (arith, long))
