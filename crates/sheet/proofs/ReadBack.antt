-- A sheet that begins with the bytes of a list of records is read back as that list, whatever stands behind them.
use mathlib.Core.Path.{◌≡◌, refl, sym, ap, ◌∙◌}
use mathlib.Core.List.{List, [], ◌∷◌, ◌++◌, append_assoc}
use Prim.Native.Nat.{ℕ, zero, suc, ◌+◌, ◌<◌, ◌≤◌}
use native.Mathlib.Nat.{add-zero}
use native.Mathlib.Omega.{arith}
use lib.ListN.{length, take, drop, length-append}
use lib.Seq.{take-suc, split_at, take_at, drop-drop, drop-append_seam}
use Rattle.rules.specs.Syntax.{Bytes}
use Rattle.rules.proofs.Numbers.{two-read}
use Rattle.sheet.specs.Format.{number}
use Rattle.sheet.specs.Table.{words}
use Rattle.sheet.specs.Check.{known, next, kind_here, payload_here, record_here}
use Rattle.sheet.specs.WellFormed.{Item, no_item, write_item, write, item_of, item, kind_at, payload_at}
use Rattle.sheet.proofs.Written.{write_snoc, number-drop}

-- BYTES

write-append : (xs ys : List Item) → write (xs ++ ys) ≡ write xs ++ write ys
unfolding write
write-append [] ys = refl
write-append (x ∷ xs) ys = ap (λ (l : Bytes). write_item x ++ l) (write-append xs ys) ∙ sym (append_assoc (write_item x) (write xs) (write ys))

pub length-item : (c : Item) → length (write_item c) ≡ 4 + length c.payload
unfolding write_item words
length-item c = let z : suc (suc (suc (suc (length c.payload)))) ≡ 4 + length c.payload = omega arith in z

pub size-first : (c : Item) (l : Bytes) → number (write_item c ++ l) 0 ≡ length c.payload
unfolding write_item words number
size-first c l = two-read (length c.payload)

pub kind-next : (c : Item) (l : Bytes) → number (write_item c ++ l) 2 ≡ c.kind
unfolding write_item words number
kind-next c l = two-read c.kind

pub payload-last : (c : Item) (l : Bytes) → drop 4 (write_item c ++ l) ≡ c.payload ++ l
unfolding write_item words
payload-last c l = refl

-- READING BACK

module _ (s : Bytes) (rs : List Item) (tail : Bytes) (is : s ≡ write rs ++ tail) where
  -- where record n begins, and what stands behind it
  abbrev pub from : ℕ → ℕ
  from n = length (write (take n rs))

  abbrev behind : ℕ → Bytes
  behind n = write (drop (suc n) rs) ++ tail

  split : (n : ℕ) → n < length rs → s ≡ write (take n rs) ++ (write_item (item rs n) ++ behind n)
  unfolding write
  split n l =
      is ∙ ap (λ (b : Bytes). b ++ tail) (ap write (split_at rs n no_item l) ∙ write-append (take n rs) (item rs n ∷ drop (suc n) rs))
      ∙ append_assoc (write (take n rs)) (write_item (item rs n) ++ write (drop (suc n) rs)) tail
      ∙ ap (λ (b : Bytes). write (take n rs) ++ b) (append_assoc (write_item (item rs n)) (write (drop (suc n) rs)) tail)

  here : (n : ℕ) → n < length rs → drop (from n) s ≡ write_item (item rs n) ++ behind n
  here n l = ap (drop (from n)) (split n l) ∙ drop-append_seam (write (take n rs)) (write_item (item rs n) ++ behind n)

  pub from_next : (n : ℕ) → n < length rs → from (suc n) ≡ from n + 4 + length (payload_at rs n)
  from_next n l =
      ap (λ (x : List Item). length (write x)) (take-suc rs n no_item l) ∙ ap length (write_snoc (take n rs) (item rs n))
      ∙ (let a = length-append (write (take n rs)) (write_item (item rs n)) in let b = length-item (item rs n) in omega arith)

  pub from-room : (n : ℕ) → n < length rs → from n + 4 + length (payload_at rs n) ≤ length s
  from-room n l =
      let a = ap length (split n l) in
      let b = length-append (write (take n rs)) (write_item (item rs n) ++ behind n) in
      let c = length-append (write_item (item rs n)) (behind n) in
      let d = length-item (item rs n) in
      omega arith

  pub size-at : (n : ℕ) → n < length rs → number s (from n) ≡ length (payload_at rs n)
  size-at n l =
      ap (number s) (sym (add-zero (from n))) ∙ sym (number-drop s (from n) 0) ∙ ap (λ (b : Bytes). number b 0) (here n l) ∙ size-first (item rs n) (behind n)

  pub kind-at : (n : ℕ) → n < length rs → number s (from n + 2) ≡ kind_at rs n
  kind-at n l = sym (number-drop s (from n) 2) ∙ ap (λ (b : Bytes). number b 2) (here n l) ∙ kind-next (item rs n) (behind n)

  pub payload-at : (n : ℕ) → n < length rs → take (number s (from n)) (drop (from n + 4) s) ≡ payload_at rs n
  payload-at n l =
      ap (λ (k : ℕ). take k (drop (from n + 4) s)) (size-at n l)
      ∙ ap (take (length (payload_at rs n))) (sym (drop-drop 4 (from n) s) ∙ ap (drop 4) (here n l) ∙ payload-last (item rs n) (behind n))
      ∙ take_at (payload_at rs n) (behind n) (length (payload_at rs n)) refl

  pub end-at : (n : ℕ) → n ≤ length rs → (known s n).end ≡ from n
  unfolding known next write
  end-at zero l = refl
  end-at (suc n) l =
      let e = end-at n (omega arith) in
      ap (λ (k : ℕ). k + 4 + number s k) e ∙ ap (λ (k : ℕ). from n + 4 + k) (size-at n l) ∙ sym (from_next n l)

  pub agree : (n : ℕ) → n < length rs → item_of (record_here s (known s n)) ≡ item rs n
  agree n l =
      let e = end-at n (omega arith) in
      let k : kind_here s (known s n) ≡ kind_at rs n = ap (λ (j : ℕ). number s (j + 2)) e ∙ kind-at n l in
      let p : payload_here s (known s n) ≡ payload_at rs n = ap (λ (j : ℕ). take (number s j) (drop (j + 4) s)) e ∙ payload-at n l in
      λ i. record { kind = k i; payload = p i }

  pub room_at : (n : ℕ) → n < length rs → (known s n).end + 4 + number s (known s n).end ≤ length s
  room_at n l =
      let e = end-at n (omega arith) in
      let z = ap (number s) e ∙ size-at n l in
      let r = from-room n l in
      omega arith
