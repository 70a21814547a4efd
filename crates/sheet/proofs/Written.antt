-- An accepted sheet is what its records write: reading loses nothing, and no two sheets have the same records.
use mathlib.Core.Path.{◌≡◌, refl, sym, ap, ◌∙◌, subst}
use mathlib.Core.List.{List, [], ◌∷◌, ◌++◌, append-nil, append_assoc}
use Prim.Native.Nat.{ℕ, zero, suc, ◌+◌, ◌*◌, ◌/◌, ◌%◌, ◌<◌, ◌≤◌}
use native.Mathlib.Nat.{add-zero}
use native.Mathlib.Omega.{arith}
use lib.ListN.{length, get_or, take, drop, length-drop}
use lib.Seq.{take-add, get_or-drop, take-length, drop-drop}
use Rattle.std.proofs.lemmas.List.{map-append}
use Rattle.rules.specs.Syntax.{Bytes}
use Rattle.sheet.specs.Format.{number}
use Rattle.sheet.specs.Table.{words}
use Rattle.sheet.specs.Check.{Known, known, next, record_here, accepted, check}
use Rattle.sheet.specs.WellFormed.{Item, write_item, write, IsBytes, item_of, items_of}
use Rattle.sheet.proofs.Sound.{fine-room}
use Rattle.sheet.proofs.Entered.{payload-length}
use Rattle.sheet.proofs.Explains.{accepted-parts}

pub write_snoc : (cs : List Item) (c : Item) → write (cs ++ c ∷ []) ≡ write cs ++ write_item c
unfolding write
write_snoc [] c = append-nil (write_item c)
write_snoc (d ∷ cs) c = ap (λ (l : Bytes). write_item d ++ l) (write_snoc cs c) ∙ sym (append_assoc (write_item d) (write cs) (write_item c))

pub low : (a b : ℕ) → a < 256 → (a + 256 * b) % 256 ≡ a
low a b h = omega arith

pub high : (a b : ℕ) → a < 256 → (a + 256 * b) / 256 ≡ b
high a b h = omega arith

-- four bytes are two numbers
header : (d : Bytes) → IsBytes d → 4 ≤ length d → take 4 d ≡ words (number d 0 ∷ number d 2 ∷ [])
unfolding words number
header [] b h = absurd (omega arith)
header (w ∷ []) b h = absurd (omega arith)
header (w ∷ x ∷ []) b h = absurd (omega arith)
header (w ∷ x ∷ y ∷ []) b h = absurd (omega arith)
header (w ∷ x ∷ y ∷ z ∷ d) b h = λ i. sym (low w x (b 0)) i ∷ sym (high w x (b 0)) i ∷ sym (low y z (b 2)) i ∷ sym (high y z (b 2)) i ∷ []

pub number-drop : (s : Bytes) (e k : ℕ) → number (drop e s) k ≡ number s (e + k)
unfolding number
number-drop s e k =
    let a : e + (k + 1) ≡ e + k + 1 = omega arith in
    (λ i. get_or-drop e s k 0 i + 256 * get_or-drop e s (k + 1) 0 i) ∙ ap (λ (j : ℕ). get_or s (e + k) 0 + 256 * get_or s j 0) a

-- one record
pub record_written : (s : Bytes) (K : Known) → IsBytes s → K.end + 4 + number s K.end ≤ length s → take (4 + number s K.end) (drop K.end s) ≡ write_item (item_of (record_here s K))
unfolding write_item words
record_written s K b h =
    let d : Bytes = drop K.end s in
    let bd : IsBytes (drop K.end s) = λ i. subst (λ (x : ℕ). x < 256) (sym (get_or-drop K.end s i 0)) (b (K.end + i)) in
    let ld : 4 ≤ length (drop K.end s) = simp length-drop (omega arith) in
    let z : number (drop K.end s) 0 ≡ length (record_here s K).payload =
    number-drop s K.end 0 ∙ ap (number s) (add-zero K.end) ∙ sym (payload-length s (record_here s K) (record { room = h; kind = refl; payload = refl })) in
    take-add 4 (number s K.end) (drop K.end s)
    ∙ ap (λ (l : Bytes). l ++ take (number s K.end) (drop 4 (drop K.end s))) (header (drop K.end s) bd ld)
    ∙ ap (λ (l : Bytes). words (number (drop K.end s) 0 ∷ number (drop K.end s) 2 ∷ []) ++ take (number s K.end) l) (drop-drop 4 K.end s)
    ∙ ap (λ (x : ℕ). words (x ∷ number (drop K.end s) 2 ∷ []) ++ (record_here s K).payload) z
    ∙ ap (λ (x : ℕ). words (length (record_here s K).payload ∷ x ∷ []) ++ (record_here s K).payload) (number-drop s K.end 2)

-- the first n records, as far as each lies in the sheet
pub written_so_far : (s : Bytes) (n : ℕ) → IsBytes s → ((m : ℕ) → m < n → (known s m).end + 4 + number s (known s m).end ≤ length s)
    → take (known s n).end s ≡ write (items_of (known s n))
unfolding known next write
written_so_far s zero b h = refl
written_so_far s (suc n) b h =
    let e : (known s n).end + 4 + number s (known s n).end ≡ (known s n).end + (4 + number s (known s n).end) = omega arith in
    ap (λ (k : ℕ). take k s) e ∙ take-add (known s n).end (4 + number s (known s n).end) s
    ∙ ap (λ (l : Bytes). l ++ take (4 + number s (known s n).end) (drop (known s n).end s)) (written_so_far s n b (λ m l. h m (omega arith)))
    ∙ ap (λ (l : Bytes). write (items_of (known s n)) ++ l) (record_written s (known s n) b (h n (omega arith)))
    ∙ sym (write_snoc (items_of (known s n)) (item_of (record_here s (known s n))))
    ∙ ap write (sym (map-append item_of (known s n).records ((record_here s (known s n)) ∷ [])))

pub accepted-written : (s : Bytes) (K : Known) → IsBytes s → check s ≡ accepted K → s ≡ write (items_of K)
accepted-written s K b e =
    let a = accepted-parts s K e in
    sym (take-length s) ∙ ap (λ (k : ℕ). take k s) (sym a.end)
    ∙ written_so_far s a.n b (λ m l. fine-room s (known s m) (a.passes.good m l))
    ∙ ap (λ (x : Known). write (items_of x)) (sym a.is)

-- no two sheets have the same records
pub same-sheet : (s t : Bytes) (K : Known) → IsBytes s → IsBytes t → check s ≡ accepted K → check t ≡ accepted K → s ≡ t
same-sheet s t K b c e f = accepted-written s K b e ∙ sym (accepted-written t K c f)
