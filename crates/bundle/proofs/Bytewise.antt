-- Which lists are bytes, and that bytes are the numbers they hold.
use mathlib.Core.Path.{◌≡◌, refl, sym, ap, ◌∙◌}
use mathlib.Core.List.{List, [], ◌∷◌, ◌++◌}
use Prim.Native.Nat.{ℕ, zero, suc, ◌+◌, ◌*◌, ◌/◌, ◌%◌, ◌<◌, ◌≤◌}
use native.Mathlib.Numerals.{add-one}
use native.Mathlib.Omega.{arith}
use lib.ListN.{length, get_or, take, drop}
use lib.Seq.{drop-cons}
use Rattle.rules.specs.Syntax.{Bytes}
use Rattle.rules.specs.Lists.{Every}
use Rattle.rules.specs.Numbers.{four_bytes}
use Rattle.sheet.specs.Format.{number, long_number}
use Rattle.sheet.specs.Table.{words}
use Rattle.sheet.specs.WellFormed.{IsBytes}
use Rattle.sheet.proofs.Written.{low, high}
use Rattle.sheet.proofs.FromSheet.{bytes_take, bytes_drop}
use Rattle.bundle.specs.Contents.{payload}

-- BYTES

pub bytes-append : (s t : Bytes) → IsBytes s → IsBytes t → IsBytes (s ++ t)
bytes-append [] t p q i = q i
bytes-append (x ∷ s) t p q zero = p 0
bytes-append (x ∷ s) t p q (suc i) = bytes-append s t (λ j. p (suc j)) q i

pub bytes-none : IsBytes []
bytes-none i = omega arith

pub bytes-words : (xs : List ℕ) → Every (λ x. x < 65536) xs → IsBytes (words xs)
unfolding words
bytes-words [] h i = omega arith
bytes-words (x ∷ xs) h zero = omega arith
bytes-words (x ∷ xs) h (suc zero) = omega (arith, h.0)
bytes-words (x ∷ xs) h (suc (suc i)) = bytes-words xs h.1 i

pub bytes_four : (n : ℕ) → n < 4294967296 → IsBytes (four_bytes n)
bytes_four n h zero = omega arith
bytes_four n h (suc zero) = omega arith
bytes_four n h (suc (suc zero)) = omega arith
bytes_four n h (suc (suc (suc zero))) = omega (arith, h)
bytes_four n h (suc (suc (suc (suc i)))) = omega arith

pub bytes-payload : (b : Bytes) (at : ℕ) → IsBytes b → IsBytes (payload b at)
bytes-payload b at p = bytes_take (number b at) (drop (at + 4) b) (bytes_drop (at + 4) b p)

-- NUMBERS

pub number_small : (b : Bytes) (i : ℕ) → IsBytes b → number b i < 65536
unfolding number
number_small b i p = omega (arith, p i, p (i + 1))

-- four bytes are two numbers, the low half first
pub two_halves : (b : Bytes) (i : ℕ) → long_number b i ≡ number b i + 65536 * number b (i + 2)
unfolding long_number number
two_halves b i = let e : i + 2 + 1 ≡ i + 3 = omega arith in rw e (omega arith)

pub wide-small : (b : Bytes) (i : ℕ) → IsBytes b → long_number b i < 4294967296
wide-small b i p = omega (arith, two_halves b i, number_small b i p, number_small b (i + 2) p)

-- four bytes are the number in them, written
pub four_written : (b : Bytes) (i : ℕ) → IsBytes b → words (number b i ∷ number b (i + 2) ∷ []) ≡ four_bytes (long_number b i)
unfolding words
four_written b i p =
    let h = two_halves b i in
    let x = number_small b i p in
    let y = number_small b (i + 2) p in
    let e₀ : number b i % 256 ≡ long_number b i % 256 = omega arith in
    let q : long_number b i / 256 ≡ number b i / 256 + 256 * number b (i + 2) = omega arith in
    let e₁ : number b i / 256 ≡ long_number b i / 256 % 256 = sym (ap (λ (n : ℕ). n % 256) q ∙ low (number b i / 256) (number b (i + 2)) (omega arith)) in
    let r : number b (i + 2) ≡ long_number b i / 65536 = omega arith in
    let e₂ : number b (i + 2) % 256 ≡ long_number b i / 65536 % 256 = ap (λ (n : ℕ). n % 256) r in
    let e₃ : number b (i + 2) / 256 ≡ long_number b i / 16777216 = omega arith in λ j. e₀ j ∷ e₁ j ∷ e₂ j ∷ e₃ j ∷ []

-- n numbers from i on
abbrev pub numbers_at : Bytes → (n i : ℕ) → List ℕ
numbers_at b zero i = []
numbers_at b (suc n) i = number b i ∷ numbers_at b n (i + 2)

-- bytes are the numbers in them, written
pub words-at : (b : Bytes) (n i : ℕ) → IsBytes b → i + 2 * n ≤ length b → take (2 * n) (drop i b) ≡ words (numbers_at b n i)
unfolding words number
words-at b zero i p h = refl
words-at b (suc n) i p h =
    let k : suc (i + 1) ≡ i + 2 = omega arith in
    let m : 2 * suc n ≡ suc (suc (2 * n)) = omega arith in
    let d : drop i b ≡ get_or b i 0 ∷ get_or b (i + 1) 0 ∷ drop (i + 2) b =
    drop-cons b i 0 (omega arith) ∙ ap (λ (j : ℕ). get_or b i 0 ∷ drop j b) (sym (add-one i))
    ∙ ap (λ (l : Bytes). get_or b i 0 ∷ l) (drop-cons b (i + 1) 0 (omega arith) ∙ ap (λ (j : ℕ). get_or b (i + 1) 0 ∷ drop j b) k) in
    ap (λ (j : ℕ). take j (drop i b)) m ∙ ap (take (suc (suc (2 * n)))) d
    ∙ (λ j. sym (low (get_or b i 0) (get_or b (i + 1) 0) (p i)) j ∷ sym (high (get_or b i 0) (get_or b (i + 1) 0) (p i)) j ∷ words-at b n (i + 2) p (omega arith) j)
