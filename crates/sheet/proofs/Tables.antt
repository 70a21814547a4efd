-- Laws on the table: runs of stores, numbers of two bytes, and the four parts of the table.
use mathlib.Core.Path.{◌≡◌, refl, sym, ap, ◌∙◌}
use mathlib.Core.List.{List, [], ◌∷◌, ◌++◌}
use Prim.Native.Nat.{ℕ, zero, suc, ◌+◌, ◌*◌, ◌/◌, ◌%◌, ◌<◌, ◌≤◌}
use native.Mathlib.Nat.{add-zero}
use native.Mathlib.Omega.{arith}
use lib.ListN.{length, get_or, set, length-set}
use lib.Seq.{sets, length-sets, set_comm, get_or-set_same, get_or-set_other}
use Rattle.rules.specs.Syntax.{Bytes}
use Rattle.sheet.specs.Format.{number}
use Rattle.sheet.specs.Check.{Defined}
use Rattle.sheet.specs.Table.{words, written, entries, name_written, names_written}
use Rattle.sheet.specs.Check.{no_defined}

-- RUNS OF STORES

pub sets-append : (l : Bytes) (i : ℕ) (vs ws : List ℕ) → sets l i (vs ++ ws) ≡ sets (sets l i vs) (i + length vs) ws
sets-append l i [] ws = ap (λ (k : ℕ). sets l k ws) (sym (add-zero i))
sets-append l i (v ∷ vs) ws =
    let e : suc i + length vs ≡ i + suc (length vs) = omega arith in
    sets-append (set l i v) (suc i) vs ws ∙ ap (λ (k : ℕ). sets (sets (set l i v) (suc i) vs) k ws) e

set-sets : (l : Bytes) (i : ℕ) (vs : List ℕ) (j a : ℕ) → ((k : ℕ) → k < length vs → j ≡ i + k → ⊥) → set (sets l i vs) j a ≡ sets (set l j a) i vs
set-sets l i [] j a h = refl
set-sets l i (v ∷ vs) j a h =
    set-sets (set l i v) (suc i) vs j a (λ k b e. h (suc k) (omega arith) (omega arith))
    ∙ ap (λ (x : Bytes). sets x (suc i) vs) (set_comm l i j v a (λ e. h 0 (omega arith) (omega arith)))

pub sets_comm : (l : Bytes) (i : ℕ) (vs : List ℕ) (j : ℕ) (ws : List ℕ) → ((a b : ℕ) → a < length vs → b < length ws → i + a ≡ j + b → ⊥)
    → sets (sets l i vs) j ws ≡ sets (sets l j ws) i vs
sets_comm l i vs j [] h = refl
sets_comm l i vs j (w ∷ ws) h =
    ap (λ (x : Bytes). sets x (suc j) ws) (set-sets l i vs j w (λ k b e. h k 0 b (omega arith) (omega arith)))
    ∙ sets_comm (set l j w) i vs (suc j) ws (λ a b x y e. h a (suc b) x (omega arith) (omega arith))

pub get_or-sets_out : (l : Bytes) (i : ℕ) (vs : List ℕ) (k : ℕ) → ((a : ℕ) → a < length vs → k ≡ i + a → ⊥) → get_or (sets l i vs) k 0 ≡ get_or l k 0
get_or-sets_out l i [] k h = refl
get_or-sets_out l i (v ∷ vs) k h =
    get_or-sets_out (set l i v) (suc i) vs k (λ a b e. h (suc a) (omega arith) (omega arith))
    ∙ get_or-set_other l i k v 0 (λ e. h 0 (omega arith) (omega arith))

pub get_or-sets_in : (l : Bytes) (i : ℕ) (vs : List ℕ) (k : ℕ) → k < length vs → i + length vs ≤ length l → get_or (sets l i vs) (i + k) 0 ≡ get_or vs k 0
get_or-sets_in l i [] k h r = absurd (omega arith)
get_or-sets_in l i (v ∷ vs) zero h r =
    ap (λ (j : ℕ). get_or (sets (set l i v) (suc i) vs) j 0) (add-zero i)
    ∙ get_or-sets_out (set l i v) (suc i) vs i (λ a b e. omega arith)
    ∙ get_or-set_same l i v 0 (omega arith)
get_or-sets_in l i (v ∷ vs) (suc k) h r =
    let e : i + suc k ≡ suc i + k = omega arith in
    ap (λ (j : ℕ). get_or (sets (set l i v) (suc i) vs) j 0) e
    ∙ get_or-sets_in (set l i v) (suc i) vs k (omega arith) (omega (arith, length-set l i v))

-- NUMBERS

pub length-words : (xs : List ℕ) → length (words xs) ≡ 2 * length xs
unfolding words
length-words [] = refl
length-words (x ∷ xs) = let e = length-words xs in omega arith

words_append : (xs ys : List ℕ) → words (xs ++ ys) ≡ words xs ++ words ys
unfolding words
words_append [] ys = refl
words_append (x ∷ xs) ys = ap (λ (l : List ℕ). x % 256 ∷ x / 256 ∷ l) (words_append xs ys)

words-low : (xs : List ℕ) (k : ℕ) → get_or (words xs) (2 * k) 0 ≡ get_or xs k 0 % 256
unfolding words
words-low [] k = refl
words-low (x ∷ xs) zero = refl
words-low (x ∷ xs) (suc k) = let e : 2 * suc k ≡ suc (suc (2 * k)) = omega arith in rw e (words-low xs k)

words-high : (xs : List ℕ) (k : ℕ) → get_or (words xs) (2 * k + 1) 0 ≡ get_or xs k 0 / 256
unfolding words
words-high [] k = refl
words-high (x ∷ xs) zero = refl
words-high (x ∷ xs) (suc k) = let e : 2 * suc k + 1 ≡ suc (suc (2 * k + 1)) = omega arith in rw e (words-high xs k)

pub length-written : (t : Bytes) (i : ℕ) (xs : List ℕ) → length (written t i xs) ≡ length t
length-written t i xs = length-sets t i (words xs)

pub written-append : (t : Bytes) (i : ℕ) (xs ys : List ℕ) → written t i (xs ++ ys) ≡ written (written t i xs) (i + 2 * length xs) ys
written-append t i xs ys =
    ap (sets t i) (words_append xs ys) ∙ sets-append t i (words xs) (words ys)
    ∙ ap (λ (k : ℕ). sets (sets t i (words xs)) (i + k) (words ys)) (length-words xs)

-- two parts that do not overlap
pub written_below : (t : Bytes) (i : ℕ) (xs : List ℕ) (j : ℕ) (ys : List ℕ) → i + 2 * length xs ≤ j → written (written t i xs) j ys ≡ written (written t j ys) i xs
written_below t i xs j ys h = sets_comm t i (words xs) j (words ys) (λ a b x y e. omega (arith, length-words xs, length-words ys))

pub written-above : (t : Bytes) (i : ℕ) (xs : List ℕ) (j : ℕ) (ys : List ℕ) → j + 2 * length ys ≤ i → written (written t i xs) j ys ≡ written (written t j ys) i xs
written-above t i xs j ys h = sets_comm t i (words xs) j (words ys) (λ a b x y e. omega (arith, length-words xs, length-words ys))

pub number_in : (t : Bytes) (i : ℕ) (xs : List ℕ) (k : ℕ) → k < length xs → i + 2 * length xs ≤ length t → number (written t i xs) (i + 2 * k) ≡ get_or xs k 0
unfolding number
number_in t i xs k h r =
    let e : i + 2 * k + 1 ≡ i + (2 * k + 1) = omega arith in
    let m = length-words xs in
    let a : get_or (written t i xs) (i + 2 * k) 0 ≡ get_or xs k 0 % 256 = get_or-sets_in t i (words xs) (2 * k) (omega arith) (omega arith) ∙ words-low xs k in
    let b : get_or (written t i xs) (i + 2 * k + 1) 0 ≡ get_or xs k 0 / 256 = ap (λ (j : ℕ). get_or (written t i xs) j 0) e ∙ get_or-sets_in t i (words xs) (2 * k + 1) (omega arith) (omega arith) ∙ words-high xs k in
    omega arith

pub number-before : (t : Bytes) (i : ℕ) (xs : List ℕ) (j : ℕ) → j + 2 ≤ i → number (written t i xs) j ≡ number t j
unfolding number
number-before t i xs j h = rw (get_or-sets_out t i (words xs) j (λ a b e. omega arith), get_or-sets_out t i (words xs) (j + 1) (λ a b e. omega arith))

pub number-after : (t : Bytes) (i : ℕ) (xs : List ℕ) (j : ℕ) → i + 2 * length xs ≤ j → number (written t i xs) j ≡ number t j
unfolding number
number-after t i xs j h =
    rw (get_or-sets_out t i (words xs) j (λ a b e. omega (arith, length-words xs)), get_or-sets_out t i (words xs) (j + 1) (λ a b e. omega (arith, length-words xs)))

-- THE NAMES OF THE SLOTS

pub length-names : (xs : List Bytes) (t : Bytes) (i : ℕ) → length (names_written t i xs) ≡ length t
unfolding names_written
length-names [] t i = refl
length-names (x ∷ xs) t i = length-names xs (name_written t i x) (suc i) ∙ length-sets t (64 * i) (length x ∷ x)

-- one more
names_add : (xs : List Bytes) (t : Bytes) (i : ℕ) (x : Bytes) → name_written (names_written t i xs) (i + length xs) x ≡ names_written t i (xs ++ x ∷ [])
unfolding names_written
names_add [] t i x = ap (λ (k : ℕ). name_written t k x) (add-zero i)
names_add (y ∷ xs) t i x =
    let e : i + suc (length xs) ≡ suc i + length xs = omega arith in
    ap (λ (k : ℕ). name_written (names_written (name_written t i y) (suc i) xs) k x) e ∙ names_add xs (name_written t i y) (suc i) x

-- numbers above a name
name_under : (t : Bytes) (i : ℕ) (xs : List ℕ) (k : ℕ) (x : Bytes) → length x ≤ 63 → 64 * k + 64 ≤ i → name_written (written t i xs) k x ≡ written (name_written t k x) i xs
name_under t i xs k x h l = sets_comm t i (words xs) (64 * k) (length x ∷ x) (λ a b p q e. omega arith)

-- THE FOUR PARTS

unfoldable pub stack : (t : Bytes) (os : List ℕ) (ns : List Bytes) (es ms : List ℕ) → Bytes
stack t os ns es ms = written (written (written (names_written t 0 ns) 1024 os) 3076 es) 2048 ms

module _ (t : Bytes) (os : List ℕ) (ns : List Bytes) (es ms : List ℕ) (lo : length os ≤ 512) (ln : length ns ≤ 16) (le : length es ≤ 64) (lm : length ms ≤ 512) where
  pub length-stack : length (stack t os ns es ms) ≡ length t
  unfolding stack
  length-stack = simp length-sets (length-names ns t 0)

  pub stack-offset : (x : ℕ) → length os < 512 → written (stack t os ns es ms) (1024 + 2 * length os) (x ∷ []) ≡ stack t (os ++ x ∷ []) ns es ms
  unfolding stack
  stack-offset x h =
      written-above _ 2048 ms (1024 + 2 * length os) (x ∷ []) (omega arith)
      ∙ ap (λ (b : Bytes). written b 2048 ms) (written-above _ 3076 es (1024 + 2 * length os) (x ∷ []) (omega arith)
      ∙ ap (λ (b : Bytes). written b 3076 es) (sym (written-append _ 1024 os (x ∷ []))))

  pub stack-name : (x : Bytes) → length ns < 16 → length x ≤ 63 → name_written (stack t os ns es ms) (length ns) x ≡ stack t os (ns ++ x ∷ []) es ms
  unfolding stack
  stack-name x h l =
      name_under _ 2048 ms (length ns) x l (omega arith)
      ∙ ap (λ (b : Bytes). written b 2048 ms) (name_under _ 3076 es (length ns) x l (omega arith)
      ∙ ap (λ (b : Bytes). written b 3076 es) (name_under _ 1024 os (length ns) x l (omega arith)
      ∙ ap (λ (b : Bytes). written b 1024 os) (ap (λ (k : ℕ). name_written (names_written t 0 ns) k x) from_zero ∙ names_add ns t 0 x)))
    where
      from_zero : length ns ≡ 0 + length ns
      from_zero = omega arith

  pub stack_entry : (x y : ℕ) → length es + 2 ≤ 64 → written (stack t os ns es ms) (3076 + 2 * length es) (x ∷ y ∷ []) ≡ stack t os ns (es ++ x ∷ y ∷ []) ms
  unfolding stack
  stack_entry x y h =
      written_below _ 2048 ms (3076 + 2 * length es) (x ∷ y ∷ []) (omega arith)
      ∙ ap (λ (b : Bytes). written b 2048 ms) (sym (written-append _ 3076 es (x ∷ y ∷ [])))

  pub stack-mark : (x : ℕ) → written (stack t os ns es ms) (2048 + 2 * length ms) (x ∷ []) ≡ stack t os ns es (ms ++ x ∷ [])
  unfolding stack
  stack-mark x = sym (written-append _ 2048 ms (x ∷ []))

  module _ (room : 4096 ≤ length t) where
    pub offset_read : (k : ℕ) → k < length os → number (stack t os ns es ms) (1024 + 2 * k) ≡ get_or os k 0
    unfolding stack
    offset_read k h =
        number-before _ 2048 ms (1024 + 2 * k) (omega arith) ∙ number-before _ 3076 es (1024 + 2 * k) (omega arith)
        ∙ number_in _ 1024 os k h (let l = length-names ns t 0 in omega arith)

    pub entry_read : (k : ℕ) → k < length es → number (stack t os ns es ms) (3076 + 2 * k) ≡ get_or es k 0
    unfolding stack
    entry_read k h =
        number-after _ 2048 ms (3076 + 2 * k) (omega arith)
        ∙ number_in _ 3076 es k h (simp length-sets (let l = length-names ns t 0 in omega arith))

    pub mark-read : (k : ℕ) → k < length ms → number (stack t os ns es ms) (2048 + 2 * k) ≡ get_or ms k 0
    unfolding stack
    mark-read k h = number_in _ 2048 ms k h (simp length-sets (let l = length-names ns t 0 in omega arith))

-- FUNCTIONS

pub length-entries : (fs : List Defined) → length (entries fs) ≡ 2 * length fs
unfolding entries
length-entries [] = refl
length-entries (f ∷ fs) = let e = length-entries fs in omega arith

pub entries-append : (fs : List Defined) (f : Defined) → entries (fs ++ f ∷ []) ≡ entries fs ++ f.body ∷ f.named ∷ []
unfolding entries
entries-append [] f = refl
entries-append (g ∷ fs) f = ap (λ (l : List ℕ). g.body ∷ g.named ∷ l) (entries-append fs f)

pub entries-named : (fs : List Defined) (k : ℕ) → get_or (entries fs) (2 * k + 1) 0 ≡ (get_or fs k no_defined).named
unfolding entries
entries-named [] k = refl
entries-named (f ∷ fs) zero = refl
entries-named (f ∷ fs) (suc k) = let e : 2 * suc k + 1 ≡ suc (suc (2 * k + 1)) = omega arith in rw e (entries-named fs k)
