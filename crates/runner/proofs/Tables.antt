-- What the checks leave in work memory: the tables, and everything past them as it was.
use mathlib.Core.Path.{◌≡◌, refl, sym, ap, ◌∙◌, subst}
use mathlib.Core.List.{List, [], ◌∷◌, map}
use Prim.Native.Nat.{ℕ, suc, ◌+◌, ◌*◌, ◌<◌, ◌≤◌}
use native.Mathlib.Omega.{arith}
use lib.ListN.{length, get_or, length-map}
use lib.Seq.{length-sets}
use Rattle.rules.specs.Syntax.{Bytes}
use Rattle.sheet.specs.Format.{number}
use Rattle.sheet.specs.Check.{Rec, Known, Variable, known, count, variable_names, Checked, accepted, refused, check}
use Rattle.sheet.specs.Table.{name_written, names_written, words, entries, mark, complete, filled, leaves}
use Rattle.sheet.specs.Decode.{main_body}
use Rattle.sheet.specs.Exact.{Passes}
use Rattle.sheet.specs.Filled.{Loaded}
use Rattle.sheet.proofs.Records.{count-known}
use Rattle.sheet.proofs.Tables.{get_or-sets_out, length-names, length-words, length-entries}
use Rattle.sheet.proofs.Sound.{Sound}
use Rattle.sheet.proofs.Explains.{accepted-parts}
use Rattle.sheet.proofs.Loading.{names-short}

-- PAST THE TABLES

names-after : (xs : List Bytes) (t : Bytes) (k j : ℕ) → ((i : ℕ) → i < length xs → length (get_or xs i []) ≤ 63) → 64 * (k + length xs) ≤ j
    → get_or (names_written t k xs) j 0 ≡ get_or t j 0
unfolding names_written
names-after [] t k j short h = refl
names-after (x ∷ xs) t k j short h =
    let z = short 0 (omega arith) in
    names-after xs (name_written t k x) (suc k) j (λ i l. short (suc i) (omega arith)) (omega arith)
    ∙ get_or-sets_out t (64 * k) (length x ∷ x) j (λ a b e. omega arith)

above : (s t : Bytes) (n j : ℕ) → Sound s n → Passes s n → n ≤ 512 → 4096 ≤ j → get_or (complete (known s n) t) j 0 ≡ get_or t j 0
unfolding filled
above s t n j h p few l =
    let K = known s n in
    let many : length (variable_names (known s n)) ≡ length (known s n).variables = length-map (known s n).variables (λ (v : Variable). v.name) in
    let v = h.variables in
    let f = h.functions.few in
    get_or-sets_out _ 3072 (words (main_body (known s n) ∷ 0 ∷ [])) j (λ a b e. omega (arith, length-words (main_body (known s n) ∷ 0 ∷ [])))
    ∙ get_or-sets_out _ 2048 (words (map (mark (known s n)) (known s n).records)) j (λ a b e. omega (arith, length-words (map (mark (known s n)) (known s n).records), length-map (known s n).records (mark (known s n)), count-known s n))
    ∙ get_or-sets_out _ 3076 (words (entries (known s n).functions)) j (λ a b e. omega (arith, length-words (entries (known s n).functions), length-entries (known s n).functions))
    ∙ get_or-sets_out _ 1024 (words (map (λ (c : Rec). c.at) (known s n).records)) j (λ a b e. omega (arith, length-words (map (λ (c : Rec). c.at) (known s n).records), length-map (known s n).records (λ (c : Rec). c.at), count-known s n))
    ∙ names-after (variable_names (known s n)) t 0 j (λ i m. names-short s n h p i (omega (arith, many))) (omega (arith, many))

filled-length : (K : Known) (ms : List ℕ) (t : Bytes) → length (filled K ms t) ≡ length t
unfolding filled
filled-length K ms t = simp (length-sets, length-names)

pub leaves-length : (s t : Bytes) (c : Checked) → length (leaves s c t) ≡ length t
unfolding leaves
leaves-length s t (accepted K) = simp (length-sets, filled-length)
leaves-length s t (refused n r) = simp filled-length

module _ (s t : Bytes) (K : Known) (e : check s ≡ accepted K) where
  pub leaves-above : (j : ℕ) → 4096 ≤ j → get_or (leaves s (check s) t) j 0 ≡ get_or t j 0
  unfolding leaves
  leaves-above j l =
      let a = accepted-parts s K e in
      rw e (subst (λ (x : Known). get_or (complete x t) j 0 ≡ get_or t j 0) (sym a.is) (above s t a.n j a.sound a.passes a.few l))

-- AFTER OTHER WRITES, the bytes from 3,328 on left out

number-kept : (w w' : Bytes) → ((i : ℕ) → i < 3328 → get_or w' i 0 ≡ get_or w i 0) → (i : ℕ) → i + 1 < 3328 → number w' i ≡ number w i
unfolding number
number-kept w w' h i l = λ k. h i (omega arith) k + 256 * h (i + 1) l k

pub loaded-below : {s : Bytes} {K : Known} {w w' : Bytes} → Loaded s K w → ((i : ℕ) → i < 3328 → get_or w' i 0 ≡ get_or w i 0) → Loaded s K w'
loaded-below {s} {K} {w} {w'} g h =
    let a = accepted-parts s K g.accepts in
    let few : count K ≤ 512 = let z = a.few in omega (arith, ap count a.is, count-known s a.n) in
    let fewer : length K.functions ≤ 32 = subst (λ (x : Known). length x.functions ≤ 32) (sym a.is) a.sound.functions.few in
    let slots : length K.variables ≤ 16 = subst (λ (x : Known). length x.variables ≤ 16) (sym a.is) a.sound.variables in
    let short : (i : ℕ) → i < length K.variables → length (get_or (variable_names K) i []) ≤ 63 =
    subst (λ (x : Known). (i : ℕ) → i < length x.variables → length (get_or (variable_names x) i []) ≤ 63) (sym a.is) (names-short s a.n a.sound a.passes) in
    record {
      accepts = g.accepts;
      filled = record {
        start = λ r l. number-kept w w' h (1024 + 2 * r) (omega arith) ∙ g.filled.start r l;
        mark = λ r l. number-kept w w' h (2048 + 2 * r) (omega arith) ∙ g.filled.mark r l;
        main = number-kept w w' h (3072 + 4 * 0) (omega arith) ∙ g.filled.main;
        body = λ f l. number-kept w w' h (3072 + 4 * suc f) (omega arith) ∙ g.filled.body f l;
        named = λ f l. number-kept w w' h (3072 + 4 * suc f + 2) (omega arith) ∙ g.filled.named f l;
        size = λ i l. h (64 * i) (omega arith) ∙ g.filled.size i l;
        bytes = λ i j l m. h (64 * i + 1 + j) (let z = short i l in omega arith) ∙ g.filled.bytes i j l m;
      };
    }
