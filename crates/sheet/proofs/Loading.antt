-- What a check leaves is filled, and stays so while the first 4,096 bytes stay.
use mathlib.Core.Path.{◌≡◌, refl, sym, ap, ◌∙◌, subst}
use mathlib.Core.List.{List, [], ◌∷◌, map}
use Prim.Native.Nat.{ℕ, zero, suc, ◌+◌, ◌*◌, ◌<◌, ◌≤◌}
use native.Mathlib.Omega.{arith}
use lib.ListN.{length, get_or, length-map, get_or-map}
use lib.Seq.{length-sets}
use Rattle.rules.specs.Syntax.{Bytes}
use Rattle.sheet.specs.Format.{number}
use Rattle.sheet.specs.Check.{Known, Variable, no_variable, known, count, variable_names, accepted, check}
use Rattle.sheet.specs.Table.{name_written, names_written, words, mark, complete, leaves}
use Rattle.sheet.specs.Decode.{main_body}
use Rattle.sheet.specs.Exact.{Passes}
use Rattle.sheet.specs.Filled.{Filled, Loaded}
use Rattle.sheet.proofs.Records.{count-known}
use Rattle.sheet.proofs.Tables.{stack, get_or-sets_in, get_or-sets_out}
use Rattle.sheet.proofs.Sound.{Sound, sound_short}
use Rattle.sheet.proofs.Going.{filled-stack, names_of}
use Rattle.sheet.proofs.Explains.{accepted-parts}
use Rattle.sheet.proofs.Entries.{entry_offset, entry_mark, entry_body, entry_function, entry_main}
use Rattle.sheet.proofs.NameLaws.{variables-named}

-- THE NAMES OF THE SLOTS

-- the rows before the first are as they were
names-before : (xs : List Bytes) (t : Bytes) (k j : ℕ) → j < 64 * k → get_or (names_written t k xs) j 0 ≡ get_or t j 0
unfolding names_written
names-before [] t k j h = refl
names-before (x ∷ xs) t k j h =
    names-before xs (name_written t k x) (suc k) j (omega arith)
    ∙ get_or-sets_out t (64 * k) (length x ∷ x) j (λ a b e. omega arith)

names-read : (xs : List Bytes) (t : Bytes) (k i d : ℕ) → ((j : ℕ) → j < length xs → length (get_or xs j []) ≤ 63) → i < length xs → d < suc (length (get_or xs i []))
    → 64 * (k + length xs) ≤ length t → get_or (names_written t k xs) (64 * (k + i) + d) 0 ≡ get_or (length (get_or xs i []) ∷ get_or xs i []) d 0
unfolding names_written
names-read [] t k i d short l m r = absurd (omega arith)
names-read (x ∷ xs) t k zero d short l m r =
    let e : 64 * (k + 0) + d ≡ 64 * k + d = omega arith in
    let z = short 0 (omega arith) in
    ap (λ (j : ℕ). get_or (names_written (name_written t k x) (suc k) xs) j 0) e
    ∙ names-before xs (name_written t k x) (suc k) (64 * k + d) (omega arith)
    ∙ get_or-sets_in t (64 * k) (length x ∷ x) d m (omega arith)
names-read (x ∷ xs) t k (suc i) d short l m r =
    let e : 64 * (k + suc i) + d ≡ 64 * (suc k + i) + d = omega arith in
    ap (λ (j : ℕ). get_or (names_written (name_written t k x) (suc k) xs) j 0) e
    ∙ names-read xs (name_written t k x) (suc k) i d (λ j q. short (suc j) (omega arith)) (omega arith) m
    (let z = length-sets t (64 * k) (length x ∷ x) in omega arith)

-- the bytes of the names lie below every number of the table
module _ (t : Bytes) (os : List ℕ) (ns : List Bytes) (es ms : List ℕ) where
  stack-names : (j : ℕ) → j < 1024 → get_or (stack t os ns es ms) j 0 ≡ get_or (names_written t 0 ns) j 0
  unfolding stack
  stack-names j l =
      get_or-sets_out _ 2048 (words ms) j (λ a b e. omega arith) ∙ get_or-sets_out _ 3076 (words es) j (λ a b e. omega arith)
      ∙ get_or-sets_out _ 1024 (words os) j (λ a b e. omega arith)

-- a name is a text, of at most 63 bytes
pub names-short : (s : Bytes) (n : ℕ) → Sound s n → Passes s n → (i : ℕ) → i < length (known s n).variables → length (get_or (variable_names (known s n)) i []) ≤ 63
names-short s n h p i l =
    let x = variables-named s n p i l in
    let e : get_or (variable_names (known s n)) i [] ≡ (get_or (known s n).variables i no_variable).name = get_or-map (λ (v : Variable). v.name) (known s n).variables i no_variable in
    subst (λ (b : Bytes). length b ≤ 63) (x.is ∙ sym e)
    (sound_short s n h _ (let y = x.earlier in omega (arith, count-known s n)) x.kind)

-- WHAT THE CHECK LEAVES

module _ (s t : Bytes) (n : ℕ) (h : Sound s n) (few : n ≤ 512) (room : 4096 ≤ length t) (p : Passes s n) where
  names-many : length (names_of (known s n)) ≡ length (known s n).variables
  names-many = length-map (known s n).variables (λ (v : Variable). v.name)

  short : (i : ℕ) → i < length (names_of (known s n)) → length (get_or (names_of (known s n)) i []) ≤ 63
  short i l = names-short s n h p i (omega (arith, names-many))

  names-kept : (j : ℕ) → j < 1024 → get_or (complete (known s n) t) j 0 ≡ get_or (names_written t 0 (names_of (known s n))) j 0
  names-kept j l =
      get_or-sets_out _ 3072 (words (main_body (known s n) ∷ 0 ∷ [])) j (λ a b e. omega arith)
      ∙ ap (λ (b : Bytes). get_or b j 0) (filled-stack (known s n) (map (mark (known s n)) (known s n).records) t)
      ∙ stack-names t _ _ _ _ j l

  name-row : (i d : ℕ) → i < length (known s n).variables → d < suc (length (get_or (names_of (known s n)) i []))
      → get_or (complete (known s n) t) (64 * i + d) 0 ≡ get_or (length (get_or (names_of (known s n)) i []) ∷ get_or (names_of (known s n)) i []) d 0
  name-row i d l m =
      let z = short i (omega (arith, names-many)) in
      let v = h.variables in
      let e : 64 * i + d ≡ 64 * (0 + i) + d = omega arith in
      names-kept (64 * i + d) (omega arith)
      ∙ ap (λ (j : ℕ). get_or (names_written t 0 (names_of (known s n))) j 0) e
      ∙ names-read (names_of (known s n)) t 0 i d short (omega (arith, names-many)) m (omega (arith, names-many))

  loaded : Filled (known s n) (complete (known s n) t)
  loaded = record {
    start = λ r l. entry_offset s t n h few room r (omega (arith, count-known s n));
    mark = λ r l. entry_mark s t n h few room r (omega (arith, count-known s n));
    main = entry_main s t n h few room;
    body = λ f l. entry_body s t n h few room f l;
    named = λ f l. entry_function s t n h few room f l;
    size = λ i l.
        let e : 64 * i ≡ 64 * i + 0 = omega arith in
        ap (λ (j : ℕ). get_or (complete (known s n) t) j 0) e ∙ name-row i 0 l (omega arith);
    bytes = λ i j l m.
        let e : 64 * i + 1 + j ≡ 64 * i + suc j = omega arith in
        ap (λ (k : ℕ). get_or (complete (known s n) t) k 0) e ∙ name-row i (suc j) l (omega arith);
  }

pub check_loads : (s t w : Bytes) (K : Known) → check s ≡ accepted K → 4096 ≤ length t → w ≡ leaves s (check s) t → Loaded s K w
unfolding leaves
check_loads s t w K e room q =
    let a = accepted-parts s K e in
    record {
      accepts = e;
      filled = subst (λ (b : Bytes). Filled K b) (sym (q ∙ (rw e)))
          (subst (λ (x : Known). Filled x (complete x t)) (sym a.is)
          (loaded s t a.n a.sound a.few room a.passes));
    }

-- AFTER OTHER WRITES

number-kept : (w w' : Bytes) → ((i : ℕ) → i < 4096 → get_or w' i 0 ≡ get_or w i 0) → (i : ℕ) → i + 1 < 4096 → number w' i ≡ number w i
unfolding number
number-kept w w' h i l = λ k. h i (omega arith) k + 256 * h (i + 1) l k

pub loaded-kept : {s : Bytes} {K : Known} {w w' : Bytes} → Loaded s K w → ((i : ℕ) → i < 4096 → get_or w' i 0 ≡ get_or w i 0) → Loaded s K w'
loaded-kept {s} {K} {w} {w'} g h =
    let a = accepted-parts s K g.accepts in
    let few : count K ≤ 512 = let z = a.few in omega (arith, ap count a.is, count-known s a.n) in
    let fewer : length K.functions ≤ 32 = subst (λ (x : Known). length x.functions ≤ 32) (sym a.is) a.sound.functions.few in
    let slots : length K.variables ≤ 16 = subst (λ (x : Known). length x.variables ≤ 16) (sym a.is) a.sound.variables in
    let short : (i : ℕ) → i < length K.variables → length (get_or (variable_names K) i []) ≤ 63 =
    subst (λ (x : Known). (i : ℕ) → i < length x.variables → length (get_or (variable_names x) i []) ≤ 63) (sym a.is) (names-short s a.n a.sound a.passes) in
    record {
      accepts = g.accepts;
      filled = record {
        start = λ r l. number-kept w w' h (1024 + 2 * r) (omega arith) ∙ g.filled.start r l;
        mark = λ r l. number-kept w w' h (2048 + 2 * r) (omega arith) ∙ g.filled.mark r l;
        main = number-kept w w' h (3072 + 4 * 0) (omega arith) ∙ g.filled.main;
        body = λ f l. number-kept w w' h (3072 + 4 * suc f) (omega arith) ∙ g.filled.body f l;
        named = λ f l. number-kept w w' h (3072 + 4 * suc f + 2) (omega arith) ∙ g.filled.named f l;
        size = λ i l. h (64 * i) (omega arith) ∙ g.filled.size i l;
        bytes = λ i j l m. h (64 * i + 1 + j) (let z = short i l in omega arith) ∙ g.filled.bytes i j l m;
      };
    }
