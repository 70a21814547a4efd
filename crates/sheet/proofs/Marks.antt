-- The second pass: marking the calls; and what is known of an accepted sheet.
use mathlib.Core.Path.{◌≡◌, refl, sym, ap, ◌∙◌, subst}
use mathlib.Core.Bool.{Bool, true, false, cond}
use mathlib.Core.List.{List, [], ◌∷◌, map}
use Prim.Native.Nat.{ℕ, zero, suc, ◌+◌, ◌*◌, ◌/◌, ◌%◌, ◌<◌, ◌≤◌}
use native.Mathlib.Nat.{add-zero}
use native.Mathlib.Numerals.{add-one}
use native.Mathlib.Omega.{arith}
use lib.Dec.{eqb, ltb}
use lib.ListN.{length, get_or, set, length-map}
use lib.Seq.{set_comm, set-set}
use borrow.Author.Tests.{eq-eqb, ne_eqb, ltb-false}
use Rattle.std.specs.Prelude.{Some, None}
use Rattle.rules.specs.Syntax.{Bytes}
use Rattle.sheet.specs.Format.{number, place}
use Rattle.sheet.specs.Table.{words, written, filled, partly, mark, function_number}
use Rattle.sheet.specs.Check.{Rec, Known, Judgement, fine, faulty, full, accepted, refused, known, next, start, no_rec, count, record_of, kind_of, payload_of, function_names, ends_in_main, judge, walk, onward}
use Rattle.sheet.specs.Ready.{Resolving, resolved, Marked, found}
use Rattle.sheet.proofs.Records.{count-known}
use Rattle.sheet.proofs.Tables.{written-append, written-above, number-before, number-after, length-written}
use Rattle.sheet.proofs.Sound.{Sound, sound_start, sound_next}

-- ONE NUMBER WRITTEN AGAIN

again : (t : Bytes) (i x y : ℕ) → written (written t i (x ∷ [])) i (y ∷ []) ≡ written t i (y ∷ [])
unfolding words
again t i x y =
    ap (λ (l : Bytes). set l (suc i) (y / 256))
    (set_comm (set t i (x % 256)) (suc i) i (x / 256) (y % 256) (λ e. omega arith) ∙ ap (λ (l : Bytes). set l (suc i) (x / 256)) (set-set t i (x % 256) (y % 256)))
    ∙ set-set (set t i (y % 256)) (suc i) (x / 256) (y / 256)

pub written-set : (xs : List ℕ) (t : Bytes) (i k x : ℕ) → k < length xs → written (written t i xs) (i + 2 * k) (x ∷ []) ≡ written t i (set xs k x)
written-set [] t i k x h = absurd (omega arith)
written-set (y ∷ ys) t i zero x h =
    ap (λ (j : ℕ). written (written t i (y ∷ ys)) j (x ∷ [])) (add-zero i)
    ∙ ap (λ (b : Bytes). written b i (x ∷ [])) (written-append t i (y ∷ []) ys)
    ∙ written-above (written t i (y ∷ [])) (i + 2) ys i (x ∷ []) (omega arith)
    ∙ ap (λ (b : Bytes). written b (i + 2) ys) (again t i y x)
    ∙ sym (written-append t i (x ∷ []) ys)
written-set (y ∷ ys) t i (suc k) x h =
    let e : i + 2 * suc k ≡ i + 2 + 2 * k = omega arith in
    ap (λ (j : ℕ). written (written t i (y ∷ ys)) j (x ∷ [])) e
    ∙ ap (λ (b : Bytes). written b (i + 2 + 2 * k) (x ∷ [])) (written-append t i (y ∷ []) ys)
    ∙ written-set ys (written t i (y ∷ [])) (i + 2) k x (omega arith)
    ∙ sym (written-append t i (y ∷ []) (set ys k x))

-- THE MARKS SO FAR: those of the first r records are final

unfoldable pub half : Known → (r : ℕ) → List Rec → List ℕ
half K zero cs = map (λ (c : Rec). c.slot) cs
half K (suc r) [] = []
half K (suc r) (c ∷ cs) = mark K c ∷ half K r cs

pub length_half : (K : Known) (r : ℕ) (cs : List Rec) → length (half K r cs) ≡ length cs
unfolding half
length_half K zero cs = length-map cs (λ (c : Rec). c.slot)
length_half K (suc r) [] = refl
length_half K (suc r) (c ∷ cs) = ap suc (length_half K r cs)

half_all : (K : Known) (r : ℕ) (cs : List Rec) → length cs ≤ r → half K r cs ≡ map (mark K) cs
unfolding half
half_all K zero [] h = refl
half_all K zero (c ∷ cs) h = absurd (omega arith)
half_all K (suc r) [] h = refl
half_all K (suc r) (c ∷ cs) h = ap (λ (l : List ℕ). mark K c ∷ l) (half_all K r cs (omega arith))

half_set : (K : Known) (r : ℕ) (cs : List Rec) → r < length cs → set (half K r cs) r (mark K (get_or cs r no_rec)) ≡ half K (suc r) cs
unfolding half
half_set K zero [] h = absurd (omega arith)
half_set K zero (c ∷ cs) h = refl
half_set K (suc r) [] h = absurd (omega arith)
half_set K (suc r) (c ∷ cs) h = ap (λ (l : List ℕ). mark K c ∷ l) (half_set K r cs (omega arith))

half_same : (K : Known) (r : ℕ) (cs : List Rec) → r < length cs → mark K (get_or cs r no_rec) ≡ (get_or cs r no_rec).slot → half K r cs ≡ half K (suc r) cs
unfolding half
half_same K zero [] h e = absurd (omega arith)
half_same K zero (c ∷ cs) h e = ap (λ (x : ℕ). x ∷ map (λ (c : Rec). c.slot) cs) (sym e)
half_same K (suc r) [] h e = absurd (omega arith)
half_same K (suc r) (c ∷ cs) h e = ap (λ (l : List ℕ). mark K c ∷ l) (half_same K r cs (omega arith) e)

pub mark-call : (K : Known) (c : Rec) → c.kind ≡ 25 → mark K c ≡ function_number K (payload_of K (number c.payload 0))
unfolding mark
mark-call K c e = rw (eq-eqb c.kind 25 e)

pub mark-other : (K : Known) (c : Rec) → (c.kind ≡ 25 → ⊥) → mark K c ≡ c.slot
unfolding mark
mark-other K c e = rw (ne_eqb c.kind 25 e)

-- a mark of the table set
marked : (K : Known) (ms : List ℕ) (t : Bytes) (r x : ℕ) → r < length ms → written (filled K ms t) (2048 + 2 * r) (x ∷ []) ≡ filled K (set ms r x) t
unfolding filled
marked K ms t r x h = written-set ms _ 2048 r x h

pub resolved_half : (K : Known) (t : Bytes) (r : ℕ) → r < count K → resolved K r (filled K (half K r K.records) t) ≡ filled K (half K (suc r) K.records) t
resolved_half K t r h = go (eqb (kind_of K r) 25) refl
  where
    go : (b : Bool) → eqb (kind_of K r) 25 ≡ b
        → cond b (written (filled K (half K r K.records) t) (2048 + 2 * r) (mark K (record_of K r) ∷ [])) (filled K (half K r K.records) t) ≡ filled K (half K (suc r) K.records) t
    go true e =
        marked K (half K r K.records) t r (mark K (record_of K r)) (omega (arith, length_half K r K.records))
        ∙ ap (λ (ms : List ℕ). filled K ms t) (half_set K r K.records h)
    go false e =
        ap (λ (ms : List ℕ). filled K ms t)
        (half_same K r K.records h (mark-other K (record_of K r) (λ q. borrow.Author.Tests.eqb-false (kind_of K r) 25 e q)))

-- setting a mark keeps what the table says of records and functions
pub resolving_put : (s t : Bytes) (n f r x : ℕ) → Resolving s t n f → r < n → Resolving s (written t (2048 + 2 * r) (x ∷ [])) n f
resolving_put s t n f r x h l = record {
  held = record {
    small = h.held.small;
    room = let a = h.held.room in omega (arith, length-written t (2048 + 2 * r) (x ∷ []));
    few = h.held.few;
    lies = h.held.lies;
    offset = λ k m. number-before t (2048 + 2 * r) (x ∷ []) (1024 + 2 * k) (let a = h.held.few in omega arith) ∙ h.held.offset k m;
  };
  listed = record {
    few = h.listed.few;
    named = λ k m. number-after t (2048 + 2 * r) (x ∷ []) (3072 + 4 * k + 6) (let a = h.held.few in omega arith) ∙ h.listed.named k m;
    earlier = h.listed.earlier;
    name = h.listed.name;
  };
  functions_is = h.functions_is;
  named = h.named;
}

pub resolving_next : (s t : Bytes) (n f r : ℕ) → Resolving s t n f → r < n → Resolving s (resolved (known s n) r t) n f
resolving_next s t n f r h l = go (eqb (kind_of (known s n) r) 25)
  where
    go : (b : Bool) → Resolving s (cond b (written t (2048 + 2 * r) (mark (known s n) (record_of (known s n) r) ∷ [])) t) n f
    go true = resolving_put s t n f r _ h l
    go false = h

resolved-long : (K : Known) (r : ℕ) (t : Bytes) → length (resolved K r t) ≡ length t
resolved-long K r t = go (eqb (kind_of K r) 25)
  where
    go : (b : Bool) → length (cond b (written t (2048 + 2 * r) (mark K (record_of K r) ∷ [])) t) ≡ length t
    go true = length-written t (2048 + 2 * r) (mark K (record_of K r) ∷ [])
    go false = refl

-- THE LOOP OVER THE CALLS

pub record Calling (s t₀ t : Bytes) (n f r : ℕ) : Type 0 where
  pub most : r ≤ n
  pub resolving : Resolving s t n f
  pub long : length t ≡ length t₀
  pub half : (u : Bytes) → t₀ ≡ partly (known s n) u → t ≡ filled (known s n) (Rattle.sheet.proofs.Marks.half (known s n) r (known s n).records) u

pub calling-start : (s t : Bytes) (n f : ℕ) → Resolving s t n f → Calling s t t n f 0
unfolding half
calling-start s t n f h = record { most = omega arith; resolving = h; long = refl; half = λ u e. e }

pub calling-next : (s t₀ t t' : Bytes) (n f r : ℕ) → Calling s t₀ t n f r → r < n → t' ≡ resolved (known s n) r t → Calling s t₀ t' n f (r + 1)
calling-next s t₀ t t' n f r h l e = record {
  most = omega arith;
  resolving = subst (λ (b : Bytes). Resolving s b n f) (sym e) (resolving_next s t n f r h.resolving l);
  long = ap length e ∙ resolved-long (known s n) r t ∙ h.long;
  half = λ u q.
      e ∙ ap (resolved (known s n) r) (h.half u q) ∙ resolved_half (known s n) u r (omega (arith, count-known s n))
      ∙ ap (λ (k : ℕ). filled (known s n) (Rattle.sheet.proofs.Marks.half (known s n) k (known s n).records) u) (sym (add-one r));
}

pub calling-end : (s t₀ t : Bytes) (n f r : ℕ) → Calling s t₀ t n f r → n ≤ r → Marked (known s n) t₀ t
calling-end s t₀ t n f r h l = λ u q. h.half u q ∙ ap (λ (ms : List ℕ). filled (known s n) ms u) (half_all (known s n) r (known s n).records (omega (arith, count-known s n)))

pub resolved-call : (K : Known) (t : Bytes) (r x i c : ℕ) → kind_of K r ≡ 25 → c ≡ length K.functions → x ≡ cond (ltb i c) (suc i) 0 → i ≡ place (payload_of K (number (payload_of K r) 0)) (function_names K)
    → written t (2048 + 2 * r) (x ∷ []) ≡ resolved K r t
resolved-call K t r x i c k ec ex ei =
    let m : x ≡ mark K (record_of K r) = ex ∙ ap (λ (j : ℕ). cond (ltb j c) (suc j) 0) ei ∙ ap (λ (d : ℕ). cond (ltb (place (payload_of K (number (payload_of K r) 0)) (function_names K)) d) (suc (place (payload_of K (number (payload_of K r) 0)) (function_names K))) 0) ec ∙ sym (mark-call K (record_of K r) k) in
    ap (λ (y : ℕ). written t (2048 + 2 * r) (y ∷ [])) m ∙ sym (rw (eq-eqb (kind_of K r) 25 k))

-- the number of the function at the place i of n, as the code has it
pub found-some : (i n j : ℕ) → Some j ≡ found i n → j + 1 ≡ cond (ltb i n) (suc i) 0
found-some i n j e = go (ltb i n) e
  where
    go : (b : Bool) → Some j ≡ cond b (Some i) None → j + 1 ≡ cond b (suc i) 0
    go true q = let z : j ≡ i = cc in omega arith
    go false q = let z : ◌≡◌ {A = ℕ} 0 1 = cc in absurd (omega arith)

pub found-none : (i n : ℕ) → None ≡ found i n → 0 ≡ cond (ltb i n) (suc i) 0
found-none i n e = go (ltb i n) e
  where
    go : (b : Bool) → None ≡ cond b (Some i) None → 0 ≡ cond b (suc i) 0
    go true q = let z : ◌≡◌ {A = ℕ} 0 1 = cc in absurd (omega arith)
    go false q = refl

-- AN ACCEPTED SHEET

-- what is known of it: all its records are sound, the last is main, and no byte is left
pub record Whole (s : Bytes) (K : Known) : Type 0 where
  pub n : ℕ
  pub is : K ≡ known s n
  pub sound : Sound s n
  pub few : n ≤ 512
  pub main : ends_in_main K ≡ true
  pub end : length s ≤ K.end

never : {A : Type 0} {K : Known} {k r : ℕ} → refused k r ≡ accepted K → A
never e = let z : ◌≡◌ {A = ℕ} 0 1 = cc in absurd (omega arith)

same_known : {K K' : Known} → accepted K ≡ accepted K' → K ≡ K'
same_known e = cc

walk-whole : (s : Bytes) (left n : ℕ) (K : Known) → n + left ≡ 512 → Sound s n → walk s left (known s n) ≡ accepted K → Whole s K
unfolding walk known
walk-whole s zero n K e h w = go (ltb (known s n).end (length s)) refl (ends_in_main (known s n)) refl w
  where
    go : (b : Bool) → ltb (known s n).end (length s) ≡ b → (m : Bool) → ends_in_main (known s n) ≡ m
        → cond b (refused 3 (count (known s n))) (cond m (accepted (known s n)) (refused 4 (count (known s n)))) ≡ accepted K → Whole s K
    go true x m y q = never q
    go false x false y q = never q
    go false x true y q = subst (Whole s) (same_known q) (record { n = n; is = refl; sound = h; few = omega arith; main = y; end = ltb-false _ _ x })
walk-whole s (suc left) n K e h w = go (λ g. walk-whole s left (suc n) K (omega arith) (sound_next s n h g)) (ltb (known s n).end (length s)) refl (ends_in_main (known s n)) refl (judge s (known s n)) refl w
  where
    go : (judge s (known s n) ≡ fine → walk s left (next s (known s n)) ≡ accepted K → Whole s K) → (b : Bool) → ltb (known s n).end (length s) ≡ b → (m : Bool) → ends_in_main (known s n) ≡ m → (v : Judgement) → judge s (known s n) ≡ v
        → cond b (cond m (refused 4 (count (known s n))) (onward (count (known s n)) v (next s (known s n)) (walk s left)))
        (cond m (accepted (known s n)) (refused 4 (count (known s n)))) ≡ accepted K → Whole s K
    go r true x true y v z q = never q
    go r true x false y fine z q = r z q
    go r true x false y faulty z q = never q
    go r true x false y full z q = never q
    go r false x false y v z q = never q
    go r false x true y v z q = subst (Whole s) (same_known q) (record { n = n; is = refl; sound = h; few = omega arith; main = y; end = ltb-false _ _ x })

pub whole : (s : Bytes) (K : Known) → walk s 512 start ≡ accepted K → Whole s K
unfolding known
whole s K e = walk-whole s 512 0 K refl (sound_start s) e
