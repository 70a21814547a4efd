-- The arguments taken into a work memory that has the tables: everything is ready for the run.
use mathlib.Core.Path.{◌≡◌, refl, sym, ap, ◌∙◌}
use mathlib.Core.Bool.{Bool, true, false, cond, ◌&&◌}
use mathlib.Core.List.{List, [], ◌∷◌, ◌++◌, map}
use Prim.Native.Nat.{ℕ, zero, suc, ◌+◌, ◌-◌, ◌<◌, ◌≤◌}
use native.Mathlib.Omega.{arith}
use lib.Dec.{ltb, eqb}
use lib.ListN.{length, get_or, replicate, length-map, length-append}
use borrow.Author.Tests.{ltb-true}
use Rattle.std.specs.Prelude.{Some, None}
use Rattle.rules.specs.Syntax.{Bytes}
use Rattle.sheet.specs.Arguments.{Arguments, Texts, arguments, texts, texts_from, next_text, is_text, text_at, given_of}
use Rattle.sheet.specs.Arguments as A
use Rattle.sheet.specs.Check.{check}
use Rattle.sheet.proofs.Loading.{check_loads}
use Rattle.sheet.proofs.Located.{few-variables}
use Rattle.memory.specs.Layout.{list_place}
use Rattle.memory.specs.declared.Given.{Given}
use Rattle.sheet.specs.Check.{known_of}
use Rattle.engine.specs.Start.{Takes, Taken}
use Rattle.runner.specs.Stages.{Sheeted, Prepared}
use Rattle.runner.proofs.Tables.{leaves-length, leaves-above, loaded-below}

-- THE ARGUMENT SHEET

texts-few : (s : Bytes) (left : ℕ) (t : Texts) → length (texts_from s left t).starts ≤ length t.starts + left
unfolding texts_from
texts-few s zero t = omega arith
texts-few s (suc left) t = go (texts-few s left (next_text s t)) (is_text s t.end)
  where
    go : length (texts_from s left (next_text s t)).starts ≤ length (t.starts ++ t.end ∷ []) + left
        → (b : Bool) → length (cond b (texts_from s left (next_text s t)) t).starts ≤ length t.starts + suc left
    go h true = omega (arith, length-append t.starts (t.end ∷ []))
    go h false = omega arith

pub few-texts : (s : Bytes) → length (texts s).starts ≤ 17
unfolding texts
few-texts s = texts-few s 17 (record { starts = []; end = 0 })

-- an accepted argument sheet of n texts
pub record Gives (s : Bytes) (n : ℕ) : Type 0 where
  pub list : List Bytes
  pub is : arguments s ≡ A.given list
  pub count : length list ≡ n
  pub starts : length (texts s).starts ≡ n
  pub some : 0 < n

pub gives : (s : Bytes) (n : ℕ) → Some n ≡ given_of (arguments s) → Gives s n
unfolding arguments
gives s n = go (ltb 0 (length (texts s).starts)) refl (eqb (texts s).end (length s)) refl
  where
    chosen : Bool → Bool → Arguments
    chosen a b = cond (a && b) (A.given (map (text_at s) (texts s).starts)) (A.refused 5 0)

    go : (a : Bool) → ltb 0 (length (texts s).starts) ≡ a → (b : Bool) → eqb (texts s).end (length s) ≡ b
        → Some n ≡ given_of (chosen a b) → Gives s n
    go true x true y e =
        let q : n ≡ length (map (text_at s) (texts s).starts) = cc in
        let m = length-map (texts s).starts (text_at s) in
        let z = ltb-true 0 (length (texts s).starts) x in
        record { list = map (text_at s) (texts s).starts; is = rw (x, y); count = sym q; starts = omega arith; some = omega arith }
    go true x false y e = absurd (let z : ◌≡◌ {A = ℕ} 0 1 = cc in omega arith)
    go false x b y e = absurd (let z : ◌≡◌ {A = ℕ} 0 1 = cc in omega arith)

pub refuses-arguments : (x : Arguments) → None ≡ given_of x → (n : ℕ) × (p : ℕ) × (x ≡ A.refused n p)
refuses-arguments (A.given as') e = absurd (let z : ◌≡◌ {A = ℕ} 0 1 = cc in omega arith)
refuses-arguments (A.refused m q) e = (m, q, refl)

-- WORK MEMORY

zero-at : (n j : ℕ) → ◌≡◌ {A = ℕ} (get_or (replicate n 0) j 0) 0
zero-at zero j = refl
zero-at (suc n) zero = refl
zero-at (suc n) (suc j) = zero-at n j

module _ {s i r w : Bytes} {g : Given} {f : ℕ} (h : Sheeted s i r w g f) where
  pub sheeted_size : length w ≡ 65536
  sheeted_size = ap length h.tables ∙ leaves-length s h.before (check s) ∙ h.cleared.size

  zeros-above : (j : ℕ) → 4096 ≤ j → get_or w j 0 ≡ 0
  zeros-above j l =
      ap (λ (x : Bytes). get_or x j 0) h.tables ∙ leaves-above s h.before (known_of s) h.accepts j l
      ∙ ap (λ (x : Bytes). get_or x j 0) h.cleared.zeros ∙ zero-at (length h.before) j

  module _ {a : Bytes} {n : ℕ} (q : Gives a n) where
    pub takes : Takes a w 64 n
    takes = record {
      texts = q.list;
      accepted = q.is;
      count = q.count;
      unit = omega arith;
      small = omega arith;
      room = omega (arith, sheeted_size);
    }

    module _ {w₂ : Bytes} (d : Taken a 64 w w₂) where
      high : (j : ℕ) → 4096 ≤ j → j < list_place 64 0 → get_or w₂ j 0 ≡ 0
      high j l m = d.between.same j l m ∙ zeros-above j l

      size-after : length w₂ ≡ 65536
      size-after = d.size ∙ sheeted_size

      pub prepared : Prepared s i r w₂ g (n - 1) f
      prepared =
          let l = loaded-below (check_loads s h.before w (known_of s) h.accepts (omega (arith, h.cleared.size)) h.tables) (λ j l. d.tables.same j (omega arith) l) in
          let v = few-variables l in
          let few = few-texts a in
          record {
            room = h.cleared.room;
            size = size-after;
            started = record {
              loaded = l;
              roomy = record { unit = omega (arith, h.unit); small = omega (arith, h.unit); slots = omega (arith, h.slots); room = omega (arith, h.unit, size-after) };
              wide = omega (arith, h.unit);
              slots = h.slots;
              few = omega (arith, q.starts);
              input = h.input;
              loops = omega (arith, h.loops);
              stack = omega (arith, h.stack);
              budget = omega (arith, h.budget);
              counters = record { same = λ j x y. high j x (omega arith) };
              variables = record { same = λ j x y. high j (omega (arith, h.unit)) (omega (arith, h.unit)) };
            };
            functions = h.functions;
            unit = h.unit;
            budget = h.budget;
          }
