-- Cells: how the numbers of calls and of steps grow, one stretch of a run after another, and over a call that the cell counts.
use Prim.Native.Nat.{ℕ, zero, suc, ◌≤◌, ◌+◌}
use native.Mathlib.Omega.{arith}
use native.Mathlib.Nat.{mod-eq_of_lt}
use mathlib.Core.Path.{◌≡◌, refl, sym, ap, ◌∙◌}
use mathlib.Core.Bool.{Bool, true, false}
use mathlib.Core.List.{List}
use lib.ListN.{get_or}
use lib.Dec.{eqb}
use borrow.Author.Tests.{eqb-true}
use Rattle.memory.specs.Layout.{Same, Only, number_at}
use Rattle.memory.specs.Profile.{Counted, CellBegun, CellClosed, Grown, sum_if_shut, CellGrown}
use Rattle.memory.proofs.Parts.{only_refl, only_wider}
use Rattle.memory.proofs.Texts.{like_same, number_like}
use Rattle.memory.proofs.Counters.{number_under}

-- NUMBERS

pub counted-grown : {a by : ℕ} {w w' : List ℕ} → Counted a by w w' → Grown a by w w'
counted-grown p = record { grown = λ h. p.number ∙ mod-eq_of_lt h }

pub grown-same : {a : ℕ} {w w' : List ℕ} → number_at w' a ≡ number_at w a → Grown a 0 w w'
grown-same e = record { grown = λ h. omega arith }

pub grown_then : {a m n : ℕ} {u v w : List ℕ} → Grown a m u v → Grown a n v w → Grown a (m + n) u w
grown_then {a} {m} {n} {u} {v} {w} p q =
    record { grown = λ h. let e : number_at v a ≡ number_at u a + m = p.grown (omega arith) in q.grown (omega arith) ∙ omega arith }

pub grown-by : {a m : ℕ} {u v : List ℕ} (n : ℕ) → m ≡ n → Grown a m u v → Grown a n u v
grown-by {a} {m} {u} {v} n e p = rw e at p

-- grown by n between two moments that leave it as it was
pub grown_around : {a n : ℕ} {t u v w : List ℕ} → number_at u a ≡ number_at t a → Grown a n u v → number_at w a ≡ number_at v a → Grown a n t w
grown_around {a} {n} {t} {u} {v} {w} p q r = record { grown = λ h. r ∙ q.grown (rw p h) ∙ ap (λ k. k + n) p }

sum_if_shut_add : (k m n : ℕ) → sum_if_shut k (m + n) ≡ sum_if_shut k m + sum_if_shut k n
sum_if_shut_add zero m n = refl
sum_if_shut_add (suc k) m n = refl

sum_if_shut-none : (k : ℕ) → sum_if_shut k 0 ≡ 0
sum_if_shut-none zero = refl
sum_if_shut-none (suc k) = refl

sum_if_shut_open : (k n : ℕ) → eqb k 0 ≡ false → sum_if_shut k n ≡ 0
sum_if_shut_open zero n e = let z : ◌≡◌ {A = ℕ} 0 1 = cc in absurd (omega arith)
sum_if_shut_open (suc k) n e = refl

-- WHAT A CELL HOLDS

-- as before
pub record CellKept (c l : ℕ) (w w' : List ℕ) : Type 0 where
  pub number : number_at w' c ≡ number_at w c
  pub steps : number_at w' (c + l) ≡ number_at w (c + l)
  pub flag : get_or w' (c + l + 4) 0 ≡ get_or w (c + l + 4) 0

module _ {c l : ℕ} where
  pub cell_same : {w w' : List ℕ} → Same c (c + l + 5) w w' → CellKept c l w w'
  cell_same p = record {
    number = number_like (like_same c 4 p (omega arith) (omega arith));
    steps = number_like (like_same (c + l) 4 p (omega arith) (omega arith));
    flag = p.same (c + l + 4) (omega arith) (omega arith);
  }

  pub kept_trans : {u v w : List ℕ} → CellKept c l u v → CellKept c l v w → CellKept c l u w
  kept_trans p q = record { number = q.number ∙ p.number; steps = q.steps ∙ p.steps; flag = q.flag ∙ p.flag }

  pub cell_none : {w w' : List ℕ} → CellKept c l w w' → CellGrown c l 0 0 w w'
  cell_none {w} {w'} p = record {
    number = grown-same p.number;
    steps = grown-by _ (sym (sum_if_shut-none (get_or w (c + l + 4) 0))) (grown-same p.steps);
    flag = p.flag;
  }

  pub cell_then : {j k m n : ℕ} {u v w : List ℕ} → CellGrown c l j m u v → CellGrown c l k n v w → CellGrown c l (j + k) (m + n) u w
  cell_then {j} {k} {m} {n} {u} {v} {w} p q = record {
    number = grown_then p.number q.number;
    steps = grown-by _ (sym (sum_if_shut_add (get_or u (c + l + 4) 0) m n)) (grown_then p.steps (rw p.flag at q.steps));
    flag = q.flag ∙ p.flag;
  }

  -- between two moments that leave the cell as it was
  pub cell_around : {k n : ℕ} {t u v w : List ℕ} → CellKept c l t u → CellGrown c l k n u v → CellKept c l v w → CellGrown c l k n t w
  cell_around {k} {n} {t} {u} {v} {w} p q r = record {
    number = grown_around p.number q.number r.number;
    steps = grown_around p.steps (rw p.flag at q.steps) r.steps;
    flag = r.flag ∙ q.flag ∙ p.flag;
  }

  pub cell_by : {j k m n : ℕ} {w w' : List ℕ} → j ≡ k → m ≡ n → CellGrown c l j m w w' → CellGrown c l k n w w'
  cell_by {j} {k} {m} {n} {w} {w'} d e p = rw (d, e) at p

-- A CALL

same-steps : {c l : ℕ} {w v : List ℕ} {r : Bool} → CellBegun c l w v r → 4 ≤ l → number_at v (c + l) ≡ number_at w (c + l)
same-steps {c} {l} b h = number_like (like_same (c + l) 4 b.between (omega arith) (omega arith))

once : {c l : ℕ} {w v : List ℕ} {r : Bool} → CellBegun c l w v r → Grown c 1 w v
once b = record { grown = λ z. b.number ∙ mod-eq_of_lt z }

-- one that the cell counts: its length counts if it is an outermost one, and then none inside it does
module _ {c l : ℕ} (room : 4 ≤ l) {k n s : ℕ} {w v x : List ℕ} (y : List ℕ) where
  pub cell_call : (r : Bool) → CellBegun c l w v r → CellGrown c l k n v x → CellClosed c l r s x y → CellGrown c l (1 + k) s w y
  cell_call true b q e =
      let z : get_or w (c + l + 4) 0 ≡ 0 = eqb-true _ _ (sym b.first) in
      let more : Grown (c + l) s x y = record { grown = λ h. e.steps ∙ mod-eq_of_lt h } in
      record {
        number = grown_then (once b) (grown_around refl q.number (number_under c e.only (omega arith)));
        steps = rw z (grown-by _ (omega arith) (grown_then (grown_around (same-steps b room) (rw b.flag at q.steps) refl) more));
        flag = e.flag ∙ sym z;
      }
  cell_call false b q e =
      let none = sum_if_shut_open (get_or w (c + l + 4) 0) in
      record {
        number = rw e (grown_then (once b) q.number);
        steps = rw (none s (sym b.first), e) (grown-by _ (none n (sym b.first)) (grown_around (same-steps b room) (rw b.flag at q.steps) refl));
        flag = rw e (q.flag ∙ b.flag);
      }

-- the bounds of what it changes
pub closed_bounds : (c l : ℕ) (r : Bool) (k : ℕ) {w w' : List ℕ} → CellClosed c l r k w w' → Only c (c + l + 5) w w'
closed_bounds c l true k p = only_wider _ _ (omega arith) (omega arith) p.only
closed_bounds c l false k {w} {w'} p = rw p (only_refl _ _ w)
