-- The edges into a function that is in no cycle with another add up to its inclusive count: at every step where it is open, one call of it
-- was opened by another function.
-- Assumes nothing.
use mathlib.Core.Path.{◌≡◌, refl, sym, ◌∙◌, ap, subst}
use mathlib.Core.Bool.{Bool, true, false, cond, ◌&&◌, ◌||◌, true≢false}
use mathlib.Core.List.{List, [], ◌∷◌}
use Prim.Native.Nat.{ℕ, suc, ◌+◌, ◌≤◌, ◌<◌}
use native.Mathlib.Omega.{arith}
use borrow.Author.Tests.{eqb-true, eqb-false, eq-eqb, ne_eqb}
use lib.Dec.{eqb}
use lib.ListN.{length}
use Rattle.rules.specs.Lists.{Every}
use Rattle.rules.specs.Trace.{Trace, end, step, call, steps, timeline, count, is_open, one_if, Numbered, sum_below}
use Rattle.rules.specs.Edges.{crosses, lengths_over, calls, Met, Leads, over, and_on, InNoCycle, EdgesIntoAddUp}
use Rattle.rules.proofs.Lists.{every_append}
use Rattle.rules.proofs.Traces.{sum-zero, sum_add, sum_same, charged-once}
use Rattle.rules.proofs.Intervals.{or_false}
use Rattle.rules.proofs.Edges.{callee_open, length-if, lengths-main}

-- WHO OPENED WHOM ---------------------------------------------------------------------------------------------------

-- R holds of every function that opens a call in t and the function called, where g is open around t
Opens : (R : ℕ → ℕ → Type 0) → (g : ℕ) → Trace → Type 0
Opens R g end = Unit {0}
Opens R g (step at t) = Opens R g t
Opens R g (call f i t) = R g f × Opens R f i × Opens R g t

-- and of every two neighbours among the open functions, of which main is the outermost
Chain : (R : ℕ → ℕ → Type 0) → List ℕ → Type 0
Chain R [] = ⊥
Chain R (g ∷ []) = g ≡ 0
Chain R (g ∷ h ∷ o) = R h g × Chain R (h ∷ o)

chains : (R : ℕ → ℕ → Type 0) (g : ℕ) (o : List ℕ) (t : Trace) → Opens R g t → Chain R (g ∷ o) → Every (Chain R) (timeline (g ∷ o) t)
unfolding Opens Chain
chains R g o end h c = tt
chains R g o (step at t) h c = (c, chains R g o t h c)
chains R g o (call f i t) h c =
    every_append (Chain R) (timeline (f ∷ g ∷ o) i) (timeline (g ∷ o) t) (chains R f (g ∷ o) i h.1 (h.0, c)) (chains R g o t h.2 c)

-- a is one of the functions up to n, and opened a call of b in u
MetBelow : (n : ℕ) (u : Trace) (a b : ℕ) → Type 0
MetBelow n u a b = (a ≤ n) × Met u a b

-- that is so of every call in a part of u: over no edge has the part more calls than u
met_in : (n : ℕ) (u : Trace) (g : ℕ) (o : List ℕ) (t : Trace) → g ≤ n → Numbered n t
    → ((a b : ℕ) → length (lengths_over a b (g ∷ o) t) ≤ calls a b u) → Opens (MetBelow n u) g t
unfolding Opens MetBelow
met_in n u g o end l k h = tt
met_in n u g o (step at t) l k h = met_in n u g o t l k h
met_in n u g o (call f i t) l k h = (
  (l, omega (arith, h g f, parts g f, own (eq-eqb f f refl) (eq-eqb g g refl))),
  met_in n u f (g ∷ o) i k.1 k.2 (λ a b. omega (arith, h a b, parts a b)),
  met_in n u g o t l k.3 (λ a b. omega (arith, h a b, parts a b)),
)
  where
    parts : (a b : ℕ)
        → length (lengths_over a b (g ∷ o) (call f i t))
        ≡ one_if (eqb f b && eqb g a) + (length (lengths_over a b (f ∷ g ∷ o) i) + length (lengths_over a b (g ∷ o) t))
    parts a b = length-if (eqb f b && eqb g a) (steps i) (lengths_over a b (f ∷ g ∷ o) i) (lengths_over a b (g ∷ o) t)

    own : eqb f f ≡ true → eqb g g ≡ true → one_if (eqb f f && eqb g g) ≡ 1
    own p q = rw (p, q) refl

-- SUMS --------------------------------------------------------------------------------------------------------------

sum-none : (n b : ℕ) → sum_below n (λ a. cond (eqb a b) 0 0) ≡ 0
sum-none n b = sum_same n _ (λ _. 0) (λ a _. go (eqb a b)) ∙ sum-zero n
  where
    go : (c : Bool) → cond {A = ℕ} c 0 0 ≡ 0
    go true = refl
    go false = refl

cond_add : (c : Bool) (m k : ℕ) → cond c 0 (m + k) ≡ cond c 0 m + cond c 0 k
cond_add true m k = refl
cond_add false m k = refl

-- NO WAY BACK -------------------------------------------------------------------------------------------------------

leads_then : {u : Trace} {a b c : ℕ} → Leads u a b → Met u b c → Leads u a c
leads_then (over m) k = and_on m (over k)
leads_then (and_on m l) k = and_on m (leads_then l k)

-- a function that is open leads to every other that is open inside it
leads_in : (n : ℕ) (u : Trace) (b g : ℕ) (o : List ℕ) → Chain (MetBelow n u) (g ∷ o) → is_open b (g ∷ o) ≡ true → ¬ (g ≡ b) → Leads u b g
unfolding Chain MetBelow
leads_in n u b g [] c e ne = absurd (true≢false (sym e ∙ rw (ne_eqb g b ne) refl))
leads_in n u b g (h ∷ o) c e ne = go (eqb h b) refl (leads_in n u b h o c.1 (rw (ne_eqb g b ne) at e))
  where
    go : (d : Bool) → eqb h b ≡ d → (¬ (h ≡ b) → Leads u b h) → Leads u b g
    go true p further = over (subst (λ (x : ℕ). Met u x g) (eqb-true h b p) c.0.1)
    go false p further = leads_then (further (eqb-false h b p)) c.0.1

module _ (n : ℕ) (u : Trace) (b : ℕ) (beside : 0 < b) (alone : InNoCycle u b) where
  -- how many functions beside b, of those up to n, have a call of b open that they opened
  abbrev openers : List ℕ → ℕ
  openers o = sum_below (suc n) (λ a. cond (eqb a b) 0 (one_if (crosses a b o)))

  -- b called by another function h: no b is open further out, so h is the only one
  by-other : (h : ℕ) (o : List ℕ) → ¬ (h ≡ b) → MetBelow n u h b → Chain (MetBelow n u) (h ∷ o)
      → sum_below (suc n) (λ a. cond (eqb a b) 0 (one_if (eqb h a || crosses a b (h ∷ o)))) ≡ 1
  unfolding MetBelow
  by-other h o ne m c =
      sum_same (suc n) _ (λ a. one_if (eqb h a)) (λ a _. only a (eqb a b) refl (crosses a b (h ∷ o)) (callee_open a b (h ∷ o)))
      ∙ charged-once (suc n) h (omega (arith, m.0))
    where
      shut : (d : Bool) → is_open b (h ∷ o) ≡ d → one_if d ≡ 0
      shut true e = absurd (alone h ne (leads_in n u b h o c e ne) (over m.1))
      shut false e = refl

      only : (a : ℕ) (d : Bool) → eqb a b ≡ d → (x : Bool) → one_if x ≤ one_if (is_open b (h ∷ o)) → cond d 0 (one_if (eqb h a || x)) ≡ one_if (eqb h a)
      only a true e x k = rw (eqb-true a b e, ne_eqb h b ne) refl
      only a false e true k = absurd (omega (arith, shut (is_open b (h ∷ o)) refl))
      only a false e false k = ap one_if (or_false (eqb h a))

  -- b called by itself: it has been opened further out
  by_itself : (h : ℕ) (o : List ℕ) → h ≡ b → sum_below (suc n) (λ a. cond (eqb a b) 0 (one_if (eqb h a || crosses a b (h ∷ o)))) ≡ openers (h ∷ o)
  by_itself h o e = sum_same (suc n) _ _ (λ a _. skip a (eqb a b) refl)
    where
      skip : (a : ℕ) (d : Bool) → eqb a b ≡ d → cond d 0 (one_if (eqb h a || crosses a b (h ∷ o))) ≡ cond d 0 (one_if (crosses a b (h ∷ o)))
      skip a true p = refl
      skip a false p = rw (ne_eqb h a (λ q. eqb-false a b p (sym q ∙ e))) refl

  one_opener : (o : List ℕ) → Chain (MetBelow n u) o → openers o ≡ one_if (is_open b o)
  unfolding Chain
  one_opener [] c = absurd c
  one_opener (g ∷ []) c = rw (ne_eqb g b (λ e. omega arith)) (sum-none (suc n) b)
  one_opener (g ∷ h ∷ o) c = go (eqb g b) refl (eqb h b) refl (one_opener (h ∷ o) c.1)
    where
      go : (x : Bool) → eqb g b ≡ x → (y : Bool) → eqb h b ≡ y → openers (h ∷ o) ≡ one_if (is_open b (h ∷ o))
          → openers (g ∷ h ∷ o) ≡ one_if (is_open b (g ∷ h ∷ o))
      go false p y q ih = rw p ih
      go true p true q ih = rw p (by_itself h o (eqb-true h b q) ∙ ih ∙ rw q refl)
      go true p false q ih = rw p (by-other h o (eqb-false h b q) (subst (MetBelow n u h) (eqb-true g b p) c.0) c.1)

  -- so over all steps
  openers_add_up : (entries : List (List ℕ)) → Every (Chain (MetBelow n u)) entries
      → sum_below (suc n) (λ a. cond (eqb a b) 0 (count (crosses a b) entries)) ≡ count (is_open b) entries
  openers_add_up [] h = sum-none (suc n) b
  openers_add_up (o ∷ os) h =
      sum_same (suc n) _ _ (λ a _. cond_add (eqb a b) (one_if (crosses a b o)) (count (crosses a b) os))
      ∙ sum_add (suc n) (λ a. cond (eqb a b) 0 (one_if (crosses a b o))) (λ a. cond (eqb a b) 0 (count (crosses a b) os))
      ∙ omega (arith, one_opener o h.0, openers_add_up os h.1)

pub edges_into_add_up_lem : EdgesIntoAddUp
unfolding Chain
edges_into_add_up_lem n b t k beside alone =
    openers_add_up n (call 0 t end) b beside alone (timeline [] (call 0 t end))
    (every_append (Chain (MetBelow n (call 0 t end))) (timeline (0 ∷ []) t) []
    (chains (MetBelow n (call 0 t end)) 0 [] t (met_in n (call 0 t end) 0 [] t (omega arith) k (λ a c. omega (arith, ap length (lengths-main a c t)))) refl)
    tt)
