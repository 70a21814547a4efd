-- Variables: what an assignment, a mark, a copy upward do to a level, as the rules say it.
use Prim.Native.Nat.{ℕ, ◌≤◌, ◌<◌, ◌+◌, ◌*◌, ◌%◌}
use native.Mathlib.Omega.{arith}
use native.Mathlib.Nat.{mod-eq_of_lt, mul_comm, mul-le-mul_left}
use mathlib.Core.Path.{◌≡◌, sym, ap, ◌∙◌, subst}
use mathlib.Core.Bool.{true}
use mathlib.Core.List.{List, [], ◌∷◌}
use lib.ListN.{length, get_or, set}
use Rattle.rules.specs.Syntax.{Bytes}
use Rattle.rules.specs.State.{bytes, Variable}
use Rattle.rules.specs.Words.{unset_variable}
use Rattle.memory.specs.Layout.{part, Only, Put, text_at, field_at, value_if, value_at, mark_at, variable_in, variables_at}
use Rattle.memory.specs.Posts.{Assigned, Marked, Raised}
use Rattle.memory.proofs.Parts.{under, over, part_length, part_at, only_wider, put_one, put_then, part_away}
use Rattle.memory.proofs.Rows.{row_same, row-set, row_at}
use Rattle.memory.proofs.Texts.{Like, like_same, like_within, like_at, text_like, put_head, put-at, put_second, put_third, counted-text, step}
use mathlib.Core.Logic.{inr}
use native.Mathlib.Decide.{dec_lt}

pub value_like : {a b : ℕ} {u v : List ℕ} (L : ℕ) → Like a b (L + 2) u v → 0 < L → value_at L v b ≡ value_at L u a
unfolding value_at
value_like L p z = rw (p.like 1 (omega arith), text_like L (like_within 2 L p (omega arith)) z)

pub mark_like : {a b n : ℕ} {u v : List ℕ} → Like a b n u v → 0 < n → mark_at v b ≡ mark_at u a
unfolding mark_at
mark_like p z = rw (like_at p z)

pub variable_like : (L a b : ℕ) {u v : List ℕ} (x : ℕ) → 0 < L → Like 0 0 1024 u v → x < 16 → Like (a + (L + 2) * x) (b + (L + 2) * x) (L + 2) u v → variable_in L v b x ≡ variable_in L u a x
unfolding variable_in
variable_like L a b x z n h p = rw (text_like 64 (like_within (64 * x) 64 n (omega arith)) (omega arith), value_like L p z, mark_like p (omega arith))

pub variables_like : {a b : ℕ} {u v : List ℕ} (L n : ℕ) → 0 < L → Like 0 0 1024 u v → n ≤ 16 → Like a b ((L + 2) * n) u v → variables_at L v b n ≡ variables_at L u a n
variables_like {a} {b} L n z q h p = row_same n _ _ (λ k l. variable_like L a b k z q (omega arith) (like_within ((L + 2) * k) (L + 2) p (step (L + 2) k n l)))

-- another variable of the level, where only bytes of variable x are new
other : {u v : List ℕ} (L a x k : ℕ) → 0 < L → Only (a + (L + 2) * x) (a + (L + 2) * x + (L + 2)) u v → 1024 ≤ a → k < 16 → (k ≡ x → ⊥) → variable_in L v a k ≡ variable_in L u a k
other {u} {v} L a x k o p h l z =
    variable_like L a a k o (like_same 0 1024 (under 0 1024 (omega arith) p) (omega arith) (omega arith)) l
    (record { like = λ i m. go i m (dec_lt k x) })
  where
    go : (i : ℕ) → i < L + 2 → Dec (k < x) → get_or v (a + (L + 2) * k + i) 0 ≡ get_or u (a + (L + 2) * k + i) 0
    go i m (yes q) = p.below (a + (L + 2) * k + i) (omega (arith, step (L + 2) k x q))
    go i m (no q) = p.above (a + (L + 2) * k + i) (omega (arith, step (L + 2) x k (omega (arith, z))))

name-kept : {u v : List ℕ} (L a x : ℕ) → Only (a + (L + 2) * x) (a + (L + 2) * x + (L + 2)) u v → 1024 ≤ a → x < 16 → field_at 64 v 0 x ≡ field_at 64 u 0 x
name-kept L a x p h l = text_like 64 (like_same (0 + 64 * x) 64 (under 0 1024 (omega arith) p) (omega arith) (omega arith)) (omega arith)

module _ {u v : List ℕ} (L a x : ℕ) (s : Bytes) (p : Put (a + (L + 2) * x + 1) (1 ∷ length s ∷ s) u v) (h : 1024 ≤ a) (l : x < 16) (m : length s < L) where
  only : Only (a + (L + 2) * x) (a + (L + 2) * x + (L + 2)) u v
  only = only_wider (a + (L + 2) * x) (a + (L + 2) * x + (L + 2)) (omega arith) (omega arith) p.only

  new_text : text_at L v (a + (L + 2) * x + 2) ≡ s
  new_text =
      let e : length s % L ≡ length s = mod-eq_of_lt m in
      rw (put_second (a + (L + 2) * x + 1) (a + (L + 2) * x + 2) 1 (length s) s p (omega arith), e)
      (put_third (a + (L + 2) * x + 1) (a + (L + 2) * x + 2 + 1) 1 (length s) s p (omega arith))

  new_value : value_at L v (a + (L + 2) * x) ≡ bytes s
  unfolding value_at value_if
  new_value = rw (put_head (a + (L + 2) * x + 1) 1 (length s ∷ s) p, new_text)

  old_mark : mark_at v (a + (L + 2) * x) ≡ mark_at u (a + (L + 2) * x)
  unfolding mark_at
  old_mark = rw (p.only.below (a + (L + 2) * x) (omega arith))

  new_variable : variable_in L v a x ≡ record { name = (variable_in L u a x).name; value = bytes s; exported = (variable_in L u a x).exported }
  unfolding variable_in
  new_variable = rw (name-kept L a x only h l, new_value, old_mark)

  pub is-assigned : Assigned L a x s u v
  is-assigned =
      record {
        variables = λ n i j.
            row-set n (variable_in L u a) (variable_in L v a) x _ i new_variable (λ k q z. other L a x k (omega arith) only h (omega arith) z)
            ∙ ap (λ (q : Variable). set (variables_at L u a n) x (record { name = q.name; value = bytes s; exported = q.exported })) (sym (row_at n (variable_in L u a) x (unset_variable []) i));
        put = p;
        only = only;
      }

module _ (L : ℕ) (u : List ℕ) (a x : ℕ) (o : 0 < L) (h : 1024 ≤ a) (l : x < 16) (r : a + (L + 2) * x < length u) where
  abbrev after : List ℕ
  after = set u (a + (L + 2) * x) 1

  put : Put (a + (L + 2) * x) (1 ∷ []) u after
  put = put_one u (a + (L + 2) * x) 1 r

  only-mark : Only (a + (L + 2) * x) (a + (L + 2) * x + (L + 2)) u after
  only-mark = only_wider (a + (L + 2) * x) (a + (L + 2) * x + (L + 2)) (omega arith) (omega arith) put.only

  new_mark : mark_at after (a + (L + 2) * x) ≡ true
  unfolding mark_at
  new_mark = rw (put_head (a + (L + 2) * x) 1 [] put)

  old_value : value_at L after (a + (L + 2) * x) ≡ value_at L u (a + (L + 2) * x)
  unfolding value_at
  old_value =
      rw (
        put.only.above (a + (L + 2) * x + 1) (omega arith),
        text_like L (like_same (a + (L + 2) * x + 2) L (over (a + (L + 2) * x + 1) (a + (L + 2) * x + (L + 2)) (omega arith) put.only) (omega arith) (omega arith)) o,
      )

  marked-variable : variable_in L after a x ≡ record { name = (variable_in L u a x).name; value = (variable_in L u a x).value; exported = true }
  unfolding variable_in
  marked-variable = rw (name-kept L a x only-mark h l, old_value, new_mark)

  pub is-marked : Marked L a x u after
  is-marked =
      record {
        variables = λ n i j.
            row-set n (variable_in L u a) (variable_in L after a) x _ i marked-variable (λ k q z. other L a x k o only-mark h (omega arith) z)
            ∙ ap (λ (q : Variable). set (variables_at L u a n) x (record { name = q.name; value = q.value; exported = true })) (sym (row_at n (variable_in L u a) x (unset_variable []) i));
        put = put;
        only = only-mark;
      }

pub is-raised : {u v : List ℕ} (L a : ℕ) → Put (a + 16 * (L + 2)) (part u a (16 * (L + 2))) u v → 0 < L → 1024 ≤ a → Raised L a u v
is-raised {u} {v} L a p z h =
    let M = 16 * (L + 2) in
    record {
      variables = λ n i.
          variables_like L n z (like_same 0 1024 (under 0 1024 (omega arith) p.only) (omega arith) (omega arith)) i
          (record { like = λ k l. put-at (a + 16 * (L + 2)) (part u a (16 * (L + 2))) k p (omega (arith, part_length u a (16 * (L + 2)), upto L n i)) ∙ part_at u a (16 * (L + 2)) k (omega (arith, upto L n i)) });
      put = p;
      only = only_wider (a + 16 * (L + 2)) (a + 32 * (L + 2)) (omega arith) (omega (arith, part_length u a (16 * (L + 2)))) p.only;
    }
  where
    upto : (L n : ℕ) → n ≤ 16 → (L + 2) * n ≤ 16 * (L + 2)
    upto L n i = subst (λ (k : ℕ). (L + 2) * n ≤ k) (mul_comm (L + 2) 16) (mul-le-mul_left (L + 2) i)

pub assigned-by : {u v : List ℕ} (L a x b n : ℕ)
    → Put (a + (L + 2) * x + 2) (n ∷ part (set u (a + (L + 2) * x + 1) 1) b n) (set u (a + (L + 2) * x + 1) 1) v
    → 1024 ≤ a → x < 16 → n < L → a + 16 * (L + 2) ≤ b → a + (L + 2) * x + 1 < length u → a + (L + 2) * x + (L + 2) ≤ b → Assigned L a x (part u b n) u v
assigned-by {u} {v} L a x b n p h l m o r y =
    let q : Put (a + (L + 2) * x + 1) (1 ∷ []) u (set u (a + (L + 2) * x + 1) 1) = put_one u (a + (L + 2) * x + 1) 1 r in
    let e : part (set u (a + (L + 2) * x + 1) 1) b n ≡ part u b n = part_away b n q.only (inr (omega arith)) in
    is-assigned L a x (part u b n) (put_then (omega arith) q (counted-text _ _ _ _ (rw e at p))) h l (omega (arith, part_length u b n))
