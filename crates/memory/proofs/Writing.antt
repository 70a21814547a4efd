-- Bytes written one after the other: echo, env, and the length of a stream.
use Prim.Native.Nat.{ℕ, ◌≤◌, ◌<◌, ◌+◌, ◌*◌, ◌-◌, ◌%◌}
use native.Mathlib.Omega.{arith}
use native.Mathlib.Decide.{dec_lt}
use native.Mathlib.Nat.{mod-lt}
use mathlib.Core.Path.{◌≡◌, refl, sym, ap, ◌∙◌, subst}
use mathlib.Core.Bool.{Bool, true, false}
use mathlib.Core.List.{List, [], ◌∷◌, ◌++◌, append_assoc, append-nil}
use lib.ListN.{length, get_or, set, length-append}
use borrow.Author.Tests.{lt-ltb, le-ltb, ne_eqb}
use Rattle.rules.specs.Syntax.{Bytes}
use Rattle.rules.specs.State.{Value, unset, bytes, Variable}
use Rattle.rules.specs.Words.{spaced, echoed, env_line, env_lines}
use Rattle.memory.specs.Layout.{part, Put, text_at, field_at, fields_at, value_if, value_at, mark_at, variable_in, variables_at, line_at}
use Rattle.memory.specs.Posts.{Written, Streamed, Longer, sized_of}
use Rattle.memory.proofs.Parts.{part_length, under, put-none, put_one, put_then, put-more}
use Rattle.memory.proofs.Rows.{row_more, row-none}
use Rattle.memory.proofs.Texts.{Like, like_same, text_like, longer}
use Rattle.memory.proofs.Variables.{value_like, mark_like}

pub written_none : (a : ℕ) (w : List ℕ) → Written a [] w w a
written_none a w = record { put = put-none a w; end = omega arith }

pub written_then : {a b c : ℕ} {s t : Bytes} {u v w : List ℕ} → Written a s u v b → Written b t v w c → Written a (s ++ t) u w c
written_then {a} {b} {c} {s} {t} p q = record { put = put_then p.end p.put q.put; end = omega (arith, p.end, q.end, length-append s t) }

pub text-length : (L : ℕ) (w : List ℕ) (a : ℕ) → 0 < L → length (text_at L w a) < L
text-length L w a z = omega (arith, part_length w (a + 1) (get_or w a 0 % L), mod-lt (get_or w a 0) z)

pub field_put : (L f to b r : ℕ) {u v : List ℕ} → Put to (part u (f + 1) r) u v → r ≡ get_or u f 0 % L → to + r < length u
    → Written to (text_at L u f ++ b ∷ []) u (set v (to + r) b) (to + r + 1)
field_put L f to b r {u} {v} p e h =
    rw (← e)
    (record {
      put = put-more r b (part_length u (f + 1) r) (omega (arith, p.only.size)) p;
      end = omega (arith, length-append (part u (f + 1) r) (b ∷ []), part_length u (f + 1) r);
    })

pub field_bound : (L : ℕ) (w : List ℕ) (f b : ℕ) {u v : List ℕ} {to r : ℕ} → Written to (text_at L w f ++ b ∷ []) u v r → 0 < L → r ≤ to + L
field_bound L w f b p z = omega (arith, p.end, length-append (text_at L w f) (b ∷ []), text-length L w f z)

-- ECHO

pub echo_empty : (L a m to : ℕ) (w : List ℕ) → m ≡ 0 → to < length w → Written to (echoed (fields_at L w a m)) w (set w to 10) (to + 1)
echo_empty L a m to w e h = rw (e, row-none (field_at L w a)) (record { put = put_one w to 10 h; end = refl })

abbrev pub tailed : List Bytes → Bytes
tailed [] = []
tailed (f ∷ fs) = f ++ 32 ∷ tailed fs

tailed_more : (fs : List Bytes) (f : Bytes) → tailed (fs ++ f ∷ []) ≡ tailed fs ++ (f ++ 32 ∷ [])
tailed_more [] f = refl
tailed_more (g ∷ fs) f = ap (λ l. g ++ 32 ∷ l) (tailed_more fs f) ∙ sym (append_assoc g (32 ∷ tailed fs) (f ++ 32 ∷ []))

echoed-more : (fs : List Bytes) (f : Bytes) → echoed (fs ++ f ∷ []) ≡ tailed fs ++ (f ++ 10 ∷ [])
echoed-more [] f = refl
echoed-more (g ∷ []) f = simp append_assoc
echoed-more (g ∷ h ∷ fs) f =
    append_assoc g (32 ∷ spaced (h ∷ (fs ++ f ∷ []))) (10 ∷ []) ∙ ap (λ l. g ++ 32 ∷ l) (echoed-more (h ∷ fs) f) ∙ sym (append_assoc g (32 ∷ tailed (h ∷ fs)) (f ++ 10 ∷ []))

pub echo_start : (L a to : ℕ) (w : List ℕ) → Written to (tailed (fields_at L w a 0)) w w to
echo_start L a to w = rw (row-none (field_at L w a)) (written_none to w)

module _ (L a k to b : ℕ) {u v w : List ℕ} {e r : ℕ} (p : Written to (tailed (fields_at L u a k)) u v e) (q : Written e (text_at L v (a + L * k) ++ b ∷ []) v w r) (o : 0 < L) (h : a + L * k + L ≤ to) where
  same-field : text_at L v (a + L * k) ≡ text_at L u (a + L * k)
  same-field = text_like L (like_same (a + L * k) L (under 0 to (omega arith) p.put.only) (omega arith) h) o

  pub echo_more : b ≡ 32 → Written to (tailed (fields_at L u a (k + 1))) u w r
  echo_more z = rw (row_more k (field_at L u a), tailed_more (fields_at L u a k) (field_at L u a k)) (written_then p (rw (same-field, z) at q))

  pub echo_end : b ≡ 10 → Written to (echoed (fields_at L u a (k + 1))) u w r
  echo_end z = rw (row_more k (field_at L u a), echoed-more (fields_at L u a k) (field_at L u a k)) (written_then p (rw (same-field, z) at q))

-- STREAMS

pub streamed : (o n e : ℕ) (s : Bytes) {u v : List ℕ} → Written (o + n) s u v e → Streamed o n s u v (sized_of (e - o))
streamed o n e s {u} {v} p = go (dec_lt 1024 (e - o))
  where
    go : Dec (1024 < e - o) → Streamed o n s u v (sized_of (e - o))
    go (yes h) = rw (lt-ltb 1024 (e - o) h) (record { over = omega (arith, p.end); size = p.put.only.size; put = p.put })
    go (no h) =
        rw (le-ltb 1024 (e - o) (omega arith))
        (let d : n + length s ≡ e - o = omega (arith, p.end) in subst (λ (k : ℕ). Longer o n s u v k) d (longer o n s p.put (omega (arith, p.end))))

-- ENV

unmarked : (n : Bytes) (x : Value) → env_line n x false ≡ []
unmarked n unset = refl
unmarked n (bytes s) = refl

line-size : (L : ℕ) (b m : Bool) (n s : Bytes) → length n < 64 → length s < L → length (env_line n (value_if b s) m) ≤ 64 + L
unfolding value_if
line-size L true m n s h k = omega arith
line-size L false false n s h k = omega arith
line-size L false true n s h k = simp length-append (omega arith)

module _ (L : ℕ) (w : List ℕ) (f v : ℕ) where
  pub line-length : 0 < L → length (line_at L w f v) ≤ 64 + L
  unfolding value_at
  line-length z = line-size L _ (mark_at w v) (text_at 64 w f) (text_at L w (v + 2)) (text-length 64 w f (omega arith)) (text-length L w (v + 2) z)

  pub line_unmarked : get_or w v 0 ≡ 0 → line_at L w f v ≡ []
  unfolding mark_at
  line_unmarked e = rw e (unmarked (text_at 64 w f) (value_at L w v))

  pub line-unset : get_or w (v + 1) 0 ≡ 0 → line_at L w f v ≡ []
  unfolding value_at value_if
  line-unset e = rw e

  pub line-shown : (get_or w v 0 ≡ 0 → ⊥) → (get_or w (v + 1) 0 ≡ 0 → ⊥) → line_at L w f v ≡ (text_at 64 w f ++ 61 ∷ []) ++ (text_at L w (v + 2) ++ 10 ∷ [])
  unfolding mark_at value_at value_if
  line-shown x y = rw (ne_eqb _ _ x, ne_eqb _ _ y) (simp append_assoc)

  pub line-put : {w₁ w₂ : List ℕ} {to e r : ℕ} → (get_or w v 0 ≡ 0 → ⊥) → (get_or w (v + 1) 0 ≡ 0 → ⊥) → Written to (text_at 64 w f ++ 61 ∷ []) w w₁ e → Written e (text_at L w₁ (v + 2) ++ 10 ∷ []) w₁ w₂ r → 0 < L → v + (L + 2) ≤ to
      → Written to (line_at L w f v) w w₂ r
  line-put {w₁} {w₂} {to} {e} {r} x y p q o h =
      let z : text_at L w₁ (v + 2) ≡ text_at L w (v + 2) = text_like L (like_same (v + 2) L (under 0 to (omega arith) p.put.only) (omega arith) (omega arith)) o in
      rw (line-shown x y) (written_then p (rw z at q))

env_lines-more : (vs : List Variable) (v : Variable) → env_lines (vs ++ v ∷ []) ≡ env_lines vs ++ env_line v.name v.value v.exported
env_lines-more [] v = append-nil _
env_lines-more (x ∷ vs) v = ap (λ l. env_line x.name x.value x.exported ++ l) (env_lines-more vs v) ∙ sym (append_assoc (env_line x.name x.value x.exported) (env_lines vs) _)

pub env-start : (L a to : ℕ) (w : List ℕ) → Written to (env_lines (variables_at L w a 0)) w w to
env-start L a to w = rw (row-none (variable_in L w a)) (written_none to w)

module _ (L a k to : ℕ) {u v w : List ℕ} {e r : ℕ} (p : Written to (env_lines (variables_at L u a k)) u v e) (q : Written e (line_at L v (64 * k) (a + (L + 2) * k)) v w r) (h : k < 16) (l : 1024 ≤ a) (o : 0 < L) (m : a + (L + 2) * k + (L + 2) ≤ to) where
  same_line : line_at L v (64 * k) (a + (L + 2) * k) ≡ line_at L u (64 * k) (a + (L + 2) * k)
  same_line =
      let f : Like (64 * k) (64 * k) 64 u v = like_same (64 * k) 64 (under 0 to (omega arith) p.put.only) (omega arith) (omega arith) in
      let g : Like (a + (L + 2) * k) (a + (L + 2) * k) (L + 2) u v = like_same (a + (L + 2) * k) (L + 2) (under 0 to (omega arith) p.put.only) (omega arith) (omega arith) in
      rw (text_like 64 f (omega arith), value_like L g o, mark_like g (omega arith))

  last_line : env_line (variable_in L u a k).name (variable_in L u a k).value (variable_in L u a k).exported ≡ line_at L u (64 * k) (a + (L + 2) * k)
  unfolding variable_in
  last_line = let d : 0 + 64 * k ≡ 64 * k = omega arith in rw d

  pub env-more : Written to (env_lines (variables_at L u a (k + 1))) u w r
  env-more = rw (row_more k (variable_in L u a), env_lines-more (variables_at L u a k) (variable_in L u a k), last_line) (written_then p (rw same_line at q))
