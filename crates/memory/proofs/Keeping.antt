-- What an evaluation leaves as it was: laws of Kept.
use Prim.Native.Nat.{ℕ, ◌≤◌, ◌<◌, ◌+◌, ◌*◌}
use native.Mathlib.Omega.{arith}
use mathlib.Core.Path.{◌≡◌, refl, ◌∙◌}
use mathlib.Core.List.{List}
use Rattle.memory.specs.declared.Given.{Given}
use Rattle.memory.specs.Scope.{Scope}
use Rattle.memory.specs.Layout.{Only, variables_place, list_place, string_place, stream_place, counters_end}
use Rattle.memory.specs.Abstract.{Placed, Kept}
use Rattle.memory.proofs.Parts.{same_refl, same_trans, same-within, under, over}
use Rattle.memory.proofs.Places.{variables_up, list_up, string_up, variables-end, list-end, string-end}

pub kept_refl : (g : Given) (e : Scope) (n : ℕ) (w : List ℕ) → Kept g e n w w
kept_refl g e n w = record {
  size = refl;
  tables = same_refl _ _ w;
  variables = same_refl _ _ w;
  lists = same_refl _ _ w;
  strings = same_refl _ _ w;
  written = same_refl _ _ w;
  others = same_refl _ _ w;
}

pub kept_trans : {g : Given} {e : Scope} {n m : ℕ} {w v x : List ℕ} → Kept g e n w v → Kept g e m v x → n ≤ m → Kept g e n w x
kept_trans p q h = record {
  size = q.size ∙ p.size;
  tables = same_trans p.tables q.tables;
  variables = same_trans p.variables q.variables;
  lists = same_trans p.lists q.lists;
  strings = same_trans p.strings q.strings;
  written = same_trans p.written (same-within _ _ (omega arith) (omega arith) q.written);
  others = same_trans p.others q.others;
}

-- AN INNER SCOPE

module _ {g : Given} {e e' : Scope} {n n' : ℕ} {w w' : List ℕ} (p : Kept g e' n' w w') where
  -- that writes the same stream
  pub kept-inner : e.level ≤ e'.level → e.holds ≤ e'.holds → e.streams ≤ e'.streams → e'.stream ≡ e.stream → n ≤ n' → Kept g e n w w'
  kept-inner l h s d k = record {
    size = p.size;
    tables = p.tables;
    variables = same-within _ _ (omega arith) (variables_up g.unit l) p.variables;
    lists = same-within _ _ (omega arith) (list_up g.unit (omega arith)) p.lists;
    strings = same-within _ _ (omega arith) (string_up g.unit h) p.strings;
    written = same-within _ _ (omega arith) (omega arith) p.written;
    others = same-within _ _ (omega arith) (omega arith) p.others;
  }

  -- that writes one above all in use
  pub kept_fresh : e.level ≤ e'.level → e.holds ≤ e'.holds → e.streams ≤ e'.stream → e.stream < e.streams → n ≤ 1024 → Kept g e n w w'
  kept_fresh l h s d k = record {
    size = p.size;
    tables = p.tables;
    variables = same-within _ _ (omega arith) (variables_up g.unit l) p.variables;
    lists = same-within _ _ (omega arith) (list_up g.unit (omega arith)) p.lists;
    strings = same-within _ _ (omega arith) (string_up g.unit h) p.strings;
    written = same-within _ _ (omega arith) (omega arith) p.written;
    others = same-within _ _ (omega arith) (omega arith) p.written;
  }

-- ONE AREA

-- where the areas that are kept end
module _ (u : ℕ) {e : Scope} (h : Placed e) where
  pub low-variables : variables_place u e.level ≤ list_place u 0
  low-variables = omega (arith, variables-end u {v = e.level} (omega (arith, h.level, h.holds)))

  pub level-end : variables_place u e.level + 16 * (u + 2) ≤ list_place u 0
  level-end = variables-end u (omega (arith, h.level, h.holds))

  pub low-lists : list_place u (e.holds + 1) ≤ string_place u 0
  low-lists = omega (arith, list-end u {h = e.holds + 1} (omega (arith, h.holds)))

  pub low-strings : string_place u e.holds ≤ stream_place u 0
  low-strings = omega (arith, string-end u {h = e.holds} h.holds)

module _ {g : Given} {e : Scope} {n : ℕ} {a b : ℕ} {w w' : List ℕ} (h : Placed e) (p : Only a b w w') where
  pub kept-counters : 4096 ≤ a → b ≤ counters_end → Kept g e n w w'
  kept-counters l k = record {
    size = p.size;
    tables = under _ _ (omega arith) p;
    variables = over _ _ (omega arith) p;
    lists = over _ _ (omega arith) p;
    strings = over _ _ (omega arith) p;
    written = over _ _ (omega arith) p;
    others = over _ _ (omega arith) p;
  }

  -- variables of the own level, or of levels above it
  pub kept-level : variables_place g.unit e.level ≤ a → b ≤ list_place g.unit 0 → Kept g e n w w'
  kept-level l k = record {
    size = p.size;
    tables = under _ _ (omega arith) p;
    variables = under _ _ (omega arith) p;
    lists = over _ _ (omega arith) p;
    strings = over _ _ (omega arith) p;
    written = over _ _ (omega arith) p;
    others = over _ _ (omega arith) p;
  }

  -- the own list, or lists of holds above
  pub kept-list : list_place g.unit (e.holds + 1) ≤ a → b ≤ string_place g.unit 0 → Kept g e n w w'
  kept-list l k = record {
    size = p.size;
    tables = under _ _ (omega arith) p;
    variables = under _ _ (omega (arith, low-variables g.unit h)) p;
    lists = under _ _ (omega arith) p;
    strings = over _ _ (omega arith) p;
    written = over _ _ (omega arith) p;
    others = over _ _ (omega arith) p;
  }

  -- the own string, or strings of holds above
  pub kept-string : string_place g.unit e.holds ≤ a → b ≤ stream_place g.unit 0 → Kept g e n w w'
  kept-string l k = record {
    size = p.size;
    tables = under _ _ (omega arith) p;
    variables = under _ _ (omega (arith, low-variables g.unit h)) p;
    lists = under _ _ (omega (arith, low-lists g.unit h)) p;
    strings = under _ _ (omega arith) p;
    written = over _ _ (omega arith) p;
    others = over _ _ (omega arith) p;
  }

  -- the own stream behind what is written of it
  pub kept-stream : stream_place g.unit e.stream + n ≤ a → b ≤ stream_place g.unit e.stream + 1024 → Kept g e n w w'
  kept-stream l k = record {
    size = p.size;
    tables = under _ _ (omega arith) p;
    variables = under _ _ (omega (arith, low-variables g.unit h)) p;
    lists = under _ _ (omega (arith, low-lists g.unit h)) p;
    strings = under _ _ (omega (arith, low-strings g.unit h)) p;
    written = under _ _ (omega arith) p;
    others = over _ _ (omega arith) p;
  }
