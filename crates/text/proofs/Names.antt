-- The name of a function, read where the sheet has it.
use Prim.Native.Nat.{ℕ, zero, suc, ◌≤◌, ◌<◌, ◌+◌, ◌-◌}
use native.Mathlib.Omega.{arith}
use mathlib.Core.Path.{◌≡◌, sym, ap, ◌∙◌, subst}
use lib.ListN.{length, take, drop, length-take}
use Rattle.rules.specs.Syntax.{Bytes, Function}
use Rattle.sheet.specs.Filled.{start_of, named_in, in_record, text_in, IsText}
use Rattle.sheet.proofs.Reading.{text-room}
use Rattle.sheet.proofs.Callees.{functions-count, named_law, function_law}
use Rattle.sheet.proofs.Located.{few-records, few-functions}
use Rattle.sheet.specs.Check.{known_of}
use Rattle.text.specs.Names.{functions_of, function_name, Tabled}

pub functions-are : {s w : Bytes} {n : ℕ} → Tabled s w n → length (functions_of s) ≡ n
functions-are t = functions-count t.loaded ∙ sym t.functions

pub few : {s w : Bytes} {n : ℕ} → Tabled s w n → n ≤ 32
few t = omega (arith, t.functions, few-functions t.loaded)

module _ {s w : Bytes} {n f : ℕ} (t : Tabled s w n) (some : 0 < f) (l : f ≤ n) {r : ℕ} (e : r ≡ named_in w f) where
  is-text : IsText (known_of s) r
  is-text = subst (IsText (known_of s)) (sym e) (named_law t.loaded f (omega arith) (omega (arith, t.functions)))

  pub named-below : r < 512
  named-below = let z = is-text.0 in omega (arith, few-records t.loaded)

  pub size_room : start_of w r + 4 ≤ length s
  size_room = let z = (text-room t.loaded r is-text).0 in omega arith

  module _ {start : ℕ} (a : start ≡ start_of w r) where
    module _ {size : ℕ} (z : size ≡ in_record s w r 0) where
      pub name-room : (start + 4 + size ≤ length s) × (size ≤ 63)
      name-room = let q = text-room t.loaded r is-text in (omega (arith, z, q.0), omega (arith, z, q.1))

      text-is : take (start + 4 + size - (start + 4)) (drop (start + 4) s) ≡ text_in s w r
      text-is =
          let d : start + 4 + size - (start + 4) ≡ in_record s w r 0 = omega (arith, z) in
          (λ i. take (d i) (drop (a i + 4) s))

      pub name-short : length (take (start + 4 + size - (start + 4)) (drop (start + 4) s)) ≤ 63
      name-short = omega (arith, name-room.1, length-take (start + 4 + size - (start + 4)) (drop (start + 4) s))

      pub name-is : take (start + 4 + size - (start + 4)) (drop (start + 4) s) ≡ function_name (functions_of s) f
      unfolding function_name
      name-is = text-is ∙ ap (text_in s w) e ∙ named f some l
        where
          named : (k : ℕ) → 0 < k → k ≤ n → text_in s w (named_in w k) ≡ function_name (functions_of s) k
          named zero h m = absurd (omega arith)
          named (suc k) h m = ap (λ (x : Function). x.name) (sym (function_law t.loaded k (omega (arith, t.functions))))
