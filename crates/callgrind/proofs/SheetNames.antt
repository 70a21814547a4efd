-- The names of an accepted sheet's functions are short, and are names.
use Prim.Native.Nat.{ℕ, suc, ◌≤◌, ◌<◌}
use native.Mathlib.Omega.{arith}
use mathlib.Core.Path.{◌≡◌, refl, sym, subst}
use mathlib.Core.Bool.{true}
use mathlib.Core.List.{List, [], ◌∷◌, map}
use lib.ListN.{length, get_or, replicate, length-replicate}
use Rattle.rules.specs.Lists.{Every}
use Rattle.rules.specs.Syntax.{Bytes, Function, shift}
use Rattle.rules.specs.Graph.{name_of}
use Rattle.sheet.specs.Format.{is_name}
use Rattle.sheet.specs.Check.{Known, Defined, no_defined, known_of, check, accepted}
use Rattle.sheet.specs.Decode.{function_of, program}
use Rattle.sheet.specs.Filled.{Loaded, named_in}
use Rattle.sheet.specs.Table.{leaves}
use Rattle.sheet.proofs.Loading.{check_loads}
use Rattle.sheet.proofs.Located.{parts, few-functions}
use Rattle.sheet.proofs.NameLaws.{functions-named}
use Rattle.sheet.proofs.Reading.{text-room}
use Rattle.sheet.proofs.Callees.{functions-count, function_law, named_law}
use Rattle.text.specs.Names.{functions_of}
use Rattle.callgrind.specs.Within.{ShortNames}

every_at : {A : Type 0} (P : A → Type 0) (d : A) (xs : List A) → ((i : ℕ) → i < length xs → P (get_or xs i d)) → Every P xs
every_at P d [] h = tt
every_at P d (x ∷ xs) h = (h 0 (omega arith), every_at P d xs (λ i l. h (suc i) (omega arith)))

module _ {s w : Bytes} (g : Loaded s (known_of s) w) where
  pub short-names : ShortNames (functions_of s)
  short-names = record {
    few = omega (arith, functions-count g, few-functions g);
    short = every_at (λ (f : Function). length f.name ≤ 63) (record { name = []; body = shift 0 0 }) (functions_of s) short;
  }
    where
      short : (i : ℕ) → i < length (functions_of s) → length (get_or (functions_of s) i (record { name = []; body = shift 0 0 })).name ≤ 63
      short i h =
          let l : i < length (known_of s).functions = omega (arith, functions-count g) in
          subst (λ (f : Function). length f.name ≤ 63) (sym (function_law g i l))
          (let z = text-room g (named_in w (suc i)) (named_law g (suc i) (omega arith) (omega arith)) in omega (arith, z.1, z.2))

  named : (f : ℕ) → f < length (known_of s).functions → is_name (get_or (known_of s).functions f no_defined).name ≡ true
  named f h =
      subst (λ (K : Known). (f : ℕ) → f < length K.functions → is_name (get_or K.functions f no_defined).name ≡ true)
      (sym (parts g).is) (λ k l. (functions-named s (parts g).n (parts g).passes k l).0.is_name) f h

  pub sheet-names : Every (λ name. is_name name ≡ true) (map name_of (functions_of s))
  unfolding program
  sheet-names = mapped (known_of s).functions (every_at (λ (d : Defined). is_name d.name ≡ true) no_defined (known_of s).functions named)
    where
      mapped : (ds : List Defined) → Every (λ (d : Defined). is_name d.name ≡ true) ds
          → Every (λ name. is_name name ≡ true) (map name_of (map (function_of (known_of s)) ds))
      mapped [] h = tt
      mapped (d ∷ ds) h = (h.0, mapped ds h.1)

-- FROM ACCEPTANCE ALONE: the check would fill any memory

loaded : (s : Bytes) → check s ≡ accepted (known_of s) → Loaded s (known_of s) (leaves s (check s) (replicate 4096 0))
loaded s e = check_loads s (replicate 4096 0) (leaves s (check s) (replicate 4096 0)) (known_of s) e (omega (arith, length-replicate {A = ℕ} 4096 0)) refl

pub accepted-short : (s : Bytes) → check s ≡ accepted (known_of s) → ShortNames (functions_of s)
accepted-short s e = short-names (loaded s e)

pub accepted-names : (s : Bytes) → check s ≡ accepted (known_of s) → Every (λ name. is_name name ≡ true) (map name_of (functions_of s))
accepted-names s e = sheet-names (loaded s e)
