-- The string in work: u bytes are kept of a string s, so that s is within the limit exactly where fewer than u are kept.
use Prim.Native.Nat.{ℕ, ◌≤◌, ◌<◌, ◌+◌}
use native.Mathlib.Omega.{arith}
use native.Mathlib.Decide.{dec_le}
use mathlib.Core.Path.{◌≡◌, sym, ◌∙◌}
use mathlib.Core.List.{List, ◌∷◌, ◌++◌}
use lib.ListN.{length, take, set}
use lib.Seq.{take_all, take-append-le, length-take-le, take-take}
use Rattle.rules.specs.Syntax.{Bytes}
use Rattle.memory.specs.Layout.{Put}
use Rattle.memory.proofs.Parts.{put_one, put_then}

pub take-joined : (u : ℕ) (s t : Bytes) → take u (take u s ++ t) ≡ take u (s ++ t)
take-joined u s t = go (dec_le (length s) u)
  where
    go : Dec (length s ≤ u) → take u (take u s ++ t) ≡ take u (s ++ t)
    go (yes h) = rw (take_all u s h)
    go (no h) =
        let l : length (take u s) ≡ u = length-take-le u s (omega arith) in
        take-append-le u (take u s) t (omega arith) ∙ take-take u u s (omega arith) ∙ sym (take-append-le u s t (omega arith))

-- a length byte, then bytes from outside
pub texted_in : (a : ℕ) (s : Bytes) {u v : List ℕ} → Put (a + 1) s (set u a (length s)) v → a < length u → Put a (length s ∷ s) u v
texted_in a s {u} p h = put_then (omega arith) (put_one u a (length s) h) p
