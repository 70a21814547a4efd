-- The counters: what the operations do to them.
use Prim.Native.Nat.{ℕ, ◌≤◌, ◌<◌, ◌+◌, ◌%◌}
use native.Mathlib.Omega.{arith}
use mathlib.Core.Path.{◌≡◌, ◌∙◌}
use mathlib.Core.Bool.{true}
use mathlib.Core.List.{List, [], ◌∷◌}
use lib.ListN.{length, get_or, set}
use lib.Seq.{get_or-set_same}
use Rattle.memory.specs.Layout.{Only, Put, number_at}
use Rattle.memory.specs.Posts.{four_bytes}
use Rattle.memory.specs.Profile.{Counted, CellBegun, CellShut}
use Rattle.memory.proofs.Parts.{under, over, same_trans, only_trans, only_wider, put_one}
use Rattle.memory.proofs.Texts.{like_same, number_like, stored}

-- a number apart from the only bytes that changed
pub number_under : {a e : ℕ} {u v : List ℕ} (b : ℕ) → Only a e u v → b + 4 ≤ a → number_at v b ≡ number_at u b
number_under b p h = number_like (like_same b 4 (under b (b + 4) h p) (omega arith) (omega arith))

pub number-over : {a e : ℕ} {u v : List ℕ} (b : ℕ) → Only a e u v → e ≤ b → number_at v b ≡ number_at u b
number-over b p h = number_like (like_same b 4 (over b (b + 4) h p) (omega arith) (omega arith))

pub counted : (a n by : ℕ) {u v : List ℕ} → Put a (four_bytes ((n + by) % 18446744073709551616 % 4294967296)) u v → n ≡ number_at u a → Counted a by u v
counted a n by p e = record { number = stored a _ p (omega arith) ∙ omega arith; only = p.only }

-- a cell at c whose flag stands l + 4 bytes further
module _ (c l : ℕ) {u v : List ℕ} where
  pub begun_first : Counted c 1 u v → get_or v (c + l + 4) 0 ≡ 0 → c + l + 4 < length v → CellBegun c l u (set v (c + l + 4) 1) true
  begun_first p z h =
      let q : Put (c + l + 4) (1 ∷ []) v (set v (c + l + 4) 1) = put_one v (c + l + 4) 1 h in
      let s : get_or v (c + l + 4) 0 ≡ get_or u (c + l + 4) 0 = p.only.above (c + l + 4) (omega arith) in
      record {
        first = rw (← s, z);
        number = number_under c q.only (omega arith) ∙ p.number;
        flag = get_or-set_same v (c + l + 4) 1 0 h;
        between = same_trans (over (c + 4) (c + l + 4) (omega arith) p.only) (under (c + 4) (c + l + 4) (omega arith) q.only);
        only =
            only_trans (only_wider c (c + l + 5) (omega arith) (omega arith) p.only)
            (only_wider c (c + l + 5) (omega arith) (omega arith) q.only);
      }

  pub shut : (steps : ℕ) → Counted (c + l) steps u v → c + l + 4 < length v → CellShut c l steps u (set v (c + l + 4) 0)
  shut steps p h =
      let q : Put (c + l + 4) (0 ∷ []) v (set v (c + l + 4) 0) = put_one v (c + l + 4) 0 h in
      record {
        steps = number_under (c + l) q.only (omega arith) ∙ p.number;
        flag = get_or-set_same v (c + l + 4) 0 0 h;
        only =
            only_trans (only_wider (c + l) (c + l + 5) (omega arith) (omega arith) p.only)
            (only_wider (c + l) (c + l + 5) (omega arith) (omega arith) q.only);
      }
