-- The tables of an accepted sheet.
use Prim.Native.Nat.{◌≤◌}
use native.Mathlib.Omega.{arith}
use mathlib.Core.Path.{◌≡◌, ap, ◌∙◌}
use lib.ListN.{length}
use Rattle.std.specs.Prelude.{Ok}
use Rattle.rules.specs.Syntax.{Bytes}
use Rattle.sheet.specs.declared.Accepted.{Accepted}
use Rattle.sheet.specs.Check.{check, accepted, known_of}
use Rattle.sheet.specs.Ready.{finding_of}
use Rattle.sheet.specs.Table.{leaves}
use Rattle.sheet.proofs.Loading.{check_loads}
use Rattle.runner.proofs.Tables.{leaves-length}
use Rattle.text.specs.Names.{Tabled}

module _ {s w : Bytes} (t : Bytes) (room : 4096 ≤ length t) (accepts : check s ≡ accepted (known_of s)) (tables : w ≡ leaves s (check s) t) where
  pub tabled : {x : Accepted} → Ok x ≡ finding_of (check s) → Tabled s w x.functions
  tabled e =
      let q = e ∙ ap finding_of accepts in
      record {
        loaded = check_loads s t w (known_of s) accepts room tables;
        functions = cc q;
        room = omega (arith, ap length tables, leaves-length s t (check s));
      }
