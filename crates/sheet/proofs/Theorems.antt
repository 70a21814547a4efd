-- The proofs of what specs/Claims says, together.
use mathlib.Core.Path.{◌≡◌, refl, sym, ◌∙◌, subst}
use mathlib.Core.Logic.{◌⊎◌, inl, inr}
use mathlib.Core.List.{List, [], ◌∷◌, ◌++◌}
use Prim.Native.Nat.{ℕ, zero, suc, ◌<◌, ◌≤◌}
use native.Mathlib.Decide.{dec_le}
use native.Mathlib.Omega.{arith}
use lib.ListN.{length}
use Rattle.rules.specs.Syntax.{Bytes}
use Rattle.sheet.specs.Format.{Shape, no_kind, text, nothing, one, two, three, shape}
use Rattle.sheet.specs.Table.{words}
use Rattle.sheet.specs.Check.{Checked, refused, check}
use Rattle.sheet.specs.Exact.{Stops, Explained}
use Rattle.sheet.specs.Exact as stop
use Rattle.sheet.specs.WellFormed.{Item, write, write_item, IsBytes, kind_at, payload_at, Holds, WellFormed}
use Rattle.sheet.specs.Claims.{AcceptedExactly, ProgramOfRecords, RefusedExactly, OneFault, NoFault, OnlyThreeOrFour, WellFormedIsGood, ArgumentsExactly}
use Rattle.sheet.proofs.KindLaws.{no_kind-is}
use Rattle.sheet.proofs.Explains.{explained}
use Rattle.sheet.proofs.ToSheet.{well_formed_good, well_formed_accepted}
use Rattle.sheet.proofs.FromSheet.{good_well_formed, accepted_well_formed}
use Rattle.sheet.proofs.Programs as P
use Rattle.sheet.proofs.Faults.{fault_refused, refused_fault, few_stop}
use Rattle.sheet.proofs.ArgumentsExact.{arguments_exact}
use Rattle.sheet.specs.Proved.{Proved}

-- WHAT IS WRITTEN IS BYTES

bytes-append : (a b : Bytes) → IsBytes a → IsBytes b → IsBytes (a ++ b)
bytes-append [] b x y i = y i
bytes-append (c ∷ a) b x y zero = x 0
bytes-append (c ∷ a) b x y (suc i) = bytes-append a b (λ j. x (suc j)) y i

bytes-item : (c : Item) → IsBytes c.payload → length c.payload < 65536 → c.kind < 65536 → IsBytes (write_item c)
unfolding write_item words
bytes-item c b l k zero = omega arith
bytes-item c b l k (suc zero) = omega arith
bytes-item c b l k (suc (suc zero)) = omega arith
bytes-item c b l k (suc (suc (suc zero))) = omega arith
bytes-item c b l k (suc (suc (suc (suc i)))) = b i

bytes-write : (rs : List Item) → ((r : ℕ) → r < length rs → IsBytes (payload_at rs r) × (length (payload_at rs r) < 65536) × (kind_at rs r < 65536)) → IsBytes (write rs)
unfolding write
bytes-write [] h i = omega arith
bytes-write (c ∷ cs) h i =
    let a = h 0 (omega arith) in
    bytes-append (write_item c) (write cs) (bytes-item c a.0 a.1 a.2) (bytes-write cs (λ r l. h (suc r) (omega arith))) i

short-payload : (rs : List Item) (r : ℕ) (sh : Shape) → Holds rs r sh → length (payload_at rs r) < 65536
short-payload rs r no_kind h = absurd h
short-payload rs r text h = omega arith
short-payload rs r nothing h = omega arith
short-payload rs r (one a) h = omega (arith, h.0)
short-payload rs r (two a b) h = omega (arith, h.0)
short-payload rs r (three a b c) h = omega (arith, h.0)

low-kind : (rs : List Item) (r : ℕ) → Holds rs r (shape (kind_at rs r)) → kind_at rs r < 65536
low-kind rs r h = go (dec_le 34 (kind_at rs r))
  where
    go : Dec (34 ≤ kind_at rs r) → kind_at rs r < 65536
    go (yes l) =
        absurd (subst (Holds rs r)
        (no_kind-is (kind_at rs r) (λ a b. omega arith) (λ a b. omega arith) (λ a. omega arith) (λ a. omega arith)) h)
    go (no l) = omega arith

pub written-bytes : (rs : List Item) → WellFormed rs → IsBytes (write rs)
written-bytes rs f =
    bytes-write rs
    (λ r l. (f.bytes r l, short-payload rs r (shape (kind_at rs r)) (f.holds r l), low-kind rs r (f.holds r l)))

-- THE CLAIMS

pub accepted-exactly : AcceptedExactly
accepted-exactly = (accepted_well_formed, λ rs f. (written-bytes rs f, well_formed_accepted rs f))

pub program_of_records_lem : ProgramOfRecords
program_of_records_lem = P.program_of_records_lem

pub refused-exactly : RefusedExactly
refused-exactly s k p b = (refused_fault s k p b, fault_refused s k p b)

pub one_fault_lem : OneFault
one_fault_lem s m n p q b x y =
    let e : refused m p ≡ refused n q = sym (fault_refused s m p b x) ∙ fault_refused s n q b y in
    let f : m ≡ n = cc in
    let g : p ≡ q = cc in
    (f, g)

pub no_fault_lem : NoFault
no_fault_lem rs k p f x =
    let e = sym (well_formed_accepted rs f).accepts ∙ fault_refused (write rs) k p (written-bytes rs f) x in
    let z : ◌≡◌ {A = ℕ} 0 1 = cc in
    absurd (omega arith)

number_stop : {s : Bytes} {n k : ℕ} → Stops s n k → (k ≡ 3) ⊎ (k ≡ 4)
number_stop (stop.too_many e l) = inl refl
number_stop (stop.after_main room l m) = inr refl
number_stop (stop.a_fault room l m e) = inr refl
number_stop (stop.over_full room l m e) = inl refl
number_stop (stop.main_missing few l m) = inr refl

explained_number : (s : Bytes) (a : Checked) → Explained s a → (k p : ℕ) → a ≡ refused k p → ((k ≡ 3) ⊎ (k ≡ 4)) × (p ≤ 512)
explained_number s a (stop.too_long h) k p e = let x : k ≡ 3 = cc in let y : p ≡ 0 = cc in (inl x, omega arith)
explained_number s a (stop.stops {number = j} {n = n} short passes w) k p e =
    let x : j ≡ k = cc in
    let y : n ≡ p = cc in
    let l = few_stop w in
    (subst (λ (i : ℕ). (i ≡ 3) ⊎ (i ≡ 4)) x (number_stop w), omega arith)
explained_number s a (stop.accepts short few passes l m) k p e = let z : ◌≡◌ {A = ℕ} 0 1 = cc in absurd (omega arith)

pub only_three_or_four_lem : OnlyThreeOrFour
only_three_or_four_lem s k p e = explained_number s (check s) (explained s) k p e

pub well_formed_is_good_lem : WellFormedIsGood
well_formed_is_good_lem rs = (λ f. (well_formed_good rs f, f.short, f.main), good_well_formed rs)

pub arguments-exactly : ArgumentsExactly
arguments-exactly = arguments_exact

-- ALL OF THEM

pub proved : Proved
proved = record {
  accepted_exactly = accepted-exactly;
  program_of_records = program_of_records_lem;
  refused_exactly = refused-exactly;
  one_fault = one_fault_lem;
  no_fault = no_fault_lem;
  only_three_or_four = only_three_or_four_lem;
  well_formed_is_good = well_formed_is_good_lem;
  arguments_exactly = arguments-exactly;
}
