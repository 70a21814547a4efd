use mathlib.Core.Path.{sym, ◌∙◌, ap}
use native.Mathlib.Omega.{arith}
use Prim.Native.Nat.{ℕ, ◌+◌}
use lib.ListN.{length}
use Rattle.sheet.specs.Check.{known}
use Rattle.sheet.proofs.Judged.{slots-count}
use Rattle.sheet.proofs.Entered.{entering_other, entering_old, entering_new, entering_earlier, entering_short, entering_room, kept-count, kept_table, kept-slots, new_count, new_table, new_slots}
use Rattle.sheet.proofs.enter_variable.Goals as goal

pub returns-then-not-names_variable : goal.returns-then-not-names_variable
returns-then-not-names_variable c =
    let s = c.args.sheet.now in
    let K = known s c.args.c.records in
    let count = slots-count c.requires.ready in
    let kept = entering_other s K c.args.kind c.args.slot c.args.r c.args.c.slots c.requires.entering count (sym c.names_variable.ensures ∙ c.if-not-names_variable.true) in
    record {
      value = count ∙ sym (kept-count s K kept);
      table_after = kept_table s K c.args.table.now kept;
      slots_after = kept-slots s K c.args.slots.now kept;
    }

pub returns-then-slot-count : goal.returns-then-slot-count
returns-then-slot-count c =
    let s = c.args.sheet.now in
    let K = known s c.args.c.records in
    let count = slots-count c.requires.ready in
    let kept = entering_old s K c.args.kind c.args.slot c.args.r c.args.c.slots c.requires.entering count (sym c.names_variable.ensures ∙ c.if-not-names_variable.false) (omega arith) in
    record {
      value = count ∙ sym (kept-count s K kept);
      table_after = kept_table s K c.args.table.now kept;
      slots_after = kept-slots s K c.args.slots.now kept;
    }

pub payload-name-requires : goal.payload-name-requires
payload-name-requires c = entering_earlier c.requires.ready c.requires.entering (sym c.names_variable.ensures ∙ c.if-not-names_variable.false)

pub start-requires : goal.start-requires
start-requires c = entering_earlier c.requires.ready c.requires.entering (sym c.names_variable.ensures ∙ c.if-not-names_variable.false)

pub put_span-requires : goal.put_span-requires
put_span-requires c =
    let m = entering_room c.requires.ready c.requires.entering (sym c.names_variable.ensures ∙ c.if-not-names_variable.false) (omega (arith, c.if-slot-count.false)) in
    let z = entering_short c.requires.ready c.requires.entering (sym c.names_variable.ensures ∙ c.if-not-names_variable.false) c.payload-name.result.now c.payload-name.ensures in
    omega (arith, (c.requires.ready.held.lies c.args.r (entering_earlier c.requires.ready c.requires.entering (sym c.names_variable.ensures ∙ c.if-not-names_variable.false))).room, c.requires.ready.held.small, c.start.ensures)

pub put_name-requires : goal.put_name-requires
put_name-requires c = ((let m = entering_room c.requires.ready c.requires.entering (sym c.names_variable.ensures ∙ c.if-not-names_variable.false) (omega (arith, c.if-slot-count.false)) in omega arith), entering_short c.requires.ready c.requires.entering (sym c.names_variable.ensures ∙ c.if-not-names_variable.false) c.payload-name.result.now c.payload-name.ensures, c.requires.ready.held.room)

pub returns : goal.returns
returns c =
    let s = c.args.sheet.now in
    let K = known s c.args.c.records in
    let i = c.args.c.slots in
    let r = c.args.r in
    let count = slots-count c.requires.ready in
    let names = sym c.names_variable.ensures ∙ c.if-not-names_variable.false in
    let fresh = entering_new s K c.args.kind c.args.slot r i c.requires.entering count names (omega arith) in
    let name = c.payload-name in
    record {
      value = ap (λ (k : ℕ). k + 1) count ∙ new_count s K fresh;
      table_after = c.put_name.ensures ∙ new_table s K c.args.table.now i r name.result.now fresh count c.requires.entering.named_is name.ensures;
      slots_after =
          c.put_span.ensures
          ∙ new_slots s K c.args.slots.now i r c.start.result (length name.result.now) fresh count c.requires.entering.named_is c.start.ensures (ap length name.ensures);
    }
