use native.Mathlib.Omega.{arith}
use Rattle.text.proofs.Ends.{fitted}
use Rattle.text.proofs.Names.{named-below, size_room, name-room, name-short, name-is}
use Rattle.text.proofs.name.Names.write.Goals as goal

pub start-from-requires : goal.start-from-requires
start-from-requires c =
    let names = c.args.self.now.tabled in
    (named-below names c.requires.1 c.requires.2 c.name_of-named.ensures, names.room)

pub part-requires : goal.part-requires
part-requires c =
    let names = c.args.self.now.tabled in
    let named = c.name_of-named.ensures in
    record {
      r_bound = (named-below names c.requires.1 c.requires.2 named, names.room);
      d_bound = (omega arith, omega (arith, size_room names c.requires.1 c.requires.2 named));
    }

pub overflow_add-to : goal.overflow_add-to
overflow_add-to c =
    let names = c.args.self.now.tabled in
    let room = name-room names c.requires.1 c.requires.2 c.name_of-named.ensures c.start-from.ensures.0 c.part.ensures in
    omega (arith, room.1, c.start-from.ensures.1)

pub slice_bounds-word-end : goal.slice_bounds-word-end
slice_bounds-word-end c =
    let names = c.args.self.now.tabled in
    omega (arith, (name-room names c.requires.1 c.requires.2 c.name_of-named.ensures c.start-from.ensures.0 c.part.ensures).0)

pub word-requires : goal.word-requires
word-requires c =
    let names = c.args.self.now.tabled in
    omega (arith, name-short names c.requires.1 c.requires.2 c.name_of-named.ensures c.start-from.ensures.0 c.part.ensures)

pub returns : goal.returns
returns c =
    let names = c.args.self.now.tabled in
    let short = name-short names c.requires.1 c.requires.2 c.name_of-named.ensures c.start-from.ensures.0 c.part.ensures in
    rw (← (name-is names c.requires.1 c.requires.2 c.name_of-named.ensures c.start-from.ensures.0 c.part.ensures))
    (fitted c.word.ensures (omega (arith, c.word.ensures.written.end, short)))
