use native.Mathlib.Omega.{arith}
use mathlib.Core.Path.{◌∙◌}
use borrow.Author.Tests.{lt-ltb}
use Rattle.sheet.specs.Check.{function_names}
use Rattle.sheet.specs.Earlier.{known_in}
use Rattle.sheet.proofs.Records.{place_here, place-more, listed-earlier, listed-inside, listed_same}
use Rattle.sheet.proofs.earlier.Earlier.find_function.Goals as goal

pub payload-requires : goal.payload-requires
payload-requires c = listed-earlier _ _ _ c.requires.listed c.loop-i.i _ (omega arith) c.number_at-r.ensures.0

pub returns-then-eq : goal.returns-then-eq
returns-then-eq c =
    let inside = listed-inside _ _ _ c.requires.listed c.loop-i.i _ (omega arith) c.number_at-r.ensures.0 in
    let same = listed_same _ _ _ c.requires.listed c.loop-i.i _ (omega arith) c.number_at-r.ensures.0 _ c.args.name.now _ c.payload.ensures c.eq.ensures in
    let is = c.loop-i.invariant ∙ place_here c.args.name.now (function_names (known_in c.args.self)) c.loop-i.i inside (same ∙ c.if-eq.true) in
    rw (is, lt-ltb c.loop-i.i c.args.count c.loop-i-test.true)

pub loop-i-preserved : goal.loop-i-preserved
loop-i-preserved c =
    let inside = listed-inside _ _ _ c.requires.listed c.loop-i.i _ (omega arith) c.number_at-r.ensures.0 in
    let same = listed_same _ _ _ c.requires.listed c.loop-i.i _ (omega arith) c.number_at-r.ensures.0 _ c.args.name.now _ c.payload.ensures c.eq.ensures in
    c.loop-i.invariant ∙ place-more c.args.name.now (function_names (known_in c.args.self)) c.loop-i.i inside (same ∙ c.if-eq.false)
