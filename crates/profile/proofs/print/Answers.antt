use native.Mathlib.Omega.{arith}
use mathlib.Core.Path.{ap}
use lib.ListN.{length}
use Rattle.bundle.specs.Promise.{contents_at}
use Rattle.bundle.proofs.Telling.{none-told, parts-told}
use Rattle.text.proofs.Ends.{wrote_front}
use Rattle.profile.specs.Lines.{bundle_line}
use Rattle.profile.proofs.Telling.{no_bundle_lem, worked, readable_lem, prints_profile, prints_refusal}
use Rattle.profile.proofs.print.Goals.{in-Ok, in-Err}
use Rattle.profile.proofs.print.Goals as goal

pub returns-in_default : goal.returns-in_default
unfolding bundle_line
returns-in_default c =
    no_bundle_lem (none-told c.args.bytes c.in_default.is c.read.ensures) (omega arith)
    (wrote_front c.word.ensures c.new-page.ensures.bytes c.new-page.ensures.front)

pub profile-requires : goal.profile-requires
profile-requires c =
    let k = contents_at c.in-Some.parts in (
      omega (arith, c.new-page.ensures.front, ap length c.new-page.ensures.bytes),
      omega (arith, worked k (omega arith) (omega arith) c.run.ensures),
      readable_lem k (omega arith) (omega arith) c.run.ensures c.in-Ok.is,
    )

pub returns : goal.returns
returns c =
    let k = contents_at c.in-Some.parts in
    let held = (parts-told c.args.bytes c.in-Some.is c.read.ensures).contents in
    elim c.match-run.branch [
      | in-Ok w ↦
          rw (w.work-is, w.page-is)
          (prints_profile k (omega arith) (omega arith) c.run.ensures w.in-Ok.is held
          (wrote_front w.profile.ensures.text.wrote c.new-page.ensures.bytes c.new-page.ensures.front)
          (omega (arith, w.profile.ensures.text.short)) w.profile.ensures.work)
      | in-Err w ↦
          rw (w.work-is, w.page-is)
          (prints_refusal k (omega arith) (omega arith) c.run.ensures w.in-Err.is held
          (wrote_front w.refused.ensures.wrote c.new-page.ensures.bytes c.new-page.ensures.front)
          (omega (arith, w.refused.ensures.short)))
    ]
