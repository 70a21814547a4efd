use Rattle.sheet.proofs.ArgumentLaws.{Reading}
use Rattle.sheet.proofs.texts.read_texts.Given as goal

abbrev pub invariant-loop-n : goal.invariant-loop-n
invariant-loop-n l = Reading l.sheet l.n l.at
