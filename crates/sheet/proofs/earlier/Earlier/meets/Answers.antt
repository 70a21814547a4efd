use mathlib.Core.Path.{◌∙◌}
use Rattle.sheet.proofs.Records.{meets-name, meets-string, meets-list, meets-instruction}
use Rattle.sheet.proofs.earlier.Earlier.meets.Goals as goal

pub returns-in-Name : goal.returns-in-Name
returns-in-Name c = rw c.in-Name.is (c.named.ensures ∙ meets-name c.args.self.sheet.now c.args.self.records c.args.r)

pub returns-in-Text : goal.returns-in-Text
returns-in-Text c = rw c.in-Text.is (c.sorted.ensures ∙ meets-string c.args.self.sheet.now c.args.self.records c.args.r)

pub returns-in-List : goal.returns-in-List
returns-in-List c = rw c.in-List.is (c.sorted-in-List.ensures ∙ meets-list c.args.self.sheet.now c.args.self.records c.args.r)

pub returns-in-Instruction : goal.returns-in-Instruction
returns-in-Instruction c = rw c.in-Instruction.is (c.sorted-in-Instruction.ensures ∙ meets-instruction c.args.self.sheet.now c.args.self.records c.args.r)
