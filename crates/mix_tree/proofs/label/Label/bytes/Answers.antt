use Rattle.std.proofs.Common.{subst}
use Rattle.mix_tree.specs.LabelText.{IsText}
use Rattle.mix_tree.proofs.label.Label.bytes.Goals as goal

pub returns-in-Short-clause-utf8 : goal.returns-in-Short-clause-utf8
returns-in-Short-clause-utf8 c = (subst IsText c.in-Short.is c.self.invariant).1
