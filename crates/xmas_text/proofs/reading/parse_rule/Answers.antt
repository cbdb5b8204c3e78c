use Rattle.xmas_text.proofs.Answering.{answers_tree, answers_named}
use Rattle.xmas_text.proofs.reading.parse_rule.Goals as goal

pub returns-in-Ok-clause-only : goal.returns-in-Ok-clause-only
returns-in-Ok-clause-only c = λ v. answers_tree c.args.text.now c.read.result v c.read.ensures

pub returns-in-Ok-clause-named : goal.returns-in-Ok-clause-named
returns-in-Ok-clause-named c = answers_named c.args.text.now c.read.result c.read.ensures
