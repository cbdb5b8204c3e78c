use Rattle.mix_load.proofs.Visiting.{lets_plain, taken}
use Rattle.mix_load.specs.Visit.{meaning_of}
use Rattle.mix_load.proofs.visit.Visitor.take.Goals as goal

pub returns-clause-answer : goal.returns-clause-answer
returns-clause-answer c = λ t places on. taken c.args.self.now _ _ _ _ c.requires.plain c.in_ok-label.ensures c.in_ok-answer.ensures.came c.in_ok-answer.ensures.stepped t places on

pub step-answered-requires-clause-lets : goal.step-answered-requires-clause-lets
step-answered-requires-clause-lets c = lets_plain (meaning_of c.args.self.now).course c.args.act c.requires.plain
