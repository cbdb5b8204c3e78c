use Rattle.plan_read.specs.Results.{answer_of}
use Rattle.plan_read.proofs.Only.{same_answers}
use Rattle.plan_read.proofs.reading.read_plan.Goals as goal

pub returns : goal.returns
returns c = record {
  answers = c.plan_of.ensures;
  only = λ other h. same_answers c.args.text.now c.args.catalog.now (answer_of c.plan_of.result) other c.plan_of.ensures h;
}
