use Rattle.plan_class.proofs.RunSteps.{level_found, level_passed}
use Rattle.plan_class.proofs.runs.level_at.Goals as goal

pub returns-then-left-run : goal.returns-then-left-run
returns-then-left-run c = level_found c.args.runs.now c.runs.run-index _ c.runs-test.true c.runs.left c.args.rest _ c.if-left-run.true c.runs.invariant

pub runs-preserved : goal.runs-preserved
runs-preserved c = level_passed c.args.runs.now c.runs.run-index _ c.runs-test.true c.runs.left c.args.rest _ c.if-left-run.false c.runs.invariant
