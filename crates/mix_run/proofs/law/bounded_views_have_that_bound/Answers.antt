use Rattle.mix_run.proofs.Bounded.{bounded_views}
use Rattle.mix_run.proofs.law.bounded_views_have_that_bound.Goals as goal

pub returns : goal.returns
returns c = bounded_views c.plan_is_valid.ensures c.rewriting_keeps_validity.ensures c.bounded_plans_have_that_bound.ensures
