use Rattle.plan_written.proofs.ReadAgain.{views_again}
use Rattle.plan_written.proofs.law.plans_of_views_are_read_again.Goals as goal

pub returns : goal.returns
returns c = views_again c.written_plans_are_read.ensures c.plans_of_views_are_writable.ensures c.rewriting_keeps_validity.ensures
