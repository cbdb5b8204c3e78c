use Rattle.plan_uses.proofs.Views.{views_use}
use Rattle.plan_uses.proofs.law.plans_of_views_use_what_is_held.Goals as goal

pub returns : goal.returns
returns c = views_use
