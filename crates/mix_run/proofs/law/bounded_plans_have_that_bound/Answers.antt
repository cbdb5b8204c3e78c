use Rattle.mix_run.proofs.Bounded.{bounded_plans}
use Rattle.mix_run.proofs.law.bounded_plans_have_that_bound.Goals as goal

pub returns : goal.returns
returns c = bounded_plans c.tolls_are_bounded.ensures c.sources_are_laid.ensures.files c.sources_are_laid.ensures.tables c.unread_sources_dont_matter.ensures
