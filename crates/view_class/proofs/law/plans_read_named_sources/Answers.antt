use Rattle.view_class.proofs.Sourced.{reads_named}
use Rattle.view_class.proofs.law.plans_read_named_sources.Goals as goal

pub returns : goal.returns
returns c = reads_named
