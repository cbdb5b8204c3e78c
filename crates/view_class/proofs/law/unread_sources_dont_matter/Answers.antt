use Rattle.view_class.proofs.Unread.{unread_dont_matter}
use Rattle.view_class.proofs.law.unread_sources_dont_matter.Goals as goal

pub returns : goal.returns
returns c = unread_dont_matter
