use Rattle.lazy_follow.proofs.LeadsFollowed.{followed_are_named}
use Rattle.lazy_follow.proofs.law.followed_are_named.Goals as goal

pub returns : goal.returns
returns c = followed_are_named c.tolled_is_document.ensures
