use Rattle.text_senses.proofs.Deciding.{senses}
use Rattle.text_senses.proofs.law.texts_have_senses.Goals as goal

pub returns : goal.returns
returns c = senses c.followed_are_named.ensures c.visited_are_matches.ensures
