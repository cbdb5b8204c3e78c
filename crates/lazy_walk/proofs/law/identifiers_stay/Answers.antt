use Rattle.lazy_walk.proofs.Placing.{nodes_stay}
use Rattle.lazy_walk.proofs.law.identifiers_stay.Goals as goal

pub returns : goal.returns
returns c = λ a b k. nodes_stay a b k
