use Rattle.mix_serve.proofs.Joined.{replied_join}
use Rattle.mix_serve.proofs.laws.pieces_are_answered_as_one.Goals as goal

pub returns : goal.returns
returns c = replied_join
