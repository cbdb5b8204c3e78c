use Rattle.mix_serve.proofs.Apart.{ends_apart}
use Rattle.mix_serve.proofs.laws.ends_are_apart.Goals as goal

pub returns : goal.returns
returns c = ends_apart
