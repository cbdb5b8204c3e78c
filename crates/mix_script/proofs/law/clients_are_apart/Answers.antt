use Rattle.mix_script.proofs.Apart.{clients_apart}
use Rattle.mix_script.proofs.law.clients_are_apart.Goals as goal

pub returns : goal.returns
returns c = clients_apart
