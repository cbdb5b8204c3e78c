use Rattle.mix_script.proofs.Selecting.{selects_spelled}
use Rattle.mix_script.proofs.law.selects_are_spelled.Goals as goal

pub returns : goal.returns
returns c = selects_spelled
