use Rattle.mix_script.proofs.Texting.{texts_spelled}
use Rattle.mix_script.proofs.law.texts_are_spelled.Goals as goal

pub returns : goal.returns
returns c = texts_spelled
