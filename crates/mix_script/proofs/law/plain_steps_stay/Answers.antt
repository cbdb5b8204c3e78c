use Rattle.mix_script.proofs.PlainSteps.{plain_stay}
use Rattle.mix_script.proofs.law.plain_steps_stay.Goals as goal

pub returns : goal.returns
returns c = plain_stay
