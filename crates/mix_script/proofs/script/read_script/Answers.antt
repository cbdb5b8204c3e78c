use Rattle.std.proofs.lemmas.Result.{IfOk-weaker}
use Rattle.mix_script.proofs.PlainSteps.{plain_steps}
use Rattle.mix_script.proofs.script.read_script.Goals as goal

pub returns-clause-plain : goal.returns-clause-plain
returns-clause-plain c = IfOk-weaker c.read_steps.result _ _ (λ steps e. plain_steps c.args.text.now steps.items e) c.read_steps.ensures.steps
