use Rattle.std.proofs.Common.{◌∙◌, ap}
use Rattle.lxp_remote.specs.Known.{weight_in}
use Rattle.lxp_remote.proofs.known.KnownHoles.weight.Goals as goal

pub returns : goal.returns
returns c = c.copied.ensures ∙ c.get.ensures.value ∙ ap (λ es. weight_in es c.args.hole) c.self.view_is
