use Rattle.std.proofs.Common.{◌∙◌, List, [], ◌∷◌, ◌++◌, ap}
use Rattle.browse_profile.specs.declared.profile.Profile.{Profile}
use Rattle.plan_class.specs.Runs.{levels_of}
use Rattle.plan_class.proofs.RunSteps.{run_after}
use Rattle.plan_class.proofs.runs.Runs.push.Goals as goal

pub returns : goal.returns
returns c =
    ap levels_of c.in_ok-push.ensures.items
    ∙ run_after c.self.inside.runs.items ((record { level = c.args.level; more = 0 }) ∷ [])
    ∙ ap (λ (ps : List Profile). ps ++ c.args.level ∷ []) c.self.view_is
