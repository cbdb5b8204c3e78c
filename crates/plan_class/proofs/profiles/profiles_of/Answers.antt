use Rattle.plan_core.specs.PlanMade.{plan_value}
use Rattle.plan_class.proofs.ProfilesAre.{profiles_are}
use Rattle.plan_class.proofs.profiles.profiles_of.Goals as goal

pub returns : goal.returns
returns c =
    let plan = plan_value c.args.plan.now in
    profiles_are c.args.shapes.now plan c.requires (c.valid_plans_are_typed.ensures plan c.requires) c.in_ok-profiles.profiles c.in_ok-profiles.ensures
