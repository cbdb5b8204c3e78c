use Rattle.std.proofs.Common.{◌≡◌, ◌∙◌, ap}
use Rattle.std.proofs.lemmas.Result.{IfOk-weaker}
use Rattle.browse_class.specs.declared.class.Class.{Class}
use Rattle.browse_class.specs.Classes.{class_in}
use Rattle.browse_visit.specs.Shapes.{shapes_of}
use Rattle.plan_core.specs.PlanMade.{plan_value}
use Rattle.xmas_rule.specs.RuleMade.{rule_of}
use Rattle.mix_load.specs.Classing.{names_class}
use Rattle.mix_load.proofs.Shapes.{names_class_is}
use Rattle.mix_load.proofs.classing.names_class.Goals as goal

pub returns : goal.returns
returns c =
    let plan = plan_value c.in_ok-plan.plan in
    let at = ap shapes_of c.deref.ensures.value ∙ c.in_ok-people_shapes.ensures in
    let is = names_class_is (shapes_of c.deref.result.now) plan (rule_of c.in_ok-rule.rule) _ at c.in_ok-plan.ensures.made c.in_ok-rule.ensures.rule in
    IfOk-weaker c.class_of.result (λ (k : Class). k ≡ class_in (shapes_of c.deref.result.now) plan.ops) (λ (k : Class). k ≡ names_class) (λ k e. e ∙ is) c.class_of.ensures
