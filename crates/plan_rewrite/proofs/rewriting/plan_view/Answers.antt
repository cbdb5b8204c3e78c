use Rattle.std.proofs.Common.{◌∙◌, map, sym}
use Rattle.std.proofs.lemmas.Result.{IfOk-weaker}
use Rattle.plan_core.specs.PlanMade.{op_of}
use Rattle.plan_core.specs.declared.plan.Plan.{Plan}
use Rattle.plan_make.specs.Law.{MeansRule}
use Rattle.plan_rewrite.specs.Law.{SameDocument}
use Rattle.xmas_rule.specs.RuleMade.{rule_of}
use Rattle.plan_rewrite.proofs.rewriting.plan_view.Goals as goal

pub returns-clause-document : goal.returns-clause-document
returns-clause-document c =
    let ops = map op_of c.in_ok-plan.plan.ops.items in
    IfOk-weaker c.rewrite.result (λ (q : Plan). SameDocument (map op_of q.ops.items) ops) (λ (q : Plan). MeansRule (map op_of q.ops.items) (rule_of c.args.rule.now))
    (λ q same world t matches.
    let means = c.in_ok-plan.ensures.document world t matches in (
      (λ finished. same world ∙ means.0 finished),
      (λ is. means.1 (sym (same world) ∙ is)),
    ))
    c.rewrite.ensures.document
