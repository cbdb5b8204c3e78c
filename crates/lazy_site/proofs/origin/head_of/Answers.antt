use Rattle.std.proofs.Common.{◌∙◌, ap}
use Rattle.plan_core.specs.declared.plan.Plan.{Plan}
use Rattle.plan_core.specs.PlanMade.{plan_value}
use Rattle.lazy_plan.specs.Bench.{state_of}
use Rattle.plan_forms.specs.Forms.{piece_at}
use Rattle.lazy_site.proofs.Heads.{leaf_head}
use Rattle.lazy_site.proofs.origin.head_of.Goals as goal

pub returns-in-LabelOf : goal.returns-in-LabelOf
returns-in-LabelOf c = λ view h i. leaf_head (state_of view c.args.bench.now) c.args.from.now.op c.args.from.now.next c.args.input c.args.from.now.at.now c.piece.result.now c.in-LabelOf.v
    (c.piece.ensures ∙ ap (λ (p : Plan). piece_at (plan_value p).ops c.args.from.now.op c.args.from.now.next) c.plan.ensures) c.requires.input c.node_of-source.result.0 c.node_of-source.result.1 c.in-LabelOf.is
    (c.node_of-source.ensures view h i)
