use Rattle.std.proofs.Common.{length, ◌∙◌, ap, arith}
use Rattle.plan_core.specs.PlanMade.{op_of, plan_value}
use Rattle.plan_forms.specs.Forms.{shown_by}
use Rattle.plan_forms.proofs.Lasts.{valid_ends, valid_some, last_at, last_is, last_shown}
use Rattle.plan_forms.proofs.forms.last.Goals as goal

pub ending-op-requires : goal.ending-op-requires
ending-op-requires c = valid_some (plan_value c.args.plan.now) c.requires

pub bounds-shown_in-0 : goal.bounds-shown_in-0
bounds-shown_in-0 c = let l = ap length (c.shown_in.ensures ∙ ap shown_by (c.ending-op.ensures ∙ last_at (plan_value c.args.plan.now) c.requires)) in omega (arith, l)

pub returns : goal.returns
returns c =
    last_shown (plan_value c.args.plan.now).ops (op_of c.ending-op.result.now) (valid_ends (plan_value c.args.plan.now) c.requires).input (valid_ends (plan_value c.args.plan.now) c.requires).element
    c.input_in.result c.index-shown_in-0.result c.shown_in.result.now (c.ending-op.ensures ∙ last_at (plan_value c.args.plan.now) c.requires) c.input_in.ensures c.shown_in.ensures c.index-shown_in-0.is
    (last_is (plan_value c.args.plan.now) c.requires (c.valid_plans_are_typed.ensures (plan_value c.args.plan.now) c.requires))
