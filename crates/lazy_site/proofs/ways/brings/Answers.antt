use Rattle.std.proofs.Common.{◌∙◌, sym, ap}
use Rattle.std.specs.Prelude.{◌==◌}
use Rattle.plan_core.specs.PlanMade.{op_of, plan_value}
use Rattle.plan_core.specs.Valid.{kinds, a_node, an_element, a_list}
use Rattle.plan_forms.proofs.Binding.{bound_at, bound_out}
use Rattle.lazy_site.proofs.Passing.{bound_either}
use Rattle.lazy_site.proofs.ways.brings.Goals as goal

pub returns-in-GetDescendants : goal.returns-in-GetDescendants
returns-in-GetDescendants c = λ h.
    bound_at (plan_value c.args.plan.now).ops c.requires.typed c.args.op c.requires.op _ (ap op_of (sym c.in-GetDescendants.is) ∙ c.operator.ensures) c.args.v _
    (bound_out (c.in-GetDescendants.out == c.args.v) _ a_node (kinds (plan_value c.args.plan.now).ops c.in-GetDescendants.input c.args.v) c.eq.ensures h)

pub returns-in-Join : goal.returns-in-Join
returns-in-Join c = λ h.
    bound_at (plan_value c.args.plan.now).ops c.requires.typed c.args.op c.requires.op _ (ap op_of (sym c.in-Join.is) ∙ c.operator.ensures) c.args.v _
    (bound_either _ (kinds (plan_value c.args.plan.now).ops c.in-Join.left c.args.v) (kinds (plan_value c.args.plan.now).ops c.in-Join.right c.args.v) (rw c.deref.ensures.value at c.binds.ensures) h)

pub returns-in-Concatenate : goal.returns-in-Concatenate
returns-in-Concatenate c = λ h.
    bound_at (plan_value c.args.plan.now).ops c.requires.typed c.args.op c.requires.op _ (ap op_of (sym c.in-Concatenate.is) ∙ c.operator.ensures) c.args.v _
    (bound_out (c.in-Concatenate.out == c.args.v) _ a_list (kinds (plan_value c.args.plan.now).ops c.in-Concatenate.input c.args.v) c.eq-in-Concatenate.ensures h)

pub returns-in-CreateElement : goal.returns-in-CreateElement
returns-in-CreateElement c = λ h.
    bound_at (plan_value c.args.plan.now).ops c.requires.typed c.args.op c.requires.op _ (ap op_of (sym c.in-CreateElement.is) ∙ c.operator.ensures) c.args.v _
    (bound_out (c.in-CreateElement.out == c.args.v) _ an_element (kinds (plan_value c.args.plan.now).ops c.in-CreateElement.input c.args.v) c.eq-in-CreateElement.ensures h)
