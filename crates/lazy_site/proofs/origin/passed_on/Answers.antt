use Rattle.std.proofs.Common.{◌∙◌, sym, ap}
use Rattle.plan_core.specs.PlanMade.{op_of, plan_value}
use Rattle.lazy_site.proofs.Numbering.{kind_of}
use Rattle.lazy_site.proofs.Passing.{passed_visit, passed_select, passed_order, passed_list, passed_element, passed_but_right, passed_right, all_visit, all_list, all_element, all_left, all_right, made_source, made_visit, made_project, made_group, none_bound}
use Rattle.lazy_site.proofs.origin.passed_on.Goals as goal

pub returns-in-TupleDestroy-clause-value : goal.returns-in-TupleDestroy-clause-value
returns-in-TupleDestroy-clause-value c = absurd (none_bound _ _ (kind_of (plan_value c.args.plan.now).ops c.requires.typed c.args.op c.requires.op _ (ap op_of (sym c.in-TupleDestroy.is) ∙ c.operator.ensures) c.args.v) c.requires.kind.1)

pub returns-in-Source-clause-value : goal.returns-in-Source-clause-value
returns-in-Source-clause-value c = made_source c.args.plan.now c.requires.typed c.args.op c.requires.op c.args.v c.in-Source.source c.in-Source.out (ap op_of (sym c.in-Source.is) ∙ c.operator.ensures) c.requires.kind

pub returns-then-eq-clause-value : goal.returns-then-eq-clause-value
returns-then-eq-clause-value c = made_visit c.args.plan.now c.requires.typed c.args.op c.requires.op c.args.v c.in-GetDescendants.input c.in-GetDescendants.start c.in-GetDescendants.path c.in-GetDescendants.out (ap op_of (sym c.in-GetDescendants.is) ∙ c.operator.ensures) (sym c.eq.ensures ∙ c.if-eq.true)

pub returns-else-eq-clause-value : goal.returns-else-eq-clause-value
returns-else-eq-clause-value c = passed_visit c.args.plan.now c.requires.typed c.args.op c.requires.op c.args.v c.in-GetDescendants.input c.in-GetDescendants.start c.in-GetDescendants.path c.in-GetDescendants.out (ap op_of (sym c.in-GetDescendants.is) ∙ c.operator.ensures) (sym c.eq.ensures ∙ c.if-eq.false)

pub returns-in-Select-clause-value : goal.returns-in-Select-clause-value
returns-in-Select-clause-value c = passed_select c.args.plan.now c.requires.typed c.args.op c.requires.op c.args.v c.in-Select.input c.in-Select.test (ap op_of (sym c.in-Select.is) ∙ c.operator.ensures)

pub returns-then-binds-clause-value : goal.returns-then-binds-clause-value
returns-then-binds-clause-value c = passed_right c.args.plan.now c.requires.typed c.args.op c.requires.op c.args.v c.requires.valid c.in-Join.left c.in-Join.right c.in-Join.tests.items (ap op_of (sym c.in-Join.is) ∙ c.operator.ensures) (sym c.if-binds.true ∙ rw c.deref.ensures.value at c.binds.ensures)

pub returns-else-binds-clause-value : goal.returns-else-binds-clause-value
returns-else-binds-clause-value c = passed_but_right c.args.plan.now c.requires.typed c.args.op c.requires.op c.args.v c.in-Join.left c.in-Join.right c.in-Join.tests.items (ap op_of (sym c.in-Join.is) ∙ c.operator.ensures) (sym c.if-binds.false ∙ rw c.deref.ensures.value at c.binds.ensures) c.requires.kind

pub returns-in-Project-clause-value : goal.returns-in-Project-clause-value
returns-in-Project-clause-value c = made_project c.args.plan.now c.requires.typed c.args.op c.requires.op c.args.v c.in-Project.input c.in-Project.keys.items (ap op_of (sym c.in-Project.is) ∙ c.operator.ensures) c.requires.kind

pub returns-in-GroupBy-clause-value : goal.returns-in-GroupBy-clause-value
returns-in-GroupBy-clause-value c = made_group c.args.plan.now c.requires.typed c.args.op c.requires.op c.args.v c.in-GroupBy.input c.in-GroupBy.keys.items c.in-GroupBy.piece c.in-GroupBy.out (ap op_of (sym c.in-GroupBy.is) ∙ c.operator.ensures) c.requires.kind

pub returns-in-OrderBy-clause-value : goal.returns-in-OrderBy-clause-value
returns-in-OrderBy-clause-value c = passed_order c.args.plan.now c.requires.typed c.args.op c.requires.op c.args.v c.in-OrderBy.input c.in-OrderBy.var c.in-OrderBy.desc (ap op_of (sym c.in-OrderBy.is) ∙ c.operator.ensures)

pub returns-else-eq-2-clause-value : goal.returns-else-eq-2-clause-value
returns-else-eq-2-clause-value c = passed_list c.args.plan.now c.requires.typed c.args.op c.requires.op c.args.v c.in-Concatenate.input c.in-Concatenate.pieces.items c.in-Concatenate.out (ap op_of (sym c.in-Concatenate.is) ∙ c.operator.ensures) (sym c.eq-in-Concatenate.ensures ∙ c.if-eq-2.false)

pub returns-else-eq-3-clause-value : goal.returns-else-eq-3-clause-value
returns-else-eq-3-clause-value c = passed_element c.args.plan.now c.requires.typed c.args.op c.requires.op c.args.v c.in-CreateElement.input c.in-CreateElement.label c.in-CreateElement.list c.in-CreateElement.out (ap op_of (sym c.in-CreateElement.is) ∙ c.operator.ensures) (sym c.eq-in-CreateElement.ensures ∙ c.if-eq-3.false)

pub returns-else-eq-clause-all : goal.returns-else-eq-clause-all
returns-else-eq-clause-all c = all_visit c.args.plan.now c.requires.valid c.requires.typed c.args.op c.requires.op c.in-GetDescendants.input c.in-GetDescendants.start c.in-GetDescendants.path c.in-GetDescendants.out (ap op_of (sym c.in-GetDescendants.is) ∙ c.operator.ensures)

pub returns-in-Select-clause-all : goal.returns-in-Select-clause-all
returns-in-Select-clause-all c = λ v k h. passed_select c.args.plan.now c.requires.typed c.args.op c.requires.op v c.in-Select.input c.in-Select.test (ap op_of (sym c.in-Select.is) ∙ c.operator.ensures)

pub returns-then-binds-clause-all : goal.returns-then-binds-clause-all
returns-then-binds-clause-all c = all_right c.args.plan.now c.requires.valid c.requires.typed c.args.op c.requires.op c.in-Join.left c.in-Join.right c.in-Join.tests.items (ap op_of (sym c.in-Join.is) ∙ c.operator.ensures)

pub returns-else-binds-clause-all : goal.returns-else-binds-clause-all
returns-else-binds-clause-all c = all_left c.args.plan.now c.requires.valid c.requires.typed c.args.op c.requires.op c.in-Join.left c.in-Join.right c.in-Join.tests.items (ap op_of (sym c.in-Join.is) ∙ c.operator.ensures)

pub returns-in-OrderBy-clause-all : goal.returns-in-OrderBy-clause-all
returns-in-OrderBy-clause-all c = λ v k h. passed_order c.args.plan.now c.requires.typed c.args.op c.requires.op v c.in-OrderBy.input c.in-OrderBy.var c.in-OrderBy.desc (ap op_of (sym c.in-OrderBy.is) ∙ c.operator.ensures)

pub returns-else-eq-2-clause-all : goal.returns-else-eq-2-clause-all
returns-else-eq-2-clause-all c = all_list c.args.plan.now c.requires.valid c.requires.typed c.args.op c.requires.op c.in-Concatenate.input c.in-Concatenate.pieces.items c.in-Concatenate.out (ap op_of (sym c.in-Concatenate.is) ∙ c.operator.ensures)

pub returns-else-eq-3-clause-all : goal.returns-else-eq-3-clause-all
returns-else-eq-3-clause-all c = all_element c.args.plan.now c.requires.valid c.requires.typed c.args.op c.requires.op c.in-CreateElement.input c.in-CreateElement.label c.in-CreateElement.list c.in-CreateElement.out (ap op_of (sym c.in-CreateElement.is) ∙ c.operator.ensures)
