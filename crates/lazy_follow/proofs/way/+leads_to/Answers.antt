use Rattle.std.proofs.Common.{rules, ◌≡◌, ◌∙◌, sym, ap, map, length}
use Rattle.std.specs.Prelude.{◌==◌, not}
use Rattle.plan_core.specs.PlanMade.{op_of}
use Rattle.plan_core.specs.Plans.{Operator}
use Rattle.plan_core.specs.Shapes.{shape_of}
use Rattle.plan_evidence.specs.Evidence.{shape_way}
use Rattle.lazy_follow.proofs.OnWay.{on_none, on_one, on_first, on_second, group_alone, group_through}
use Rattle.lazy_follow.proofs.way.+leads_to.Goals as goal

pub returns-in-Source : goal.returns-in-Source
returns-in-Source t c = on_none (map op_of c.args.ops.now) c.requires.typed c.args.n c.requires.op c.args.i (λ e. c.if-n-i.false e) (ap (λ (o : Operator). shape_way (shape_of o)) (sym c.operator_in.ensures ∙ ap op_of c.in-Source.is))

pub returns-in-GetDescendants : goal.returns-in-GetDescendants
returns-in-GetDescendants t c = on_one (map op_of c.args.ops.now) c.requires.typed c.args.n c.requires.op c.args.i (λ e. c.if-n-i.false e) c.in-GetDescendants.input (ap (λ (o : Operator). shape_way (shape_of o)) (sym c.operator_in.ensures ∙ ap op_of c.in-GetDescendants.is)) _ c.leads_to.ensures

pub returns-in-Select : goal.returns-in-Select
returns-in-Select t c = on_one (map op_of c.args.ops.now) c.requires.typed c.args.n c.requires.op c.args.i (λ e. c.if-n-i.false e) c.in-Select.input (ap (λ (o : Operator). shape_way (shape_of o)) (sym c.operator_in.ensures ∙ ap op_of c.in-Select.is)) _ c.leads_to-in-Select.ensures

pub returns-in-Project : goal.returns-in-Project
returns-in-Project t c = on_one (map op_of c.args.ops.now) c.requires.typed c.args.n c.requires.op c.args.i (λ e. c.if-n-i.false e) c.in-Project.input (ap (λ (o : Operator). shape_way (shape_of o)) (sym c.operator_in.ensures ∙ ap op_of c.in-Project.is)) _ c.leads_to-in-Project.ensures

pub returns-in-OrderBy : goal.returns-in-OrderBy
returns-in-OrderBy t c = on_one (map op_of c.args.ops.now) c.requires.typed c.args.n c.requires.op c.args.i (λ e. c.if-n-i.false e) c.in-OrderBy.input (ap (λ (o : Operator). shape_way (shape_of o)) (sym c.operator_in.ensures ∙ ap op_of c.in-OrderBy.is)) _ c.leads_to-in-OrderBy.ensures

pub returns-in-Concatenate : goal.returns-in-Concatenate
returns-in-Concatenate t c = on_one (map op_of c.args.ops.now) c.requires.typed c.args.n c.requires.op c.args.i (λ e. c.if-n-i.false e) c.in-Concatenate.input (ap (λ (o : Operator). shape_way (shape_of o)) (sym c.operator_in.ensures ∙ ap op_of c.in-Concatenate.is)) _ c.leads_to-in-Concatenate.ensures

pub returns-in-CreateElement : goal.returns-in-CreateElement
returns-in-CreateElement t c = on_one (map op_of c.args.ops.now) c.requires.typed c.args.n c.requires.op c.args.i (λ e. c.if-n-i.false e) c.in-CreateElement.input (ap (λ (o : Operator). shape_way (shape_of o)) (sym c.operator_in.ensures ∙ ap op_of c.in-CreateElement.is)) _ c.leads_to-in-CreateElement.ensures

pub returns-in-TupleDestroy : goal.returns-in-TupleDestroy
returns-in-TupleDestroy t c = on_one (map op_of c.args.ops.now) c.requires.typed c.args.n c.requires.op c.args.i (λ e. c.if-n-i.false e) c.in-TupleDestroy.input (ap (λ (o : Operator). shape_way (shape_of o)) (sym c.operator_in.ensures ∙ ap op_of c.in-TupleDestroy.is)) _ c.leads_to-in-TupleDestroy.ensures

pub returns-then-leads_to : goal.returns-then-leads_to
returns-then-leads_to t c = c.if-leads_to.true ∙ on_first (map op_of c.args.ops.now) c.requires.typed c.args.n c.requires.op c.args.i (λ e. c.if-n-i.false e) c.in-Join.left c.in-Join.right (ap (λ (o : Operator). shape_way (shape_of o)) (sym c.operator_in.ensures ∙ ap op_of c.in-Join.is)) (sym c.leads_to-in-Join.ensures ∙ c.if-leads_to.true)

pub returns-else-leads_to : goal.returns-else-leads_to
returns-else-leads_to t c = on_second (map op_of c.args.ops.now) c.requires.typed c.args.n c.requires.op c.args.i (λ e. c.if-n-i.false e) c.in-Join.left c.in-Join.right (ap (λ (o : Operator). shape_way (shape_of o)) (sym c.operator_in.ensures ∙ ap op_of c.in-Join.is)) (sym c.leads_to-in-Join.ensures ∙ c.if-leads_to.false) _ c.leads_to-else-leads_to.ensures

pub returns-then-not-is_empty : goal.returns-then-not-is_empty
returns-then-not-is_empty t c =
    let e : c.is_empty.result ≡ (length c.in-GroupBy.keys.items == 0) = search rules in
    on_one (map op_of c.args.ops.now) c.requires.typed c.args.n c.requires.op c.args.i (λ e. c.if-n-i.false e) c.in-GroupBy.input
    (ap (λ (o : Operator). shape_way (shape_of o)) (sym c.operator_in.ensures ∙ ap op_of c.in-GroupBy.is)
    ∙ group_through c.in-GroupBy.input c.in-GroupBy.keys.items c.in-GroupBy.piece c.in-GroupBy.out (sym e ∙ c.if-not-is_empty.true)) _ c.leads_to-then-not-is_empty.ensures

pub returns-else-not-is_empty : goal.returns-else-not-is_empty
returns-else-not-is_empty t c =
    let e : c.is_empty.result ≡ (length c.in-GroupBy.keys.items == 0) = search rules in
    ap not c.if-not-is_empty.false
    ∙ on_none (map op_of c.args.ops.now) c.requires.typed c.args.n c.requires.op c.args.i (λ e. c.if-n-i.false e)
    (ap (λ (o : Operator). shape_way (shape_of o)) (sym c.operator_in.ensures ∙ ap op_of c.in-GroupBy.is)
    ∙ group_alone c.in-GroupBy.input c.in-GroupBy.keys.items c.in-GroupBy.piece c.in-GroupBy.out (sym e ∙ c.if-not-is_empty.false))
