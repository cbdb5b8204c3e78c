use Rattle.std.proofs.Common.{◌∙◌, ap, sym}
use Rattle.std.specs.Prelude.{Some}
use Rattle.plan_core.specs.declared.plan.Op.{Op}
use Rattle.plan_core.specs.PlanMade.{op_of}
use Rattle.plan_core.specs.Shapes.{shape_of}
use Rattle.unsatisfiable_paths.specs.declared.domains.NodeDomain.{NodeDomain}
use Rattle.unsatisfiable_paths.specs.NodeDomains.{nodes_along, nodes_in, shape_bound}
use Rattle.unsatisfiable_paths.proofs.bound.bound_by.Goals as goal

pub returns-in_ok-nodes-in-GetDescendants : goal.returns-in_ok-nodes-in-GetDescendants
returns-in_ok-nodes-in-GetDescendants c =
    let op = c.in-GetDescendants in
    ap (λ (d : NodeDomain). Some (op.out, d)) (c.in_ok-nodes-in-GetDescendants.ensures ∙ ap (nodes_along c.args.shapes.now op.path) c.of.ensures)
    ∙ ap (λ (o : Op). shape_bound c.args.shapes.now (nodes_in c.args.domains.now) (shape_of (op_of o))) (sym op.is)
