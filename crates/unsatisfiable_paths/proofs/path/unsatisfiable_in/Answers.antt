use Rattle.std.proofs.Common.{◌≡◌, ◌∙◌, ℕ, List, ap, sym, subst, length, map}
use Rattle.std.specs.Prelude.{IfOk}
use Rattle.std.proofs.lemmas.List.{length-map}
use Rattle.plan_core.specs.PlanMade.{op_of, plan_value}
use Rattle.plan_class.specs.Agree.{known_below}
use Rattle.unsatisfiable_paths.specs.declared.domains.NodeDomain.{NodeDomain}
use Rattle.unsatisfiable_paths.specs.declared.path.UnsatisfiablePath.{UnsatisfiablePath}
use Rattle.unsatisfiable_paths.specs.Unsatisfiable.{of_each, plan_nodes, found_nothing}
use Rattle.unsatisfiable_paths.proofs.Found.{paths_same}
use Rattle.unsatisfiable_paths.proofs.KnownNodes.{nodes_are}
use Rattle.unsatisfiable_paths.proofs.path.unsatisfiable_in.Goals as goal

pub returns : goal.returns
returns c =
    let plan = plan_value c.args.plan.now in
    let shapes = c.args.shapes.now in
    let items = c.args.plan.now.ops.items in
    let typed = c.valid_plans_are_typed.ensures plan c.requires in
    let count : length (map op_of items) ≡ length items = length-map items op_of in
    subst (λ (xs : List UnsatisfiablePath). IfOk c.all_paths.result (λ paths. paths.items ≡ xs))
    (ap (λ (nodes : ℕ → NodeDomain). of_each (found_nothing nodes) plan.ops (length items)) (nodes_are c.in_ok-domains.domains (known_below shapes plan.ops (length plan.ops)) c.in_ok-domains.ensures)
    ∙ ap (of_each (found_nothing (plan_nodes shapes plan.ops)) plan.ops) (sym count)
    ∙ paths_same shapes plan c.requires typed)
    (rw c.deref.ensures.value at c.all_paths.ensures)
