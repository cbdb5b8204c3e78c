use Rattle.std.proofs.Common.{◌≡◌, ◌∙◌, true, sym, ap, subst}
use Rattle.std.specs.Prelude.{Bool, ◌&&◌}
use Rattle.plan_core.specs.declared.plan.Op.{Op}
use Rattle.plan_core.specs.Fronts.{node_keys, covers}
use Rattle.plan_core.specs.FrontsKept.{front_in, HasInputs}
use Rattle.plan_core.specs.PlanMade.{op_of}
use Rattle.plan_core.proofs.FrontCode.{covers_nodes}
use Rattle.plan_core.proofs.KeptFronts.{apart_found}
use Rattle.plan_core.proofs.facts.is_apart.Goals as goal

pub returns-then-is_whole : goal.returns-then-is_whole
returns-then-is_whole c = λ ops h.
    let own = front_in c.args.fronts.now c.in-Project.input in
    let whole : own.whole ≡ true = sym c.is_whole.ensures ∙ c.if-is_whole.true in
    let is = rw (c.vars.ensures, c.deref.ensures.value) at c.are_node_keys.ensures in
    let inputs = subst (λ (o : Op). HasInputs ops c.args.fronts.now (op_of o)) c.in-Project.is h in
    rw c.in-Project.is
    (is ∙ sym (covers_nodes c.in-Project.keys.items own.vars) ∙ ap (λ (b : Bool). b && covers c.in-Project.keys.items (node_keys own.vars)) (sym whole)
    ∙ apart_found ops c.args.fronts.now c.in-Project.input c.in-Project.keys.items inputs.0)
