use Rattle.std.proofs.Common.{◌∙◌, sym, ap, subst}
use Rattle.plan_core.specs.declared.plan.Plan.{Plan}
use Rattle.plan_core.specs.PlanMade.{plan_value}
use Rattle.plan_core.specs.Valid.{a_node}
use Rattle.plan_core.specs.ByNumber.{op_at}
use Rattle.plan_evidence.specs.Named.{element_list}
use Rattle.plan_evidence.proofs.Ways.{way_self}
use Rattle.plan_forms.specs.Forms.{piece_at}
use Rattle.lazy_follow.specs.Ends.{IsElementBy}
use Rattle.lazy_follow.proofs.Endings.{label_node, var_node, element_lists}
use Rattle.lazy_follow.proofs.ends.shown_of.Goals as goal

pub returns-in_default : goal.returns-in_default
returns-in_default c = λ places view at h.
    let p = plan_value c.args.bench.now.fixed.plan in
    let typed = c.valid_plans_are_typed.ensures p at.valid in
    let t = c.args.tree.now in
    let piece = sym (c.piece.ensures ∙ ap (λ (q : Plan). piece_at (plan_value q).ops t.op t.index) c.plan.ensures) ∙ c.in-LabelOf.is in
    let kind = h.scope c.in-LabelOf.v a_node (label_node p typed t.op t.index c.in-LabelOf.v h.has_piece piece) in
    rw c.in_default.is at (c.node_of.ensures view places at h.here (way_self p.ops t.here.now.op) kind)

pub returns-in-Some : goal.returns-in-Some
returns-in-Some c = λ places view at h.
    let p = plan_value c.args.bench.now.fixed.plan in
    let typed = c.valid_plans_are_typed.ensures p at.valid in
    let t = c.args.tree.now in
    let piece = sym (c.piece.ensures ∙ ap (λ (q : Plan). piece_at (plan_value q).ops t.op t.index) c.plan.ensures) ∙ c.in-LabelOf.is in
    let kind = h.scope c.in-LabelOf.v a_node (label_node p typed t.op t.index c.in-LabelOf.v h.has_piece piece) in
    (c.in-LabelOf.v, piece, rw c.in-Some.is at (c.node_of.ensures view places at h.here (way_self p.ops t.here.now.op) kind))

pub returns-in-Some-element_of : goal.returns-in-Some-element_of
returns-in-Some-element_of c = λ places view at h.
    let p = plan_value c.args.bench.now.fixed.plan in
    let t = c.args.tree.now in
    let piece = sym (c.piece.ensures ∙ ap (λ (q : Plan). piece_at (plan_value q).ops t.op t.index) c.plan.ensures) ∙ c.in-Var.is in
    let by = rw c.in-Some-element_of.is at (subst (λ (q : Plan). IsElementBy (plan_value q).ops c.in-Var.v c.element_of.result) c.plan-in-Var.ensures c.element_of.ensures) in
    let u = element_lists (op_at p.ops c.in-Some-element_of.element) by.2 in
    (c.in-Var.v, u.0, piece, ap element_list by.1 ∙ u.1, by.0, by.2, by.1)

pub returns-in_default-node_of : goal.returns-in_default-node_of
returns-in_default-node_of c = λ places view at h.
    let p = plan_value c.args.bench.now.fixed.plan in
    let typed = c.valid_plans_are_typed.ensures p at.valid in
    let t = c.args.tree.now in
    let piece = sym (c.piece.ensures ∙ ap (λ (q : Plan). piece_at (plan_value q).ops t.op t.index) c.plan.ensures) ∙ c.in-Var.is in
    let none = rw c.in_default-element_of.is at (subst (λ (q : Plan). IsElementBy (plan_value q).ops c.in-Var.v c.element_of.result) c.plan-in-Var.ensures c.element_of.ensures) in
    let kind = h.scope c.in-Var.v a_node (var_node p typed t.op t.index c.in-Var.v h.has_piece at.valid piece h.single none) in
    rw c.in_default-node_of.is at (c.node_of-in-Var.ensures view places at h.here (way_self p.ops t.here.now.op) kind)

pub returns-in-Some-node_of : goal.returns-in-Some-node_of
returns-in-Some-node_of c = λ places view at h.
    let p = plan_value c.args.bench.now.fixed.plan in
    let typed = c.valid_plans_are_typed.ensures p at.valid in
    let t = c.args.tree.now in
    let piece = sym (c.piece.ensures ∙ ap (λ (q : Plan). piece_at (plan_value q).ops t.op t.index) c.plan.ensures) ∙ c.in-Var.is in
    let none = rw c.in_default-element_of.is at (subst (λ (q : Plan). IsElementBy (plan_value q).ops c.in-Var.v c.element_of.result) c.plan-in-Var.ensures c.element_of.ensures) in
    let kind = h.scope c.in-Var.v a_node (var_node p typed t.op t.index c.in-Var.v h.has_piece at.valid piece h.single none) in
    (c.in-Var.v, piece, none, rw c.in-Some-node_of.is at (c.node_of-in-Var.ensures view places at h.here (way_self p.ops t.here.now.op) kind))
