use Rattle.std.proofs.Common.{◌∙◌, sym, ap, arith}
use Rattle.plan_core.specs.PlanMade.{op_of, plan_value}
use Rattle.plan_core.specs.Plans.{Operator}
use Rattle.plan_core.specs.Shapes.{shape_of}
use Rattle.plan_evidence.specs.Named.{listing}
use Rattle.lazy_follow.specs.Following.{value_choice, a_tree}
use Rattle.lazy_follow.proofs.Choices.{made_under, group_makes, pieces_makes, no_list, bare_is, not_bare, list_by, tree_chosen, among_chosen}
use Rattle.plan_forms.specs.Forms.{input_at}
use Rattle.lazy_follow.proofs.Scopes.{chosen_scope}
use Rattle.lazy_follow.proofs.choosing.value_chosen.Goals as goal

pub returns-in_default-clause-chosen : goal.returns-in_default-clause-chosen
returns-in_default-clause-chosen c = λ places e.
    let p = plan_value c.args.plan.now in
    let h = rw c.in_default.is at c.maker_of.ensures in
    absurd (made_under p c.requires.valid (c.valid_plans_are_typed.ensures p c.requires.valid) c.args.list c.args.v c.requires.piece.within (input_at p.ops c.args.list, c.requires.bound.0, c.requires.bound.1, c.requires.bound.2) h)

pub returns-in-GroupBy-clause-chosen : goal.returns-in-GroupBy-clause-chosen
returns-in-GroupBy-clause-chosen c = λ places e.
    let p = plan_value c.args.plan.now in
    let h = rw c.in-Some.is at c.maker_of.ensures in
    let b = c.requires.piece.within in
    let l = h.0 in
    let m = group_makes p.ops c.in-Some.maker (omega (arith, l, b)) c.in-GroupBy.input c.in-GroupBy.keys.items c.in-GroupBy.piece c.in-GroupBy.out (sym c.operator.ensures ∙ ap op_of c.in-GroupBy.is) in
    (m, ap (value_choice c.args.v places) (list_by p.ops c.args.v c.in-Some.maker h.1 ∙ m.listed))

pub returns-then-bare-clause-chosen : goal.returns-then-bare-clause-chosen
returns-then-bare-clause-chosen c = λ places e.
    let p = plan_value c.args.plan.now in
    let h = rw c.in-Some.is at c.maker_of.ensures in
    let b = c.requires.piece.within in
    let l = h.0 in
    let m = pieces_makes p.ops c.in-Some.maker (omega (arith, l, b)) c.in-Concatenate.input c.in-Concatenate.pieces.items c.in-Concatenate.out (sym c.operator.ensures ∙ ap op_of c.in-Concatenate.is) in
    (m, among_chosen c.args.v places _ _ (list_by p.ops c.args.v c.in-Some.maker h.1 ∙ m.listed) ∙ bare_is places _ (sym c.if-bare.true ∙ e))

pub returns-else-bare-clause-chosen : goal.returns-else-bare-clause-chosen
returns-else-bare-clause-chosen c = λ places e.
    let p = plan_value c.args.plan.now in
    let h = rw c.in-Some.is at c.maker_of.ensures in
    let b = c.requires.piece.within in
    let l = h.0 in
    let m = pieces_makes p.ops c.in-Some.maker (omega (arith, l, b)) c.in-Concatenate.input c.in-Concatenate.pieces.items c.in-Concatenate.out (sym c.operator.ensures ∙ ap op_of c.in-Concatenate.is) in
    among_chosen c.args.v places _ _ (list_by p.ops c.args.v c.in-Some.maker h.1 ∙ m.listed) ∙ not_bare places _ (sym c.if-bare.false ∙ e)

pub returns-then-bare-2-clause-chosen : goal.returns-then-bare-2-clause-chosen
returns-then-bare-2-clause-chosen c = λ places e.
    let p = plan_value c.args.plan.now in
    let h = rw c.in-Some.is at c.maker_of.ensures in
    let none = list_by p.ops c.args.v c.in-Some.maker h.1 ∙ ap (λ (o : Operator). listing (shape_of o)) (sym c.operator.ensures) ∙ no_list c.operator.result.now c.in_default-operator.not-GroupBy c.in_default-operator.not-Concatenate in
    (c.requires.piece, tree_chosen c.args.v places _ none ∙ bare_is places _ (sym c.if-bare-2.true ∙ e) ∙ ap a_tree (sym c.requires.is))

pub returns-else-bare-2-clause-chosen : goal.returns-else-bare-2-clause-chosen
returns-else-bare-2-clause-chosen c = λ places e.
    let p = plan_value c.args.plan.now in
    let h = rw c.in-Some.is at c.maker_of.ensures in
    let none = list_by p.ops c.args.v c.in-Some.maker h.1 ∙ ap (λ (o : Operator). listing (shape_of o)) (sym c.operator.ensures) ∙ no_list c.operator.result.now c.in_default-operator.not-GroupBy c.in_default-operator.not-Concatenate in
    tree_chosen c.args.v places _ none ∙ not_bare places _ (sym c.if-bare-2.false ∙ e)

pub returns-in-GroupBy-clause-scope : goal.returns-in-GroupBy-clause-scope
returns-in-GroupBy-clause-scope c =
    let p = plan_value c.args.plan.now in
    let h = rw c.in-Some.is at c.maker_of.ensures in
    let b = c.requires.piece.within in
    let l = h.0 in
    chosen_scope p c.requires.valid (c.valid_plans_are_typed.ensures p c.requires.valid) c.args.list c.args.v c.requires.bound.0 b c.requires.bound.1 c.requires.scope c.requires.bound.2 c.in-Some.maker (omega (arith, l, b)) h.1
    c.in-GroupBy.input _ (ap shape_of (sym c.operator.ensures ∙ ap op_of c.in-GroupBy.is))

pub returns-then-bare-clause-scope : goal.returns-then-bare-clause-scope
returns-then-bare-clause-scope c =
    let p = plan_value c.args.plan.now in
    let h = rw c.in-Some.is at c.maker_of.ensures in
    let b = c.requires.piece.within in
    let l = h.0 in
    chosen_scope p c.requires.valid (c.valid_plans_are_typed.ensures p c.requires.valid) c.args.list c.args.v c.requires.bound.0 b c.requires.bound.1 c.requires.scope c.requires.bound.2 c.in-Some.maker (omega (arith, l, b)) h.1
    c.in-Concatenate.input _ (ap shape_of (sym c.operator.ensures ∙ ap op_of c.in-Concatenate.is))
