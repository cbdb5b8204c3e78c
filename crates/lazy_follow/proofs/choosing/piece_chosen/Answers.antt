use Rattle.std.proofs.Common.{◌∙◌, sym, ap, subst, Some}
use Rattle.plan_core.specs.declared.plan.Piece.{Piece}
use Rattle.plan_core.specs.PlanMade.{plan_value}
use Rattle.lazy_follow.specs.Choosing.{IsChosen}
use Rattle.lazy_follow.specs.Following.{a_tree, piece_choice}
use Rattle.lazy_follow.proofs.Choices.{piece_bound_in, bare_is, not_bare}
use Rattle.lazy_follow.proofs.choosing.piece_chosen.Goals as goal

pub value_chosen-requires-clause-bound : goal.value_chosen-requires-clause-bound
value_chosen-requires-clause-bound c =
    let p = plan_value c.args.plan.now in
    piece_bound_in p (c.valid_plans_are_typed.ensures p c.requires.valid) c.args.list c.args.index c.in-Var.v c.requires.piece (sym c.piece.ensures ∙ c.in-Var.is)

pub returns-in-Var-clause-chosen : goal.returns-in-Var-clause-chosen
returns-in-Var-clause-chosen c = λ places e.
    let ops = (plan_value c.args.plan.now).ops in
    subst (λ (x : Piece). IsChosen ops c.value_chosen.result (piece_choice ops places (Some x))) (sym (sym c.piece.ensures ∙ c.in-Var.is)) (c.value_chosen.ensures.chosen places e)

pub returns-then-bare-clause-chosen : goal.returns-then-bare-clause-chosen
returns-then-bare-clause-chosen c = λ places e.
    let ops = (plan_value c.args.plan.now).ops in
    let is = sym c.piece.ensures ∙ c.in-LabelOf.is in
    (c.requires.piece, ap (λ (x : Piece). piece_choice ops places (Some x)) is ∙ bare_is places _ (sym c.if-bare.true ∙ e) ∙ ap a_tree (sym is))

pub returns-else-bare-clause-chosen : goal.returns-else-bare-clause-chosen
returns-else-bare-clause-chosen c = λ places e.
    let ops = (plan_value c.args.plan.now).ops in
    let is = sym c.piece.ensures ∙ c.in-LabelOf.is in
    ap (λ (x : Piece). piece_choice ops places (Some x)) is ∙ not_bare places _ (sym c.if-bare.false ∙ e)

pub returns-then-bare-2-clause-chosen : goal.returns-then-bare-2-clause-chosen
returns-then-bare-2-clause-chosen c = λ places e.
    let ops = (plan_value c.args.plan.now).ops in
    let is = sym c.piece.ensures ∙ c.in-Text.is in
    (c.requires.piece, ap (λ (x : Piece). piece_choice ops places (Some x)) is ∙ bare_is places _ (sym c.if-bare-2.true ∙ e) ∙ ap a_tree (sym is))

pub returns-else-bare-2-clause-chosen : goal.returns-else-bare-2-clause-chosen
returns-else-bare-2-clause-chosen c = λ places e.
    let ops = (plan_value c.args.plan.now).ops in
    let is = sym c.piece.ensures ∙ c.in-Text.is in
    ap (λ (x : Piece). piece_choice ops places (Some x)) is ∙ not_bare places _ (sym c.if-bare-2.false ∙ e)
