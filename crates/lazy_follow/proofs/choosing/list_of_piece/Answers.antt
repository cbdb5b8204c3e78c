use Rattle.std.proofs.Common.{◌≡◌, ◌∙◌, ◌<◌, ℕ, Some, sym, ap, subst}
use Rattle.plan_core.specs.Valid.{Kind, kinds}
use Rattle.plan_forms.specs.Forms.{input_at}
use Rattle.lazy_follow.specs.Scope.{InScope}
use Rattle.plan_core.specs.declared.plan.Piece.{Piece}
use Rattle.plan_core.specs.PlanMade.{plan_value}
use Rattle.lazy_follow.specs.Choosing.{IsListBy}
use Rattle.lazy_follow.specs.Following.{list_in}
use Rattle.lazy_follow.proofs.Choices.{piece_under, piece_bound_in, no_list_by, some_at}
use Rattle.lazy_follow.proofs.choosing.list_of_piece.Goals as goal

pub inner_of-requires-clause-bound : goal.inner_of-requires-clause-bound
inner_of-requires-clause-bound c =
    let p = plan_value c.args.plan.now in
    piece_under p (c.valid_plans_are_typed.ensures p c.requires.valid) c.args.op c.args.index c.in-Var.v c.requires.piece (sym c.piece.ensures ∙ c.in-Var.is)

pub returns-in-Var-clause-list : goal.returns-in-Var-clause-list
returns-in-Var-clause-list c = subst (λ (x : Piece). IsListBy (plan_value c.args.plan.now).ops (list_in (plan_value c.args.plan.now).ops x) c.inner_of.result) (sym (sym c.piece.ensures ∙ c.in-Var.is)) c.inner_of.ensures.list

pub returns-in-LabelOf-clause-list : goal.returns-in-LabelOf-clause-list
returns-in-LabelOf-clause-list c = no_list_by (plan_value c.args.plan.now).ops _ (ap (list_in (plan_value c.args.plan.now).ops) (sym c.piece.ensures ∙ c.in-LabelOf.is))

pub returns-in-Text-clause-list : goal.returns-in-Text-clause-list
returns-in-Text-clause-list c = no_list_by (plan_value c.args.plan.now).ops _ (ap (list_in (plan_value c.args.plan.now).ops) (sym c.piece.ensures ∙ c.in-Text.is))

pub returns-in-Var-clause-scope : goal.returns-in-Var-clause-scope
returns-in-Var-clause-scope c =
    let p = plan_value c.args.plan.now in
    let k = piece_bound_in p (c.valid_plans_are_typed.ensures p c.requires.valid) c.args.op c.args.index c.in-Var.v c.requires.piece (sym c.piece.ensures ∙ c.in-Var.is) in
    some_at c.inner_of.result (λ (n : ℕ). (i : ℕ) (j : Kind) → i < c.args.op → kinds p.ops i c.in-Var.v ≡ Some j → InScope p.ops i n) (InScope p.ops (input_at p.ops c.args.op)) (λ n h. h (input_at p.ops c.args.op) k.0 k.1 k.2)
    c.inner_of.ensures.scope
