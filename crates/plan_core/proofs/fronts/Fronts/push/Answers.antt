use Rattle.std.proofs.Common.{◌≡◌, ◌∙◌, sym, ap, subst, [], ◌∷◌, ◌++◌}
use Rattle.plan_core.specs.Fronts.{op_front}
use Rattle.plan_core.specs.FrontsKept.{Fronts, front_in, without}
use Rattle.plan_core.specs.PlanMade.{op_of}
use Rattle.plan_core.specs.Plans.{Operator}
use Rattle.plan_core.specs.Valid.{AreDistinct, inputs_of}
use Rattle.plan_core.proofs.KeptFronts.{moving_without, tree_distinct, kept_more}
use Rattle.plan_core.proofs.fronts.Fronts.push.Goals as goal

pub returns-clause-kept : goal.returns-clause-kept
returns-clause-kept c = λ ops n b e h.
    let old = c.args.self.now in
    let front = c.in_ok-front.front in
    let left = c.self.view_is ∙ c.in_ok-front.ensures.rest in
    kept_more ops n old b h _ front
    (subst (λ (o : Operator). front ≡ op_front o (front_in old)) (sym e)
    (c.in_ok-front.ensures.front (λ m. subst (λ (o : Operator). AreDistinct (inputs_of o)) e (tree_distinct ops (h.tree m) n b))))
    (ap (λ (f : Fronts). f.moving) left ∙ moving_without old (inputs_of (op_of c.args.op.now)))
    (c.in_ok-push.ensures.items ∙ ap (λ (f : Fronts). f.kept ++ front ∷ []) (left ∙ ap (λ (o : Operator). without old (inputs_of o)) (sym e)))
