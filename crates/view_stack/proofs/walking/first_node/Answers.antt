use Rattle.std.proofs.Common.{◌≡◌, Some, arith, ap, sym, subst, ◌∙◌}
use Rattle.std.specs.Prelude.{slice_get, get_or}
use Rattle.std.proofs.lemmas.Option.{get_or_from_slice_get}
use Rattle.plan_core.specs.PlanMade.{plan_value}
use Rattle.lazy_plan.specs.Bench.{documents}
use Rattle.mix_tree.specs.Place.{child_place, next_place}
use Rattle.lazy_walk.specs.Walks.{state_of, plan_of}
use Rattle.lazy_walk.specs.Places.{GivesPlace}
use Rattle.lazy_walk.specs.Places as places
use Rattle.view_stack.specs.declared.layers.Served.{Served}
use Rattle.view_stack.specs.declared.part.Part.TheVariants.{Below, After}
use Rattle.view_stack.specs.Steps.{IsPartOf, Stands, GivesNode}
use Rattle.view_stack.proofs.Stepping.{IfOk-both, gives_root, gives_child, gives_next}
use Rattle.view_stack.proofs.walking.first_node.Goals as goal

pub returns-in-Whole-clause-node : goal.returns-in-Whole-clause-node
returns-in-Whole-clause-node g c =
    let v = g.S.Sources.view c.args.base.now in
    let m = c.args.view.now in
    let st = state_of v m in
    rw c.in-Whole.is
    (gives_root st (c.trees_are_there.ensures st c.requires.walk.valid) (c.valid_plans_have_documents.ensures (plan_value (plan_of m)) c.requires.walk.valid (documents st))
    c.args.served.now c.root.result (c.root.ensures.place v c.requires.walk))

pub returns-in-Below-clause-stepped : goal.returns-in-Below-clause-stepped
returns-in-Below-clause-stepped g c =
    let st = state_of (g.S.Sources.view c.args.base.now) c.args.view.now in
    let part : IsPartOf st c.args.served.now (Below c.in-Below.node) = rw c.in-Below.is at c.requires.part in
    let same = get_or_from_slice_get c.args.served.now c.in-Below.node part.0 c.index-served-node.result part.1 in
    let at = subst (λ (e : Served). Stands st e.node) (sym same) part.2 in
    let walked = c.down.ensures.walked in
    record {
      came = walked.came;
      walk = walked.walk;
      kept = walked.kept;
      lazy = λ most costs told forward. (let asks = c.down.ensures.lazy at.0 at.1 told forward in let cost = (costs at.0).0 in omega (arith, asks, cost));
    }

pub returns-in-Below-clause-node : goal.returns-in-Below-clause-node
returns-in-Below-clause-node g c =
    let v = g.S.Sources.view c.args.base.now in
    let v' = g.S.Sources.view c.down.new.s in
    let m = c.args.view.now in
    let m' = c.down.new.self in
    let st = state_of v m in
    let st' = state_of v' m' in
    let part : IsPartOf st c.args.served.now (Below c.in-Below.node) = rw c.in-Below.is at c.requires.part in
    let same = get_or_from_slice_get c.args.served.now c.in-Below.node part.0 c.index-served-node.result part.1 in
    let there : slice_get c.args.served.now c.in-Below.node ≡ Some (get_or c.args.served.now c.in-Below.node c.index-served-node.result) = part.1 ∙ ap Some (sym same) in
    let at = subst (λ (e : Served). Stands st e.node) (sym same) part.2 in
    let walked = c.down.ensures.walked in
    rw c.in-Below.is
    (IfOk-both c.down.result (places.GivesNode st') (GivesPlace st st' (Some (child_place at.0))) (GivesNode st st' c.args.served.now (Below c.in-Below.node))
    (gives_child st st' walked.kept (c.trees_are_there.ensures st c.requires.walk.valid) (c.trees_are_there.ensures st' walked.walk.valid)
    (c.valid_plans_have_documents.ensures (plan_value (plan_of m)) c.requires.walk.valid (documents st)) c.args.served.now c.in-Below.node (get_or c.args.served.now c.in-Below.node c.index-served-node.result) there at.0 at.1) c.down.ensures.node (c.down.ensures.place at.0 at.1))

pub returns-in-After-clause-stepped : goal.returns-in-After-clause-stepped
returns-in-After-clause-stepped g c =
    let st = state_of (g.S.Sources.view c.args.base.now) c.args.view.now in
    let part : IsPartOf st c.args.served.now (After c.in-After.node) = rw c.in-After.is at c.requires.part in
    let same = get_or_from_slice_get c.args.served.now c.in-After.node part.0 c.index-served-node-in-After.result part.1 in
    let at = subst (λ (e : Served). Stands st e.node) (sym same) part.2 in
    let walked = c.right.ensures.walked in
    record {
      came = walked.came;
      walk = walked.walk;
      kept = walked.kept;
      lazy = λ most costs told forward. (let asks = c.right.ensures.lazy at.0 at.1 told forward in let cost = (costs at.0).1 in omega (arith, asks, cost));
    }

pub returns-in-After-clause-node : goal.returns-in-After-clause-node
returns-in-After-clause-node g c =
    let v = g.S.Sources.view c.args.base.now in
    let v' = g.S.Sources.view c.right.new.s in
    let m = c.args.view.now in
    let m' = c.right.new.self in
    let st = state_of v m in
    let st' = state_of v' m' in
    let part : IsPartOf st c.args.served.now (After c.in-After.node) = rw c.in-After.is at c.requires.part in
    let same = get_or_from_slice_get c.args.served.now c.in-After.node part.0 c.index-served-node-in-After.result part.1 in
    let there : slice_get c.args.served.now c.in-After.node ≡ Some (get_or c.args.served.now c.in-After.node c.index-served-node-in-After.result) = part.1 ∙ ap Some (sym same) in
    let at = subst (λ (e : Served). Stands st e.node) (sym same) part.2 in
    let walked = c.right.ensures.walked in
    rw c.in-After.is
    (IfOk-both c.right.result (places.GivesNode st') (GivesPlace st st' (next_place at.0)) (GivesNode st st' c.args.served.now (After c.in-After.node))
    (gives_next st st' walked.kept (c.trees_are_there.ensures st c.requires.walk.valid) (c.trees_are_there.ensures st' walked.walk.valid)
    (c.valid_plans_have_documents.ensures (plan_value (plan_of m)) c.requires.walk.valid (documents st)) c.args.served.now c.in-After.node (get_or c.args.served.now c.in-After.node c.index-served-node-in-After.result) there at.0 at.1) c.right.ensures.node (c.right.ensures.place at.0 at.1))
