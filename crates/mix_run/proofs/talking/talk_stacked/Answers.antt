use Rattle.std.proofs.Common.{◌∙◌, List, Option, option_map, ap, arith, length, refl, sym, subst}
use Rattle.std.proofs.lemmas.List.{length-map}
use Rattle.plan_core.specs.PlanMade.{plan_value}
use Rattle.plan_core.specs.declared.plan.Plan.{Plan}
use Rattle.lazy_walk.specs.Walks.{plan_of}
use Rattle.mix_reach.specs.Reach.{CameFrom, came_keeps, came_same, reaching_in, view_of}
use Rattle.mix_reach.specs.Stores.{stores_of}
use Rattle.view_stack.specs.Stacks.{plans_of, stacking_in}
use Rattle.mix_place.specs.Placed.{ArePlaced}
use Rattle.mix_run.specs.Running.{all_documents, placed_of}
use Rattle.mix_run.proofs.Opened.{stackable}
use Rattle.mix_run.specs.Talking.{IsReachedTalkEnd}
use Rattle.mix_run.proofs.TalkEnding.{talk_stack_ends}
use Rattle.mix_run.proofs.TalkLines.{talk_untaken}
use Rattle.mix_run.proofs.talking.talk_stacked.Goals as goal

pub open-requires-clause-plans : goal.open-requires-clause-plans
open-requires-clause-plans g c =
    let a = reaching_in g.T.Tables.view g.R.Fars.view c.args.sources in
    (stackable c.requires.placed.0 (plan_value c.args.basis.plan).ops c.args.basis.catalog (placed_of a c.args.views.items) c.requires.placed.1 (view_of a).count refl).0

pub open-requires-clause-few : goal.open-requires-clause-few
open-requires-clause-few g c =
    let a = reaching_in g.T.Tables.view g.R.Fars.view c.args.sources in
    let s = (stackable c.requires.placed.0 (plan_value c.args.basis.plan).ops c.args.basis.catalog (placed_of a c.args.views.items) c.requires.placed.1 (view_of a).count refl).1 in
    let f = c.requires.few in
    omega (arith, s, f)

pub talk_over-end-requires-clause-number : goal.talk_over-end-requires-clause-number
talk_over-end-requires-clause-number g c =
    let a = reaching_in g.T.Tables.view g.R.Fars.view c.args.sources in
    let s = (stackable c.requires.placed.0 (plan_value c.args.basis.plan).ops c.args.basis.catalog (placed_of a c.args.views.items) c.requires.placed.1 (view_of a).count refl).1 in
    let b = ap (λ r. (view_of (reaching_in g.T.Tables.view g.R.Fars.view r)).count) c.in-Ok.ensures.base in
    let l = ap (λ (vs : List (Option Plan)). length vs) c.in-Ok.ensures.plans in
    let m = length-map c.in-Ok.stack.layers.views.items (option_map plan_of) in
    omega (arith, s, b, l, m)

pub returns-in-Ok-clause-came : goal.returns-in-Ok-clause-came
returns-in-Ok-clause-came g c =
    let at = reaching_in g.T.Tables.view g.R.Fars.view in
    subst (λ r. CameFrom (at r) (at c.into_base.result)) c.in-Ok.ensures.base (subst (λ r. CameFrom (at c.in-Ok.stack.layers.base) (at r)) (sym c.into_base.ensures) c.talk_over-end.ensures.came.base)

pub returns-in-Err-clause-came : goal.returns-in-Err-clause-came
returns-in-Err-clause-came g c =
    let at = reaching_in g.T.Tables.view g.R.Fars.view in
    subst (λ r. CameFrom (at c.args.sources) (at r)) (sym c.in-Err.ensures.refused) (came_same (at c.args.sources))

pub returns-in-Ok-clause-end : goal.returns-in-Ok-clause-end
returns-in-Ok-clause-end g c =
    let at = reaching_in g.T.Tables.view g.R.Fars.view in
    let basis = c.args.basis in
    let ops = (plan_value basis.plan).ops in
    let a = at c.args.sources in
    let b = at c.into_base.result in
    let k = stacking_in (λ r. view_of (at r)) c.in-Ok.stack.layers in
    let k' = stacking_in (λ r. view_of (at r)) c.talk_over-end.new.sources.layers in
    let came = c.talk_over-end.ensures.came in
    let came_ab = subst (λ r. CameFrom (at r) b) c.in-Ok.ensures.base (subst (λ r. CameFrom (at c.in-Ok.stack.layers.base) (at r)) (sym c.into_base.ensures) came.base) in
    let input = g.I.Input.view in
    let sink = g.K.Sink.view in
    let place : ArePlaced c.requires.placed.0 ops basis.catalog (placed_of a (plans_of k.views)) =
    subst (λ (vs : List (Option Plan)). ArePlaced c.requires.placed.0 ops basis.catalog (placed_of a vs)) (sym c.in-Ok.ensures.plans) c.requires.placed.1 in
    subst (λ (vs : List (Option Plan)). IsReachedTalkEnd a b vs basis (input c.args.streams.now.input) (input c.talk_over-end.new.streams.input) (sink c.args.streams.now.out) (sink c.talk_over-end.new.streams.out) c.talk_over-end.result)
    c.in-Ok.ensures.plans
    (talk_stack_ends c.requires.placed.0 a b came_ab basis c.requires.over (λ d. (c.plans_are_finished.ensures (plan_value basis.plan) c.requires.over.valid d).1 c.requires.uses) c.requires.unasked (input c.args.streams.now.input) (sink c.args.streams.now.out)
    (input c.talk_over-end.new.streams.input) (sink c.talk_over-end.new.streams.out) c.talk_over-end.result k k' (ap (λ r. view_of (at r)) c.in-Ok.ensures.base) (ap (λ r. view_of (at r)) (sym c.into_base.ensures)) _
    (λ same. ap (λ r. (at r).fills) (c.into_base.ensures ∙ ap (λ s. s.layers.base) same ∙ c.in-Ok.ensures.base)) came.plans c.in-Ok.ensures.fills came.lazy (came_keeps (at c.in-Ok.stack.layers.base) (at c.talk_over-end.new.sources.layers.base) came.base)
    place c.talk_over-end.ensures.end)

pub returns-in-Err-clause-end : goal.returns-in-Err-clause-end
returns-in-Err-clause-end g c few most =
    let at = reaching_in g.T.Tables.view g.R.Fars.view in
    let basis = c.args.basis in
    let a = at c.args.sources in
    let b = at c.in-Err.refused.base in
    let found = (c.plans_are_finished.ensures (plan_value basis.plan) c.requires.over.valid (all_documents (stores_of a) (placed_of a c.args.views.items))).1 c.requires.uses in
    let came = subst (λ r. CameFrom a (at r)) (sym c.in-Err.ensures.refused) (came_same a) in
    let none = ap (λ r. (at r).fills) c.in-Err.ensures.refused ∙ c.requires.unasked in
    talk_untaken a b c.args.views.items basis found.finished (λ steps. found.is steps tt) few came none (g.I.Input.view c.args.streams.now.input) (g.K.Sink.view c.args.streams.now.out)
