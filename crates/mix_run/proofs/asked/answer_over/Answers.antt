use Rattle.std.proofs.Common.{List, Option, option_map, Err, ap, arith, sym, subst, length}
use Rattle.std.proofs.lemmas.List.{length-map}
use Rattle.plan_core.specs.PlanMade.{plan_value}
use Rattle.plan_core.specs.declared.plan.Plan.{Plan}
use Rattle.mix_place.specs.declared.refusal.Stop.TheVariants.{OutOfMemory}
use Rattle.lxp_core.specs.View.{View}
use Rattle.view_stack.specs.Stacks.{stacking_in}
use Rattle.lazy_walk.specs.Walks.{plan_of}
use Rattle.mix_run.specs.Running.{IsEndOver}
use Rattle.mix_run.proofs.Finishing.{finished_for}
use Rattle.mix_run.proofs.Ending.{stack_ends, unopened_ends}
use Rattle.mix_run.proofs.asked.answer_over.Goals as goal

pub returns-in-Ok-clause-end : goal.returns-in-Ok-clause-end
returns-in-Ok-clause-end g c =
    let view = g.S.Sources.view in
    let before = g.K.Sink.view c.args.out.now in
    let after = g.K.Sink.view c.walk-end.new.out in
    let asked = c.args.asked in
    let k = stacking_in view c.in-Ok.stack.layers in
    let k' = stacking_in view c.walk-end.new.sources.layers in
    let came = c.walk-end.ensures.came in
    let end = c.walk-end.result in
    let h = stack_ends asked c.requires.over (λ d. finished_for c.plans_are_finished.ensures (plan_value asked.plan) c.requires.over.valid asked.steps.items c.requires.answerable d) before after end k k' _ (λ same. ap (λ s. view s.layers.base) same)
    (g.met.S.Sources.keeps c.in-Ok.stack.layers.base c.walk-end.new.sources.layers.base came.base) came.plans c.in-Ok.ensures.fills came.lazy c.walk-end.ensures.end in
    subst (λ (v : View). IsEndOver v (view c.into_base.result) c.args.views.items asked before after end) (ap view c.in-Ok.ensures.base)
    (subst (λ (v : View). IsEndOver k.base v c.args.views.items asked before after end) (ap view (sym c.into_base.ensures))
    (subst (λ (vs : List (Option Plan)). IsEndOver k.base k'.base vs asked before after end) c.in-Ok.ensures.plans h))

pub returns-in-Err-clause-end : goal.returns-in-Err-clause-end
returns-in-Err-clause-end g c =
    let view = g.S.Sources.view in
    let asked = c.args.asked in
    let before = g.K.Sink.view c.args.out.now in
    subst (λ (v : View). IsEndOver (view c.args.sources) v c.args.views.items asked before before (Err OutOfMemory)) (ap view (sym c.in-Err.ensures.refused))
    (unopened_ends asked c.requires.over (λ d. finished_for c.plans_are_finished.ensures (plan_value asked.plan) c.requires.over.valid asked.steps.items c.requires.answerable d) before (view c.args.sources) c.args.views.items)

pub walk-end-requires-clause-number : goal.walk-end-requires-clause-number
walk-end-requires-clause-number g c =
    let b = ap (λ s. (g.S.Sources.view s).count) c.in-Ok.ensures.base in
    let l = ap (λ (vs : List (Option Plan)). length vs) c.in-Ok.ensures.plans in
    let m = length-map c.in-Ok.stack.layers.views.items (option_map plan_of) in
    let n = c.requires.number in
    omega (arith, b, l, m, n)

pub returns-in-Ok-clause-came : goal.returns-in-Ok-clause-came
returns-in-Ok-clause-came g c =
    subst (λ s. g.S.Sources.came_from s c.into_base.result) c.in-Ok.ensures.base
    (subst (λ s. g.S.Sources.came_from c.in-Ok.stack.layers.base s) (sym c.into_base.ensures) c.walk-end.ensures.came.base)

pub returns-in-Err-clause-came : goal.returns-in-Err-clause-came
returns-in-Err-clause-came g c = subst (λ s. g.S.Sources.came_from c.args.sources s) (sym c.in-Err.ensures.refused) (g.met.S.Sources.same c.args.sources)
