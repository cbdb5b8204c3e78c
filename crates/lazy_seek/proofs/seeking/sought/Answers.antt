use Rattle.std.proofs.Common.{arith, ◌≡◌, ◌∙◌, ◌<◌, suc, List, sym, ap, subst, length, map}
use Rattle.plan_core.specs.declared.plan.Op.{Op}
use Rattle.plan_core.specs.declared.plan.Plan.{Plan}
use Rattle.plan_core.specs.PlanMade.{op_of, plan_value}
use Rattle.lazy_plan.specs.Bench.{state_of, documents}
use Rattle.lazy_seek.specs.Ways.{IsWay}
use Rattle.lazy_seek.proofs.Drafts.{vars_are}
use Rattle.lazy_seek.proofs.Wholes.{evidence_length, counted}
use Rattle.lazy_seek.proofs.seeking.sought.Goals as goal

pub returns-then-count_visits-places-clause-answer : goal.returns-then-count_visits-places-clause-answer
returns-then-count_visits-places-clause-answer g c =
    let a = state_of (g.S.Sources.view c.args.s.now) c.args.bench.now in
    let p = plan_value c.args.bench.now.fixed.plan in
    let within : c.args.op < length p.ops = (let r = c.requires.op in omega (arith, r)) in
    let ops_is = c.deref.ensures.value ∙ ap (λ (q : Plan). q.ops.items) c.plan.ensures in
    let is_way = subst (λ (os : List Op). IsWay (map op_of os) c.args.op c.in_ok-way.way.items) ops_is c.in_ok-way.ensures.way in
    let many : length c.in_ok-way.way.items ≡ suc c.args.op = (let r = c.in_ok-way.ensures.length in omega (arith, r)) in
    let count =
    counted c.args.bench.now.fixed.plan.ops.items c.deref-2.result.now c.args.op c.count_visits.result c.in_ok-way.way.items c.deref-3.result.now
    (c.deref-2.ensures.value ∙ ap (λ (q : Plan). q.ops.items) c.plan-2.ensures) c.deref-3.ensures.value is_way many (c.count_visits.ensures c.args.op) in
    λ told nodes is.
    c.if-count_visits-places.true
    (count ∙ sym (ap length (vars_are p c.requires.bench.valid c.args.op within)) ∙ evidence_length (documents a) p.ops c.args.op c.args.places.now nodes is)

pub sought_along-requires-clause-wanted : goal.sought_along-requires-clause-wanted
sought_along-requires-clause-wanted g c =
    let p = plan_value c.args.bench.now.fixed.plan in
    let within : c.args.op < length p.ops = (let r = c.requires.op in omega (arith, r)) in
    let ops_is = c.deref.ensures.value ∙ ap (λ (q : Plan). q.ops.items) c.plan.ensures in
    let is_way = subst (λ (os : List Op). IsWay (map op_of os) c.args.op c.in_ok-way.way.items) ops_is c.in_ok-way.ensures.way in
    let many : length c.in_ok-way.way.items ≡ suc c.args.op = (let r = c.in_ok-way.ensures.length in omega (arith, r)) in
    let count =
    counted c.args.bench.now.fixed.plan.ops.items c.deref-2.result.now c.args.op c.count_visits.result c.in_ok-way.way.items c.deref-3.result.now
    (c.deref-2.ensures.value ∙ ap (λ (q : Plan). q.ops.items) c.plan-2.ensures) c.deref-3.ensures.value is_way many (c.count_visits.ensures c.args.op) in
    record { within = within; places = ap length (vars_are p c.requires.bench.valid c.args.op within) ∙ sym count ∙ c.if-count_visits-places.false }
