use Rattle.std.proofs.Common.{refl, ◌<◌, length, ◌∙◌, sym, ap, subst, arith}
use Rattle.lxp_core.specs.View.{View}
use Rattle.plan_core.specs.PlanMade.{plan_value}
use Rattle.plan_core.specs.Valid.{kinds}
use Rattle.lazy_plan.specs.Bench.{state_of, plan_of, IsBenchOf, IsCursor}
use Rattle.lazy_site.specs.Origins.{IsOriginOf}
use Rattle.lazy_site.specs.Ways.{IsWay, IsHeldAt, foot_op, foot_at}
use Rattle.lazy_site.specs.declared.ways.Way.{Way}
use Rattle.lazy_site.proofs.Along.{foot_below}
use Rattle.lazy_site.proofs.Heads.{if_ok}
use Rattle.lazy_site.proofs.Making.{origin_held}
use Rattle.lazy_site.proofs.origin.origin_of.Goals as goal

pub descend-requires-clause-op : goal.descend-requires-clause-op
descend-requires-clause-op c = subst (λ (w : Way). foot_op w < length (plan_value (plan_of c.args.bench.now)).ops) (sym c.in_ok-top.ensures.last) c.requires.op

pub descend-requires-clause-bench : goal.descend-requires-clause-bench
descend-requires-clause-bench c =
    let b = c.requires.bench in (b.0, b.1, subst (λ (w : Way). IsCursor (state_of b.0 c.args.bench.now) (foot_op w) (foot_at w)) (sym c.in_ok-top.ensures.last) b.2)

pub descend-requires-clause-kind : goal.descend-requires-clause-kind
descend-requires-clause-kind c = (c.requires.kind.0, ap (λ (w : Way). kinds (plan_value (plan_of c.args.bench.now)).ops (foot_op w) c.args.v) c.in_ok-top.ensures.last ∙ c.requires.kind.1)

pub made_here-requires-clause-op : goal.made_here-requires-clause-op
made_here-requires-clause-op c =
    let b = c.requires.bench in let st = state_of b.0 c.args.bench.now in
    let g = (c.in_ok-way.ensures.held b.0 b.1 c.args.op c.args.c.now b.2 (subst (IsWay st c.args.op c.args.c.now) (sym c.in_ok-top.ensures.last) (refl, refl))).1 in
    let e = ap foot_op c.deref.ensures in let x = g.within in let y = c.requires.op in omega (arith, e, x, y)

pub made_here-requires-clause-bench : goal.made_here-requires-clause-bench
made_here-requires-clause-bench c =
    let b = c.requires.bench in let st = state_of b.0 c.args.bench.now in
    let g = (c.in_ok-way.ensures.held b.0 b.1 c.args.op c.args.c.now b.2 (subst (IsWay st c.args.op c.args.c.now) (sym c.in_ok-top.ensures.last) (refl, refl))).1 in
    (b.0, b.1, subst (λ (w : Way). IsCursor st (foot_op w) (foot_at w)) (sym c.deref.ensures) g.cursor)

pub returns : goal.returns
returns c =
    if_ok c.made_here.result _ (λ r. (view : View) → IsBenchOf view c.args.bench.now → IsCursor (state_of view c.args.bench.now) c.args.op c.args.c.now → IsOriginOf (state_of view c.args.bench.now) c.args.op c.args.c.now c.args.v r)
    (λ r k view h i.
    let st = state_of view c.args.bench.now in
    let g = c.in_ok-way.ensures.held view h c.args.op c.args.c.now i (subst (IsWay st c.args.op c.args.c.now) (sym c.in_ok-top.ensures.last) (refl, refl)) in
    let held = subst (λ (w : Way). IsHeldAt st c.args.op c.args.c.now c.args.v (foot_op w) (foot_at w)) (sym c.deref.ensures) g.1 in
    let below = foot_below st c.args.op c.args.c.now i c.deref.result.now (subst (IsWay st c.args.op c.args.c.now) (sym c.deref.ensures) g.0) in
    origin_held st c.args.op c.args.v (foot_op c.deref.result.now) c.args.c.now (foot_at c.deref.result.now) r held below (k view h held.cursor))
    c.made_here.ensures
