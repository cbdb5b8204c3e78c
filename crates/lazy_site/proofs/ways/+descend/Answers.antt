use Rattle.std.proofs.Common.{ℕ, ◌∙◌, sym, ap, subst, arith}
use Rattle.plan_core.specs.declared.plan.Plan.{Plan}
use Rattle.lazy_plan.specs.Bench.{state_of, plan_of, ops_of, IsBenchOf, IsCursor}
use Rattle.plan_core.specs.Valid.{kinds}
use Rattle.lazy_site.specs.Origins.{IsPassedOn, PassesAll, IsMadeHere}
use Rattle.lazy_site.specs.Ways.{IsWay, GoesDown, IsHeldAt, foot_op, foot_at}
use Rattle.lazy_site.specs.declared.ways.Way.{Way}
use Rattle.lazy_site.proofs.Along.{at_foot, foot_below, way_on}
use Rattle.lazy_site.proofs.Heads.{if_ok}
use Rattle.lazy_site.proofs.ways.+descend.Goals as goal

pub descend-requires : goal.descend-requires
descend-requires t c =
    let b = c.requires.bench in let st = state_of b.0 c.args.bench.now in
    let p = subst (λ (q : Plan). IsPassedOn q c.foot-op.result.0 c.args.v c.in-Some.input) c.plan.ensures c.in-Some.ensures.value in
    let e = ap foot_op c.in_ok-below-in-Some.ensures in
    let f = c.foot-op.ensures.op ∙ ap foot_op c.deref.ensures in
    let i = at_foot (IsCursor st) c.args.way.now.value c.foot-op.result.0 c.foot-op.result.1.now f (c.foot-op.ensures.at ∙ ap foot_at c.deref.ensures) b.2 in (
      omega (arith, p.within, e, f, c.decreases),
      (
        omega (arith, p.within, e, f, c.requires.op),
        (
          (b.0, b.1, subst (λ (w : Way). IsCursor st (foot_op w) (foot_at w)) (sym c.in_ok-below-in-Some.ensures) (c.in_ok-at-in-Some.ensures.under b.0 b.1 i).cursor),
          (c.requires.kind.0, ap (λ (n : ℕ). kinds (ops_of st) n c.args.v) e ∙ sym p.kind ∙ ap (λ (n : ℕ). kinds (ops_of st) n c.args.v) f ∙ c.requires.kind.1),
        ),
      ),
    )

pub returns-in-None-clause-here : goal.returns-in-None-clause-here
returns-in-None-clause-here t c =
    if_ok c.share.result _ _
    (λ r e. subst (λ (w : Way). IsMadeHere (plan_of c.args.bench.now) (foot_op w) c.args.v) (sym e)
    (subst (λ (n : ℕ). IsMadeHere (plan_of c.args.bench.now) n c.args.v) (c.foot-op.ensures.op ∙ ap foot_op c.deref.ensures)
    (subst (λ (q : Plan). IsMadeHere q c.foot-op.result.0 c.args.v) c.plan.ensures c.in-None.ensures.value)))
    c.share.ensures

pub returns-in-None-clause-held : goal.returns-in-None-clause-held
returns-in-None-clause-held t c =
    if_ok c.share.result _ _
    (λ r e view h n d i w. subst (λ (x : Way). IsWay (state_of view c.args.bench.now) n d x × IsHeldAt (state_of view c.args.bench.now) n d c.args.v (foot_op x) (foot_at x)) (sym e)
    (w, (foot_below (state_of view c.args.bench.now) n d i c.args.way.now.value w).held c.args.v c.requires.kind.0 c.requires.kind.1))
    c.share.ensures

pub returns-in_ok-below-in-Some-clause-held : goal.returns-in_ok-below-in-Some-clause-held
returns-in_ok-below-in-Some-clause-held t c =
    let p = subst (λ (q : Plan). IsPassedOn q c.foot-op.result.0 c.args.v c.in-Some.input) c.plan.ensures c.in-Some.ensures.value in
    let all = subst (λ (q : Plan). PassesAll q c.foot-op.result.0 c.in-Some.input) c.plan.ensures c.in-Some.ensures.all in
    if_ok c.descend.result (λ r. (view : _) → IsBenchOf view c.args.bench.now → GoesDown (state_of view c.args.bench.now) c.args.v c.in_ok-below-in-Some.below.value r.value)
    (λ r. (view : _) → IsBenchOf view c.args.bench.now → GoesDown (state_of view c.args.bench.now) c.args.v c.args.way.now.value r.value)
    (λ r k view h n d i w. k view h n d i
    (way_on (state_of view c.args.bench.now) n d i c.args.way.now.value w c.foot-op.result.0 c.foot-op.result.1.now (c.foot-op.ensures.op ∙ ap foot_op c.deref.ensures) (c.foot-op.ensures.at ∙ ap foot_at c.deref.ensures)
    c.in-Some.input c.in_ok-at-in-Some.at p.within all (c.in_ok-at-in-Some.ensures.under view h) c.in_ok-below-in-Some.below.value c.in_ok-above-in-Some.above.value _ c.in_ok-below-in-Some.ensures c.in_ok-above-in-Some.ensures))
    c.descend.ensures.held
