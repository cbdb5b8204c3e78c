use Rattle.std.proofs.Common.{sym, ap, subst, arith}
use Rattle.lazy_plan.specs.Bench.{state_of, IsCursor}
use Rattle.lazy_site.proofs.Along.{foot_below}
use Rattle.lazy_site.proofs.Making.{origin_held}
use Rattle.lazy_site.specs.Ways.{IsHeldAt, IsWay, foot_op, foot_at}
use Rattle.lazy_site.specs.declared.ways.Way.{Way}
use Rattle.lazy_site.proofs.ways.found_along.Goals as goal

pub descend-requires-2-clause-op : goal.descend-requires-2-clause-op
descend-requires-2-clause-op c =
    let b = c.requires in let l = b.2 in let st = state_of b.0 c.args.bench.now in
    let f = foot_below st l.op l.at l.has.cursor c.in_ok-place.place.value (c.in_ok-place.ensures.way st l.op l.at l.ways.0) in
    let x = f.within in let y = l.has.within in omega (arith, x, y)

pub descend-requires-2-clause-bench : goal.descend-requires-2-clause-bench
descend-requires-2-clause-bench c =
    let b = c.requires in let l = b.2 in let st = state_of b.0 c.args.bench.now in
    (b.0, b.1, (foot_below st l.op l.at l.has.cursor c.in_ok-place.place.value (c.in_ok-place.ensures.way st l.op l.at l.ways.0)).cursor)

pub made_here-requires-2-clause-op : goal.made_here-requires-2-clause-op
made_here-requires-2-clause-op c =
    let b = c.requires in let l = b.2 in let st = state_of b.0 c.args.bench.now in
    let g = (c.in_ok-last-2.ensures.held b.0 b.1 l.op l.at l.has.cursor (c.in_ok-place.ensures.way st l.op l.at l.ways.0)).1 in
    let e = ap foot_op c.deref-2.ensures in let x = g.within in let y = l.has.within in omega (arith, e, x, y)

pub made_here-requires-2-clause-bench : goal.made_here-requires-2-clause-bench
made_here-requires-2-clause-bench c =
    let b = c.requires in let l = b.2 in let st = state_of b.0 c.args.bench.now in (
      b.0,
      b.1,
      subst (λ (w : Way). IsCursor st (foot_op w) (foot_at w)) (sym c.deref-2.ensures)
          (c.in_ok-last-2.ensures.held b.0 b.1 l.op l.at l.has.cursor (c.in_ok-place.ensures.way st l.op l.at l.ways.0)).1.cursor,
    )

pub returns-then-brings : goal.returns-then-brings
returns-then-brings c = λ view h n d i w.
    let st = state_of view c.args.bench.now in
    let g = c.in_ok-lowest.ensures.held view h n d i w.1 in
    let k = subst (λ (x : Way). IsHeldAt st n d c.args.v (foot_op x) (foot_at x)) (sym c.deref-then-brings.ensures) g.1 in
    let b = foot_below st n d i c.deref-then-brings.result.now (subst (IsWay st n d) (sym c.deref-then-brings.ensures) g.0) in (
      origin_held st n c.args.v (foot_op c.deref-then-brings.result.now) d (foot_at c.deref-then-brings.result.now) c.in_ok-origin.origin k b (c.in_ok-origin.ensures view h k.cursor),
      (subst (IsWay st n d) (sym c.in_ok-last.ensures) w.0, g.0),
    )

pub returns : goal.returns
returns c = λ view h n d i w.
    let st = state_of view c.args.bench.now in
    let g = c.in_ok-last-2.ensures.held view h n d i (c.in_ok-place.ensures.way st n d w.0) in
    let k = subst (λ (x : Way). IsHeldAt st n d c.args.v (foot_op x) (foot_at x)) (sym c.deref-2.ensures) g.1 in
    let b = foot_below st n d i c.deref-2.result.now (subst (IsWay st n d) (sym c.deref-2.ensures) g.0) in (
      origin_held st n c.args.v (foot_op c.deref-2.result.now) d (foot_at c.deref-2.result.now) c.in_ok-origin-2.origin k b (c.in_ok-origin-2.ensures view h k.cursor),
      (g.0, c.in_ok-lowest-2.ensures st n d g.0 w.1),
    )
