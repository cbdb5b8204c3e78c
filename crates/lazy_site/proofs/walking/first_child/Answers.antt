use Rattle.std.proofs.Common.{ap, arith}
use Rattle.std.proofs.Math.Nat.{le-max_left}
use Rattle.lazy_plan.specs.Bench.{state_of}
use Rattle.lazy_site.specs.Heights.{head_rank, rest_rank, site_height}
use Rattle.lazy_site.proofs.Heads.{if_ok}
use Rattle.lazy_site.proofs.Heights.{lower_more}
use Rattle.lazy_site.proofs.walking.first_child.Goals as goal

pub returns-in-Inside-clause-height : goal.returns-in-Inside-clause-height
returns-in-Inside-clause-height g c =
    let e = ap (site_height (state_of (g.S.Sources.view c.args.s.now) c.args.bench.now)) c.in-Inside.is in
    if_ok c.down_spot.result _ _ (lower_more (state_of (g.S.Sources.view c.down_spot.new.s) c.down_spot.new.bench) _ _ (omega (arith, e))) c.down_spot.ensures.height

pub returns-in-Item-clause-height : goal.returns-in-Item-clause-height
returns-in-Item-clause-height g c =
    let e = ap (site_height (state_of (g.S.Sources.view c.args.s.now) c.args.bench.now)) c.in-Item.is in
    let l = le-max_left (head_rank c.in-Item.head) (rest_rank c.in-Item.rest.value) in
    if_ok c.down_head.result _ _ (lower_more (state_of (g.S.Sources.view c.down_head.new.s) c.down_head.new.bench) _ _ (omega (arith, e, l))) c.down_head.ensures.height
