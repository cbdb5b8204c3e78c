use Rattle.std.proofs.Common.{◌+◌, ap, subst, arith}
use Rattle.lazy_plan.specs.Bench.{state_of, below_at}
use Rattle.lazy_site.specs.Ids.{IsHead}
use Rattle.lazy_site.specs.Heights.{head_rank, roots_of, IsLower}
use Rattle.lazy_site.specs.declared.sites.Head.{Head}
use Rattle.lazy_site.proofs.Heads.{if_ok}
use Rattle.lazy_site.proofs.Heights.{below_low, lower_more, ranked_lower, roots_same}
use Rattle.lazy_site.proofs.down.down_head.Goals as goal

pub returns-in-Whole-clause-height : goal.returns-in-Whole-clause-height
returns-in-Whole-clause-height g c =
    let l = below_low (g.S.Sources.view c.args.s.now) c.args.bench.now c.requires.bench c.in-Whole.source c.in-Whole.p (subst (λ (x : Head). IsHead (state_of (g.S.Sources.view c.args.s.now) c.args.bench.now) x) c.in-Whole.is c.requires.head) in
    if_ok c.down_spot.result _ _ (lower_more (state_of (g.S.Sources.view c.down_spot.new.s) c.down_spot.new.bench) (below_at (state_of (g.S.Sources.view c.args.s.now) c.args.bench.now) c.in-Whole.source c.in-Whole.p) (roots_of (state_of (g.S.Sources.view c.args.s.now) c.args.bench.now) + head_rank c.args.head.now) (omega (arith, l))) c.down_spot.ensures.height

pub returns-in-Built-clause-height : goal.returns-in-Built-clause-height
returns-in-Built-clause-height g c =
    let e = ap head_rank c.in-Built.is in
    if_ok c.down_element.result _ (IsLower (roots_of (state_of (g.S.Sources.view c.args.s.now) c.args.bench.now) + head_rank c.args.head.now) (state_of (g.S.Sources.view c.down_element.new.s) c.down_element.new.bench))
    (λ r h. lower_more (state_of (g.S.Sources.view c.down_element.new.s) c.down_element.new.bench) _ _ (omega (arith, e)) r (ranked_lower (state_of (g.S.Sources.view c.args.s.now) c.args.bench.now) (state_of (g.S.Sources.view c.down_element.new.s) c.down_element.new.bench) c.in-Built.op (roots_same (g.S.Sources.view c.args.s.now) (g.S.Sources.view c.down_element.new.s) c.args.bench.now c.down_element.new.bench (g.met.S.Sources.keeps c.args.s.now c.down_element.new.s c.down_element.ensures.walked.came) c.requires.bench) r h)) c.down_element.ensures.rank
