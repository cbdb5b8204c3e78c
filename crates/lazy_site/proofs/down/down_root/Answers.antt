use Rattle.std.proofs.Common.{subst}
use Rattle.plan_core.specs.declared.plan.Plan.{Plan}
use Rattle.plan_core.specs.PlanMade.{plan_value}
use Rattle.plan_forms.specs.Forms.{IsLast}
use Rattle.lazy_site.proofs.Downs.{root_walked}
use Rattle.std.proofs.Common.{◌+◌, suc, length, ap, arith}
use Rattle.lazy_plan.specs.Bench.{state_of, ops_of}
use Rattle.lazy_site.specs.Heights.{origin_rank, roots_of, site_height, IsLower}
use Rattle.lazy_site.specs.declared.sites.Site.TheVariants.{Root}
use Rattle.lazy_site.proofs.Heads.{if_ok}
use Rattle.lazy_site.proofs.Heights.{lower_more, ranked_lower, roots_same}
use Rattle.lazy_site.specs.Origins.{IsOriginOf}
use Rattle.lazy_site.specs.Standing.{ChildStandsIn, RootChildIn}
use Rattle.lazy_site.proofs.DownIn.{root_in}
use Rattle.lazy_site.proofs.down.down_root.Goals as goal

pub returns-in-Element-clause-walked : goal.returns-in-Element-clause-walked
returns-in-Element-clause-walked g c =
    let f = rw c.in-Some.is at c.in_ok-first.ensures.answer in
    root_walked g.met.S.Sources.after c.args.s.now c.first.new.s c.down_element.new.s c.args.bench.now c.first.new.self c.down_element.new.bench c.last-input.result.0 c.last-input.result.1 c.in-Element.op c.in-Some.c c.in-Element.at c.in_ok-op-in-Some.field-0
    (subst (λ (p : Plan). IsLast (plan_value p).ops c.last-input.result.0 c.last-input.result.1) c.plan.ensures c.last-input.ensures)
    c.first.ensures.ran c.first.ensures.none f c.in-Element.is
    (c.in_ok-op-in-Some.ensures (g.S.Sources.view c.first.new.s) c.first.ensures.ran.bench f.cursor) c.down_element.ensures.walked

pub returns-in-Element-clause-height : goal.returns-in-Element-clause-height
returns-in-Element-clause-height g c =
    let f = rw c.in-Some.is at c.in_ok-first.ensures.answer in
    let o = c.in_ok-op-in-Some.ensures (g.S.Sources.view c.first.new.s) c.first.ensures.ran.bench f.cursor in
    let rank = o.rank in
    let e = ap origin_rank c.in-Element.is in
    let last = subst (λ (p : Plan). IsLast (plan_value p).ops c.last-input.result.0 c.last-input.result.1) c.plan.ensures c.last-input.ensures in
    let within = last.within in
    let came = g.met.S.Sources.after c.args.s.now c.first.new.s c.down_element.new.s c.first.ensures.ran.came c.down_element.ensures.walked.came in
    let same = roots_same (g.S.Sources.view c.args.s.now) (g.S.Sources.view c.down_element.new.s) c.args.bench.now c.down_element.new.bench (g.met.S.Sources.keeps c.args.s.now c.down_element.new.s came) c.requires.bench in
    if_ok c.down_element.result _ (IsLower (site_height (state_of (g.S.Sources.view c.args.s.now) c.args.bench.now) Root) (state_of (g.S.Sources.view c.down_element.new.s) c.down_element.new.bench))
    (λ r h. lower_more (state_of (g.S.Sources.view c.down_element.new.s) c.down_element.new.bench) (roots_of (state_of (g.S.Sources.view c.args.s.now) c.args.bench.now) + suc c.in-Element.op) (roots_of (state_of (g.S.Sources.view c.args.s.now) c.args.bench.now) + length (ops_of (state_of (g.S.Sources.view c.args.s.now) c.args.bench.now))) (omega (arith, rank, e, within)) r (ranked_lower (state_of (g.S.Sources.view c.args.s.now) c.args.bench.now) (state_of (g.S.Sources.view c.down_element.new.s) c.down_element.new.bench) c.in-Element.op same r h)) c.down_element.ensures.rank

pub returns-in-Element-clause-list : goal.returns-in-Element-clause-list
returns-in-Element-clause-list g c =
    let old = state_of (g.S.Sources.view c.args.s.now) c.args.bench.now in
    let mid = state_of (g.S.Sources.view c.first.new.s) c.first.new.self in
    let new = state_of (g.S.Sources.view c.down_element.new.s) c.down_element.new.bench in
    let input = c.last-input.result.0 in
    let outer = c.last-input.result.1 in
    let b = c.first.ensures.ran.bench in
    let f = rw c.in-Some.is at c.in_ok-first.ensures.answer in
    let o = c.in_ok-op-in-Some.ensures (g.S.Sources.view c.first.new.s) b f.cursor in
    let last = subst (λ (p : Plan). IsLast (plan_value p).ops input outer) c.plan.ensures c.last-input.ensures in
    if_ok c.down_element.result (ChildStandsIn mid new c.in-Element.op c.in-Element.at) (RootChildIn new)
    (root_in old mid new c.first.ensures.ran.kept c.down_element.ensures.walked.kept b.valid b.fixed.typed input outer c.in-Element.op c.in-Some.c c.in-Element.at last f
    (subst (IsOriginOf mid input c.in-Some.c outer) c.in-Element.is o))
    c.down_element.ensures.list
