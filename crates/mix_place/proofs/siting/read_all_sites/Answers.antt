use Rattle.std.proofs.Common.{◌≡◌, ◌+◌, List, subst, sym, arith, length}
use Rattle.mix_place.specs.Chosen.{every}
use Rattle.mix_reach.specs.declared.site.Site.{Site}
use Rattle.mix_place.proofs.Sites.{AreSitesTo, all_sites, sites_more}
use Rattle.mix_place.proofs.siting.read_all_sites.Goals as goal

pub loop-s-preserved : goal.loop-s-preserved
loop-s-preserved c =
    subst (λ (sites : List Site). AreSitesTo every c.args.catalog.now (c.loop-s.s + 1) sites) (sym c.in_ok-push.ensures.items)
    (sites_more every c.args.catalog.now c.loop-s.s c.loop-s.sites.items c.spec.result.now c.in_ok-read_site.field-0 c.loop-s.invariant c.spec.ensures.spec c.in_ok-read_site.ensures)

pub returns : goal.returns
returns c =
    let all : c.loop-s.s ≡ length c.args.catalog.now = (let a = c.loop-s-test.false in let e = c.len-s-end.ensures.len in let w = c.loop-s.auto.s-end in omega (arith, a, e, w)) in
    all_sites every c.args.catalog.now c.loop-s.s c.loop-s.sites.items all c.loop-s.invariant
