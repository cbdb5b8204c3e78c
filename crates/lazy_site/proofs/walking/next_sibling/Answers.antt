use Rattle.std.proofs.Common.{ℕ, sym, ap, subst, arith}
use Rattle.lazy_plan.specs.Bench.{state_of}
use Rattle.lazy_site.specs.Heights.{rest_rank, site_height, IsNoHigher}
use Rattle.lazy_site.proofs.Heads.{if_ok}
use Rattle.lazy_site.proofs.Heights.{lower_no_higher, ranked_after, roots_same}
use Rattle.lazy_site.proofs.walking.next_sibling.Goals as goal

pub returns-in-Inside-clause-height : goal.returns-in-Inside-clause-height
returns-in-Inside-clause-height g c =
    let e = ap (site_height (state_of (g.S.Sources.view c.args.s.now) c.args.bench.now)) c.in-Inside.is in
    if_ok c.right_spot.result _ _ (lower_no_higher (state_of (g.S.Sources.view c.right_spot.new.s) c.right_spot.new.bench) _ _ (omega (arith, e))) c.right_spot.ensures.height

pub returns-in-Item-clause-height : goal.returns-in-Item-clause-height
returns-in-Item-clause-height g c =
    if_ok c.first_node.result _ (IsNoHigher (site_height (state_of (g.S.Sources.view c.args.s.now) c.args.bench.now) c.args.site.now) (state_of (g.S.Sources.view c.first_node.new.s) c.first_node.new.bench))
    (λ r h. subst (λ (n : ℕ). IsNoHigher n (state_of (g.S.Sources.view c.first_node.new.s) c.first_node.new.bench) r) (sym (ap (site_height (state_of (g.S.Sources.view c.args.s.now) c.args.bench.now)) c.in-Item.is))
    (ranked_after (state_of (g.S.Sources.view c.args.s.now) c.args.bench.now) (state_of (g.S.Sources.view c.first_node.new.s) c.first_node.new.bench) c.in-Item.head (rest_rank c.in-Item.rest.value) (roots_same (g.S.Sources.view c.args.s.now) (g.S.Sources.view c.first_node.new.s) c.args.bench.now c.first_node.new.bench (g.met.S.Sources.keeps c.args.s.now c.first_node.new.s c.first_node.ensures.walked.came) c.requires.bench) r h)) c.first_node.ensures.rank
