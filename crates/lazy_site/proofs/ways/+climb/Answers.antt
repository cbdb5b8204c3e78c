use Rattle.std.proofs.Common.{◌∙◌, sym, subst}
use Rattle.lazy_site.specs.Ways.{IsWay, KeepsWay}
use Rattle.lazy_site.specs.declared.ways.Way.{Way}
use Rattle.lazy_site.proofs.Heads.{if_ok}
use Rattle.lazy_site.proofs.ways.+climb.Goals as goal

pub returns-else-brings-clause-way : goal.returns-else-brings-clause-way
returns-else-brings-clause-way t c =
    if_ok c.climb.result (λ r. KeepsWay c.in-Below.above.value r.value) (λ r. KeepsWay c.args.way.now.value r.value)
    (λ r k st n d i. k st n d (subst (λ (w : Way). IsWay st n d w) (sym c.deref-here.ensures ∙ c.in-Below.is) i).1)
    c.climb.ensures.way
