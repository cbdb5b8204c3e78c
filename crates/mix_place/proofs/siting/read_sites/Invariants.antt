use Rattle.plan_core.specs.PlanMade.{plan_value}
use Rattle.mix_place.specs.Views.{lower_of, needs}
use Rattle.mix_place.proofs.Sites.{AreSitesTo}
use Rattle.mix_place.proofs.siting.read_sites.Given as goal

abbrev pub invariant-loop-s : goal.invariant-loop-s
invariant-loop-s l = AreSitesTo (needs (plan_value l.plan).ops (lower_of l.views)) l.catalog l.s l.sites.items
