use Rattle.mix_place.specs.Chosen.{every}
use Rattle.mix_place.proofs.Sites.{AreSitesTo}
use Rattle.mix_place.proofs.siting.read_all_sites.Given as goal

abbrev pub invariant-loop-s : goal.invariant-loop-s
invariant-loop-s l = AreSitesTo every l.catalog l.s l.sites.items
