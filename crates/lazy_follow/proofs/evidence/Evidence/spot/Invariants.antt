use Rattle.std.proofs.Common.{drop}
use Rattle.mix_base.specs.Ascents.{Among}
use Rattle.lazy_follow.proofs.evidence.Evidence.spot.Given as goal

abbrev pub invariant-loop-i : goal.invariant-loop-i
invariant-loop-i l = Among l.v l.self.vars.items → Among l.v (drop l.i l.self.vars.items)
