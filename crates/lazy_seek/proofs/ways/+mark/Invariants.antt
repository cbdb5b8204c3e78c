use Rattle.lazy_seek.proofs.ways.+mark.Given as goal

abbrev pub decreases-mark : goal.decreases-mark
decreases-mark l = l.op
