use Rattle.lazy_follow.proofs.agreeing.+agrees_below.Given as goal

abbrev pub decreases-agrees_below : goal.decreases-agrees_below
decreases-agrees_below l = l.op
