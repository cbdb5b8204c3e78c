use Rattle.lazy_follow.proofs.evidence.Evidence.+node_of.Given as goal

abbrev pub decreases-node_of : goal.decreases-node_of
decreases-node_of l = l.op
