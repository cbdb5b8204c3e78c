use Rattle.std.proofs.Common.{◌+◌, ◌*◌, length}
use Rattle.lazy_follow.proofs.following.+following.Given as goal

abbrev pub decreases-follow_list : goal.decreases-follow_list
decreases-follow_list g l = 2 * length l.ahead.now.levels.now

abbrev pub decreases-follow_tree : goal.decreases-follow_tree
decreases-follow_tree g l = 2 * length l.ahead.now.levels.now + 1
