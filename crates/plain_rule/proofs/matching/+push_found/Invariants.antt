use Rattle.std.proofs.Common.{◌≡◌, ◌++◌, Bool, drop}
use Rattle.mix_tree.specs.Forest.{forest_of}
use Rattle.mix_tree.specs.Weight.{nodes_of}
use Rattle.path_expr.specs.Description.{Labels}
use Rattle.plain_rule.specs.Found.{Tests, found_in}
use Rattle.plain_rule.proofs.matching.+push_found.Given as goal

abbrev pub decreases-push_found : goal.decreases-push_found
decreases-push_found l = nodes_of (forest_of l.trees.now)

abbrev pub invariant-loop-at : goal.invariant-loop-at
invariant-loop-at l = (test : Labels → Bool) → Tests l.path test → l.found.items ++ found_in test l.under.labels.now l.under.place.now l.at (forest_of (drop l.at l.trees)) ≡ l.fn.found.items ++ found_in test l.under.labels.now l.under.place.now 0 (forest_of l.trees)
