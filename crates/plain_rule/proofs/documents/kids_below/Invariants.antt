use Rattle.std.proofs.Common.{◌≡◌, [], drop}
use Rattle.mix_tree.specs.Forest.{forest_of, tree, none, first_kids}
use Rattle.mix_tree.specs.Place.{trees_at}
use Rattle.plain_rule.proofs.documents.kids_below.Given as goal

abbrev pub invariant-loop-step : goal.invariant-loop-step
invariant-loop-step l = first_kids (trees_at (tree [] (forest_of l.found) none) (drop l.step-index l.place)) ≡ first_kids (trees_at (tree [] (forest_of l.kids) none) l.place)
