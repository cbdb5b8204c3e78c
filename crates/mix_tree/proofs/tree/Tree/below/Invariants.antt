use Rattle.std.proofs.Common.{◌≡◌, drop}
use Rattle.mix_tree.specs.Place.{tree_at}
use Rattle.mix_tree.proofs.tree.Tree.below.Given as goal

abbrev pub invariant-loop-step : goal.invariant-loop-step
invariant-loop-step l = tree_at l.found (drop l.step-index l.steps) ≡ tree_at l.fn.self l.fn.steps
