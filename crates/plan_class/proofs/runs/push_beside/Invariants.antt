use Rattle.std.proofs.Common.{◌≡◌, ◌++◌, drop, map}
use Rattle.plan_class.specs.LevelLists.{beside}
use Rattle.plan_class.specs.Runs.{levels_of}
use Rattle.plan_class.proofs.runs.push_beside.Given as goal

abbrev pub invariant-right : goal.invariant-right
invariant-right l =
    levels_of l.runs.items ++ map (beside l.left) (levels_of (drop l.run-index l.right)) ≡ levels_of l.fn.runs.items ++ map (beside l.left) (levels_of l.right)
