use Rattle.std.proofs.Common.{[], ◌∷◌, ◌++◌, ap, ◌∙◌}
use Rattle.plan_class.specs.LevelLists.{beside}
use Rattle.plan_class.specs.declared.runs.Run.{Run}
use Rattle.plan_class.proofs.RunSteps.{run_beside}
use Rattle.plan_class.proofs.runs.push_beside.Goals as goal

pub right-preserved : goal.right-preserved
right-preserved c =
    run_beside c.args.right.now c.right.run-index _ c.right-test.true (beside c.args.left) c.right.runs.items c.push.new.self.items
    (c.in_ok-push.ensures.items ∙ ap (λ (r : Run). c.right.runs.items ++ r ∷ []) c.run_beside.ensures)
    ∙ c.right.invariant
