use Rattle.std.proofs.Common.{◌≤◌, ◌<◌}
use Rattle.lazy_walk.specs.declared.stage.Stage.{Stage}
use Rattle.lazy_walk.specs.Stages.{IsStage, size_of, whole_size}
use Rattle.lazy_value.specs.Finding.{IsKnown}
use Rattle.lazy_value.proofs.mediator.Mediator.known.Given as goal

abbrev pub invariant-parts : goal.invariant-parts
invariant-parts l = record {
  stage : IsStage l.fn.node l.stage;
  none : (x : Stage) → size_of l.stage ≤ size_of x → size_of x < whole_size l.fn.node → IsKnown l.fn.self l.fn.node x → ⊥;
}

abbrev pub decreases-parts : goal.decreases-parts
decreases-parts l = size_of l.stage
