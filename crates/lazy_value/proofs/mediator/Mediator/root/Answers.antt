use Rattle.lazy_value.proofs.mediator.Mediator.root.Goals as goal

pub returns-clause-place : goal.returns-clause-place
returns-clause-place c = λ view h. c.root.ensures.place view h.walk
