use Rattle.view_stack.specs.Steps.{AreSound}
use Rattle.view_stack.proofs.stack.StackSources.fill.Given as goal

abbrev pub ghosts-recall : goal.ghosts-recall
ghosts-recall g a = record { holds = λ l. AreSound g.S.Sources.view l }
