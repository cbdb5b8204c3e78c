-- The words so far of the form are added.
use Rattle.catalog_continuations.specs.Next.{AreAdded, Below, LeadsAt}
use Rattle.catalog_continuations.proofs.next.push_words.Given as goal

abbrev pub invariant-loop-passed : goal.invariant-loop-passed
invariant-loop-passed l = AreAdded (Below (LeadsAt l.front l.form) l.passed) l.initial.words.items l.words.items
