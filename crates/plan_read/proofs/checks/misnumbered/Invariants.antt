use Rattle.plan_read.specs.Checks.{AreNumbered}
use Rattle.plan_read.specs.Drafts.{all_numbered}
use Rattle.plan_read.proofs.checks.misnumbered.Given as goal

abbrev pub invariant-loop-place : goal.invariant-loop-place
invariant-loop-place l = AreNumbered (all_numbered l.drafts) l.place
