use Rattle.plan_read.specs.Checks.{AreKnown}
use Rattle.plan_read.specs.Drafts.{all_numbered}
use Rattle.plan_read.proofs.checks.unknown.Given as goal

abbrev pub invariant-loop-draft : goal.invariant-loop-draft
invariant-loop-draft l = AreKnown l.count (all_numbered l.drafts) l.draft-index
