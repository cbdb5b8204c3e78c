use Rattle.std.proofs.Common.{◌≡◌, ◌++◌, map}
use Rattle.std.specs.Vec.Iter.{into_iter_items}
use Rattle.plan_core.specs.PlanMade.{op_of}
use Rattle.plan_read.specs.Checks.{ops_of}
use Rattle.plan_read.specs.Drafts.{all_numbered}
use Rattle.plan_read.proofs.reading.ops_of.Given as goal

abbrev pub invariant-drafts : goal.invariant-drafts
invariant-drafts l = map op_of l.ops.items ++ ops_of (all_numbered (into_iter_items l.draft-iterator)) ≡ ops_of (all_numbered l.fn.drafts.items)
