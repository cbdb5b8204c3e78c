use Rattle.std.proofs.Common.{◌≡◌, true, drop}
use Rattle.plan_read.specs.Checks.{ops_of}
use Rattle.plan_read.specs.Drafts.{all_numbered}
use Rattle.plan_read.specs.Ops.{ends_by}
use Rattle.plan_read.proofs.checks.ends.Given as goal

abbrev pub invariant-loop-place : goal.invariant-loop-place
invariant-loop-place l = ends_by (λ n. true) (drop l.place (ops_of (all_numbered l.drafts))) ≡ ends_by (λ n. true) (ops_of (all_numbered l.drafts))
