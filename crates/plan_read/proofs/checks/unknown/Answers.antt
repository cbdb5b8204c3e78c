use Rattle.std.proofs.Common.{◌<◌, ℕ, arith, subst, length}
use Rattle.plan_core.specs.Valid.{HasSource}
use Rattle.plan_read.specs.Checks.{AreKnown}
use Rattle.plan_read.specs.Drafts.{all_numbered}
use Rattle.plan_read.proofs.Stopping.{stops_op, more_op, next}
use Rattle.plan_read.proofs.checks.unknown.Goals as goal

pub returns-then-not-has_source : goal.returns-then-not-has_source
returns-then-not-has_source c =
    let ds = c.args.drafts.now in
    let inside : c.loop-draft.draft-index < length ds = omega arith in
    stops_op (HasSource c.args.count) ds c.loop-draft.draft-index c.draft-item.result inside c.draft-item.is c.loop-draft.invariant c.if-not-has_source.ensures

pub loop-draft-preserved : goal.loop-draft-preserved
loop-draft-preserved c =
    let ds = c.args.drafts.now in
    let inside : c.loop-draft.draft-index < length ds = omega arith in
    subst (λ (k : ℕ). AreKnown c.args.count (all_numbered ds) k) (next c.loop-draft.draft-index)
    (more_op (HasSource c.args.count) ds c.loop-draft.draft-index c.draft-item.result inside c.draft-item.is c.loop-draft.invariant c.if-not-has_source.ensures)
