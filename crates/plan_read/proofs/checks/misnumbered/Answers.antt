use Rattle.std.proofs.Common.{◌<◌, arith, subst, length}
use Rattle.plan_read.specs.Checks.{AreNumbered}
use Rattle.plan_read.specs.Drafts.{all_numbered}
use Rattle.plan_read.proofs.Counted.{numbered_more, numbered_last}
use Rattle.plan_read.proofs.Stopping.{stops_at, next}
use Rattle.plan_read.proofs.checks.misnumbered.Goals as goal

pub returns-then-not-is_placed : goal.returns-then-not-is_placed
returns-then-not-is_placed c =
    let ds = c.args.drafts.now in
    let inside : c.loop-place.place < length ds = omega arith in
    stops_at (AreNumbered (all_numbered ds)) ds c.loop-place.place c.index-drafts-place.result inside c.index-drafts-place.is c.loop-place.invariant
    (λ numbered. c.if-not-is_placed.ensures (numbered_last ds c.loop-place.place c.index-drafts-place.result inside c.index-drafts-place.is numbered))

pub loop-place-preserved : goal.loop-place-preserved
loop-place-preserved c =
    let ds = c.args.drafts.now in
    let inside : c.loop-place.place < length ds = omega arith in
    subst (AreNumbered (all_numbered ds)) (next c.loop-place.place)
    (numbered_more ds c.loop-place.place c.index-drafts-place.result inside c.index-drafts-place.is c.loop-place.invariant c.if-not-is_placed.ensures)
