use Rattle.std.proofs.Common.{◌≡◌, ◌<◌, ◌+◌, ◌∙◌, ◌==◌, ℕ, true, sym, ap, arith, length, get_or}
use Rattle.plan_core.specs.PlanMade.{op_of}
use Rattle.plan_core.specs.Plans.{tuple_destroy}
use Rattle.plan_read.specs.Checks.{ops_of}
use Rattle.plan_read.specs.Drafts.{all_numbered}
use Rattle.plan_read.proofs.Ended.{and_true, destroys, ends_further, ends_here}
use Rattle.plan_read.proofs.Stopping.{draft_here, many_ops}
use Rattle.plan_read.proofs.checks.ends.Goals as goal

pub returns-then-is_destroy : goal.returns-then-is_destroy
returns-then-is_destroy c =
    let ds = c.args.drafts.now in
    let ops = ops_of (all_numbered ds) in
    let k = c.loop-place.place in
    let d = c.index-drafts-place.result in
    let inside : k < length ds = omega arith in
    let many = many_ops ds in
    let p = destroys (op_of d.op) (sym c.is_destroy.ensures ∙ c.if-is_destroy.true) in
    let same : get_or ops k (tuple_destroy p.0 p.1) ≡ tuple_destroy p.0 p.1 = draft_here ds k d (tuple_destroy p.0 p.1) inside c.index-drafts-place.is ∙ p.2 in
    ap (λ (n : ℕ). k + 1 == n) (sym many) ∙ and_true (k + 1 == length ops) ∙ sym (ends_here (λ n. true) ops k p.0 p.1 (omega (arith, many, inside)) same) ∙ c.loop-place.invariant

pub loop-place-preserved : goal.loop-place-preserved
loop-place-preserved c =
    let ds = c.args.drafts.now in
    let ops = ops_of (all_numbered ds) in
    let k = c.loop-place.place in
    let d = c.index-drafts-place.result in
    let inside : k < length ds = omega arith in
    let many = many_ops ds in
    ends_further (λ n. true) ops k (op_of d.op) (omega (arith, many, inside)) (draft_here ds k d (op_of d.op) inside c.index-drafts-place.is) (sym c.is_destroy.ensures ∙ c.if-is_destroy.false)
    ∙ c.loop-place.invariant
