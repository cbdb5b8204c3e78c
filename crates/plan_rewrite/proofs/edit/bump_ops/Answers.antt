use Rattle.std.proofs.Common.{◌∙◌, sym, ap}
use Rattle.plan_core.specs.PlanMade.{op_of}
use Rattle.plan_rewrite.proofs.Renumbering.{seen_more}
use Rattle.plan_rewrite.specs.Edits.{bumped_op}
use Rattle.plan_rewrite.proofs.edit.bump_ops.Goals as goal

pub loop-op-preserved : goal.loop-op-preserved
loop-op-preserved c =
    seen_more op_of (bumped_op c.args.n) c.args.ops.now c.loop-op.ops c.loop-op.op-index c.op-item.result c.bump_op.new.op c.loop-op-test.true c.loop-op.invariant c.op-item.is (c.in_ok-bump_op.ensures ∙ ap (λ x. bumped_op c.args.n (op_of x)) (sym c.op-item.is))
