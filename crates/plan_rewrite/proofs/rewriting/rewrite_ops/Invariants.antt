use Rattle.std.proofs.Common.{map}
use Rattle.plan_core.specs.PlanMade.{op_of}
use Rattle.plan_rewrite.specs.Blocks.{blocks_of}
use Rattle.plan_rewrite.proofs.BlockSteps.{AreBlocks}
use Rattle.plan_rewrite.proofs.rewriting.rewrite_ops.Given as goal

abbrev pub invariant-loop-op : goal.invariant-loop-op
invariant-loop-op l = AreBlocks (map op_of l.fn.p.ops.items) (blocks_of l.blocks.items) l.op-index
