use Rattle.std.proofs.Common.{◌∙◌, ap, subst, ◌≡◌, List, map, IfOk}
use Rattle.plan_core.specs.Plans.{Operator}
use Rattle.plan_core.specs.PlanMade.{op_of}
use Rattle.plan_rewrite.specs.Blocks.{blocks_of, without}
use Rattle.plan_rewrite.proofs.BlockParts.{IsPlain, is_plain, plain_block, plain_below, plain_inputs}
use Rattle.plan_rewrite.proofs.taking.next_block.Goals as goal

pub block_above-requires : goal.block_above-requires
block_above-requires c =
    let plain : IsPlain (op_of c.args.op.now) = is_plain c.args.op.now c.in_default.not-Select c.in_default.not-Join in
    plain_below (op_of c.args.op.now) plain c.requires.below.0 (blocks_of c.args.blocks.now.items) c.requires.below.1

pub returns-in_default : goal.returns-in_default
returns-in_default c =
    let plain : IsPlain (op_of c.args.op.now) = is_plain c.args.op.now c.in_default.not-Select c.in_default.not-Join in
    let all : List (List Operator) = blocks_of c.args.blocks.now.items in
    record {
      made = λ of h. subst (λ (z : List Operator). IfOk c.block_above.result (λ b. map op_of b.items ≡ z)) (plain_block (op_of c.args.op.now) plain of all h) c.block_above.ensures.made;
      left = c.block_above.ensures.left ∙ ap (λ ns. without ns all) (plain_inputs (op_of c.args.op.now) plain);
    }
