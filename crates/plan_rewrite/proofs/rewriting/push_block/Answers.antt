use Rattle.std.proofs.Common.{List, [], ◌∷◌, ◌++◌, map, ◌∙◌, ap}
use Rattle.plan_core.specs.PlanMade.{op_of}
use Rattle.plan_core.specs.Plans.{Operator}
use Rattle.plan_core.specs.Valid.{inputs_of}
use Rattle.plan_rewrite.specs.Blocks.{blocks_of, without}
use Rattle.plan_rewrite.proofs.BlockSteps.{blocks_after}
use Rattle.plan_rewrite.proofs.rewriting.push_block.Goals as goal

pub returns : goal.returns
returns c = λ of below.
    let left : List (List Operator) = without (inputs_of (op_of c.args.op.now)) (blocks_of c.args.blocks.now.items) in
    ap blocks_of c.in_ok-push.ensures.items
    ∙ blocks_after c.next_block.new.blocks.items c.in_ok-block.block
    ∙ ap (λ (z : List (List Operator)). z ++ map op_of c.in_ok-block.block.items ∷ []) c.in_ok-block.ensures.left
    ∙ ap (λ (b : List Operator). left ++ b ∷ []) (c.in_ok-block.ensures.made of below)
