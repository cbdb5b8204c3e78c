use Rattle.std.proofs.Common.{◌≡◌, ◌+◌, ℕ, List, [], ◌∷◌, ◌++◌, map, length, ◌∙◌, sym, ap, subst, arith}
use Rattle.std.proofs.lemmas.List.{length-map}
use Rattle.plan_core.specs.PlanMade.{op_of, plan_value}
use Rattle.plan_core.specs.Plans.{Operator, PlanValue}
use Rattle.plan_core.specs.Typed.{IsTyped}
use Rattle.plan_core.specs.Valid.{inputs_of}
use Rattle.plan_make.specs.Trees.{Tree}
use Rattle.plan_rewrite.specs.Blocks.{blocks_of, without, block_over, AreBelow, SidesDiffer}
use Rattle.plan_rewrite.specs.Rewritten.{rewritten, tree_at}
use Rattle.plan_rewrite.proofs.BlockSteps.{AreBlocks, op_here, blocks_below, blocks_after, sides_differ, blocks_more, last_block}
use Rattle.plan_rewrite.proofs.rewriting.rewrite_ops.Goals as goal

pub push_block-requires-clause-sides : goal.push_block-requires-clause-sides
push_block-requires-clause-sides c =
    let p : PlanValue = plan_value c.args.p.now in
    let typed : IsTyped p.ops = c.valid_plans_are_typed.ensures p c.requires in
    let here = op_here c.as_slice-op-items.result.now c.args.p.now.ops.items c.loop-op.op-index c.op-item.result c.as_slice-op-items.ensures.value c.loop-op-test.true c.op-item.is in
    subst SidesDiffer (sym here.0) (sides_differ p c.requires typed c.loop-op.op-index here.1)

pub push_block-requires-clause-below : goal.push_block-requires-clause-below
push_block-requires-clause-below c =
    let p : PlanValue = plan_value c.args.p.now in
    let typed : IsTyped p.ops = c.valid_plans_are_typed.ensures p c.requires in
    let here = op_here c.as_slice-op-items.result.now c.args.p.now.ops.items c.loop-op.op-index c.op-item.result c.as_slice-op-items.ensures.value c.loop-op-test.true c.op-item.is in
    let of : ℕ → Tree = λ i. rewritten (tree_at p.ops i) in
    let all : List (List Operator) = blocks_of c.loop-op.blocks.items in
    (of, subst (λ (o : Operator). AreBelow o of all) (sym here.0) (blocks_below p c.requires typed all c.loop-op.op-index here.1 c.loop-op.invariant))

pub loop-op-preserved : goal.loop-op-preserved
loop-op-preserved c =
    let p : PlanValue = plan_value c.args.p.now in
    let typed : IsTyped p.ops = c.valid_plans_are_typed.ensures p c.requires in
    let here = op_here c.as_slice-op-items.result.now c.args.p.now.ops.items c.loop-op.op-index c.op-item.result c.as_slice-op-items.ensures.value c.loop-op-test.true c.op-item.is in
    let of : ℕ → Tree = λ i. rewritten (tree_at p.ops i) in
    let all : List (List Operator) = blocks_of c.loop-op.blocks.items in
    let below : AreBelow (op_of c.op-item.result) of all =
    subst (λ (o : Operator). AreBelow o of all) (sym here.0) (blocks_below p c.requires typed all c.loop-op.op-index here.1 c.loop-op.invariant) in
    let block : List Operator = block_over (op_of c.op-item.result) of in
    let more = c.in_ok-push_block.ensures of below ∙ ap (λ (o : Operator). without (inputs_of o) all ++ block ∷ []) here.0 in
    subst (λ (z : List (List Operator)). AreBlocks p.ops z (c.loop-op.op-index + 1)) (sym more)
    (blocks_more p c.requires typed all c.loop-op.op-index block c.loop-op.invariant (ap (λ (o : Operator). block_over o of) here.0))

pub returns-in-Some : goal.returns-in-Some
returns-in-Some c =
    let p : PlanValue = plan_value c.args.p.now in
    let typed : IsTyped p.ops = c.valid_plans_are_typed.ensures p c.requires in
    let all : List (List Operator) = blocks_of c.loop-op.blocks.items in
    let many = length-map c.args.p.now.ops.items op_of in
    let same = ap length c.as_slice-op-items.ensures.value in
    let end : c.loop-op.op-index ≡ length p.ops = omega (arith, many, same, c.loop-op-test.false, c.loop-op.auto.op-index-end) in
    last_block p c.requires typed all (blocks_of c.pop.new.self.items) (map op_of c.in-Some.ops.items) (subst (AreBlocks p.ops all) end c.loop-op.invariant)
    (ap blocks_of c.in-Some.ensures.items ∙ blocks_after c.pop.new.self.items c.in-Some.ops)
