use Rattle.std.proofs.Common.{◌∙◌, sym, ap, subst, ◌≡◌, List, map, IfOk, arith}
use Rattle.std.specs.Prelude.{vec_len}
use Rattle.std.proofs.lemmas.List.{length-map}
use Rattle.plan_core.specs.Plans.{Operator}
use Rattle.plan_core.specs.PlanMade.{op_of}
use Rattle.plan_make.specs.Trees.{both, numbered}
use Rattle.plan_rewrite.specs.Blocks.{blocks_of, block_at}
use Rattle.plan_rewrite.specs.Edits.{joined_ops}
use Rattle.plan_rewrite.proofs.BlockParts.{block_some, block_beside, join_last}
use Rattle.plan_rewrite.proofs.taking.joined_block.Goals as goal

pub join_blocks-requires-clause-has_left : goal.join_blocks-requires-clause-has_left
join_blocks-requires-clause-has_left c =
    let k = length-map c.take_block-below.result.items op_of in
    let s = block_some c.requires.below.0 (map op_of c.take_block-below.result.items) (c.take_block-below.ensures.taken ∙ c.requires.below.2.1) in
    omega (arith, k, s, c.take_block-below.result.ok.0)

pub join_blocks-requires-clause-has_right : goal.join_blocks-requires-clause-has_right
join_blocks-requires-clause-has_right c =
    let k = length-map c.take_block-beside.result.items op_of in
    let beside = block_beside (blocks_of c.args.blocks.now.items) c.args.left c.args.right (λ e. c.requires.sides (sym e)) in
    let taken : map op_of c.take_block-beside.result.items ≡ block_at (blocks_of c.args.blocks.now.items) c.args.right =
    c.take_block-beside.ensures.taken ∙ ap (λ all. block_at all c.args.right) c.take_block-below.ensures.left ∙ beside in
    let s = block_some c.requires.below.1 (map op_of c.take_block-beside.result.items) (taken ∙ c.requires.below.3.1) in
    omega (arith, k, s, c.take_block-beside.result.ok.0)

pub returns-clause-made : goal.returns-clause-made
returns-clause-made c = λ x y h g.
    let xs : List Operator = map op_of c.take_block-below.result.items in
    let ys : List Operator = map op_of c.take_block-beside.result.items in
    let k = length-map c.take_block-below.result.items op_of in
    let m = length-map c.take_block-beside.result.items op_of in
    let a = vec_len c.take_block-below.result in
    let b = vec_len c.take_block-beside.result in
    let beside = block_beside (blocks_of c.args.blocks.now.items) c.args.left c.args.right (λ e. c.requires.sides (sym e)) in
    let taken : ys ≡ block_at (blocks_of c.args.blocks.now.items) c.args.right =
    c.take_block-beside.ensures.taken ∙ ap (λ all. block_at all c.args.right) c.take_block-below.ensures.left ∙ beside in
    let same : joined_ops a xs b ys c.in_ok-copy_tests.field-0.items ≡ numbered 0 (both x y c.args.tests.now) =
    ap (joined_ops a xs b ys) c.in_ok-copy_tests.ensures
    ∙ join_last x y c.args.tests.now xs ys (c.take_block-below.ensures.taken ∙ h.1) (taken ∙ g.1) a b (omega (arith, k, c.take_block-below.result.ok.0)) (omega (arith, m, c.take_block-beside.result.ok.0)) in
    subst (λ (z : List Operator). IfOk c.join_blocks.result (λ all. map op_of all.items ≡ z)) same c.join_blocks.ensures
